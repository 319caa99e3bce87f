-- The meaning of a row request.
pub mod Request
