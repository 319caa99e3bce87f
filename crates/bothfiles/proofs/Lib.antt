-- The laws of both files.
pub mod HeldLaws
