-- The meaning of the public calls.
pub mod RowOfTwoCall
pub mod DrawCall
