-- The meaning of two lines drawn one above the other.
pub mod TwoLines
pub mod Steps
