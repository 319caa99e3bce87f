-- Which entry of a lent index is used for a code.
pub mod Finding
pub mod Steps
