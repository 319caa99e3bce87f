-- The meaning of a text drawn in lines.
pub mod Wrapping
