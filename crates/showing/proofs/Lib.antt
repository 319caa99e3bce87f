-- The laws of the output.
pub mod Showing
