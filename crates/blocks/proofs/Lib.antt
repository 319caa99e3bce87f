-- The laws of blocks and their rows.
pub mod Likeness
pub mod Rows
pub mod Storing
