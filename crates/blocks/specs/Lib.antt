-- The meaning of a block, and of rows that lie one after another.
pub mod Block
pub mod Writing
