-- The laws of the overlap and of the joined block.
pub mod Cells
pub mod Demand
pub mod Likeness
