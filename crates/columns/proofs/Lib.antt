-- The laws of columns that meet, demand 3 among them.
pub mod Cells
pub mod Columns
pub mod Facing
pub mod Demand
pub mod Filling
pub mod Narrower
