-- The lines of a program's input, and the same cut from parts, one after another.
pub mod Cut
pub mod Parts
