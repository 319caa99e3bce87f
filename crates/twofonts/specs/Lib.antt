-- The meaning of two fonts, of a row request and of a drawing by them.
pub mod Fonts
pub mod RowOfTwo
pub mod TwoDrawing
pub mod Held
