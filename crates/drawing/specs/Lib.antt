-- The meaning of drawing.
pub mod Drawing
pub mod Steps
