-- The meaning of drawing from a pack.
pub mod PackDrawing
