-- The meaning of a check of a drawing, and what is known of it on the way.
pub mod CheckDrawing
pub mod Steps
