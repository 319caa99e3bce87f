-- The meaning of a FIGfont.
pub mod Font
pub mod Steps
