-- The meaning of a font's header line.
pub mod Header
pub mod Steps
