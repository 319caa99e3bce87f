-- The meaning of the lent index: how a font fills it.
pub mod Filling
pub mod Steps
