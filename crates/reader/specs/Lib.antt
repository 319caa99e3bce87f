-- The meaning of a font in three lists, and of the character that is used for a code.
pub mod Reader
