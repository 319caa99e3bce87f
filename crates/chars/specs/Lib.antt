-- The meaning of a font's characters: codes, code tags, and their order to the end of the file.
pub mod Codes
pub mod Chars
pub mod Steps
