-- Look-up in two fonts, and what the lists hold of a font or of two.
pub mod TwoFonts
pub mod Held
pub mod Steps
