-- Where the characters of a drawing come from, a font, two fonts or a pack, how many codes were replaced, and what the lists hold of it.
pub mod Source
pub mod Counting
pub mod Held
pub mod Steps
