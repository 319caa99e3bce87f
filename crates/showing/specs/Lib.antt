-- Where a line lies while it is drawn, and the bytes that are put out of it.
pub mod Scratch
pub mod Output
