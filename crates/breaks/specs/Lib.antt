-- The meaning of words, and of a text broken into lines.
pub mod Words
pub mod Breaking
pub mod Steps
