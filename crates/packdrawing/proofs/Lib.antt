-- The laws of drawing from a pack.
pub mod PackCases
pub mod FontAndPack
pub mod Answers
