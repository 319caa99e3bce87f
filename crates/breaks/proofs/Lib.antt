-- The laws of words and of lines.
pub mod Largest
pub mod WordLaws
pub mod BreakingLaws
