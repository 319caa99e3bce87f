-- The laws of a check of a drawing.
pub mod CheckLaws
pub mod CheckCases
pub mod Answers
