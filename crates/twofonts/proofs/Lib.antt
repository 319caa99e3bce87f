-- The laws of two fonts.
pub mod FontsLaws
pub mod RowLaws
pub mod Answers
pub mod TwoFontsLaws
pub mod RowAnswers
