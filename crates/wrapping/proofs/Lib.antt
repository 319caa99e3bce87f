-- The laws of lines and of their drawings.
pub mod OrderLaws
pub mod TextLines
pub mod Answers
pub mod TableLaws
