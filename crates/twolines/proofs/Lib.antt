-- The laws of two lines.
pub mod Numbers
pub mod OutputLaws
pub mod LinesLaws
pub mod Answers
pub mod TableLaws
pub mod Bytes
pub mod EmptyText
