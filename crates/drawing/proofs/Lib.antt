-- The laws of drawing.
pub mod CharacterLaws
pub mod TextLaws
pub mod OutputLaws
pub mod SizeLaws
pub mod DrawingLaws
pub mod Answers
pub mod SourceAnswers
