-- The laws of sources.
pub mod MarkLaws
pub mod CountLaws
pub mod CharacterLaws
pub mod PackLaws
pub mod TwoLaws
