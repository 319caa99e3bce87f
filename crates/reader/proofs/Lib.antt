-- The laws of a font in three lists, and of the character that is used.
pub mod ReadLaws
pub mod UseLaws
pub mod ThreeLaws
