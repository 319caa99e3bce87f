-- The laws of a font: its start by places, what it is refused for, and what holds of one that is read.
pub mod OpenLaws
pub mod RefusalLaws
pub mod Comes
pub mod TableLaws
pub mod ReadingLaws
