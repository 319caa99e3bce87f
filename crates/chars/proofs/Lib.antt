-- The laws of characters: their codes, their order, and what they are refused for.
pub mod CodeLaws
pub mod BlankLaws
pub mod ListingLaws
pub mod RefusalLaws
pub mod Induction
pub mod EntryLaws
pub mod OrderLaws
