-- The laws of a look-up in the lent index, and what the proofs by hand share.
pub mod FindLaws
pub mod ToldApart
pub mod Row
pub mod Counted
pub mod ReasonLaws
