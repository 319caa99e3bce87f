-- The laws of the lent index as a font fills it, and what the proofs by hand ask of a local array.
pub mod Moved
pub mod FillLaws
pub mod RefusalLaws
pub mod ToldApart
pub mod Local
