-- The meaning of the table of kinds.
pub mod Kinds
