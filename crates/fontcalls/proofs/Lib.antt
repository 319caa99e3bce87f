-- The laws of the calls that ask one font.
pub mod LookUpLaws
pub mod RowLaws
pub mod ToldApart
