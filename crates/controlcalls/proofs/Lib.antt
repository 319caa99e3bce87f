-- The laws of the calls about one control file.
pub mod LentLaws
pub mod MapCases
pub mod ToldApart
