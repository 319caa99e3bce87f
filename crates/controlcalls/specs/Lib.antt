-- The meaning of the calls about one control file.
pub mod ControlCall
pub mod MapCall
