-- The meaning of the calls that ask one font.
pub mod LookUpCall
pub mod RowCall
