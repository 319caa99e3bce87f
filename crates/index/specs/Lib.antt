-- The meaning of a font's index and of look-up.
pub mod Index
pub mod LookUp
pub mod Latest
