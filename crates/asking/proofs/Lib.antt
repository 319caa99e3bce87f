-- The laws of what the programs that answer requests share.
pub mod Signs
