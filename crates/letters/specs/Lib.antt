-- Which letters two lists hold.
pub mod Held
