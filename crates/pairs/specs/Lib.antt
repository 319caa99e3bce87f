-- The meaning of the pair decision.
pub mod Pair
pub mod Steps
