-- The meaning of the vertical pair decision.
pub mod VerticalPair
pub mod Steps
