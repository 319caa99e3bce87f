-- The laws of the vertical pair decision.
pub mod VerticalRules
pub mod GoodSets
pub mod Examples
pub mod Deciding
