-- The laws of the table of kinds.
pub mod PairRules
