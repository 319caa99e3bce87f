-- The laws of fonts in lists.
pub mod HeldLaws
pub mod TwoLaws
