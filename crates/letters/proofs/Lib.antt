-- The laws of lists that hold letters.
pub mod HeldLaws
