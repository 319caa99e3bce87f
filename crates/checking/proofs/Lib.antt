-- The laws of a check.
pub mod DifferenceLaws
pub mod VerdictLaws
pub mod TraceLaws
pub mod Comparing
pub mod TallyLaws
pub mod Examples
