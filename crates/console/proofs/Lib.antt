-- The laws that printing cites.
pub mod RowLaws
