-- The laws of rows in a font that was read, and of the row request.
pub mod RowLaws
pub mod RequestLaws
