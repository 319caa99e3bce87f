-- The laws of what is lent for an index.
pub mod Cut
