-- The meaning of the join of two blocks.
pub mod Join
