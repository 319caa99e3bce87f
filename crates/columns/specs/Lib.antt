-- The meaning of two blocks one above the other.
pub mod Stack
pub mod Lying
pub mod Placing
pub mod Facing
