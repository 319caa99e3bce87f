-- The laws of the calls for programs in C and Rust.
pub mod JoinLaws
pub mod StackLaws
pub mod Bounds
pub mod PackBounds
pub mod TwoBounds
pub mod CheckBounds
