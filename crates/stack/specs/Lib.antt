-- The meaning of the call `stack`.
pub mod StackCall
pub mod Overlaying
