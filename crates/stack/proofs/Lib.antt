-- The laws of a stack of two blocks.
pub mod Ending
pub mod Likeness
pub mod StackCases
pub mod GoodStack
pub mod Answers
pub mod Bytes
pub mod Examples
