-- The laws of the public calls.
pub mod Examples
pub mod RowOfTwoLaws
pub mod DrawLaws
pub mod ToldApart
pub mod Wiping
pub mod Promises
