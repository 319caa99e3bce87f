-- The laws of the index: filling it, and the last place of a code.
pub mod FillLaws
pub mod FindLaws
pub mod LatestLaws
