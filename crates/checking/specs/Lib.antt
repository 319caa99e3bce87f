-- Where two lists first differ, what a check answers, and what is known of the overlaps on the way.
pub mod Difference
pub mod Verdict
pub mod Steps
