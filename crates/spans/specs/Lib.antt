-- A line of a text, and how the lines are found and put out.
pub mod Spans
pub mod Steps
