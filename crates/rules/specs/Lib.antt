-- The meaning of the rules, and of the code's table of eleven.
pub mod Rules
pub mod Marks
