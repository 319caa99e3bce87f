-- The laws of the rules, and of the code's table of eleven.
pub mod Rules
pub mod Table
pub mod Deciding
