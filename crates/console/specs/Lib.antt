-- What a program that draws prints of a line.
pub mod Rows
