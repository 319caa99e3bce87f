-- The laws of the header: the numbers of a line, the parameters that they are, and what a header line is refused for.
pub mod ParameterLaws
pub mod LineLaws
pub mod RefusalLaws
