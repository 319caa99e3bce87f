-- The meaning of the calls for programs in C and Rust.
pub mod Numbers
