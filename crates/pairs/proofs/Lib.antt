-- The laws of the pair decision.
pub mod Sets
pub mod Masking
pub mod Joints
