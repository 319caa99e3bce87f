-- The laws of mapping a code.
pub mod PassLaws
pub mod SoundLaws
pub mod MappingLaws
pub mod HeldLaws
