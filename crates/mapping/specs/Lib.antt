-- What a code maps to by a control file, and by the lists that hold its commands.
pub mod Mapping
pub mod Passing
