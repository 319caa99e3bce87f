-- What the lists of a font and of a control file hold.
pub mod Held
