-- The laws of cutting: which lines an input has, that its parts do not matter, and what one step does.
pub mod CutLaws
pub mod PartLaws
pub mod StepLaws
