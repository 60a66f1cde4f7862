pub mod LookUps
pub mod MadeLaws
pub mod OnceLaws
pub mod OpenLaws
pub mod StateLaws
pub mod StepLaws
pub mod Zips
