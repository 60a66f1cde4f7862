pub mod Phrases
mod Floats
pub mod TokenLaws
