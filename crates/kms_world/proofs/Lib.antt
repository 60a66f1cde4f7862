pub mod EffectLaws
pub mod NameLaws
