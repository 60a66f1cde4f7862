mod Vectors
pub mod AllBytes
pub mod Xor
pub mod FieldLaws
pub mod MixLaws
pub mod Multiples
pub mod Tables
pub mod States
pub mod ScheduleLaws
pub mod RoundLaws
pub mod ByteLists
pub mod Uniqueness
pub mod Existence
