pub mod Consumer
pub mod Container
pub mod Member
pub mod Names
pub mod Ranges
pub mod Rules
