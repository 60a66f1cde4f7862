pub mod Clap
pub mod Commands
pub mod Options
pub mod Spelled
pub mod Views
pub mod Wider
