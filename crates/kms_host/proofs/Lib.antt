mod AgreeLaws
pub mod DiskLaws
pub mod FaultLaws
mod FileLaws
pub mod LineLaws
pub mod Moments
mod OutputLaws
mod PossibleLaws
mod RecordingLaws
mod SourceLaws
pub mod StoreLaws
pub mod ToldLaws
