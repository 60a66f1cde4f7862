pub mod AskLaws
pub mod DrawnLaws
pub mod PrepareLaws
pub mod SealedLaws
pub mod SettleLaws
pub mod StandsLaws
pub mod StartLaws
