pub mod DrawLaws
pub mod KeyFileLaws
pub mod LatestLaws
pub mod OpeningLaws
pub mod PayloadLaws
pub mod PlaceLaws
pub mod SealLaws
pub mod UniqueLaws
