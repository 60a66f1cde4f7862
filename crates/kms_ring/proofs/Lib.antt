pub mod KeyFileLaws
pub mod RingLaws
pub mod UniqueLaws
