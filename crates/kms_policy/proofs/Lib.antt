pub mod PolicyLaws
pub mod RepeatLaws
pub mod SeenLaws
pub mod UserLaws
