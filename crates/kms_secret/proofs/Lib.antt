pub mod AscendingLaws
pub mod KeyLaws
pub mod PairLaws
pub mod RangeLaws
pub mod RuleLaws
pub mod SortedLaws
