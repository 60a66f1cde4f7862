pub mod ApartLaws
pub mod MemberLaws
pub mod RangeLaws
