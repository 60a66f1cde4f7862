pub mod Acl
pub mod Laws
pub mod Limits
pub mod Policy
pub mod Quota
pub mod Users
