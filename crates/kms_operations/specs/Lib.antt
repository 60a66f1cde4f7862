pub mod Change
pub mod Filling
pub mod Found
pub mod Outcome
pub mod Pairs
pub mod Places
pub mod Plan
