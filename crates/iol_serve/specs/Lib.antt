pub mod EitherLink
pub mod Ended
pub mod News
pub mod Outcomes
pub mod Patience
pub mod Reports
pub mod Spelled
pub mod Waiting
