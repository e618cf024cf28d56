pub mod Refusals
pub mod Statuses
pub mod Help
pub mod AnswerLines
pub mod EventLines
pub mod Objects
pub mod JsonLines
