pub mod StoreLaws
pub mod CallLaws
