pub mod Cases
pub mod CaseLaws
pub mod Questions
