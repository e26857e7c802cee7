pub mod Route
pub mod Contract
pub mod Code
pub mod Held
pub mod Tables
pub mod ToldLaws
pub mod Progress
pub mod ProgressLaws
