pub mod Form
pub mod Reader
pub mod Answers
pub mod Promise
pub mod Code
pub mod KeptLaws
pub mod ToldLaws
