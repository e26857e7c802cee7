pub mod Joined
pub mod Answers
pub mod Promise
pub mod Code
pub mod RaiseLaws
