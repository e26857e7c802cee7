pub mod Numbers
pub mod Code
pub mod Drafts
