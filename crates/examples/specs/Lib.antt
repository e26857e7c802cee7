pub mod Starred
pub mod OwnBlanks
pub mod FewestRings
pub mod Panels
pub mod Drafts
