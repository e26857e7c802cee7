pub mod Draw
pub mod Prefixes
pub mod Putting
pub mod Code
pub mod CountLaws
