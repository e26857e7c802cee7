pub mod Router
pub mod Bounds
pub mod Turned
pub mod Proved
