pub mod Pieces
pub mod Numbers
pub mod Words
pub mod WordLaws
pub mod Touching
pub mod Flipped
