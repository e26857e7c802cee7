pub mod Refusals
pub mod Trays
pub mod ChainLaws
pub mod TrayLaws
pub mod ToldLaws
