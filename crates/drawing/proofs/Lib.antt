pub mod Owner
pub mod Points
pub mod OwnerLaws
pub mod Reached
pub mod GoodLaws
pub mod CodeLaws
