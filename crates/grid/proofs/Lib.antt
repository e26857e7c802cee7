pub mod TouchLaws
pub mod FlipLaws
