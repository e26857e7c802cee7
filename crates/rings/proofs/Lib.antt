pub mod HomeLaws
pub mod LowestLaws
pub mod ReturnLaws
pub mod FewestLaws
pub mod HomewardLaws
pub mod ShownLaws
pub mod OfNets
pub mod AnswerLaws
