pub mod Lines
pub mod PutLaws
