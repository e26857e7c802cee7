pub mod Runs
pub mod LineLaws
pub mod ReaderLaws
pub mod CodeLaws
pub mod TextLaws
pub mod RowLaws
pub mod ReadLaws
