pub mod NumberLaws
pub mod CodeLaws
pub mod DraftLaws
