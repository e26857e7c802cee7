pub mod ContractLaws
pub mod HeldLaws
pub mod TableLaws
pub mod Outcomes
pub mod LentLaws
pub mod ColumnLaws
