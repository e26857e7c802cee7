pub mod OwnLaws
pub mod StockLaws
pub mod ToldLaws
