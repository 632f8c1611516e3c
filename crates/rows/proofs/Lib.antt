pub mod AliveLaws
pub mod Lowering
pub mod RowLaws
