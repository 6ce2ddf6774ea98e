pub mod RowLaws
pub mod BatchLaws
pub mod ReaderLaws
pub mod WriteLaws
pub mod EdgeLaws
