pub mod SortLaws
pub mod LinkLaws
pub mod TableLaws
pub mod SettleLaws
