pub mod FrontLaws
pub mod CellsMemory
