pub mod RefusalLaws
pub mod FrameLaws
pub mod OrderLaws
pub mod DraftLaws
pub mod RowLaws
