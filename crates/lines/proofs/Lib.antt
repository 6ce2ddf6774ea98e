pub mod RingLaws
pub mod TableLaws
