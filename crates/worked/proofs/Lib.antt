pub mod Playing
pub mod EdgeLaws
pub mod RunLaws
