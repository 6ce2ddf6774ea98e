pub mod PlaceLaws
pub mod NameLaws
