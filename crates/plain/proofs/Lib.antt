pub mod PlaceLaws
pub mod KeepLaws
pub mod FrontLaws
