pub mod Views
pub mod Draws
pub mod Opened
