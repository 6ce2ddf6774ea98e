pub mod Plays
pub mod Edges
pub mod Reached
pub mod Examples
