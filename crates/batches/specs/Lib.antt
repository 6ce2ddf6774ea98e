pub mod Layout
pub mod Refused
pub mod Verdicts
pub mod Readers
pub mod Writing
pub mod Edges
