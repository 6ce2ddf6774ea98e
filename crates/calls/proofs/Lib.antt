pub mod Zeros
pub mod Kept
