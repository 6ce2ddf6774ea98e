pub mod Refusing
pub mod Framing
pub mod Drafting
pub mod Rowing
