pub mod Rings
pub mod Exchanges
