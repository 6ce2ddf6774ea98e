pub mod FixedVecs
pub mod Lending
pub mod Lends
