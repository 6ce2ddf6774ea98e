pub mod Runs
pub mod Deeds
pub mod Laws
pub mod Making
pub mod Systems
pub mod Interleaving
pub mod Closings
