pub mod Refusals
pub mod Codes
pub mod Words
pub mod Records
pub mod Calls
pub mod Faults
