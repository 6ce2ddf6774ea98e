pub mod Records
pub mod Registers
pub mod AlarmLists
