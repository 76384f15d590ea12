pub mod Resource
pub mod Uses
pub mod Worked
