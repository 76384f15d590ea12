pub mod Limits
pub mod Table
pub mod Moves
pub mod Worked
