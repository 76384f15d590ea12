pub mod Table
pub mod Worked
pub mod UseOrder
pub mod inside
