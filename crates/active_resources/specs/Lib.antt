pub mod Actives
pub mod ActiveView
pub mod Changes
pub mod inside
pub mod Worked
