pub mod Jobs
pub mod JobTableView
pub mod Worked
pub mod inside
