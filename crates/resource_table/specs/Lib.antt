pub mod Resources
pub mod ResourceTableView
