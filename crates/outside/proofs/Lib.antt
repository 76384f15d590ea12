pub mod Agreeing
pub mod Entries
pub mod Folders
pub mod Histories
pub mod Lookups
pub mod Paths
