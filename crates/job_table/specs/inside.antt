pub mod Entries
pub mod Guarded
