pub mod Apart
pub mod Entries
pub mod Known
pub mod Listed
pub mod Numbers
pub mod Steps
