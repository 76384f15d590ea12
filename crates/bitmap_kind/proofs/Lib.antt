pub mod Packing
pub mod Gathering
pub mod Places
pub mod Views
