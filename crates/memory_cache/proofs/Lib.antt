pub mod Eldest
