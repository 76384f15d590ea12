pub mod Guarding
