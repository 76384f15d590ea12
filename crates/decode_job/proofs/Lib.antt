pub mod Calling
pub mod Lending
pub mod Leaving
