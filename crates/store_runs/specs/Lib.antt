pub mod Phases
pub mod Writers
