pub mod Stops
pub mod JobLaws
