pub mod Journal
pub mod Keys
pub mod Lines
pub mod Replay
