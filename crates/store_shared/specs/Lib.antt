pub mod Caller
pub mod Answers
pub mod Owned
pub mod Seated
pub mod Replied
pub mod Holding
