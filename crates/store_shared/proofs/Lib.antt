pub mod Chained
pub mod Replying
pub mod Knowing
pub mod Reading
pub mod Writing
pub mod Owning
pub mod Seating
