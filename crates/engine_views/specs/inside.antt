-- Words that only the calls of this crate and their proofs use.
pub mod ViewLaws
pub mod Orders
pub mod Running
pub mod Collects
pub mod Releasing
