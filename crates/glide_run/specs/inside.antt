-- Words that only this crate's calls and proofs use: the top call's contract speaks of the walk of the whole script.
pub mod Stops
pub mod Looks
pub mod Prints
pub mod Obeys
pub mod Running
pub mod RunLaws
