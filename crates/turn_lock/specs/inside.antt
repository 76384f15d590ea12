-- Words of the proofs of this crate.
pub mod Views
pub mod Rule
pub mod Steps
