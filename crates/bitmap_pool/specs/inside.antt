-- Words that only the calls of the pool and their proofs use.
pub mod GroupsView
