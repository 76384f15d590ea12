pub mod Maps
pub mod MapLaws
pub mod SortedEntries
pub mod Walks
