pub mod Words
pub mod Lists
pub mod Histories
pub mod Changes
pub mod StepsKeep
pub mod Calls
pub mod SeatsKeep
pub mod Gathered
