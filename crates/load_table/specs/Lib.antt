pub mod Loads
pub mod LoadOrder
pub mod LoadLaws
pub mod LoadsView
pub mod Worked
