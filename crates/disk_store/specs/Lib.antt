pub mod DiskEvents
pub mod Kept
pub mod OpenView
pub mod Requests
pub mod Serving
pub mod Slots
pub mod StoreView
