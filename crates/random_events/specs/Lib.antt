pub mod SeatValue
pub mod Seats
pub mod Written
pub mod Jobs
pub mod Events
pub mod Teams
