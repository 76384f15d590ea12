pub mod Turns
pub mod inside
pub use Rattle.turn_lock.specs.Turns.{TurnState, SeatState, IsSeatOf, own_entries, GoesOn, CanHave}
