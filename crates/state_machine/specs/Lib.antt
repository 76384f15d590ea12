pub mod Histories
pub mod Legal
pub mod Laws
pub use Rattle.state_machine.specs.Histories.{entry, own}
pub use Rattle.state_machine.specs.Legal.{Leads, MayFollow, IsLegal}
