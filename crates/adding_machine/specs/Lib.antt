pub mod Sums
pub use Rattle.adding_machine.specs.Sums.{Adding, addition, Adds, ZeroFirst, OneFirst}
