-- What contracts see of a turn and of its seats.
use Rattle.std.specs.Prelude.{◌≡◌, ℕ, List, [], ◌∷◌, ◌++◌, Option, Some}
use Rattle.atomic_table.specs.Seated.{TableId}
use Rattle.state_machine.specs.declared.entry.Entry.{Entry}
use Rattle.state_machine.specs.declared.machine.Machine.{Ghosts}
use Rattle.state_machine.specs.Histories.{own}
use Rattle.state_machine.specs.Legal.{IsLegal}

-- a turn: which one it is, the machine as it began, and how many seats there are
pub record TurnState (M : Type 0) : Type 0 where
  pub id : TableId
  pub start : M
  pub seats : ℕ

-- a seat: whose it is, its number, the history that it has seen, and a length that the history is known to have
pub record SeatState (M Note : Type 0) : Type 0 where
  pub turn : TableId
  pub start : Option M
  pub number : ℕ
  pub seen : List (Entry Note)
  pub known : ℕ

module _ {M Note : Type 0} where
  -- the seat is one of this turn
  pub record IsSeatOf (turn : TurnState M) (seat : SeatState M Note) : Type 0 where
    pub turn_is : seat.turn ≡ turn.id
    pub start_is : seat.start ≡ Some turn.start

  -- the entries of the seat's own calls
  abbrev pub own_entries : SeatState M Note → List (Entry Note)
  own_entries seat = own seat.number seat.seen

  -- what the seat has seen goes on from what it had seen, with entries of other seats and then with this one
  pub record GoesOn (old : SeatState M Note) (e : Entry Note) (new : SeatState M Note) : Type 0 where
    pub between : List (Entry Note)
    pub seen_is : new.seen ≡ (old.seen ++ between) ++ e ∷ []
    pub none_missed : own old.number between ≡ []

-- a machine that opened with this world can have this history
abbrev pub CanHave : {M Event Reply Note : Type 0} (machine : Ghosts M Event Reply Note) → machine.World → List (Entry Note) → Type 0
CanHave machine opening history = (now : machine.World) × IsLegal machine opening history now
