-- What each kind of step tells the seat that makes it.
use Rattle.std.specs.Prelude.{◌≡◌, ℕ, ◌<◌, ◌≤◌, ◌==◌, true, List, [], ◌∷◌, length, Option, Some, MatchBool}
use mathlib.Core.List.{IsPrefix}
use Rattle.atomic_table.specs.Seated.{TableId}
use Rattle.atomic_table.specs.Table.{Me, Step}
use Rattle.state_machine.specs.declared.entry.Entry.{Entry}
use Rattle.state_machine.specs.declared.machine.Machine.{Ghosts}
use Rattle.state_machine.specs.Histories.{own}
use Rattle.turn_lock.specs.declared.view.About.{About}
use Rattle.turn_lock.specs.declared.view.View.{View}
use Rattle.turn_lock.specs.inside.Rule.{IsAt}
use Rattle.turn_lock.specs.inside.Views.{IsIdle, lap, word_of, with_ticket, with_known, with_turn, without_ticket}

-- a seat's view, and the slot that it holds
abbrev pub Holder : Type 0 → Type 0 → Type 0
Holder M N = Me (Option M) (View M N)

module _ {M N : Type 0} where
  -- kind 1: the view stays
  abbrev pub LooksAtNext : Step (Option M) → Holder M N → ℕ → Holder M N → Type 0
  LooksAtNext st m found n = (n ≡ m) × (found < lap)

  -- kind 2: the seat has a ticket, or nothing changed
  abbrev pub TakesTicket : Step (Option M) → Holder M N → ℕ → Holder M N → Type 0
  TakesTicket st m found n = MatchBool (found == st.first) ((t : ℕ) × (found ≡ word_of m.0.first_ticket t) × (n ≡ (with_ticket m.0 t, m.1))) (n ≡ m)

  -- k is the least number, not below the known length, that a word shows as this one
  pub record IsLeastKnown (v : View M N) (found k : ℕ) : Type 0 where
    pub above : v.known ≤ k
    pub shown : found ≡ word_of v.first_ticket k
    pub least : (j : ℕ) → v.known ≤ j → found ≡ word_of v.first_ticket j → k ≤ j

  -- kind 3 with no turn: the history has at least this length
  abbrev pub LearnsLength : Step (Option M) → Holder M N → ℕ → Holder M N → Type 0
  LearnsLength st m found n = (k : ℕ) × IsLeastKnown m.0 found k × (n ≡ (with_known m.0 k, m.1))

module _ {M Event Reply Note : Type 0} (machine : Ghosts M Event Reply Note) where
  -- it is the seat's turn, and it has the machine, which stands where the history leads
  pub record HasTurn (v : View M Note) (n : Holder M Note) : Type 0 where
    pub past : List (Entry Note)
    pub holds : M
    pub view : n.0 ≡ with_turn v past
    pub held : n.1 ≡ (0, Some holds) ∷ []
    pub turn : v.ticket ≡ length past
    pub begins : IsPrefix v.seen past
    pub own : own v.number past ≡ own v.number v.seen
    pub at : (start : M) → v.start ≡ Some start → IsAt machine start holds past
    pub number : (start : M) → v.start ≡ Some start → v.number < machine.seats (machine.opening start)

  -- kind 3 with a ticket: it is the seat's turn, or the history has at least this length
  abbrev pub LooksForTurn : Step (Option M) → Holder M Note → ℕ → Holder M Note → Type 0
  LooksForTurn st m found n = MatchBool (found == word_of m.0.first_ticket m.0.ticket) (HasTurn m.0 n) (LearnsLength st m found n)

  -- kind 6: the machine is at home again, and the seat has seen its history
  abbrev pub PassesTurn : Step (Option M) → Holder M Note → ℕ → Holder M Note → Type 0
  PassesTurn st m found n = (holds : M) × (m.1 ≡ (0, Some holds) ∷ []) × (n ≡ (without_ticket m.0 (machine.history holds), []))

  -- a seat that has the turn and the machine
  pub record Serves (start : M) (who : ℕ) (m : Holder M Note) : Type 0 where
    pub holds : M
    pub start_is : m.0.start ≡ Some start
    pub number : (m.0.number ≡ who) × (who < machine.seats (machine.opening start))
    pub served : m.0.served ≡ true
    pub held : m.1 ≡ (0, Some holds) ∷ []
    pub at : IsAt machine start holds m.0.seen

-- what is true of a seat between its calls
pub record IsResting {M N : Type 0} (m : Holder M N) (number reached : ℕ) : Type 0 where
  pub number_is : m.0.number ≡ number
  pub reached_is : reached ≡ word_of m.0.first_ticket (length m.0.seen)
  pub idle : IsIdle m.0
  pub empty : m.1 ≡ []
  pub known : length m.0.seen ≤ m.0.known
  pub joined : m.0.joined ≡ []

-- what is true of a turn's table
pub record IsTurn {M : Type 0} (id : TableId) (about : About M) (seats : ℕ) : Type 0 where
  pub words : id.words ≡ 2
  pub slots : id.slots ≡ 1
  pub seats_is : about.seats ≡ seats
  pub some : 0 < seats
