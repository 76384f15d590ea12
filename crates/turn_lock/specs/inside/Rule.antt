-- The rule of the turn: what is true of the table between any two steps.
use Rattle.std.specs.Prelude.{sum_by, ◌≡◌, ◌≢◌, ℕ, ◌+◌, ◌<◌, ◌≤◌, ◌⊎◌, true, false, List, [], ◌∷◌, length, Option, Some}
use mathlib.Core.Option.{Option as Maybe, some, none}
use mathlib.Core.List.{IsPrefix}
use lib.ListN.{get_elem?}
use Rattle.atomic_table.specs.Table.{State}
use Rattle.state_machine.specs.declared.entry.Entry.{Entry}
use Rattle.state_machine.specs.declared.machine.Machine.{Ghosts}
use Rattle.state_machine.specs.Histories.{own}
use Rattle.state_machine.specs.Legal.{IsLegal}
use Rattle.turn_lock.specs.declared.view.About.{About}
use Rattle.turn_lock.specs.declared.view.Joined.{Joined}
use Rattle.turn_lock.specs.declared.view.View.{View}
use Rattle.turn_lock.specs.inside.Views.{word_of, tickets_of, seats_of}

module _ {A : Type 0} where
  -- a fact of each, by its place
  abbrev pub Each : (A → Type 0) → List A → Type 0
  Each P xs = (i : ℕ) (x : A) → get_elem? xs i ≡ some x → P x

  -- a fact of some
  abbrev pub One : (A → Type 0) → List A → Type 0
  One P xs = (i : ℕ) × (x : A) × (get_elem? xs i ≡ some x) × P x

  -- a fact of each two, by their places
  abbrev pub EachTwo : (A → A → Type 0) → List A → Type 0
  EachTwo R xs = (i j : ℕ) (x y : A) → i ≢ j → get_elem? xs i ≡ some x → get_elem? xs j ≡ some y → R x y

module _ {M N : Type 0} where
  -- two seats have different numbers and different tickets
  pub record Apart (v w : View M N) : Type 0 where
    pub numbers : v.live ≡ true → w.live ≡ true → v.number ≢ w.number
    pub tickets : v.waits ≡ true → w.waits ≡ true → v.ticket ≢ w.ticket
    pub joined : v.live ≡ true → Each (λ p. v.number ≢ p.number) w.joined

  -- the seat has this ticket
  pub record HasTicket (t : ℕ) (v : View M N) : Type 0 where
    pub waits : v.waits ≡ true
    pub ticket : v.ticket ≡ t

  -- the seat has this number, or a seat with this number was joined to it
  pub record StandsFor (k : ℕ) (v : View M N) : Type 0 where
    pub live : v.live ≡ true
    pub number : (v.number ≡ k) ⊎ One (λ p. p.number ≡ k) v.joined

module _ {M Event Reply Note : Type 0} (machine : Ghosts M Event Reply Note) where
  -- the machine, which began as `start`, stands where this history leads, and the history is legal
  pub record IsAt (start m : M) (past : List (Entry Note)) : Type 0 where
    pub history : machine.history m ≡ past
    pub opening : machine.opening m ≡ machine.opening start
    pub legal : IsLegal machine (machine.opening start) past (machine.world m)

-- part 6: what a seat has seen begins the history and misses none of its own entries, and its known length lies between
pub record HasSeen {N : Type 0} (past : List (Entry N)) (made : ℕ) (p : Joined N) : Type 0 where
  pub begins : IsPrefix p.seen past
  pub own : own p.number past ≡ own p.number p.seen
  pub known : (length p.seen ≤ p.known) × (p.known ≤ length past)
  pub number : p.number < made

-- what holds of each view, with this history, so many tickets handed out and so many seats made
pub record Fits {M N : Type 0} (about : About M) (past : List (Entry N)) (next made : ℕ) (v : View M N) : Type 0 where
  pub start : v.live ≡ true → v.start ≡ Some about.start.value
  pub first_ticket : v.live ≡ true → v.first_ticket ≡ about.first_ticket
  pub number : v.live ≡ true → v.number < made
  pub newest : v.live ≡ true → v.newest ≡ true → v.number + 1 ≡ made
  pub seen : IsPrefix v.seen past
  pub own : v.live ≡ true → own v.number past ≡ own v.number v.seen
  pub known : (length v.seen ≤ v.known) × (v.known ≤ length past)
  pub ticket : v.waits ≡ true → (v.live ≡ true) × (length past ≤ v.ticket) × (v.ticket < next)
  pub served : v.served ≡ true → (v.waits ≡ true) × (v.ticket ≡ length past) × (v.seen ≡ past)
  pub joined : Each (HasSeen past made) v.joined
  pub apart : v.live ≡ true → Each (λ p. v.number ≢ p.number) v.joined

module _ {M Event Reply Note : Type 0} (machine : Ghosts M Event Reply Note) (about : About M) where
  -- parts 4 and 5: the machine is at home where the history leads, or it is out with the seat that is served
  abbrev pub Home : List (Maybe (Option M)) → List (Entry Note) → List (View M Note) → Type 0
  Home homes past views =
      ((m : M) × (homes ≡ some (Some m) ∷ []) × IsAt machine about.start.value m past × Each (λ v. v.served ≡ false) views)
      ⊎ ((homes ≡ none ∷ []) × One (λ v. v.served ≡ true) views)

  -- `past` is the history, `next` the number of tickets handed out, `made` the number of seats made
  pub record Kept (s : State (Option M) (View M Note)) : Type 0 where
    pub past : List (Entry Note)
    pub next : ℕ
    pub made : ℕ
    -- part 1: word 0 is `next` and word 1 the history's length
    pub words : s.words ≡ word_of about.first_ticket next ∷ word_of about.first_ticket (length past) ∷ []
    -- and so many wait, which is at most the number of seats
    pub count : sum_by tickets_of s.views + length past ≡ next
    pub few : next ≤ length past + made
    -- part 2: each ticket from the length to `next` stands in a view, in one only by `apart`, and no other by `each`
    pub tickets : (t : ℕ) → length past ≤ t → t < next → One (HasTicket t) s.views
    -- part 3, of a served view, and part 6 stand in `each`
    pub each : Each (Fits about past next made) s.views
    pub apart : EachTwo Apart s.views
    pub home : Home s.homes past s.views
    -- as many views as seats, which stand for all numbers below, and entries of these alone
    pub views : length s.views ≡ made
    pub seats : sum_by seats_of s.views ≡ made
    pub numbers : (k : ℕ) → k < made → One (StandsFor k) s.views
    pub room : (made ≤ about.seats) × (about.seats ≤ 64) × (about.seats ≤ machine.seats (machine.opening about.start.value))
    pub entries : Each (λ e. e.by < made) past
