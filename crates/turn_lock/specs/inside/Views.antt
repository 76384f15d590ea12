-- How a step changes what is known of a seat.
use Rattle.std.specs.Prelude.{◌≡◌, ℕ, ◌+◌, ◌%◌, true, false, List, [], ◌∷◌, length, Some, None, if◌then◌else◌}
use Rattle.state_machine.specs.declared.entry.Entry.{Entry}
use Rattle.turn_lock.specs.Turns.{SeatState}
use Rattle.turn_lock.specs.declared.view.About.{About}
use Rattle.turn_lock.specs.declared.view.Joined.{Joined}
use Rattle.turn_lock.specs.declared.view.View.{View}

-- tickets go round here in a word
abbrev pub lap : ℕ
lap = 4611686018427387904

-- a ticket as a word has it, where words began at this number
abbrev pub word_of : ℕ → ℕ → ℕ
word_of first ticket = (first + ticket) % lap

module _ {M N : Type 0} where
  -- 1 where it has a ticket
  abbrev pub tickets_of : View M N → ℕ
  tickets_of v = if v.waits then 1 else 0

  -- how many seats it stands for: itself, unless it is spent, and those that were joined to it
  abbrev pub seats_of : View M N → ℕ
  seats_of v = (if v.live then 1 else 0) + length v.joined

  -- what is known at the end of a seat that was joined
  abbrev pub summary : View M N → Joined N
  summary v = record { number = v.number; seen = v.seen; known = v.known }

  -- the same, of what contracts see of the seat
  abbrev pub shown : SeatState M N → Joined N
  shown s = record { number = s.number; seen = s.seen; known = s.known }

  -- it has no ticket
  pub record IsIdle (v : View M N) : Type 0 where
    pub live : v.live ≡ true
    pub waits : v.waits ≡ false
    pub served : v.served ≡ false

  abbrev pub with_ticket : View M N → ℕ → View M N
  with_ticket v t = record v { waits = true; ticket = t; served = false }

  abbrev pub with_known : View M N → ℕ → View M N
  with_known v k = record v { known = k }

  -- it is its turn, and it has seen the whole history
  abbrev pub with_turn : View M N → List (Entry N) → View M N
  with_turn v past = record v { served = true; seen = past; known = length past }

  -- its turn is over, and it has seen this history
  abbrev pub without_ticket : View M N → List (Entry N) → View M N
  without_ticket v past = record v { waits = false; ticket = 0; served = false; seen = past; known = length past }

  -- the newest seat, while all are new
  abbrev pub new_seat : About M → ℕ → View M N
  new_seat about number = record {
    live = true;
    number = number;
    newest = true;
    waits = false;
    ticket = 0;
    served = false;
    start = Some about.start.value;
    first_ticket = about.first_ticket;
    seen = [];
    known = 0;
    joined = [];
  }

  abbrev pub first_seat : About M → View M N
  first_seat about = new_seat about 0

  -- a seat that another was split from, and the other, which has the next number
  abbrev pub older : View M N → View M N
  older v = record v { newest = false }

  abbrev pub next_seat : View M N → View M N
  next_seat v = record {
    live = true;
    number = v.number + 1;
    newest = true;
    waits = false;
    ticket = 0;
    served = false;
    start = v.start;
    first_ticket = v.first_ticket;
    seen = [];
    known = 0;
    joined = [];
  }

  -- a seat that another was joined to, and the other
  abbrev pub with_joined : View M N → View M N → View M N
  with_joined v w = record v { newest = false; joined = summary w ∷ v.joined }

  abbrev pub spent : View M N
  spent = record {
    live = false;
    number = 0;
    newest = false;
    waits = false;
    ticket = 0;
    served = false;
    start = None;
    first_ticket = 0;
    seen = [];
    known = 0;
    joined = [];
  }
