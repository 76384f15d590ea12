-- What each trace of a walk keeps to. This project's own.
use Rattle.std.specs.Prelude.{◌≡◌, ℕ, ◌+◌, ◌<◌, ◌⊎◌, not, ◌==◌, List, [], ◌∷◌, length, filter}
use Rattle.request_tracker.specs.Limits.{views_limit}
use Rattle.script_walk.specs.Walk.{Begin, TraceEvent, Dropped, Begun, Ended, Trimmed, Printed}

-- The begin is one of these.
abbrev pub In : Begin → List Begin → Type 0
In begin [] = ⊥
In begin (b ∷ bs) = (begin ≡ b) ⊎ In begin bs

abbrev pub AllIn : List Begin → List Begin → Type 0
AllIn xs ys = (b : Begin) → In b xs → In b ys

abbrev pub without_begin : ℕ → List Begin → List Begin
without_begin number begins = filter (λ b. not (b.number == number)) begins

-- Begins are numbered in order, and fewer than 4,096 are live at each; what others hold at a begin, what comes to its end
-- and what is dropped is live, and each is dropped once; at the end none is live.
abbrev pub IsOrderly : (begun : ℕ) (live : List Begin) → List TraceEvent → Type 0
IsOrderly begun live [] = live ≡ []
IsOrderly begun live (Dropped begin ∷ events) =
    let left = without_begin begin.number live in
    In begin live × (length left + 1 ≡ length live) × IsOrderly begun left events
IsOrderly begun live (Begun begin others ∷ events) =
    (begin.number ≡ begun + 1) × AllIn others live × (length live < views_limit)
    × IsOrderly (begun + 1) (begin ∷ live) events
IsOrderly begun live (Ended begin result ∷ events) = In begin live × IsOrderly begun live events
IsOrderly begun live (Trimmed level ∷ events) = IsOrderly begun live events
IsOrderly begun live (Printed line ∷ events) = IsOrderly begun live events
