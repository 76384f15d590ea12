-- Reading that goes on after each part, up to the first fault, whatever a reader's faults are.
use Rattle.std.specs.Prelude.{◌≡◌, Ok, Err, Some, None, Result}
use Rattle.std.specs.declared.option.Option.{Option}

-- first the one part, and then what is read after it
infixl 10 ◌>>=◌
abbrev pub ◌>>=◌ : {F A B : Type 0} → Result A F → (A → Result B F) → Result B F
(Ok x) >>= f = f x
(Err e) >>= f = Err e

-- What a function returned, seen by view, is what reading gives.
abbrev pub Gives : {F X Y : Type 0} → (X → Y) → Result X F → Result Y F → Type 0
Gives view (Ok x) read = read ≡ Ok (view x)
Gives view (Err e) read = read ≡ Err e

-- the fault that is answered, if one is
abbrev pub fault_of : {F A : Type 0} → Result A F → Option F
fault_of (Ok x) = None
fault_of (Err fault) = Some fault

-- the value, or the fault that comes in its place
abbrev pub unless_fault : {F A : Type 0} → Option F → A → Result A F
unless_fault None x = Ok x
unless_fault (Some fault) x = Err fault
