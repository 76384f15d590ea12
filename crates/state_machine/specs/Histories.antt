-- The histories of a machine's steps.
use Rattle.std.specs.Prelude.{ℕ, ◌==◌, List, [], ◌∷◌, if◌then◌else◌}
use Rattle.state_machine.specs.declared.entry.Entry.{Entry}

-- the entry of a step
abbrev pub entry : {N : Type 0} → ℕ → N → Entry N
entry who note = record { by = who; note = note }

-- a seat's own entries
abbrev pub own : {N : Type 0} → ℕ → List (Entry N) → List (Entry N)
own who [] = []
own who (e ∷ es) = if e.by == who then e ∷ own who es else own who es
