-- Which begins of a trace run together: those of views that have begun since the last gather, since a gather brings each begin
-- that runs to its end. So one job serves begins of one gather alone. This project's own.
use Rattle.std.specs.Prelude.{◌≡◌, ℕ, List, [], ◌∷◌, ⊤}
use Rattle.script_lines.specs.Script.{Numbered}
use Rattle.script_walk.specs.Walk.{Begin, Outcome, TraceEvent, Dropped, Begun, Ended, Trimmed, Printed, trace}
use Rattle.script_walk.specs.Orderly.{without_begin}

-- Each of these begins had as many gathers before it.
abbrev pub AllAfter : ℕ → List Begin → Type 0
AllAfter gathers [] = ⊤
AllAfter gathers (begin ∷ begins) = (begin.gathers ≡ gathers) × AllAfter gathers begins

-- At each begin, those that run by then (that were neither dropped nor came to their end) had as many gathers before them.
abbrev pub RunTogether : (running : List Begin) → List TraceEvent → Type 0
RunTogether running [] = ⊤
RunTogether running (Dropped begin ∷ events) = RunTogether (without_begin begin.number running) events
RunTogether running (Begun begin others ∷ events) =
    AllAfter begin.gathers running × RunTogether (begin ∷ running) events
RunTogether running (Ended begin result ∷ events) =
    RunTogether (without_begin begin.number running) events
RunTogether running (Trimmed level ∷ events) = RunTogether running events
RunTogether running (Printed line ∷ events) = RunTogether running events

abbrev pub BeginsRunTogether : Type 0
BeginsRunTogether = (outcome : Outcome) (commands : List Numbered) → RunTogether [] (trace outcome commands)
