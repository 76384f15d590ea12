-- Jobs that may ask their source are started, and so run, no more often than begins are made.
use Rattle.std.proofs.Common.{Bool, List, [], ap, arith, false, map, refl, true, ℕ, ◌++◌, ◌+◌, ◌∙◌, ◌∷◌, ◌≡◌, ◌≤◌, length}
use Rattle.std.specs.Ordering.{nat_cmp}
use Rattle.std.specs.Prelude.{not, ◌&&◌}
use Rattle.engine_world.specs.Knowledge.{knowledge_in}
use Rattle.engine_world.specs.Laws.{HistoriesAreSound}
use Rattle.engine_world.specs.Sound.{Sound}
use Rattle.engine_world.specs.World.{Job, World, opening}
use Rattle.engine_world.specs.NumberLaws.{total-empty}
use Rattle.engine_world.specs.declared.events.Event.{Event}
use Rattle.engine_world.specs.declared.events.Note.{Note}
use Rattle.engine_world.specs.declared.events.NotedReply.{NotedReply}
use Rattle.script_walk.specs.Marks.{begins_in}
use Rattle.script_walk.specs.Starts.{one_if}
use Rattle.script_walk.specs.Walk.{Begun, Dropped, Ended, Printed, TraceEvent, Trimmed}
use Rattle.state_machine.specs.declared.entry.Entry.{Entry}
use Rattle.fetch_bounds.proofs.Answered.{orders_are_the_traces}
use Rattle.fetch_bounds.proofs.Bounds.{opening_sound}
use Rattle.fetch_bounds.proofs.Histories.{Goes, Grounds, legal_goes}
use Rattle.fetch_bounds.proofs.Licence.{Nothing}
use Rattle.fetch_bounds.proofs.Running.{queue, runs_are_started, waits_for_source}
use Rattle.fetch_bounds.specs.Answered.{LoadOrder, Order, TrimOrder, order_of, orders_in, orders_of}
use Rattle.fetch_bounds.specs.Costs.{is_started, source_runs, source_start, source_starts}
use Rattle.fetch_bounds.specs.FailureLaws.{RunsAreBegun}
use Rattle.engine_world.specs.declared.events.Event.TheVariants as events

-- ---- loads among orders

abbrev one_if_load : Order → ℕ
one_if_load (LoadOrder spec) = 1
one_if_load (TrimOrder level) = 0

abbrev loads_in : List (ℕ × Order) → ℕ
loads_in [] = 0
loads_in (order ∷ orders) = one_if_load order.1 + loads_in orders

loads_in-append : (xs ys : List (ℕ × Order)) → loads_in (xs ++ ys) ≡ loads_in xs + loads_in ys
loads_in-append [] ys = omega arith
loads_in-append (x ∷ xs) ys = omega (arith, loads_in-append xs ys)

-- each begin is one
loads_begun : (events : List TraceEvent) → loads_in (map (λ (order : Order). (0, order)) (orders_in events)) ≡ length (begins_in events)
loads_begun [] = refl
loads_begun (Begun b others ∷ events) = omega (arith, loads_begun events)
loads_begun (Dropped b ∷ events) = loads_begun events
loads_begun (Ended b result ∷ events) = loads_begun events
loads_begun (Trimmed level ∷ events) = omega (arith, loads_begun events)
loads_begun (Printed line ∷ events) = loads_begun events

-- ---- starts

one_at_most : (b : Bool) → one_if b ≤ 1
one_at_most true = omega arith
one_at_most false = omega arith

start_by_load : (who : ℕ) (event : Event) (reply : NotedReply) → source_start event reply ≤ loads_in (order_of who event)
start_by_load who (events.Load spec) reply = omega (arith, one_at_most (not spec.cached && is_started reply))
start_by_load who event reply = omega arith

starts_few : (es : List (Entry Note)) → source_starts es ≤ loads_in (orders_of es)
starts_few [] = omega arith
starts_few (e ∷ es) = omega (arith, start_by_load e.by e.note.event e.note.reply, starts_few es, loads_in-append (order_of e.by e.note.event) (orders_of es))

pub runs_are_begun : {M Reply : Type 0} → Grounds → HistoriesAreSound M Reply → RunsAreBegun M Reply
runs_are_begun g always world history note limits content past w legal events follows =
    let start : World = opening limits content in
    let sound : Sound start (knowledge_in []) = opening_sound g world history note (always world history note) limits content in
    let goes : Goes Nothing start (knowledge_in []) past w = legal_goes world history note g limits content Nothing past w sound legal (λ xs ys v parts leads. tt) in
    let none : queue start.jobs ≡ 0 = total-empty nat_cmp (λ j (job : Job). waits_for_source job) in
    let given : source_runs past ≤ queue start.jobs + source_starts past = runs_are_started g Nothing past start w (knowledge_in []) sound goes in
    let loads : loads_in (orders_of past) ≡ length (begins_in events) = ap loads_in (orders_are_the_traces events past follows) ∙ loads_begun events in
    omega (arith, none, given, starts_few past, loads)
