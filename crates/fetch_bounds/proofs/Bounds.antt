-- A run costs no more jobs than the starts of its walk.
use Rattle.std.proofs.Common.{Bool, List, Option, Some, [], ap, arith, false, leb, length, ltb, refl, sym, true, true≢false, ◌*◌, ◌++◌, ◌+◌, ◌∷◌, ◌≡◌, ◌≤◌}
use Rattle.std.proofs.lemmas.Bool.{leb-true, ltb-true, and_parts}
use Rattle.std.specs.List.{list_any}
use Rattle.std.specs.Ordering.{nat_cmp}
use Rattle.std.specs.Prelude.{not, ◌&&◌}
use Rattle.engine_world.specs.Knowledge.{knowledge_in}
use Rattle.engine_world.specs.Laws.{AlwaysSound, HistoriesAreSound}
use Rattle.engine_world.specs.Sound.{Sound}
use Rattle.engine_world.specs.World.{Job, Limits, World, opening}
use Rattle.engine_world.specs.declared.events.Event.{Event}
use Rattle.engine_world.specs.declared.events.Note.{Note}
use Rattle.engine_world.specs.NumberLaws.{total-empty}
use Rattle.outside.specs.Content.{Contents}
use Rattle.script_walk.specs.Laws.{TracesAreOrderly}
use Rattle.script_walk.specs.Marks.{begins_in}
use Rattle.script_walk.specs.Starts.{Walked, is_trim, keys_of, remembers, total_size}
use Rattle.state_machine.specs.declared.entry.Entry.{Entry}
use Rattle.fetch_bounds.proofs.Counting.{AllMarked, Counted, Course, IsRoomy, at_opening, count}
use Rattle.fetch_bounds.proofs.Histories.{Goes, Grounds, legal_goes}
use Rattle.fetch_bounds.proofs.Running.{queue, runs_are_started, waits_for_source}
use Rattle.fetch_bounds.specs.Costs.{source_runs, source_starts}
use Rattle.fetch_bounds.specs.InMemory.{AllFit}
use Rattle.fetch_bounds.specs.Laws.{FailuresAreMarked, IsBounded, IsRun, Run, RunsAreBounded, events_of, start_of, walked}

not_true : (b : Bool) → not b ≡ true → b ≡ false
not_true true e = absurd (true≢false (sym e))
not_true false e = refl

-- where the memory cache keeps each picture, nothing trims it, and all fit
remembers_parts : (run : Walked) → remembers run ≡ true → (list_any is_trim run.events ≡ false) × AllFit run.results run.memory (keys_of (begins_in run.events))
remembers_parts run e =
    let keys = keys_of (begins_in run.events) in
    let no_trim : Bool = not (list_any is_trim run.events) in
    let few : Bool = leb (length keys) 1024 in
    let room : Bool = ltb (8 * total_size run.results keys) run.memory in
    let both : (no_trim && few) ≡ true = (and_parts (no_trim && few) room e).0 in (
      not_true (list_any is_trim run.events) (and_parts no_trim few both).0,
      record { few = leb-true _ _ (and_parts no_trim few both).1; room = ltb-true _ _ (and_parts (no_trim && few) room e).1 },
    )

module _ {M Reply : Type 0} (g : Grounds) (world : M → World) (history : M → List (Entry Note)) (note : Event → Reply → Note) (always : AlwaysSound world history note) where
  -- the opening state is sound, as the empty history says
  pub opening_sound : (limits : Limits) (content : Option Contents) → Sound (opening limits content) (knowledge_in [])
  opening_sound limits content = always limits content [] (opening limits content) (record { leads = refl; asked = λ before after e is. absurd (nil_not before e after is) }) where
    nil_not : (before : List (Entry Note)) (e : Entry Note) (after : List (Entry Note)) → [] ≡ before ++ e ∷ after → ⊥
    nil_not [] e after is = omega (arith, ap length is)
    nil_not (x ∷ before) e after is = omega (arith, ap length is)

  pub bounded : TracesAreOrderly → (run : Run) → IsRun world history note run → FailuresAreMarked world history note run → IsBounded run
  bounded orderly run is marked =
      let k : Course = record { limits = run.limits; content = run.content; marks = run.marks; events = events_of run } in
      let start : World = start_of run in
      let sound : Sound start (knowledge_in []) = opening_sound run.limits (Some run.content) in
      let goes : Goes (AllMarked run.marks) start (knowledge_in []) run.history run.world =
      legal_goes world history note g run.limits (Some run.content) (AllMarked run.marks) run.history run.world sound is.legal
      (λ xs ys v parts leads n cause failed free. marked v n cause (record { before = xs; after = ys; parts = parts; leads = leads }) failed free) in
      let roomy : IsRoomy g k = record { room = is.room; fit = λ r. (remembers_parts (walked run) r).1 } in
      let c : Counted g k run.world (events_of run) [] start (knowledge_in []) run.history =
      count g k roomy run.world (events_of run) 0 [] [] [] (orderly run.outcome run.commands) (λ b is. is) (λ r. (remembers_parts (walked run) r).0) start (knowledge_in []) run.history (at_opening g k sound) is.follows goes in
      let none : queue start.jobs ≡ 0 = total-empty nat_cmp (λ j (job : Job). waits_for_source job) in
      let given : source_runs run.history ≤ queue start.jobs + source_starts run.history = runs_are_started g (AllMarked run.marks) run.history start run.world (knowledge_in []) sound goes in
      record {
        started = omega (arith, c.started);
        source_starts = c.sources;
        source_runs = omega (arith, none, given, c.sources);
        loads = omega (arith, c.loads);
        ended = c.ended;
      }

pub runs_are_bounded : {M Reply : Type 0} → Grounds → HistoriesAreSound M Reply → TracesAreOrderly → RunsAreBounded M Reply
runs_are_bounded g always orderly world history note run is marked = bounded g world history note (always world history note) orderly run is marked
