-- Calls that follow the events of a walk, and run no job.
use Rattle.std.proofs.Common.{◌≡◌, ℕ, List, [], ◌∷◌, ◌++◌, refl, ap, sym, ◌∙◌, inr, arith}
use Rattle.std.proofs.lemmas.List.{append-nil, append_assoc}
use Rattle.cache_key.specs.declared.load_spec.LoadSpec.{LoadSpec}
use Rattle.state_machine.specs.declared.entry.Entry.{Entry}
use Rattle.engine_world.specs.declared.events.Event.TheVariants as events
use Rattle.engine_world.specs.declared.events.NotedReply.{NotedReply}
use Rattle.engine_world.specs.declared.events.Note.{Note}
use Rattle.engine_shared.specs.Caller.{Caller, entry_of, IsCall}
use Rattle.script_walk.specs.Walk.{Begin, TraceEvent, Dropped, Begun}
use Rattle.fetch_bounds.specs.Follows.{IsLoadOf}
use Rattle.fetch_bounds.specs.Parts.{begins_after}
use Rattle.fetch_bounds.specs.Costs.{source_runs}
use Rattle.fetch_bounds.specs.Failures.{fails_in}
use Rattle.engine_views.specs.Owner.{IsOwner, Adds}
use Rattle.engine_views.specs.JobRuns.{RunsNoJob}
use Rattle.engine_views.specs.inside.ViewLaws.{ViewLaws}
use Rattle.engine_views.proofs.Owners.{IsStep, one_step}

pub record IsTold (old new : Caller) (events : List TraceEvent) : Type 0 where
  pub adds : (begun : List Begin) → Adds old new begun events
  pub no_job : RunsNoJob old new

pub told_none : (c : Caller) → IsTold c c []
told_none c = record {
  adds = λ begun. record { later = []; seen = sym (append-nil c.seen); follows = tt; opening = refl };
  no_job = record { runs = refl; fails = refl };
}

module _ (laws : ViewLaws) where
  pub told_join : (a b c : Caller) (first second : List TraceEvent) → IsTold a b first → IsTold b c second → IsTold a c (first ++ second)
  told_join a b c first second one two = record {
    adds = λ begun.
        let f = one.adds begun in
        let g = two.adds (begins_after begun first) in
        record {
          later = f.later ++ g.later;
          seen = g.seen ∙ ap (λ l. l ++ g.later) f.seen ∙ append_assoc a.seen f.later g.later;
          follows = laws.join begun first second f.later g.later f.follows g.follows;
          opening = g.opening ∙ f.opening;
        };
    no_job = record { runs = two.no_job.runs ∙ one.no_job.runs; fails = two.no_job.fails ∙ one.no_job.fails };
  }

  pub told_release : (old new : Caller) (n : ℕ) (reply : NotedReply) (begin : Begin) → IsOwner old → IsCall old (events.Release n) reply new → IsLoadOf begin n → IsTold old new (Dropped begin ∷ [])
  told_release old new n reply begin owner call is =
      let e : Entry Note = entry_of old (events.Release n) reply in
      let step : IsStep old (events.Release n) reply new = one_step laws.opening old new (events.Release n) reply owner.who owner.seats call in
      let none : source_runs (e ∷ []) ≡ 0 = refl in
      record {
        adds = λ begun. record { later = e ∷ []; seen = step.seen; follows = inr (owner.who, (n, is, refl), tt); opening = step.opening };
        no_job = record {
          runs = ap source_runs step.seen ∙ laws.runs old.seen (e ∷ []) ∙ omega arith;
          fails = ap fails_in step.seen ∙ laws.failures old.seen e ∙ append-nil (fails_in old.seen);
        };
      }

  pub told_load : (old new : Caller) (spec : LoadSpec) (reply : NotedReply) (begin : Begin) (others : List Begin) → IsOwner old → IsCall old (events.Load spec) reply new → begin.spec ≡ spec → IsTold old new (Begun begin others ∷ [])
  told_load old new spec reply begin others owner call is =
      let e : Entry Note = entry_of old (events.Load spec) reply in
      let step : IsStep old (events.Load spec) reply new = one_step laws.opening old new (events.Load spec) reply owner.who owner.seats call in
      let none : source_runs (e ∷ []) ≡ 0 = refl in
      record {
        adds = λ begun. record { later = e ∷ []; seen = step.seen; follows = inr (owner.who, ap events.Load (sym is), tt); opening = step.opening };
        no_job = record {
          runs = ap source_runs step.seen ∙ laws.runs old.seen (e ∷ []) ∙ omega arith;
          fails = ap fails_in step.seen ∙ laws.failures old.seen e ∙ append-nil (fails_in old.seen);
        };
      }
