-- What a call of the engine's only caller adds to what it knows, and to the jobs that it ran.
use Rattle.std.proofs.Common.{◌≡◌, ◌≢◌, ℕ, ◌+◌, ◌-◌, true, cond, [], ◌∷◌, ◌++◌, Some, None, Option, refl, ap, ◌∙◌, inl, inr, arith, append-nil}
use Rattle.std.specs.Ordering.{nat_cmp}
use Rattle.std.specs.Option.{is_some}
use Rattle.std.specs.Cmp.{IsTotalOrder, nat_cmp_total}
use Rattle.std.specs.FinMap.{FinMap, IsAntisymmetric, get, remove, len, len-insert, len-remove, nat_cmp-IsAntisymmetric}
use Rattle.std.proofs.lemmas.Cmp.{on_total, then_total}
use Rattle.std.proofs.lemmas.Map.Lookups.{exact_pairs}
use Rattle.finite_maps.specs.MapLaws.{insert_cases, remove_found, get-remove_other}
use Rattle.load_table.specs.Loads.{LoadName, load_cmp}
use Rattle.engine_world.specs.declared.events.Event.{Event}
use Rattle.engine_world.specs.declared.events.NotedReply.{NotedReply}
use Rattle.engine_world.specs.declared.events.NotedReply.TheVariants as replies
use Rattle.engine_world.specs.World.{Loads}
use Rattle.engine_world.specs.Knowledge.{OwnLoad, Knowledge, knowledge_in, with_ready, after_collect}
use Rattle.engine_world.specs.Permits.{IsOwn}
use Rattle.engine_shared.specs.Caller.{Caller, entry_of}
use Rattle.fetch_bounds.specs.Costs.{source_run, source_runs}
use Rattle.fetch_bounds.specs.Failures.{fails_by, fails_in}
use Rattle.fetch_bounds.specs.FailureLaws.{FailuresByEntry, SourceRunsAddUp}
use Rattle.engine_views.specs.JobRuns.{RunsNoJob}
use Rattle.engine_views.proofs.Owners.{IsStep}

-- ---- maps

load_total : IsTotalOrder load_cmp
load_total = then_total (on_total (λ (p : LoadName). p.0) nat_cmp_total) (on_total (λ (p : LoadName). p.1) nat_cmp_total)

load_same : IsAntisymmetric load_cmp
load_same = exact_pairs nat_cmp nat_cmp nat_cmp-IsAntisymmetric nat_cmp-IsAntisymmetric

pub others_stay : (loads : Loads) (who m n : ℕ) → n ≢ m → get (remove loads (who, m)) (who, n) ≡ get loads (who, n)
others_stay loads who m n other = get-remove_other load_total load_same loads (who, m) (who, n) (λ e. other (ap (λ (p : LoadName). p.1) e))

pub gone_found : (m : FinMap nat_cmp OwnLoad) (k q : ℕ) (load : OwnLoad) → get (remove m k) q ≡ Some load → (q ≢ k) × (get m q ≡ Some load)
gone_found m k q load e = remove_found nat_cmp_total nat_cmp-IsAntisymmetric m k q load e

pub less_one : (m : FinMap nat_cmp OwnLoad) (k : ℕ) (load : OwnLoad) → get m k ≡ Some load → len (remove m k) ≡ len m - 1
less_one m k load is = len-remove nat_cmp_total m k ∙ ap (λ o. cond (is_some o) (len m - 1) (len m)) is

-- ---- what a caller knows after it collected

module _ (n : ℕ) (known : Knowledge) where
  ready_own : (o : Option OwnLoad) → get known.loads n ≡ o → (q : ℕ) → IsOwn (with_ready n o known) q → IsOwn known q
  ready_own None at q is = is
  ready_own (Some load) at q is = elim (insert_cases nat_cmp_total nat_cmp-IsAntisymmetric known.loads n (record load { ready = true }) q is.0 is.1) [
    | inl here ↦ (load, ap (get known.loads) here.0 ∙ at)
    | inr there ↦ (is.0, there.1)
  ]

  ready_len : (o : Option OwnLoad) → get known.loads n ≡ o → len (with_ready n o known).loads ≡ len known.loads
  ready_len None at = refl
  ready_len (Some load) at = len-insert nat_cmp_total known.loads n (record load { ready = true }) ∙ ap (λ o. cond (is_some o) (len known.loads) (len known.loads + 1)) at

  pub collected_own : (reply : NotedReply) (q : ℕ) → IsOwn (after_collect n reply known) q → IsOwn known q
  collected_own replies.Ready q is = ready_own (get known.loads n) refl q is
  collected_own reply q is = is

  pub collected_len : (reply : NotedReply) → len (after_collect n reply known).loads ≡ len known.loads
  collected_len replies.Ready = ready_len (get known.loads n) refl
  collected_len reply = refl

-- ---- jobs

-- An entry that gives no job and fails none.
pub no_job : SourceRunsAddUp → FailuresByEntry → (old new : Caller) (event : Event) (reply : NotedReply) → IsStep old event reply new → source_run event reply ≡ 0 → ((known : Knowledge) → fails_by known event ≡ []) → RunsNoJob old new
no_job adds fails old new event reply mine none none_fails =
    let e = entry_of old event reply in
    let sum : source_runs (old.seen ++ e ∷ []) ≡ source_runs old.seen + source_runs (e ∷ []) = adds old.seen (e ∷ []) in
    let last : source_runs (e ∷ []) ≡ 0 = omega (arith, none) in
    record {
      runs = ap source_runs mine.seen ∙ sum ∙ omega (arith, last);
      fails = ap fails_in mine.seen ∙ fails old.seen e ∙ ap (λ jobs. fails_in old.seen ++ jobs) (none_fails (knowledge_in old.seen e.by)) ∙ append-nil (fails_in old.seen);
    }
