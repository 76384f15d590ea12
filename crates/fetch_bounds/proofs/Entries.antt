-- What seats know of their loads, through the entries of a history.
use Rattle.std.proofs.Common.{Bool, List, None, Option, Some, ap, cond, false, inl, inr, refl, sym, true, ℕ, ◌+◌, ◌∙◌, ◌≡◌, ◌≢◌}
use Rattle.std.specs.Cmp.{nat_cmp_total}
use Rattle.std.specs.FinMap.{get, insert, len, len-insert}
use Rattle.std.specs.Option.{is_some}
use Rattle.cache_key.specs.Key.{Key}
use Rattle.cache_key.specs.declared.load_spec.LoadSpec.{LoadSpec}
use Rattle.engine_world.specs.Knowledge.{Knowledge, OwnLoad, after_collect, after_is_cancelled, after_load, after_next_job, after_take, own_load, updated, with_ready}
use Rattle.engine_world.specs.Steps.{load}
use Rattle.engine_world.specs.Worked.{lent}
use Rattle.engine_world.specs.declared.events.Event.{Event}
use Rattle.engine_world.specs.declared.events.NotedReply.{NotedReply}
use Rattle.finite_maps.specs.MapLaws.{same_Some}
use Rattle.fetch_bounds.proofs.Starting.{IsNoLoad}
use Rattle.fetch_bounds.specs.Findable.{LoadsAskAll}
use Rattle.fetch_bounds.specs.Follows.{IsWork}
use Rattle.fetch_bounds.specs.InMemory.{LoadsAmong, TrimsNothing}
use Rattle.engine_world.specs.declared.events.Event.TheVariants as events
use Rattle.engine_world.specs.declared.events.NotedReply.TheVariants as replies
use Rattle.engine_world.specs.NumberLaws.{number_cases, put_cases, put_other, put_same}

-- It knows as many loads as before, and each with its key and kind.
pub record Knows (old new : Knowledge) : Type 0 where
  pub begun : new.begun ≡ old.begun
  pub size : len new.loads ≡ len old.loads
  pub kept : (n : ℕ) (own : OwnLoad) → get old.loads n ≡ Some own → (now : OwnLoad) × (get new.loads n ≡ Some now) × (now.key ≡ own.key) × (now.cached ≡ own.cached)
  pub known : (n : ℕ) (now : OwnLoad) → get new.loads n ≡ Some now → (own : OwnLoad) × (get old.loads n ≡ Some own) × (now.key ≡ own.key) × (now.cached ≡ own.cached)

same_loads : (old new : Knowledge) → new.begun ≡ old.begun → new.loads ≡ old.loads → Knows old new
same_loads old new begun loads = record {
  begun = begun;
  size = ap (λ m. len m) loads;
  kept = λ n own at. (own, ap (λ m. get m n) loads ∙ at, refl, refl);
  known = λ n now at. (now, ap (λ m. get m n) (sym loads) ∙ at, refl, refl);
}

with_ready_knows : (n : ℕ) (o : Option OwnLoad) (known : Knowledge) → get known.loads n ≡ o → Knows known (with_ready n o known)
with_ready_knows n None known e = same_loads known known refl refl
with_ready_knows n (Some load) known e =
    let told : OwnLoad = record load { ready = true } in
    record {
      begun = refl;
      size = len-insert nat_cmp_total known.loads n _ ∙ ap (λ o. cond (is_some o) (len known.loads) (len known.loads + 1)) e;
      kept = λ m own at. elim (number_cases m n) [
        | inl is ↦
            let same : load ≡ own = same_Some _ _ (sym e ∙ ap (get known.loads) (sym is) ∙ at) in
            (told, ap (get (insert known.loads n told)) is ∙ put_same known.loads n told, ap (λ (l : OwnLoad). l.key) same, ap (λ (l : OwnLoad). l.cached) same)
        | inr ne ↦ (own, put_other known.loads n told m ne ∙ at, refl, refl)
      ];
      known = λ m now at. elim (put_cases known.loads n told m now at) [
        | inl h ↦ (load, ap (get known.loads) h.0 ∙ e, ap (λ (l : OwnLoad). l.key) (sym h.1), ap (λ (l : OwnLoad). l.cached) (sym h.1))
        | inr h ↦ (now, h.1, refl, refl)
      ];
    }

collect_knows : (n : ℕ) (reply : NotedReply) (known : Knowledge) → Knows known (after_collect n reply known)
collect_knows n replies.Ready known = with_ready_knows n (get known.loads n) known refl
collect_knows n reply known = same_loads _ _ refl refl

next_job_knows : (reply : NotedReply) (known : Knowledge) → Knows known (after_next_job reply known)
next_job_knows (replies.Job j spec) known = same_loads _ _ refl refl
next_job_knows reply known = same_loads _ _ refl refl

take_knows : (reply : NotedReply) (known : Knowledge) → Knows known (after_take reply known)
take_knows (replies.Taken lent) known = same_loads _ _ refl refl
take_knows reply known = same_loads _ _ refl refl

is_cancelled_knows : (reply : NotedReply) (known : Knowledge) → Knows known (after_is_cancelled reply known)
is_cancelled_knows (replies.Cancelled true) known = same_loads _ _ refl refl
is_cancelled_knows (replies.Cancelled false) known = same_loads _ _ refl refl
is_cancelled_knows reply known = same_loads _ _ refl refl

pub work_knows : (event : Event) (reply : NotedReply) (known : Knowledge) → IsWork event → Knows known (updated event reply known)
work_knows (events.Load spec) reply known is = absurd is
work_knows (events.Release n) reply known is = absurd is
work_knows (events.Trim level) reply known is = absurd is
work_knows (events.Collect n) reply known is = collect_knows n reply known
work_knows (events.NextJob room) reply known is = next_job_knows reply known
work_knows (events.Take j width height config) reply known is = take_knows reply known
work_knows (events.IsCancelled j) reply known is = is_cancelled_knows reply known
work_knows event reply known is = same_loads _ _ refl refl

-- one load more, which is not Full
pub record Adds (spec : LoadSpec) (old new : Knowledge) : Type 0 where
  pub begun : new.begun ≡ old.begun + 1
  pub ready : Bool
  pub loads : new.loads ≡ insert old.loads old.begun (own_load spec ready)

pub load_adds : (spec : LoadSpec) (reply : NotedReply) (known : Knowledge) → reply ≢ replies.Full → Adds spec known (after_load spec reply known)
load_adds spec replies.Full known full = absurd (full refl)
load_adds spec replies.Ready known full = record { begun = refl; ready = true; loads = refl }
load_adds spec reply known full = record { begun = refl; ready = false; loads = refl }

-- ---- what work is not

pub work_asks_all : (key : Key) (event : Event) → IsWork event → LoadsAskAll key event
work_asks_all key (events.Load spec) is = absurd is
work_asks_all key event is = tt

pub work_among : (keys : List Key) (event : Event) → IsWork event → LoadsAmong keys event
work_among keys (events.Load spec) is = absurd is
work_among keys event is = tt

pub work_trims_nothing : (event : Event) → IsWork event → TrimsNothing event
work_trims_nothing (events.Trim level) is = absurd is
work_trims_nothing event is = tt

pub work_no_load : (event : Event) → IsWork event → IsNoLoad event
work_no_load (events.Load spec) is = absurd is
work_no_load event is = tt
