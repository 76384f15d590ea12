-- The loads that the engine's only caller has, through its calls.
use Rattle.std.proofs.Common.{◌≡◌, ◌≢◌, ℕ, List, [], ◌∷◌, zero, suc, Some, None, Option, option_map, slice_get, refl, ap, sym, subst, ◌∙◌, arith}
use Rattle.std.specs.FinMap.{get, len, remove}
use Rattle.finite_maps.specs.MapLaws.{same_Some}
use Rattle.load_cause.specs.declared.causes.Cause.{Cause}
use Rattle.load_table.specs.declared.loads.LoadState.TheVariants.{Waiting, Ready, Failed}
use Rattle.engine_world.specs.declared.events.Event.{Event}
use Rattle.engine_world.specs.declared.events.Event.TheVariants as events
use Rattle.engine_world.specs.declared.events.NotedReply.{NotedReply}
use Rattle.engine_world.specs.declared.events.NotedReply.TheVariants as replies
use Rattle.engine_world.specs.World.{LoadState, Resource, World}
use Rattle.engine_world.specs.Steps.{release}
use Rattle.engine_world.specs.Knowledge.{Knowledge}
use Rattle.engine_world.specs.Permits.{IsOwn}
use Rattle.engine_world.specs.Laws.{KeepsOpening}
use Rattle.engine_shared.specs.Tokens.{HoldValue}
use Rattle.engine_shared.specs.Caller.{Caller, knowledge_of, picture_held, shown_by, IsCall, HasLoad, HasReadyLoad}
use Rattle.engine_shared.specs.CallLaws.{LoadsStay, ReadyLoadsStay, JobsStay}
use Rattle.engine_views.specs.Held.{Holds, loads_in}
use Rattle.engine_views.specs.Owner.{AllLoads, IsNone, HasJust}
use Rattle.engine_views.specs.inside.Collects.{IsLeftOf, result_by, result_in}
use Rattle.engine_views.proofs.Owners.{IsStep, owner_stays}
use Rattle.engine_views.proofs.Calls.{others_stay, gone_found, less_one, collected_own, collected_len}

-- ---- the loads that are held

pub has_at : (c : Caller) (holds : Holds) (place : ℕ) (load : HoldValue) → AllLoads c (loads_in holds) → slice_get holds place ≡ Some (Some load) → HasLoad c load
has_at c [] place load all at = cc
has_at c (None ∷ holds) zero load all at = cc
has_at c (Some l ∷ holds) zero load all at = subst (HasLoad c) (same_Some l load (same_Some (Some l) (Some load) at)) all.0
has_at c (None ∷ holds) (suc place) load all at = has_at c holds place load all at
has_at c (Some l ∷ holds) (suc place) load all at = has_at c holds place load all.1 at

all_stay : (old new : Caller) → ((load : HoldValue) → HasLoad old load → HasLoad new load) → (loads : List HoldValue) → AllLoads old loads → AllLoads new loads
all_stay old new stay [] all = tt
all_stay old new stay (load ∷ loads) all = (stay load all.0, all_stay old new stay loads all.1)

-- those of other numbers
others_all_stay : (old new : Caller) (number : ℕ) → ((load : HoldValue) → load.number ≢ number → HasLoad old load → HasLoad new load) → (loads : List HoldValue) → IsNone number loads → AllLoads old loads → AllLoads new loads
others_all_stay old new number stay [] none all = tt
others_all_stay old new number stay (load ∷ loads) none all = (stay load none.0 all.0, others_all_stay old new number stay loads none.1 all.1)

-- what stays where the caller knows the same of its loads
pub has_same : (old new : Caller) → (knowledge_of new).loads ≡ (knowledge_of old).loads → (knowledge_of new).begun ≡ (knowledge_of old).begun → (load : HoldValue) → HasLoad old load → HasLoad new load
has_same old new loads begun load has = record { load = has.load; is = ap (λ m. get m load.number) loads ∙ has.is; key = has.key; below = omega (arith, has.below, begun) }

pub all_same : (old new : Caller) → (knowledge_of new).loads ≡ (knowledge_of old).loads → (knowledge_of new).begun ≡ (knowledge_of old).begun → (loads : List HoldValue) → AllLoads old loads → AllLoads new loads
all_same old new loads begun = all_stay old new (has_same old new loads begun)

-- ---- a collect

pub just_collected : LoadsStay → JobsStay → ((event : Event) → KeepsOpening event) → (old new : Caller) (n : ℕ) (reply : NotedReply) (loads : List HoldValue) → HasJust old loads → IsCall old (events.Collect n) reply new → HasJust new loads
just_collected stay jobs keeps old new n reply loads just call =
    record {
      owner = owner_stays keeps old new (events.Collect n) reply tt just.owner call;
      each = all_stay old new (λ load has. stay old new (events.Collect n) reply load has call (λ none. none)) loads just.each;
      apart = just.apart;
      count = ap (λ (k : Knowledge). len k.loads) call.knowledge ∙ collected_len n (knowledge_of old) reply ∙ just.count;
      idle = jobs old new (events.Collect n) reply tt call ∙ just.idle;
    }

pub left_collected : (first old new : Caller) (n : ℕ) (reply : NotedReply) → IsLeftOf first old → IsCall old (events.Collect n) reply new → IsStep old (events.Collect n) reply new → IsLeftOf first new
left_collected first old new n reply left call mine =
    let world : new.world ≡ old.world = mine.step.1 in
    record {
      who = call.who ∙ left.who;
      resources = ap (λ (w : World). w.resources) world ∙ left.resources;
      loads = λ q is.
          let was : IsOwn (knowledge_of old) q = collected_own n (knowledge_of old) reply q (subst (λ k. IsOwn k q) call.knowledge is) in
          (λ i. get (world i).loads (call.who i, q)) ∙ left.loads q was;
    }

-- ---- a release

-- the caller has the loads that stand after the one that it releases
pub just_released : LoadsStay → JobsStay → ((event : Event) → KeepsOpening event) → (old new : Caller) (load : HoldValue) (loads : List HoldValue) → HasJust old (load ∷ loads) → IsCall old (events.Release load.number) replies.Done new → HasJust new loads
just_released stay jobs keeps old new load loads just call =
    let n = load.number in
    let fewer : len (knowledge_of new).loads ≡ len (remove (knowledge_of old).loads n) = ap (λ (k : Knowledge). len k.loads) call.knowledge in
    record {
      owner = owner_stays keeps old new (events.Release n) replies.Done tt just.owner call;
      each = others_all_stay old new n (λ other apart has. stay old new (events.Release n) replies.Done other has call (λ same. apart (ap (λ (p : ℕ × ℕ). p.1) same))) loads just.apart.0 just.each.1;
      apart = just.apart.1;
      count = omega (arith, fewer, less_one (knowledge_of old).loads n just.each.0.load just.each.0.is, just.count);
      idle = jobs old new (events.Release n) replies.Done tt call ∙ just.idle;
    }

-- a load that is still had after a release is another one
pub is_other : (old new : Caller) (n : ℕ) (load : HoldValue) → IsCall old (events.Release n) replies.Done new → (has : HasLoad new load) → (load.number ≢ n) × (get (knowledge_of old).loads load.number ≡ Some has.load)
is_other old new n load call has = gone_found (knowledge_of old).loads n load.number has.load (sym (ap (λ (k : Knowledge). get k.loads load.number) call.knowledge) ∙ has.is)

-- the release of a load that failed
pub left_released : (first old new : Caller) (n : ℕ) (cause : Cause) → IsLeftOf first old → IsCall old (events.Release n) replies.Done new → IsStep old (events.Release n) replies.Done new → get old.world.loads (old.who, n) ≡ Some (Failed cause) → IsLeftOf first new
left_released first old new n cause left call mine failed =
    let world : new.world ≡ release old.world old.who n (Some (Failed cause)) = mine.step.1 ∙ ap (release old.world old.who n) failed in
    record {
      who = call.who ∙ left.who;
      resources = ap (λ (w : World). w.resources) world ∙ left.resources;
      loads = λ q is.
          let found = gone_found (knowledge_of old).loads n q is.0 (sym (ap (λ (k : Knowledge). get k.loads q) call.knowledge) ∙ is.1) in
          (λ i. get (world i).loads (call.who i, q)) ∙ others_stay old.world.loads old.who n q found.0 ∙ left.loads q (is.0, found.1);
    }

-- ---- pictures

-- What a load that is still had was ready on it is ready on.
abbrev pub StayReady : Caller → Caller → Type 0
StayReady old new = (load : HoldValue) → HasLoad new load → HasReadyLoad old load → HasReadyLoad new load × (picture_held new load.number ≡ picture_held old load.number)

pub ready_collected : ReadyLoadsStay → (old new : Caller) (n : ℕ) (reply : NotedReply) → IsCall old (events.Collect n) reply new → (load : HoldValue) → HasReadyLoad old load → HasReadyLoad new load × (picture_held new load.number ≡ picture_held old load.number)
ready_collected stay old new n reply call load ready = stay old new (events.Collect n) reply load ready call (λ none. none)

pub ready_released : ReadyLoadsStay → (old new : Caller) (n : ℕ) → IsCall old (events.Release n) replies.Done new → StayReady old new
ready_released stay old new n call load has ready =
    stay old new (events.Release n) replies.Done load ready call (λ same. (is_other old new n load call has).0 (ap (λ (p : ℕ × ℕ). p.1) same))

-- ---- what a load came to

shown_same : (w z : World) (o : Option LoadState) → z.resources ≡ w.resources → shown_by z o ≡ shown_by w o
shown_same w z None same = refl
shown_same w z (Some (Waiting j)) same = refl
shown_same w z (Some (Ready r)) same = ap (λ m. option_map (λ (resource : Resource). resource.picture) (get m r)) same
shown_same w z (Some (Failed cause)) same = refl

-- the caller still sees of its load what it came to at first
pub same_result : (first c : Caller) (n : ℕ) → IsLeftOf first c → IsOwn (knowledge_of c) n → result_in first n ≡ result_in c n
same_result first c n left is =
    let state : get c.world.loads (c.who, n) ≡ get first.world.loads (first.who, n) = left.loads n is in
    let picture : picture_held c n ≡ picture_held first n = shown_same first.world c.world (get c.world.loads (c.who, n)) left.resources ∙ ap (shown_by first.world) state in
    λ i. result_by (sym state i) (sym picture i)
