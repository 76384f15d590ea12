-- The only caller's loads after it releases one of them, and after it makes one.
use Rattle.std.proofs.Common.{◌≡◌, ℕ, ◌+◌, ◌-◌, ◌<◌, ◌≤◌, cond, List, [], ◌∷◌, ◌++◌, length, set, Some, None, Ok, Option, refl, ap, sym, subst, ◌∙◌, arith}
use Rattle.std.specs.Prelude.{is_some, slice_get}
use Rattle.std.specs.Ordering.{nat_cmp}
use Rattle.std.specs.Cmp.{nat_cmp_total}
use Rattle.std.specs.FinMap.{FinMap, get, remove, len, len-insert, len-remove}
use Rattle.cache_key.specs.declared.load_spec.LoadSpec.{LoadSpec}
use Rattle.engine_world.specs.declared.events.Event.TheVariants as events
use Rattle.engine_world.specs.declared.events.NotedReply.{NotedReply}
use Rattle.engine_world.specs.declared.events.NotedReply.TheVariants as replies
use Rattle.engine_world.specs.Knowledge.{OwnLoad, Knowledge, knowledge_in, after_load}
use Rattle.engine_world.specs.Sound.{Sound}
use Rattle.engine_world.specs.Laws.{HistoriesAreSound}
use Rattle.engine_core.specs.declared.replies.Reply.{Reply}
use Rattle.engine_core.specs.CoreView.{CoreValue, note_of}
use Rattle.engine_shared.specs.Tokens.{HoldValue}
use Rattle.engine_shared.specs.Caller.{Caller, knowledge_of, quota_of, IsCall, HasLoad}
use Rattle.engine_shared.specs.Answers.{IsLoaded}
use Rattle.request_tracker.specs.Limits.{views_limit}
use Rattle.engine_views.specs.Held.{Holds, loads_in}
use Rattle.engine_views.specs.Owner.{AllLoads, IsNone, IsOwner, HasJust}
use Rattle.engine_views.specs.inside.Orders.{IsAccepted}
use Rattle.engine_views.proofs.Around.{around, apart_less, apart_from, apart_more, all_less, all_more, one_longer, fewer_loads}
use Rattle.engine_views.specs.inside.ViewLaws.{ViewLaws}
use Rattle.engine_views.proofs.Owners.{owner_stays}
use Rattle.engine_views.proofs.Staying.{all_loads_stay, release_leaves, load_leaves}

-- all loads that the caller has are below the next one's number
all_below : (c : Caller) (n : ℕ) (loads : List HoldValue) → n ≡ (knowledge_of c).begun → AllLoads c loads → IsNone n loads
all_below c n [] e all = tt
all_below c n (load ∷ loads) e all = (λ is. absurd (omega (arith, all.0.below, is, e)), all_below c n loads e all.1)

none_there : (m : FinMap nat_cmp OwnLoad) (n : ℕ) (o : Option OwnLoad) → ((k : ℕ) (load : OwnLoad) → get m k ≡ Some load → k < n) → get m n ≡ o → o ≡ None
none_there m n None below e = refl
none_there m n (Some load) below e = absurd (omega (arith, below n load e))

-- how many loads the caller knows after one more
one_added : (spec : LoadSpec) (reply : NotedReply) (known : Knowledge) → IsAccepted reply → get known.loads known.begun ≡ None → len (after_load spec reply known).loads ≡ len known.loads + 1
one_added spec replies.Ready known is none = len-insert nat_cmp_total known.loads known.begun _ ∙ ap (λ o. cond (is_some o) (len known.loads) (len known.loads + 1)) none
one_added spec (replies.Joined j) known is none = len-insert nat_cmp_total known.loads known.begun _ ∙ ap (λ o. cond (is_some o) (len known.loads) (len known.loads + 1)) none
one_added spec (replies.Started j) known is none = len-insert nat_cmp_total known.loads known.begun _ ∙ ap (λ o. cond (is_some o) (len known.loads) (len known.loads + 1)) none
one_added spec reply known is none = absurd is

-- such a load is counted
pub counted : (spec : LoadSpec) (reply : NotedReply) (known : Knowledge) → IsAccepted reply → (after_load spec reply known).begun ≡ known.begun + 1
counted spec replies.Ready known is = refl
counted spec (replies.Joined j) known is = refl
counted spec (replies.Started j) known is = refl
counted spec reply known is = absurd is

module _ (laws : ViewLaws) (old new : Caller) (before after : List HoldValue) (load : HoldValue) where
  pub released_just : HasJust old (before ++ load ∷ after) → IsOwner new → IsCall old (events.Release load.number) replies.Done new → HasJust new (before ++ after)
  released_just just owner call =
      let each = all_less old before after load just.each in
      let known = (knowledge_of old).loads in
      let less : len (remove known load.number) ≡ len known - 1 = len-remove nat_cmp_total known load.number ∙ ap (λ o. cond (is_some o) (len known - 1) (len known)) each.0.is in
      let now : len (knowledge_of new).loads ≡ len (remove known load.number) = ap (λ (k : Knowledge). len k.loads) call.knowledge in
      record {
        owner = owner;
        each = all_loads_stay old new (before ++ after) (release_leaves laws old new load.number replies.Done (before ++ after) call (apart_from before after load just.apart)) each.1;
        apart = apart_less before after load just.apart;
        count = omega (arith, less, now, just.count, one_longer before after load);
        idle = laws.jobs old new (events.Release load.number) replies.Done tt call ∙ just.idle;
      }

  pub begun_just : HistoriesAreSound CoreValue Reply → (spec : LoadSpec) (reply : NotedReply) → HasJust old (before ++ after) → IsOwner new → IsAccepted reply → IsCall old (events.Load spec) reply new
      → load.number ≡ (knowledge_of old).begun → HasLoad new load → HasJust new (before ++ load ∷ after)
  begun_just sounds spec reply just owner accepted call number has =
      let legal = just.owner.legal in
      let sound : Sound old.world (knowledge_in old.seen) = sounds (λ core. core.world) (λ core. core.history) note_of old.world.limits old.world.content old.seen old.world legal.past in
      let none : get (knowledge_of old).loads (knowledge_of old).begun ≡ None = none_there (knowledge_of old).loads (knowledge_of old).begun _ (sound.known_is old.who).below refl in
      let now : len (knowledge_of new).loads ≡ len (after_load spec reply (knowledge_of old)).loads = ap (λ (k : Knowledge). len k.loads) call.knowledge in
      record {
        owner = owner;
        each = all_more new before after load (all_loads_stay old new (before ++ after) (load_leaves laws old new spec reply (before ++ after) call) just.each) has;
        apart = apart_more before after load just.apart (all_below old load.number (before ++ after) number just.each);
        count = omega (arith, now, one_added spec reply (knowledge_of old) accepted none, just.count, one_longer before after load);
        idle = laws.jobs old new (events.Load spec) reply tt call ∙ just.idle;
      }

-- ---- by place

accepted_of : {A : Type 0} (made : A) (reply : NotedReply) → IsLoaded (Ok made) reply → IsAccepted reply
accepted_of made replies.Ready is = tt
accepted_of made (replies.Joined j) is = tt
accepted_of made (replies.Started j) is = tt
accepted_of made reply is = absurd is

pub held_there : (c : Caller) (hs : Holds) (place : ℕ) (load : HoldValue) → HasJust c (loads_in hs) → slice_get hs place ≡ Some (Some load) → HasLoad c load
held_there c hs place load just there =
    let near = around hs place (Some load) there in
    (all_less c near.before near.after load (subst (AllLoads c) near.is just.each)).0

pub place_released : ViewLaws → (old new : Caller) (hs : Holds) (place : ℕ) (load : HoldValue) → HasJust old (loads_in hs) → slice_get hs place ≡ Some (Some load)
    → IsCall old (events.Release load.number) replies.Done new → HasJust new (loads_in (set hs place None))
place_released laws old new hs place load just there call =
    let near = around hs place (Some load) there in
    let owner : IsOwner new = owner_stays laws.opening old new (events.Release load.number) replies.Done tt just.owner call in
    subst (HasJust new) (sym (near.set_is None)) (released_just laws old new near.before near.after load (subst (HasJust old) near.is just) owner call)

pub place_begun : ViewLaws → HistoriesAreSound CoreValue Reply → (old new : Caller) (hs : Holds) (place : ℕ) (load : HoldValue) (spec : LoadSpec) (reply : NotedReply) → HasJust old (loads_in hs) → slice_get hs place ≡ Some None
    → IsLoaded (Ok load) reply → IsCall old (events.Load spec) reply new → load.number ≡ (knowledge_of old).begun → HasLoad new load → HasJust new (loads_in (set hs place (Some load)))
place_begun laws sounds old new hs place load spec reply just free loaded call number has =
    let near = around hs place None free in
    let owner : IsOwner new = owner_stays laws.opening old new (events.Load spec) reply tt just.owner call in
    subst (HasJust new) (sym (near.set_is (Some load))) (begun_just laws old new near.before near.after load sounds spec reply (subst (HasJust old) near.is just) owner (accepted_of load reply loaded) call number has)

-- where a place holds nothing, the caller has fewer loads than it may have
pub not_full : (c : Caller) (hs : Holds) (place : ℕ) → HasJust c (loads_in hs) → slice_get hs place ≡ Some None → length hs ≤ views_limit → len (knowledge_of c).loads ≡ quota_of c → ⊥
not_full c hs place just free within full = absurd (omega (arith, just.count, just.owner.room, full, within, fewer_loads hs place free))
