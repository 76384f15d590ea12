-- The engine's only caller: no other makes a step between two of its calls, and it stays the only one.
use Rattle.std.proofs.Common.{◌≡◌, ◌<◌, ◌≤◌, cond, List, [], ◌∷◌, ◌++◌, length, refl, ap, sym, subst, ◌∙◌, arith, append_assoc, append-nil}
use Rattle.std.specs.Prelude.{⊤, slice_index_or}
use Rattle.std.proofs.lemmas.Bool.{eq-eqb}
use Rattle.request_tracker.specs.Limits.{views_limit}
use Rattle.state_machine.specs.declared.entry.Entry.{Entry}
use Rattle.state_machine.specs.Histories.{own}
use Rattle.engine_world.specs.declared.events.Event.{Event}
use Rattle.engine_world.specs.declared.events.NotedReply.{NotedReply}
use Rattle.engine_world.specs.declared.events.Note.{Note}
use Rattle.engine_world.specs.World.{World}
use Rattle.engine_world.specs.Steps.{Transition}
use Rattle.engine_world.specs.EngineMachine.{opening_of}
use Rattle.engine_world.specs.Laws.{KeepsOpening}
use Rattle.engine_shared.specs.Caller.{Caller, quota_of, Leads, IsPast, IsLegal, entry_of, IsCall}
use Rattle.engine_views.specs.Owner.{IsOwner}
use Rattle.engine_views.proofs.StaysOpen.{LeavesOpen, stays_open}

-- ---- histories of one seat

-- Seat 0 made all these entries.
abbrev pub AllFirst : List (Entry Note) → Type 0
AllFirst [] = ⊤
AllFirst (e ∷ es) = (e.by ≡ 0) × AllFirst es

-- They are all its own.
pub own_are_all : (es : List (Entry Note)) → AllFirst es → own 0 es ≡ es
own_are_all [] all = refl
own_are_all (e ∷ es) all =
    ap (λ b. cond b (e ∷ own 0 es) (own 0 es)) (eq-eqb e.by 0 all.0) ∙ ap (λ l. e ∷ l) (own_are_all es all.1)

-- Where an engine has one seat, that made each part of what a caller has seen.
pub all_first : (c : Caller) → IsLegal c → length c.world.limits.quotas ≡ 1 → (before es after : List (Entry Note)) → c.seen ≡ before ++ (es ++ after) → AllFirst es
all_first c legal one before [] after is = tt
all_first c legal one before (e ∷ es) after is =
    let may = legal.past.asked before (es ++ after) e is in
    let seat : e.by < length c.world.limits.quotas = may.seat in (
      omega (arith, seat, one),
      all_first c legal one (before ++ e ∷ []) es after (is ∙ sym (append_assoc before (e ∷ []) (es ++ after))),
    )

-- A call of the engine's only caller is one step, and adds one entry.
pub record IsStep (old : Caller) (event : Event) (reply : NotedReply) (new : Caller) : Type 0 where
  pub step : Transition old.world old.who event reply new.world
  pub seen : new.seen ≡ old.seen ++ entry_of old event reply ∷ []
  pub past : IsPast old.world old.seen
  pub opening : opening_of new.world ≡ opening_of old.world

-- What keeps its seat at an engine that stays open, with its limits, stays the only caller.
pub still_owner : (old new : Caller) → IsOwner old → IsLegal new → new.who ≡ old.who → opening_of new.world ≡ opening_of old.world
    → new.world.closed ≡ old.world.closed → IsOwner new
still_owner old new owner legal who opening closed =
    let quota : quota_of new ≡ quota_of old =
    ap (λ (w : World). slice_index_or w.limits.quotas new.who 0) opening ∙ ap (λ k. slice_index_or old.world.limits.quotas k 0) who in
    record {
      legal = legal;
      who = who ∙ owner.who;
      seats = ap (λ (w : World). length w.limits.quotas) opening ∙ owner.seats;
      room = subst (λ n. views_limit ≤ n) (sym quota) owner.room;
      is_open = closed ∙ owner.is_open;
    }

module _ (opens : (event : Event) → KeepsOpening event) where
  -- Steps leave the world that the engine opened with.
  pub opening_along : (from to : World) (history : List (Entry Note)) → Leads from history to → opening_of to ≡ opening_of from
  opening_along from to [] leads = ap opening_of (sym leads)
  opening_along from to (e ∷ history) leads =
      opening_along leads.0 to history leads.2 ∙ opens e.note.event from leads.0 e.by e.note.reply leads.1

  pub opening_after : (old new : Caller) (event : Event) (reply : NotedReply) → IsCall old event reply new → opening_of new.world ≡ opening_of old.world
  opening_after old new event reply call =
      opens event call.before new.world old.who reply call.step ∙ opening_along old.world call.before call.others call.led

  -- Before a call of seat 0 no other made a step, where that is the only one.
  pub no_others : (old new : Caller) (event : Event) (reply : NotedReply) → old.who ≡ 0 → length old.world.limits.quotas ≡ 1
      → (call : IsCall old event reply new) → call.others ≡ []
  no_others old new event reply first one call =
      let one_now : length new.world.limits.quotas ≡ 1 = ap (λ (w : World). length w.limits.quotas) (opening_after old new event reply call) ∙ one in
      let last = entry_of old event reply ∷ [] in
      let all : AllFirst call.others = all_first new call.legal one_now old.seen call.others last (call.seen ∙ append_assoc old.seen call.others last) in
      sym (own_are_all call.others all) ∙ ap (λ k. own k call.others) (sym first) ∙ call.none_own

  pub one_step : (old new : Caller) (event : Event) (reply : NotedReply) → old.who ≡ 0 → length old.world.limits.quotas ≡ 1
      → IsCall old event reply new → IsStep old event reply new
  one_step old new event reply first one call =
      let none : call.others ≡ [] = no_others old new event reply first one call in
      let start : old.world ≡ call.before = subst (λ l. Leads old.world l call.before) none call.led in
      let same : old.seen ++ call.others ≡ old.seen = ap (λ l. old.seen ++ l) none ∙ append-nil old.seen in
      record {
        step = subst (λ w. Transition w old.who event reply new.world) (sym start) call.step;
        seen = call.seen ∙ ap (λ l. l ++ entry_of old event reply ∷ []) same;
        past = subst (λ w. IsPast w old.seen) (sym start) (subst (IsPast call.before) same call.past);
        opening = opening_after old new event reply call;
      }

  -- Each call but Close leaves the only caller so.
  pub owner_stays : (old new : Caller) (event : Event) (reply : NotedReply) → LeavesOpen event → IsOwner old
      → IsCall old event reply new → IsOwner new
  owner_stays old new event reply leaves owner call =
      let is : IsStep old event reply new = one_step old new event reply owner.who owner.seats call in
      still_owner old new owner call.legal call.who is.opening (stays_open old.world new.world old.who event reply leaves is.step)
