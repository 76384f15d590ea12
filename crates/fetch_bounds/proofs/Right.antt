-- What a load of seat 0 has failed for is what the content gives its key, or nothing that content says.
use Rattle.std.proofs.Common.{Err, Some, ap, arith, false, inl, inr, subst, sym, true, ℕ, ◌<◌, ◌∙◌, ◌≡◌, ◌≢◌}
use Rattle.std.specs.FinMap.{get}
use Rattle.std.specs.Prelude.{◌⊎◌}
use Rattle.cache_key.specs.Key.{Key}
use Rattle.cache_key.specs.declared.load_spec.LoadSpec.{LoadSpec}
use Rattle.engine_world.specs.Knowledge.{Knowledge, OwnLoad, after_load, knowledge_with, own_load, updated}
use Rattle.engine_world.specs.Permits.{IsCause, IsCauseOf, Permits}
use Rattle.engine_world.specs.Sound.{RefersTo, Sound}
use Rattle.engine_world.specs.Steps.{Transition}
use Rattle.engine_world.specs.World.{Job, World}
use Rattle.engine_world.specs.declared.events.Event.{Event}
use Rattle.engine_world.specs.declared.events.NotedReply.{NotedReply}
use Rattle.finite_maps.specs.MapLaws.{same_Some}
use Rattle.load_cause.specs.Ends.{end_in}
use Rattle.load_cause.specs.declared.causes.Cause.{Cause}
use Rattle.load_table.specs.declared.loads.LoadState.TheVariants.{Failed, Waiting}
use Rattle.outside.specs.Content.{Contents}
use Rattle.fetch_bounds.proofs.Changing.{failed_law}
use Rattle.fetch_bounds.proofs.Entries.{work_knows}
use Rattle.fetch_bounds.proofs.Seats.{Runs, at_each_seat, runs, there_known}
use Rattle.fetch_bounds.specs.Follows.{IsWork}
use Rattle.fetch_bounds.specs.Laws.{IsFree}
use Rattle.load_cause.specs.declared.causes.Cause.TheVariants as causes
use Rattle.engine_world.specs.declared.events.Event.TheVariants as events
use Rattle.engine_world.specs.declared.events.NotedReply.TheVariants as replies
use Rattle.engine_world.specs.NumberLaws.{gone_found, put_other}

-- It asks for the same: it has the key, and is for what is cached alone or not.
abbrev pub AsksSame : OwnLoad → OwnLoad → Type 0
AsksSame now own = (now.key ≡ own.key) × (now.cached ≡ own.cached)

same_asks : (now own : OwnLoad) → now ≡ own → AsksSame now own
same_asks now own same = (ap (λ (l : OwnLoad). l.key) same, ap (λ (l : OwnLoad). l.cached) same)

load_asks : (spec : LoadSpec) (reply : NotedReply) (known : Knowledge) (n : ℕ) (own now : OwnLoad) → n ≢ known.begun → get known.loads n ≡ Some own → get (after_load spec reply known).loads n ≡ Some now → AsksSame now own
load_asks spec replies.Full known n own now ne at then = same_asks now own (same_Some _ _ (sym then ∙ at))
load_asks spec replies.Ready known n own now ne at then = same_asks now own (same_Some _ _ (sym then ∙ put_other known.loads known.begun (own_load spec true) n ne ∙ at))
load_asks spec reply known n own now ne at then = same_asks now own (same_Some _ _ (sym then ∙ put_other known.loads known.begun (own_load spec false) n ne ∙ at))

work_asks : (event : Event) (reply : NotedReply) (known : Knowledge) (n : ℕ) (own now : OwnLoad) → IsWork event → get known.loads n ≡ Some own → get (updated event reply known).loads n ≡ Some now → AsksSame now own
work_asks event reply known n own now is at then =
    let old = (work_knows event reply known is).known n now then in
    let same = same_asks old.0 own (same_Some _ _ (sym old.1 ∙ at)) in
    (old.2 ∙ same.0, old.3 ∙ same.1)

own_asks : (event : Event) (reply : NotedReply) (known : Knowledge) (n : ℕ) (own now : OwnLoad) → ((m : ℕ) (load : OwnLoad) → get known.loads m ≡ Some load → m < known.begun)
    → get known.loads n ≡ Some own → get (updated event reply known).loads n ≡ Some now → AsksSame now own
own_asks (events.Load spec) reply known n own now below at then = load_asks spec reply known n own now (λ is. absurd (omega (arith, below n own at, is))) at then
own_asks (events.Release m) reply known n own now below at then = same_asks now own (same_Some _ _ (sym (gone_found known.loads m n now then).1 ∙ at))
own_asks (events.Trim level) reply known n own now below at then = same_asks now own (same_Some _ _ (sym then ∙ at))
own_asks event reply known n own now below at then = work_asks event reply known n own now tt at then

-- a load asks for the same through each entry
pub still_asks : (w : World) (known : ℕ → Knowledge) → Sound w known → (who : ℕ) (event : Event) (reply : NotedReply) (seat n : ℕ) (own now : OwnLoad)
    → get (known seat).loads n ≡ Some own → get (knowledge_with known who event reply seat).loads n ≡ Some now → AsksSame now own
still_asks w known s who event reply seat n own now at then =
    at_each_seat (λ q kn. (l : OwnLoad) → get (known q).loads n ≡ Some l → get kn.loads n ≡ Some now → AsksSame now l) known who event reply
    (λ q ne l l_at now_at. same_asks now l (same_Some _ _ (sym now_at ∙ l_at)))
    (λ l l_at now_at. own_asks event reply (known who) n l now (s.known_is who).below l_at now_at) seat own at then

module _ (c : Contents) where
  -- Each load of seat 0 that has failed is right.
  abbrev pub AllRight : World → Knowledge → Type 0
  AllRight w known = (n : ℕ) (own : OwnLoad) (cause : Cause) → get known.loads n ≡ Some own → get w.loads (0, n) ≡ Some (Failed cause) → IsCauseOf c own.key cause

  pub right_law : (w m : World) (known : ℕ → Knowledge) (who : ℕ) (event : Event) (reply : NotedReply) → Sound w known → w.content ≡ Some c → Permits w.content (known who) event → Transition w who event reply m
      → AllRight w (known 0) → AllRight m (knowledge_with known who event reply 0)
  right_law w m known who event reply s told permits step right n now cause now_at failed =
      let knows = s.known_is 0 in
      let key_is : (own : OwnLoad) → get (known 0).loads n ≡ Some own → now.key ≡ own.key = λ own own_at. (still_asks w known s who event reply 0 n own now own_at now_at).0 in
      elim (failed_law w m (0, n) cause who event reply step failed) [
        | inl before ↦
            let old = there_known w.jobs w.resources (get (known 0).loads n) (get w.loads (0, n)) (Failed cause) before (knows.each n) in
            subst (λ k. IsCauseOf c k cause) (sym (key_is old.0 old.1)) (right n old.0 cause old.1 before)
        | inr new ↦
            let old = there_known w.jobs w.resources (get (known 0).loads n) (get w.loads (0, n)) (Waiting new.0) new.2 (knows.each n) in
            let refers : RefersTo w.jobs w.resources old.0 (Waiting new.0) = old.2.refers in
            let mine : Permits w.content (known who) (events.Fail new.0 cause) = subst (Permits w.content (known who)) new.1 permits in
            let r : Runs w who new.0 mine.0.job = runs w known who new.0 s mine.0 in
            let says : IsCause (Some c) mine.0.job.spec.key cause = subst (λ o. IsCause o mine.0.job.spec.key cause) told mine.2 in
            let same : mine.0.job.spec.key ≡ old.0.key = ap (λ (x : LoadSpec). x.key) (sym r.is.spec) ∙ ap (λ (j : Job). j.spec.key) (same_Some _ _ (sym r.at ∙ refers.1)) ∙ refers.3 in
            subst (λ k. IsCauseOf c k cause) (same ∙ sym (key_is old.0 old.1)) says
      ]

  -- what a load has failed for is what its key comes to, or free
  pub right_or_free : (key : Key) (cause : Cause) → IsCauseOf c key cause → (end_in c key ≡ Err cause) ⊎ IsFree cause
  right_or_free key causes.Missing right = inl right
  right_or_free key (causes.Refused refusal) right = inl right
  right_or_free key causes.Source right = inr tt
  right_or_free key causes.Memory right = inr tt
  right_or_free key causes.Uncached right = inr tt
