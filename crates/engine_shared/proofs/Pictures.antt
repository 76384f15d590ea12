-- The picture that a load shows.
use Rattle.std.proofs.Common.{◌≡◌, ℕ, List, [], ◌∷◌, ◌++◌, ◌<◌, length, Some, refl, ap, sym, subst, ◌∙◌, inl, inr}
use Rattle.std.specs.Option.{option_map}
use Rattle.std.specs.FinMap.{get}
use Rattle.std.proofs.lemmas.List.{append_assoc}
use Rattle.engine_world.specs.declared.events.Event.TheVariants as events
use Rattle.state_machine.specs.declared.entry.Entry.{Entry}
use Rattle.state_machine.specs.Histories.{own}
use Rattle.state_machine.specs.Legal as histories
use Rattle.load_table.specs.Loads.{LoadName}
use Rattle.engine_world.specs.declared.events.Event.{Event}
use Rattle.engine_world.specs.declared.events.Note.{Note}
use Rattle.engine_world.specs.World.{Limits, Resource, World, opening}
use Rattle.engine_world.specs.Knowledge.{knowledge_in}
use Rattle.engine_world.specs.Permits.{Permits}
use Rattle.engine_world.specs.Laws.{IsHold, IsRelease, NoRelease, ShowsItsKey}
use Rattle.engine_core.specs.CoreView.{note_of}
use Rattle.engine_shared.specs.Caller.{Caller, shown_by, engine, Leads, IsLegal, entry_of}
use Rattle.engine_shared.specs.CallLaws.{ShowsItsPicture, ShowsOnePicture, StepsAreCalls, caller_after}
use Rattle.engine_shared.specs.inside.EngineLaws.{EngineLaws}
use Rattle.engine_shared.proofs.EngineLaws.{sound_of}
use Rattle.engine_shared.proofs.Steps.{some_in, last_or_before, fixed_along, own_has, known_beside, known_after}

-- what a load that is ready on a resource shows
shows_resource : (w : World) (who n r : ℕ) (resource : Resource) → IsHold w (who, n) r resource → shown_by w (get w.loads (who, n)) ≡ Some resource.picture
shows_resource w who n r resource hold = ap (shown_by w) hold.ready ∙ ap (option_map (λ (a : Resource). a.picture)) hold.there

-- a load is released by its owner
released_by : (who n k : ℕ) (event : Event) → IsRelease (who, n) k event → k ≡ who
released_by who n k (events.Load spec) is = absurd is
released_by who n k (events.Collect m) is = absurd is
released_by who n k (events.Look m) is = absurd is
released_by who n k (events.Read m at) is = absurd is
released_by who n k (events.Release m) is = sym (ap (λ (name : LoadName). name.0) is)
released_by who n k (events.NextJob room) is = absurd is
released_by who n k (events.Take j width height config) is = absurd is
released_by who n k (events.GiveBack j bitmap) is = absurd is
released_by who n k (events.Finish j bitmap) is = absurd is
released_by who n k (events.Fail j cause) is = absurd is
released_by who n k (events.Quit j) is = absurd is
released_by who n k (events.IsCancelled j) is = absurd is
released_by who n k (events.Trim level) is = absurd is
released_by who n k events.Close is = absurd is
released_by who n k events.Totals is = absurd is

module _ (laws : EngineLaws) where
  pub shows_its_picture : ShowsItsPicture
  shows_its_picture c legal n load is ready =
      let on : ShowsItsKey c.world (c.who, n) load.key = laws.shows c.world (knowledge_in c.seen) c.who n load (sound_of laws c legal) is ready in
      (on.resource.picture, shows_resource c.world c.who n on.number on.resource on.hold, on.picture_is)

  pub shows_one_picture : ShowsOnePicture
  shows_one_picture old new later legal next who seen leads n own none =
      let on : ShowsItsKey old.world (old.who, n) own.0.key = laws.shows old.world (knowledge_in old.seen) old.who n own.0 (sound_of laws old legal) own.1 own.2 in
      let fixed = fixed_along laws.opening old.world new.world later leads in
      let whole : histories.IsLegal engine (opening old.world.limits old.world.content) (old.seen ++ later) new.world =
      subst (λ l. histories.IsLegal engine (opening l old.world.content) (old.seen ++ later) new.world) fixed.0
      (subst (λ c. histories.IsLegal engine (opening new.world.limits c) (old.seen ++ later) new.world) fixed.1
      (subst (λ h. histories.IsLegal engine (opening new.world.limits new.world.content) h new.world) seen next.past)) in
      let now : IsHold new.world (old.who, n) on.number on.resource =
      laws.holds (λ core. core.world) (λ core. core.history) note_of old.world.limits old.world.content old.seen later old.world new.world legal.past whole leads (old.who, n) on.number on.resource on.hold none in
      ap (λ k. shown_by new.world (get new.world.loads (k, n))) who
      ∙ shows_resource new.world old.who n on.number on.resource now
      ∙ sym (shows_resource old.world old.who n on.number on.resource on.hold)

  -- None of these entries is the caller's release of the load.
  no_release : (who n : ℕ) (others : List (Entry Note)) (e : Entry Note) → own who others ≡ [] → (IsRelease (who, n) e.by e.note.event → ⊥) → NoRelease (who, n) (others ++ e ∷ [])
  no_release who n others e none not xs ys d is release = elim (last_or_before others xs ys e d is) [
    | inl h ↦ not (subst (λ (a : Entry Note). IsRelease (who, n) a.by a.note.event) h.1 release)
    | inr h ↦ some_in (own who xs) (own who h.0) d (sym (own_has laws.own who xs h.0 d (released_by who n d.by d.note.event release)) ∙ ap (own who) (sym h.1) ∙ none)
  ]

  -- the entry that a caller adds may follow
  pub steps_are_calls : StepsAreCalls
  steps_are_calls old event reply others before after legal none led past permits step =
      let e : Entry Note = entry_of old event reply in
      let first = fixed_along laws.opening old.world before others led in
      let whole : Leads old.world (others ++ e ∷ []) after = laws.join old.world before after others (e ∷ []) led (after, step, refl) in
      let fixed = fixed_along laws.opening old.world after (others ++ e ∷ []) whole in
      let now : Caller = caller_after old others event reply after in
      let there : histories.IsLegal engine (opening old.world.limits old.world.content) (old.seen ++ others) before =
      subst (λ l. histories.IsLegal engine (opening l old.world.content) (old.seen ++ others) before) first.0
      (subst (λ c. histories.IsLegal engine (opening before.limits c) (old.seen ++ others) before) first.1 past) in
      let grown : histories.IsLegal engine (opening old.world.limits old.world.content) now.seen after =
      laws.grow (opening old.world.limits old.world.content) before after (old.seen ++ others) e there
      (record {
        seat = legal.seat;
        asked = subst (λ k. Permits old.world.content k event) (sym (known_beside laws.own old.who old.seen others none)) permits;
      }) step in
      let next : IsLegal now = record {
        past = subst (λ l. histories.IsLegal engine (opening l after.content) now.seen after) (sym fixed.0)
            (subst (λ c. histories.IsLegal engine (opening old.world.limits c) now.seen after) (sym fixed.1) grown);
        seat = subst (λ (l : Limits). old.who < length l.quotas) (sym fixed.0) legal.seat;
      } in
      record {
        others = others;
        before = before;
        who = refl;
        seen = refl;
        none_own = none;
        led = led;
        past = past;
        step = step;
        legal = next;
        content = fixed.1;
        knowledge = known_after laws.own old.who old.seen others e none refl;
        pictures = λ n own not. shows_one_picture old now (others ++ e ∷ []) legal next refl (append_assoc old.seen others (e ∷ [])) whole n own (no_release old.who n others e none not);
      }
