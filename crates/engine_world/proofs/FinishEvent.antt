-- The event Finish.
use Rattle.std.proofs.Common.{◌≡◌, ◌≢◌, ℕ, ◌<◌, Bool, true, false, cond, Some, Option, refl, ap, sym, subst, ◌∙◌, inl, inr, arith}
use Rattle.std.specs.Prelude.{not}
use Rattle.std.specs.FinMap.{get, insert, remove}
use Rattle.std.specs.FinSet as set
use Rattle.bitmap_kind.specs.Picture.{BitmapValue}
use Rattle.engine_world.specs.declared.events.Event.TheVariants as events
use Rattle.engine_world.specs.declared.events.NotedReply.TheVariants as replies
use Rattle.finite_maps.specs.Maps.{map_values}
use Rattle.bitmap_pool.specs.Pool.{pool_put}
use Rattle.load_table.specs.declared.loads.Settle.TheVariants as settles
use Rattle.load_table.specs.Loads.{settled, holders}
use Rattle.active_resources.specs.Actives.{Numbers}
use Rattle.engine_world.specs.World.{Loads, Job, Resource, World}
use Rattle.engine_world.specs.Places.{occurrences}
use Rattle.engine_world.specs.Moves.{active_of, end_job}
use Rattle.engine_world.specs.Steps.{replace, activate, finish_kept, finish_cancelled, finish}
use Rattle.engine_world.specs.Knowledge.{Knowledge, knowledge_with}
use Rattle.engine_world.specs.Sound.{IsCacheable, ActiveAre, KnowledgeAgrees, Sound}
use Rattle.engine_world.specs.Laws.{KeepsSound}
use Rattle.engine_world.specs.OccurrenceLaws.{one_if_same, one_if_other}
use Rattle.engine_world.specs.NumberLaws.{put_same, put_other, gone_found}
use Rattle.engine_world.proofs.Parts.{facts_of}
use Rattle.finite_maps.specs.MapLaws.{same_Some}
use Rattle.engine_world.proofs.Orders.{at_each_seat}
use Rattle.engine_world.proofs.PoolLaws.{pool_put_is, pool_put_number}
use Rattle.engine_world.proofs.Jobs.{jobs_gone, lent_gone}
use Rattle.engine_world.proofs.Placing.{out_gone, places_less}
use Rattle.engine_world.proofs.QuietEvents.{from_outcome}
use Rattle.engine_world.proofs.TakeEvent.{Runs, runs}
use Rattle.engine_world.proofs.Ends.{holders_settled, held_settled}
use Rattle.engine_world.proofs.EndEvents.{gone_other_knows, gone_mine_knows, set_insert_cases, replaced_apart, out_is_fresh, Finished, out_counts, finish_with}

module _ (w : World) (known : ℕ → Knowledge) (who j : ℕ) (bitmap : BitmapValue) (f : Finished w known who j bitmap) where
  abbrev made : Bool → Resource
  made cacheable = record { key = f.r.job.spec.key; cacheable = cacheable; allocation = bitmap.allocation; picture = bitmap.picture }

  abbrev loads_after : Loads
  loads_after = map_values (settled j (settles.Ready bitmap.number)) w.loads

  fresh : (occurrences bitmap.number w.cached ≡ 0) × ((resource : Resource) → get w.resources bitmap.number ≢ Some resource)
  fresh = out_is_fresh w known j f.r.job bitmap.number f.s f.r.at (omega (arith, out_counts w known who j bitmap f bitmap.number, one_if_same bitmap.number))

  -- what was active is so still
  still : (cacheable : Bool) (q : ℕ) → set.contains w.active q ≡ true → (q ≢ bitmap.number) × IsCacheable (insert w.resources bitmap.number (made cacheable)) q × (0 < holders q loads_after)
  still cacheable q is =
      let old = f.s.active.each q is in
      let ne : q ≢ bitmap.number = λ same. fresh.1 old.0.0 (ap (get w.resources) (sym same) ∙ old.0.1) in
      let count : holders q loads_after ≡ holders q w.loads = holders_settled w.loads j (settles.Ready bitmap.number) q (one_if_other bitmap.number q (λ e. ne (sym e))) in
      (ne, (old.0.0, put_other w.resources bitmap.number (made cacheable) q ne ∙ old.0.1, old.0.2), omega (arith, count, old.1))

  old_at : (cacheable : Bool) (q : ℕ) (a : Resource) → q ≢ bitmap.number → get (insert w.resources bitmap.number (made cacheable)) q ≡ Some a → get w.resources q ≡ Some a
  old_at cacheable q a ne at = sym (put_other w.resources bitmap.number (made cacheable) q ne) ∙ at

  not_activated : ActiveAre loads_after (insert w.resources bitmap.number (made false)) w.active
  not_activated = record {
    each = λ q is. let now = still false q is in (now.1, now.2);
    apart = λ p q a b p_in q_in at bt. f.s.active.apart p q a b p_in q_in (old_at false p a (still false p p_in).0 at) (old_at false q b (still false q q_in).0 bt);
  }

  activated : f.r.job.cancelled ≡ false → ActiveAre loads_after (insert w.resources bitmap.number (made true)) (set.insert (replace (active_of w.resources w.active f.r.job.spec.key) w.active) bitmap.number)
  activated live =
      let n = bitmap.number in
      let key = f.r.job.spec.key in
      let left : Numbers = replace (active_of w.resources w.active key) w.active in
      let held : 0 < holders n loads_after = omega (arith, f.s.awaited j f.r.job f.r.at live, held_settled w.loads j n) in
      let apart : (q : ℕ) → set.contains left q ≡ true → (set.contains w.active q ≡ true) × ((resource : Resource) → get w.resources q ≡ Some resource → resource.key ≢ key) =
      λ q is. replaced_apart w.resources w.active key q (λ r e. (f.s.active.each r e).0) f.s.active.apart is in
      let mine : (q : ℕ) (a : Resource) → q ≡ n → get (insert w.resources n (made true)) q ≡ Some a → made true ≡ a = λ q a same at. same_Some _ _ (sym (put_same w.resources n (made true)) ∙ ap (get (insert w.resources n (made true))) (sym same) ∙ at) in
      let theirs : (q : ℕ) (a : Resource) → set.contains left q ≡ true → get (insert w.resources n (made true)) q ≡ Some a → a.key ≢ key = λ q a is at. (apart q is).1 a (old_at true q a (still true q (apart q is).0).0 at) in
      record {
        each = λ q is. elim (set_insert_cases left n q is) [
          | inl same ↦ ((made true, ap (get (insert w.resources n (made true))) same ∙ put_same w.resources n (made true), refl), subst (λ c. 0 < holders c loads_after) (sym same) held)
          | inr is ↦ let now = still true q (apart q is).0 in (now.1, now.2)
        ];
        apart = λ p q a b p_in q_in at bt keys. elim (set_insert_cases left n p p_in) [
          | inl p_is ↦ elim (set_insert_cases left n q q_in) [
            | inl q_is ↦ p_is ∙ sym q_is
            | inr q_is ↦ absurd (theirs q b q_is bt (sym keys ∙ ap (λ (r : Resource). r.key) (sym (mine p a p_is at))))
          ]
          | inr p_is ↦ elim (set_insert_cases left n q q_in) [
            | inl q_is ↦ absurd (theirs p a p_is at (keys ∙ ap (λ (r : Resource). r.key) (sym (mine q b q_is bt))))
            | inr q_is ↦ f.s.active.apart p q a b (apart p p_is).0 (apart q q_is).0 (old_at true p a (still true p (apart p p_is).0).0 at) (old_at true q b (still true q (apart q q_is).0).0 bt) keys
          ]
        ];
      }

  finish_kept_keeps : f.r.job.cancelled ≡ false → Sound (finish_kept w j f.r.job bitmap).1 (knowledge_with known who (events.Finish j bitmap) replies.Done)
  finish_kept_keeps live = elim (not f.r.job.spec.skip) as (λ b. Sound (end_job j (settles.Ready bitmap.number) (record (activate b bitmap.number (made b) w) { resources = insert w.resources bitmap.number (made b) })) (knowledge_with known who (events.Finish j bitmap) replies.Done)) [
    | true ↦ finish_with w known who j bitmap f live true _ (activated live)
    | false ↦ finish_with w known who j bitmap f live false w.active not_activated
  ]

  finish_cancelled_keeps : f.r.job.cancelled ≡ true → Sound (finish_cancelled w j bitmap).1 (knowledge_with known who (events.Finish j bitmap) replies.Discarded)
  finish_cancelled_keeps dead =
      let s = f.s in
      let n = bitmap.number in
      let pool = pool_put w.limits.pool bitmap.allocation bitmap.picture.config n w.pool in
      record {
        places = places_less w.loads w.jobs (remove w.jobs j) w.resources w.cached w.pool pool w.next (λ b.
            omega (arith, out_gone w.jobs j f.r.job b f.r.at, out_counts w known who j bitmap f b, pool_put_number w.limits.pool bitmap.allocation bitmap.picture.config n b w.pool)) s.places;
        awaited = λ i a at live. s.awaited i a (gone_found w.jobs j i a at).1 live;
        jobs = jobs_gone w.jobs j w.counts.started s.jobs;
        active = s.active;
        cached = s.cached;
        pool = pool_put_is w.limits.pool bitmap.allocation bitmap.picture.config n w.pool s.pool;
        lent = lent_gone w.jobs j s.lent;
        resources = s.resources;
        seats = s.seats;
        known_is = at_each_seat (KnowledgeAgrees (facts_of w.loads (remove w.jobs j) w.resources w.begun)) known who (events.Finish j bitmap) replies.Discarded
            (λ k ne. gone_other_knows w known who j k s f.run f.r dead ne) (gone_mine_knows w known who j s f.run f.r dead);
      }

  pub finish_keeps : Sound (finish w j (Some f.r.job) bitmap).1 (knowledge_with known who (events.Finish j bitmap) (finish w j (Some f.r.job) bitmap).0)
  finish_keeps = elim f.r.job.cancelled as (λ b. f.r.job.cancelled ≡ b
      → Sound (cond b (finish_cancelled w j bitmap) (finish_kept w j f.r.job bitmap)).1 (knowledge_with known who (events.Finish j bitmap) (cond b (finish_cancelled w j bitmap) (finish_kept w j f.r.job bitmap)).0)) [
        | true ↦ λ e. finish_cancelled_keeps e
        | false ↦ λ e. finish_kept_keeps e
      ] refl

pub finish_law : (j : ℕ) (bitmap : BitmapValue) → KeepsSound (events.Finish j bitmap)
finish_law j bitmap w z known who reply in_range s permits step =
    let r : Runs w who j permits.0.job = runs w known who j s permits.0 in
    let f : Finished w known who j bitmap = record { s = s; run = permits.0; r = r; result = permits.1; shown = permits.2 } in
    from_outcome known who (events.Finish j bitmap) reply z (finish w j (get w.jobs j) bitmap) step
    (subst (λ (o : Option Job). Sound (finish w j o bitmap).1 (knowledge_with known who (events.Finish j bitmap) (finish w j o bitmap).0)) (sym r.at) (finish_keeps w known who j bitmap f))
