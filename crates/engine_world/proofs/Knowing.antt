-- How a seat's knowledge stays true.
use Rattle.std.proofs.Common.{◌≡◌, ℕ, ◌+◌, ◌<◌, true, cond, List, Some, None, Option, refl, ap, sym, subst, ◌∙◌, inl, inr}
use Rattle.std.specs.Cmp.{nat_cmp_total}
use Rattle.std.specs.FinMap.{get, insert, len, len-insert, nat_cmp-IsAntisymmetric}
use Rattle.std.specs.Option.{is_some}
use Rattle.load_table.specs.declared.loads.LoadState.TheVariants.{Ready}
use Rattle.engine_world.specs.World.{LoadState, Loads, Job, Jobs, Resources}
use Rattle.engine_world.specs.Knowledge.{OwnLoad, OwnJob, Knowledge, job_cancelled}
use Rattle.engine_world.specs.Sound.{LoadAgrees, LoadsAgree, JobAgrees, KnowledgeAgrees}
use Rattle.engine_world.proofs.Parts.{facts_of}
use Rattle.finite_maps.specs.MapLaws.{same_Some, key_cases, get-insert_same, get-insert_other, insert_cases}

module _ (loads : Loads) (jobs : Jobs) (resources : Resources) where
  -- what is known of a load, where it and its state are found
  pub agrees : (own : Option OwnLoad) (state : Option LoadState) (load : OwnLoad) (s : LoadState) → own ≡ Some load → state ≡ Some s → LoadAgrees jobs resources load s → LoadsAgree jobs resources own state
  agrees own state load s e f is = subst (λ o. LoadsAgree jobs resources o state) (sym e) (subst (λ o. LoadsAgree jobs resources (Some load) o) (sym f) is)

  -- and the other way round
  pub agreed : (own : Option OwnLoad) (state : Option LoadState) (load : OwnLoad) (s : LoadState) → own ≡ Some load → state ≡ Some s → LoadsAgree jobs resources own state → LoadAgrees jobs resources load s
  agreed own state load s e f is = subst (λ o. LoadsAgree jobs resources (Some load) o) f (subst (λ o. LoadsAgree jobs resources o state) e is)

  -- a load that its owner knows is there
  pub known_there : (own : Option OwnLoad) (state : Option LoadState) (load : OwnLoad) → own ≡ Some load → LoadsAgree jobs resources own state → (s : LoadState) × (state ≡ Some s) × LoadAgrees jobs resources load s
  known_there own None load e is = absurd (subst (λ o. LoadsAgree jobs resources o None) e is)
  known_there own (Some s) load e is = (s, refl, subst (λ o. LoadsAgree jobs resources o (Some s)) e is)

  -- a load that is there is known to its owner
  pub there_known : (own : Option OwnLoad) (state : Option LoadState) (s : LoadState) → state ≡ Some s → LoadsAgree jobs resources own state → (load : OwnLoad) × (own ≡ Some load) × LoadAgrees jobs resources load s
  there_known None state s e is = absurd (subst (λ o. LoadsAgree jobs resources None o) e is)
  there_known (Some load) state s e is = (load, refl, subst (λ o. LoadsAgree jobs resources (Some load) o) e is)

  module _ (begun : List ℕ) (who : ℕ) (known : Knowledge) (k : KnowledgeAgrees (facts_of loads jobs resources begun) who known) where
    -- a load was answered Ready
    pub knows_ready : (n r : ℕ) (load : OwnLoad) → get known.loads n ≡ Some load → get loads (who, n) ≡ Some (Ready r)
        → KnowledgeAgrees (facts_of loads jobs resources begun) who (record known { loads = insert known.loads n (record load { ready = true }) })
    knows_ready n r load is at = record {
      count = k.count;
      below = λ q l e. elim (insert_cases nat_cmp_total nat_cmp-IsAntisymmetric known.loads n (record load { ready = true }) q l e) [
        | inl h ↦ subst (λ i. i < known.begun) (sym h.0) (k.below n load is)
        | inr h ↦ k.below q l h.1
      ];
      each = λ q. elim (key_cases nat_cmp_total nat_cmp-IsAntisymmetric q n) [
        | inl same ↦ subst (λ i. LoadsAgree jobs resources (get (insert known.loads n (record load { ready = true })) i) (get loads (who, i))) (sym same)
            (agrees _ _ (record load { ready = true }) (Ready r) (get-insert_same nat_cmp_total nat_cmp-IsAntisymmetric known.loads n _) at
            (record { refers = (agreed _ _ load (Ready r) is at (k.each n)).refers; ready = λ _. tt }))
        | inr ne ↦ subst (λ o. LoadsAgree jobs resources o (get loads (who, q))) (sym (get-insert_other nat_cmp_total nat_cmp-IsAntisymmetric known.loads n _ q ne)) (k.each q)
      ];
      live = k.live ∙ sym (len-insert nat_cmp_total known.loads n _ ∙ ap (λ o. cond (is_some o) (len known.loads) (len known.loads + 1)) is);
      runs = k.runs;
      knows = k.knows;
    }

    -- a seat was told that its job is cancelled
    pub knows_told : (own : OwnJob) (job : Job) → known.job ≡ Some own → get jobs own.number ≡ Some job → job.cancelled ≡ true
        → KnowledgeAgrees (facts_of loads jobs resources begun) who (record known { job = job_cancelled known.job })
    knows_told own job is at cancelled = record {
      count = k.count;
      below = k.below;
      each = k.each;
      live = k.live;
      runs = λ told e.
          let told_is : record own { cancelled = true } ≡ told = same_Some _ _ (sym (ap job_cancelled is) ∙ e) in
          let old = k.runs own is in
          subst (λ (t : OwnJob). (j : Job) × (get jobs t.number ≡ Some j) × JobAgrees who t j) told_is
          (old.0, old.1, record { seat = old.2.seat; spec = old.2.spec; takes = old.2.takes; out = old.2.out; cancelled = λ _. ap (λ (j : Job). j.cancelled) (same_Some _ _ (sym old.1 ∙ at)) ∙ cancelled });
      knows = λ j b e seat.
          let old = k.knows j b e seat in
          (record old.0 { cancelled = true }, ap job_cancelled old.1, old.2);
    }
