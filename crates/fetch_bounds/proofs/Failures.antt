-- The failed jobs of histories: how they go on, and that each load that has failed waited for one of them.
use Rattle.std.proofs.Common.{Bool, List, Option, Some, [], ap, append_assoc, arith, cond, eqb, false, inl, inr, refl, subst, sym, true, ℕ, ◌++◌, ◌∙◌, ◌∷◌, ◌≡◌}
use Rattle.std.proofs.lemmas.List.{append-nil}
use Rattle.std.specs.FinMap.{get}
use Rattle.cache_key.specs.Key.{Key}
use Rattle.cache_key.specs.declared.load_spec.LoadSpec.{LoadSpec}
use Rattle.engine_world.specs.Knowledge.{Knowledge, OwnLoad, knowledge_in, knowledge_with, no_knowledge, updated, updated_by}
use Rattle.engine_world.specs.Laws.{HistoriesAreSound}
use Rattle.engine_world.specs.Permits.{Permits}
use Rattle.engine_world.specs.Sound.{RefersTo, Sound}
use Rattle.engine_world.specs.Steps.{Step}
use Rattle.engine_world.specs.World.{Job, Limits, World, opening}
use Rattle.engine_world.specs.NumberLaws.{none_at}
use Rattle.engine_world.specs.declared.events.Note.{Note}
use Rattle.finite_maps.specs.MapLaws.{same_Some}
use Rattle.load_cause.specs.declared.causes.Cause.{Cause}
use Rattle.load_table.specs.declared.loads.LoadState.TheVariants.{Failed, Waiting}
use Rattle.outside.specs.Content.{Contents}
use Rattle.state_machine.specs.Histories.{own}
use Rattle.state_machine.specs.declared.entry.Entry.{Entry}
use Rattle.fetch_bounds.proofs.Bounds.{opening_sound}
use Rattle.fetch_bounds.proofs.Changing.{failed_law}
use Rattle.fetch_bounds.proofs.Following.{known_after}
use Rattle.fetch_bounds.proofs.Histories.{Goes, Grounds, Said, legal_goes}
use Rattle.fetch_bounds.proofs.Licence.{Nothing}
use Rattle.fetch_bounds.proofs.Right.{AsksSame, still_asks}
use Rattle.fetch_bounds.proofs.Seats.{there_known}
use Rattle.fetch_bounds.specs.FailureLaws.{FailedLoadsWereFailed, FailuresByEntry, FailuresGoOn, SourceRunsAddUp}
use Rattle.fetch_bounds.specs.Failures.{FailedJob, HasFailed, failed_job, fails_by, fails_from, fails_in}
use Rattle.fetch_bounds.proofs.Seats as Seats
use Rattle.engine_world.specs.declared.events.Event.TheVariants as events

-- ---- longer histories

-- what each seat knows after these entries
abbrev pub known_from : (ℕ → Knowledge) → List (Entry Note) → ℕ → Knowledge
known_from known [] = known
known_from known (e ∷ es) = known_from (known_after known e) es

known_from_own : (known : ℕ → Knowledge) (es : List (Entry Note)) (k : ℕ) → known_from known es k ≡ updated_by (known k) (own k es)
unfolding knowledge_with
known_from_own known [] k = refl
known_from_own known (e ∷ es) k =
    known_from_own (known_after known e) es k
    ∙ elim (eqb e.by k) as (λ t. updated_by (cond t (updated e.note.event e.note.reply (known k)) (known k)) (own k es) ≡ updated_by (known k) (cond t (e ∷ own k es) (own k es))) [ true ↦ refl | false ↦ refl ]

pub known_in : (past : List (Entry Note)) → known_from (λ who. no_knowledge) past ≡ knowledge_in past
known_in past = λ i k. known_from_own (λ who. no_knowledge) past k i

fails_from-append : (known : ℕ → Knowledge) (xs ys : List (Entry Note)) → fails_from known (xs ++ ys) ≡ fails_from known xs ++ fails_from (known_from known xs) ys
fails_from-append known [] ys = refl
fails_from-append known (e ∷ xs) ys =
    let next : ℕ → Knowledge = known_after known e in
    let first : List FailedJob = fails_by (known e.by) e.note.event in
    ap (λ l. first ++ l) (fails_from-append next xs ys) ∙ sym (append_assoc first (fails_from next xs) (fails_from (known_from next xs) ys))

pub failures_go_on : FailuresGoOn
failures_go_on past later = fails_from-append (λ who. no_knowledge) past later ∙ ap (λ k. fails_in past ++ fails_from k later) (known_in past)

pub failures_by_entry : FailuresByEntry
failures_by_entry past e = failures_go_on past (e ∷ []) ∙ ap (λ l. fails_in past ++ l) (append-nil (fails_by (knowledge_in past e.by) e.note.event))

pub source_runs_add_up : SourceRunsAddUp
source_runs_add_up [] later = omega arith
source_runs_add_up (e ∷ past) later = omega (arith, source_runs_add_up past later)

-- ---- failures among jobs

pub has_left : (key : Key) (cached : Bool) (cause : Cause) (xs ys : List FailedJob) → HasFailed key cached cause xs → HasFailed key cached cause (xs ++ ys)
has_left key cached cause [] ys h = absurd h
has_left key cached cause (x ∷ xs) ys h = elim h [ inl is ↦ inl is | inr is ↦ inr (has_left key cached cause xs ys is) ]

has_right : (key : Key) (cached : Bool) (cause : Cause) (xs ys : List FailedJob) → HasFailed key cached cause ys → HasFailed key cached cause (xs ++ ys)
has_right key cached cause [] ys h = h
has_right key cached cause (x ∷ xs) ys h = inr (has_right key cached cause xs ys h)

pub has_same : (key as_key : Key) (cached as_cached : Bool) (cause : Cause) (jobs : List FailedJob) → key ≡ as_key → cached ≡ as_cached → HasFailed key cached cause jobs → HasFailed as_key as_cached cause jobs
has_same key as_key cached as_cached cause jobs same_key same_kind h = subst (λ k. HasFailed k as_cached cause jobs) same_key (subst (λ c. HasFailed key c cause jobs) same_kind h)

-- ---- loads that have failed

-- Each load that has failed has such a job among these.
abbrev pub AllFailed : World → (ℕ → Knowledge) → List FailedJob → Type 0
AllFailed w known jobs =
    (who n : ℕ) (own : OwnLoad) (cause : Cause) → get (known who).loads n ≡ Some own → get w.loads (who, n) ≡ Some (Failed cause) → HasFailed own.key own.cached cause jobs

module _ (w m : World) (known : ℕ → Knowledge) (e : Entry Note) (s : Sound w known) (permits : Permits w.content (known e.by) e.note.event) (step : Step w e m) where
  abbrev new : List FailedJob
  new = fails_by (known e.by) e.note.event

  -- the job that fails is that of each load that waits for it
  fails_now : (j : ℕ) (own : OwnLoad) (cause : Cause) → e.note.event ≡ events.Fail j cause → RefersTo w.jobs w.resources own (Waiting j) → HasFailed own.key own.cached cause new
  fails_now j own cause is refers =
      let mine : Permits w.content (known e.by) (events.Fail j cause) = subst (Permits w.content (known e.by)) is permits in
      let r : Seats.Runs w e.by j mine.0.job = Seats.runs w known e.by j s mine.0 in
      let same : mine.0.job.spec ≡ refers.0.spec = sym r.is.spec ∙ ap (λ (job : Job). job.spec) (same_Some _ _ (sym r.at ∙ refers.1)) in
      let ended : HasFailed own.key own.cached cause (failed_job (Some mine.0.job) cause) = inl (ap (λ (spec : LoadSpec). spec.key) same ∙ refers.3, ap (λ (spec : LoadSpec). spec.cached) same ∙ refers.4, refl) in
      subst (λ event. HasFailed own.key own.cached cause (fails_by (known e.by) event)) (sym is) (subst (λ o. HasFailed own.key own.cached cause (failed_job o cause)) (sym mine.0.is) ended)

  pub failed_next : (jobs : List FailedJob) → AllFailed w known jobs → AllFailed m (known_after known e) (jobs ++ new)
  failed_next jobs all who n now cause now_at failed =
      let each = (s.known_is who).each n in
      let told : (own : OwnLoad) → get (known who).loads n ≡ Some own → HasFailed own.key own.cached cause (jobs ++ new) → HasFailed now.key now.cached cause (jobs ++ new) =
      λ own at h.
      let same : AsksSame now own = still_asks w known s e.by e.note.event e.note.reply who n own now at now_at in
      has_same own.key now.key own.cached now.cached cause (jobs ++ new) (sym same.0) (sym same.1) h in
      elim (failed_law w m (who, n) cause e.by e.note.event e.note.reply step failed) [
        | inl before ↦
            let old = there_known w.jobs w.resources (get (known who).loads n) (get w.loads (who, n)) (Failed cause) before each in
            told old.0 old.1 (has_left old.0.key old.0.cached cause jobs new (all who n old.0 cause old.1 before))
        | inr fails ↦
            let old = there_known w.jobs w.resources (get (known who).loads n) (get w.loads (who, n)) (Waiting fails.0) fails.2 each in
            told old.0 old.1 (has_right old.0.key old.0.cached cause jobs new (fails_now fails.0 old.0 cause fails.1 old.2.refers))
      ]

pub opening_failed : (limits : Limits) (content : Option Contents) (jobs : List FailedJob) → AllFailed (opening limits content) (knowledge_in []) jobs
opening_failed limits content jobs who n own cause at failed = none_at n own at

-- ---- whole histories

module _ (g : Grounds) (P : Said) (z : World) where
  all_failed : (es : List (Entry Note)) (w : World) (known : ℕ → Knowledge) (jobs : List FailedJob) → Sound w known → AllFailed w known jobs → Goes P w known es z → AllFailed z (known_from known es) (jobs ++ fails_from known es)
  all_failed [] w known jobs s all goes = subst (λ v. AllFailed v known (jobs ++ [])) goes.1 (subst (AllFailed w known) (sym (append-nil jobs)) all)
  all_failed (e ∷ es) w known jobs s all goes =
      let m : World = goes.0 in
      let next : ℕ → Knowledge = known_after known e in
      let first : List FailedJob = fails_by (known e.by) e.note.event in
      let sound : Sound m next = g.keeps_sound e.note.event w m known e.by e.note.reply goes.2 s goes.3 goes.1 in
      subst (AllFailed z (known_from next es)) (append_assoc jobs first (fails_from next es))
      (all_failed es m next (jobs ++ first) sound (failed_next w m known e s goes.3 goes.1 jobs all) goes.5)

pub failed_loads_were_failed : {M Reply : Type 0} → Grounds → HistoriesAreSound M Reply → FailedLoadsWereFailed M Reply
failed_loads_were_failed g always world history note limits content past w legal =
    let start : World = opening limits content in
    let sound : Sound start (knowledge_in []) = opening_sound g world history note (always world history note) limits content in
    let goes : Goes Nothing start (knowledge_in []) past w = legal_goes world history note g limits content Nothing past w sound legal (λ xs ys v parts leads. tt) in
    subst (λ known. AllFailed w known (fails_in past)) (known_in past) (all_failed g Nothing w past start (knowledge_in []) [] sound (opening_failed limits content []) goes)
