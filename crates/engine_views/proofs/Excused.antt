-- What running jobs does to their source, one job after the other.
use Rattle.std.proofs.Common.{◌≡◌, ◌≢◌, ℕ, ◌+◌, ◌≤◌, Bool, true, List, [], ◌∷◌, ◌++◌, Some, None, Option, refl, ap, sym, subst, ◌∙◌, inl, inr, arith, append_assoc, append-nil, count_by}
use Rattle.std.specs.Prelude.{◌⊎◌, not, OnSome, ⊤}
use Rattle.std.proofs.lemmas.List.Sums.{sum_by-append}
use Rattle.outside.specs.Causes.{Rose}
use Rattle.outside.specs.Content.{Address, counted}
use Rattle.outside.specs.declared.sources.Source as sources
use Rattle.cache_key.specs.Key.{Key}
use Rattle.cache_key.specs.KeyBytes.{address_of}
use Rattle.cache_key.specs.declared.load_spec.LoadSpec.{LoadSpec}
use Rattle.load_cause.specs.declared.causes.Cause.{Cause}
use Rattle.load_cause.specs.declared.causes.Cause.TheVariants as causes
use Rattle.script_walk.specs.Marks.{same_address}
use Rattle.script_walk.specs.Starts.{one_if}
use Rattle.engine_shared.specs.Caller.{Caller}
use Rattle.fetch_bounds.specs.Costs.{source_runs}
use Rattle.fetch_bounds.specs.Failures.{FailedJob, fails_in, address_if_source, source_addresses}
use Rattle.decode_job.specs.declared.ends.JobEnd.{JobEnd}
use Rattle.decode_job.specs.declared.ends.JobEnd.TheVariants as ends
use Rattle.decode_job.specs.Sources.{SourceView, view_of, AskedAlone, UsesSource}
use Rattle.decode_job.specs.Ends.{HasItsCause}
use Rattle.engine_views.specs.JobRuns.{RunsNoJob, Worker, worker, IsExcused, AreExcused, RunsJobs}

-- ---- small facts

on_some : {A : Type 0} {P : Type 0} (o : Option A) → P → OnSome o P
on_some None p = tt
on_some (Some a) p = p

both_on : {A : Type 0} {P Q R : Type 0} (o : Option A) → (P → Q → R) → OnSome o P → OnSome o Q → OnSome o R
both_on None f p q = tt
both_on (Some a) f p q = f p q

rose_within : (a b c d : ℕ) → a ≤ b → c ≤ d → Rose b c → Rose a d
rose_within a b c d low high rose = omega (arith, low, high, rose)

counted-le : (n : ℕ) → counted n ≤ n + 1
counted-le n = omega arith

abbrev count_at : Address → List Address → ℕ
count_at address addresses = count_by (λ a. same_address a address) addresses

count_at-append : (address : Address) (xs ys : List Address) → count_at address (xs ++ ys) ≡ count_at address xs + count_at address ys
count_at-append address xs ys = sum_by-append _ xs ys

source_addresses-append : (xs ys : List FailedJob) → source_addresses (xs ++ ys) ≡ source_addresses xs ++ source_addresses ys
source_addresses-append [] ys = refl
source_addresses-append (job ∷ xs) ys =
    let first : List Address = address_if_source job.cause (address_of job.spec.key) in
    ap (λ l. first ++ l) (source_addresses-append xs ys) ∙ sym (append_assoc first (source_addresses xs) (source_addresses ys))

abbrev HasFirst : {A : Type 0} → List A → Type 0
HasFirst [] = ⊥
HasFirst (x ∷ xs) = ⊤

-- either of two lists has something, where both together have
either_has : {A P : Type 0} (xs ys : List A) → (xs ≢ [] → P) → (ys ≢ [] → P) → xs ++ ys ≢ [] → P
either_has [] ys first second has = second has
either_has (x ∷ xs) ys first second has = first (λ e. subst HasFirst e tt)

-- ---- the job that failed

-- what the end of a job adds to the jobs that failed
abbrev pub failed_by : LoadSpec → JobEnd → List FailedJob
failed_by spec (ends.Failed cause) = record { spec = spec; cause = cause } ∷ []
failed_by spec ends.Finished = []
failed_by spec ends.Discarded = []
failed_by spec ends.Quit = []

-- which fetches failed, as the source records it and as failed jobs need it
record Records (old new : SourceView) (jobs : List FailedJob) : Type 0 where
  pub failed : List Address
  pub recorded : OnSome old.content (new.failed ≡ old.failed ++ failed)
  pub caused : failed ≢ [] → Rose old.faults new.faults
  pub owed : (address : Address) → count_at address (source_addresses jobs) ≤ count_at address failed

records_alone : (key : Key) (old new : SourceView) (jobs : List FailedJob) → source_addresses jobs ≡ [] → AskedAlone key old new → Records old new jobs
records_alone key old new jobs none alone =
    let few : (address : Address) (failed : List Address) → count_at address (source_addresses jobs) ≤ count_at address failed =
    λ address failed. subst (λ l. count_at address l ≤ count_at address failed) (sym none) (omega arith) in
    let quiet : OnSome old.content (new.failed ≡ old.failed ++ []) → Records old new jobs =
    λ same. record { failed = []; recorded = same; caused = λ has. absurd (has refl); owed = λ address. few address [] } in
    elim old.content as (λ o. OnSome o ((new.failed ≡ old.failed) ⊎ ((new.failed ≡ old.failed ++ address_of key ∷ []) × Rose old.faults new.faults)) → (OnSome o (new.failed ≡ old.failed ++ []) → Records old new jobs) → (OnSome o (new.failed ≡ old.failed ++ address_of key ∷ []) → OnSome old.content (new.failed ≡ old.failed ++ address_of key ∷ [])) → Records old new jobs) [
      | None ↦ λ told calm more. calm tt
      | Some content ↦ λ told calm more. elim told [
        | inl same ↦ calm (same ∙ sym (append-nil old.failed))
        | inr failed ↦ record {
          failed = address_of key ∷ [];
          recorded = more failed.0;
          caused = λ has. failed.1;
          owed = λ address. few address (address_of key ∷ []);
        }
      ]
    ] alone.failed quiet (λ is. is)

records : (spec : LoadSpec) (old new : SourceView) (end : JobEnd) → AskedAlone spec.key old new → HasItsCause spec old new end → Records old new (failed_by spec end)
records spec old new (ends.Failed causes.Source) alone cause = record {
  failed = address_of spec.key ∷ [];
  recorded = cause.2.at;
  caused = λ has. cause.2.rose;
  owed = λ address. omega arith;
}
records spec old new (ends.Failed causes.Missing) alone cause = records_alone spec.key old new _ refl alone
records spec old new (ends.Failed (causes.Refused refusal)) alone cause = records_alone spec.key old new _ refl alone
records spec old new (ends.Failed causes.Memory) alone cause = records_alone spec.key old new _ refl alone
records spec old new (ends.Failed causes.Uncached) alone cause = records_alone spec.key old new _ refl alone
records spec old new ends.Finished alone cause = records_alone spec.key old new _ refl alone
records spec old new ends.Discarded alone cause = records_alone spec.key old new _ refl alone
records spec old new ends.Quit alone cause = records_alone spec.key old new _ refl alone

module _ {S : Type 0} (source : sources.Ghosts S) where
  -- ---- causes

  excused : (wanting : Bool) (spec : LoadSpec) (old new : S) (end : JobEnd) → (end ≡ ends.Failed causes.Memory → wanting ≡ true)
      → HasItsCause spec (view_of source old) (view_of source new) end → AreExcused source wanting old new (failed_by spec end)
  excused wanting spec old new (ends.Failed causes.Missing) told cause = (tt, tt)
  excused wanting spec old new (ends.Failed (causes.Refused refusal)) told cause = (tt, tt)
  excused wanting spec old new (ends.Failed causes.Source) told cause = ((cause.0, cause.2.rose), tt)
  excused wanting spec old new (ends.Failed causes.Memory) told cause = (told refl, tt)
  excused wanting spec old new (ends.Failed causes.Uncached) told cause = (cause, tt)
  excused wanting spec old new ends.Finished told cause = tt
  excused wanting spec old new ends.Discarded told cause = tt
  excused wanting spec old new ends.Quit told cause = tt

  -- An excuse stays one from earlier on and until later, and where more is told of.
  record Wider (before after : Bool) (a b c d : S) : Type 0 where
    pub told : before ≡ true → after ≡ true
    pub from : source.faults c ≤ source.faults a
    pub to : source.faults b ≤ source.faults d

  excused_still : (before after : Bool) (a b c d : S) → Wider before after a b c d → (job : FailedJob) (cause : Cause)
      → IsExcused source before a b job cause → IsExcused source after c d job cause
  excused_still before after a b c d wider job causes.Missing is = tt
  excused_still before after a b c d wider job (causes.Refused refusal) is = tt
  excused_still before after a b c d wider job causes.Source is =
      (is.0, rose_within (source.faults c) (source.faults a) (source.faults b) (source.faults d) wider.from wider.to is.1)
  excused_still before after a b c d wider job causes.Memory is = wider.told is
  excused_still before after a b c d wider job causes.Uncached is = is

  all_excused : (before after : Bool) (a b c d : S) → Wider before after a b c d → (jobs : List FailedJob)
      → AreExcused source before a b jobs → AreExcused source after c d jobs
  all_excused before after a b c d wider [] all = tt
  all_excused before after a b c d wider (job ∷ jobs) all =
      (excused_still before after a b c d wider job job.cause all.0, all_excused before after a b c d wider jobs all.1)

  AreExcused-append : (wanting : Bool) (old new : S) (xs ys : List FailedJob) → AreExcused source wanting old new xs
      → AreExcused source wanting old new ys → AreExcused source wanting old new (xs ++ ys)
  AreExcused-append wanting old new [] ys first second = second
  AreExcused-append wanting old new (job ∷ xs) ys first second = (first.0, AreExcused-append wanting old new xs ys first.1 second)

  -- ---- runs

  -- Where no job was run, the source was not asked.
  pub runs_none : (wanting : Bool) (old new : Caller) (s : S) → RunsNoJob old new → RunsJobs source wanting (worker old s) (worker new s)
  runs_none wanting old new s quiet = record {
    content = refl;
    later = omega arith;
    fetched = omega (arith, quiet.runs);
    jobs = [];
    jobs_are = quiet.fails ∙ sym (append-nil (fails_in old.seen));
    excused = tt;
    failed = [];
    recorded = on_some (source.content s) (sym (append-nil (source.failed s)));
    caused = λ has. absurd (has refl);
    owed = on_some (source.content s) (λ address. omega arith);
  }

  -- A job that its caller ran to its end.
  pub runs_one : (wanting : Bool) (spec : LoadSpec) (end : JobEnd) (old new : Worker S) → (end ≡ ends.Failed causes.Memory → wanting ≡ true)
      → UsesSource spec.cached spec.key (view_of source old.source) (view_of source new.source)
      → HasItsCause spec (view_of source old.source) (view_of source new.source) end
      → source_runs new.caller.seen ≡ source_runs old.caller.seen + one_if (not spec.cached)
      → fails_in new.caller.seen ≡ fails_in old.caller.seen ++ failed_by spec end → RunsJobs source wanting old new
  runs_one wanting spec end old new told uses cause runs fails =
      let is = records spec (view_of source old.source) (view_of source new.source) end uses.alone cause in
      record {
        content = uses.alone.content;
        later = uses.alone.faults;
        fetched = elim uses.once [
          | inl same ↦ omega (arith, same, runs)
          | inr asked ↦
              let one : one_if (not spec.cached) ≡ 1 = ap (λ t. one_if (not t)) asked.0 in
              let more : source.fetched new.source ≤ source.fetched old.source + 1 = subst (λ n. n ≤ source.fetched old.source + 1) (sym asked.1) (counted-le (source.fetched old.source)) in
              omega (arith, one, more, runs)
        ];
        jobs = failed_by spec end;
        jobs_are = fails;
        excused = excused wanting spec old.source new.source end told cause;
        failed = is.failed;
        recorded = is.recorded;
        caused = is.caused;
        owed = on_some (source.content old.source) is.owed;
      }

  -- One after the other. What either tells of is told.
  pub runs_on : (before now after : Bool) (a b c : Worker S) → (before ≡ true → after ≡ true) → (now ≡ true → after ≡ true)
      → RunsJobs source before a b → RunsJobs source now b c → RunsJobs source after a c
  runs_on before now after a b c early late first second =
      let content_b : source.content b.source ≡ source.content a.source = first.content in
      let recorded : OnSome (source.content a.source) (source.failed c.source ≡ source.failed b.source ++ second.failed) =
      subst (λ o. OnSome o (source.failed c.source ≡ source.failed b.source ++ second.failed)) content_b second.recorded in
      let owed : OnSome (source.content a.source) ((address : Address) → count_at address (source_addresses second.jobs) ≤ count_at address second.failed) =
      subst (λ o. OnSome o ((address : Address) → count_at address (source_addresses second.jobs) ≤ count_at address second.failed)) content_b second.owed in
      record {
        content = second.content ∙ first.content;
        later = omega (arith, first.later, second.later);
        fetched = omega (arith, first.fetched, second.fetched);
        jobs = first.jobs ++ second.jobs;
        jobs_are = second.jobs_are ∙ ap (λ l. l ++ second.jobs) first.jobs_are ∙ append_assoc (fails_in a.caller.seen) first.jobs second.jobs;
        excused = AreExcused-append after a.source c.source first.jobs second.jobs
            (all_excused before after a.source b.source a.source c.source (record { told = early; from = omega arith; to = second.later }) first.jobs first.excused)
            (all_excused now after b.source c.source a.source c.source (record { told = late; from = first.later; to = omega arith }) second.jobs second.excused);
        failed = first.failed ++ second.failed;
        recorded = both_on (source.content a.source)
            (λ (f : source.failed b.source ≡ source.failed a.source ++ first.failed) (s : source.failed c.source ≡ source.failed b.source ++ second.failed).
            s ∙ ap (λ l. l ++ second.failed) f ∙ append_assoc (source.failed a.source) first.failed second.failed)
            first.recorded recorded;
        caused = either_has first.failed second.failed
            (λ has. rose_within (source.faults a.source) (source.faults a.source) (source.faults b.source) (source.faults c.source) (omega arith) second.later (first.caused has))
            (λ has. rose_within (source.faults a.source) (source.faults b.source) (source.faults c.source) (source.faults c.source) first.later (omega arith) (second.caused has));
        owed = both_on (source.content a.source)
            (λ (f : (address : Address) → count_at address (source_addresses first.jobs) ≤ count_at address first.failed)
            (s : (address : Address) → count_at address (source_addresses second.jobs) ≤ count_at address second.failed) (address : Address).
            let jobs : count_at address (source_addresses (first.jobs ++ second.jobs)) ≡ count_at address (source_addresses first.jobs) + count_at address (source_addresses second.jobs) =
            ap (count_at address) (source_addresses-append first.jobs second.jobs) ∙ count_at-append address (source_addresses first.jobs) (source_addresses second.jobs) in
            let failed : count_at address (first.failed ++ second.failed) ≡ count_at address first.failed + count_at address second.failed =
            count_at-append address first.failed second.failed in
            omega (arith, jobs, failed, f address, s address))
            first.owed owed;
      }
