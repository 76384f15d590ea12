-- Jobs that were run, one after the other, and the source that they asked.
use Rattle.std.proofs.Common.{◌≡◌, ◌≢◌, ℕ, ◌+◌, ◌≤◌, Bool, true, false, List, [], ◌∷◌, ◌++◌, Some, None, Option, refl, ap, sym, subst, ◌∙◌, append_assoc, append-nil, arith}
use Rattle.std.specs.Prelude.{⊤, OnSome, count_by, ◌||◌, min, ◌^◌}
use Rattle.std.proofs.lemmas.List.Sums.{sum_by-append}
use Rattle.outside.specs.Causes.{Rose}
use Rattle.outside.specs.Content.{Address, Contents}
use Rattle.outside.specs.declared.sources.Source as sources
use Rattle.load_cause.specs.declared.causes.Cause.{Cause}
use Rattle.load_cause.specs.declared.causes.Cause.TheVariants as causes
use Rattle.script_walk.specs.Marks.{same_address}
use Rattle.engine_shared.specs.Caller.{Caller}
use Rattle.fetch_bounds.specs.Costs.{source_runs}
use Rattle.fetch_bounds.specs.Failures.{FailedJob, fails_in, source_addresses, address_if_source}
use Rattle.cache_key.specs.KeyBytes.{address_of}
use Rattle.engine_views.specs.JobRuns.{RunsNoJob, Worker, worker, RunsJobs, IsExcused, AreExcused}
use Rattle.std.proofs.Common.{cond}

pub rose_more : (a b c : ℕ) → Rose a b → b ≤ c → Rose a c
rose_more a b c r le = omega (arith, r, le)

pub rose_less : (a b c : ℕ) → a ≤ b → Rose b c → Rose a c
rose_less a b c le r = omega (arith, le, r)

none_recorded : (content : Option Contents) (failed : List Address) → OnSome content (failed ≡ failed ++ [])
none_recorded None failed = tt
none_recorded (Some content) failed = sym (append-nil failed)

on_some : (content : Option Contents) (P : Type 0) → P → OnSome content P
on_some None P p = tt
on_some (Some content) P p = p

more_recorded : (content mid : Option Contents) (a b c f g : List Address) → mid ≡ content → OnSome content (b ≡ a ++ f) → OnSome mid (c ≡ b ++ g) → OnSome content (c ≡ a ++ (f ++ g))
more_recorded None mid a b c f g e p q = tt
more_recorded (Some content) None a b c f g e p q = cc
more_recorded (Some content) (Some other) a b c f g e p q = q ∙ ap (λ l. l ++ g) p ∙ append_assoc a f g

caused_more : (a b c : ℕ) (f g : List Address) → a ≤ b → b ≤ c → (f ≢ [] → Rose a b) → (g ≢ [] → Rose b c) → f ++ g ≢ [] → Rose a c
caused_more a b c [] g le le2 p q some = rose_less a b c le (q some)
caused_more a b c (x ∷ f) g le le2 p q some = rose_more a b c (p (λ e. cc)) le2

addresses-append : (xs ys : List FailedJob) → source_addresses (xs ++ ys) ≡ source_addresses xs ++ source_addresses ys
addresses-append [] ys = refl
addresses-append (job ∷ xs) ys =
    let first = address_if_source job.cause (address_of job.spec.key) in
    ap (λ l. first ++ l) (addresses-append xs ys) ∙ sym (append_assoc first (source_addresses xs) (source_addresses ys))

abbrev pub count_at : Address → List Address → ℕ
count_at address list = count_by (λ a. same_address a address) list

pub count-append : (address : Address) (xs ys : List Address) → count_at address (xs ++ ys) ≡ count_at address xs + count_at address ys
count-append address xs ys = sum_by-append (λ a. cond (same_address a address) 1 0) xs ys

more_owed : (content mid : Option Contents) (xs ys : List FailedJob) (f g : List Address) → mid ≡ content
    → OnSome content ((address : Address) → count_at address (source_addresses xs) ≤ count_at address f)
    → OnSome mid ((address : Address) → count_at address (source_addresses ys) ≤ count_at address g)
    → OnSome content ((address : Address) → count_at address (source_addresses (xs ++ ys)) ≤ count_at address (f ++ g))
more_owed None mid xs ys f g e p q = tt
more_owed (Some content) None xs ys f g e p q = cc
more_owed (Some content) (Some other) xs ys f g e p q = λ address.
    omega (arith, p address, q address, count-append address f g, ap (count_at address) (addresses-append xs ys), count-append address (source_addresses xs) (source_addresses ys))

or_left : (a b : Bool) → a ≡ true → (a || b) ≡ true
or_left true b e = refl
or_left false b e = cc

or_right : (a b : Bool) → b ≡ true → (a || b) ≡ true
or_right true b e = refl
or_right false b e = e

module _ {S : Type 0} (source : sources.Ghosts S) where
  -- an excuse of a part of a run is one of the whole
  excused_as : (w v : Bool) (a b c d : S) → (w ≡ true → v ≡ true) → source.faults c ≤ source.faults a → source.faults b ≤ source.faults d → (job : FailedJob) (cause : Cause)
      → IsExcused source w a b job cause → IsExcused source v c d job cause
  excused_as w v a b c d told from to job causes.Missing e = tt
  excused_as w v a b c d told from to job (causes.Refused refusal) e = tt
  excused_as w v a b c d told from to job causes.Source e = (e.0, rose_less (source.faults c) (source.faults a) (source.faults d) from (rose_more (source.faults a) (source.faults b) (source.faults d) e.1 to))
  excused_as w v a b c d told from to job causes.Memory e = told e
  excused_as w v a b c d told from to job causes.Uncached e = e

  all_excused : (w v : Bool) (a b c d : S) → (w ≡ true → v ≡ true) → source.faults c ≤ source.faults a → source.faults b ≤ source.faults d → (jobs : List FailedJob)
      → AreExcused source w a b jobs → AreExcused source v c d jobs
  all_excused w v a b c d told from to [] e = tt
  all_excused w v a b c d told from to (job ∷ jobs) e = (excused_as w v a b c d told from to job job.cause e.0, all_excused w v a b c d told from to jobs e.1)

  excused_append : (w : Bool) (a b : S) (xs ys : List FailedJob) → AreExcused source w a b xs → AreExcused source w a b ys → AreExcused source w a b (xs ++ ys)
  excused_append w a b [] ys p q = q
  excused_append w a b (job ∷ xs) ys p q = (p.0, excused_append w a b xs ys p.1 q)

  -- no job was run
  pub none_run : (w : Bool) (old new : Caller) (s : S) → RunsNoJob old new → RunsJobs source w (worker old s) (worker new s)
  none_run w old new s no_job = record {
    content = refl;
    later = omega arith;
    fetched = omega (arith, no_job.runs);
    jobs = [];
    jobs_are = no_job.fails ∙ sym (append-nil (fails_in old.seen));
    excused = tt;
    failed = [];
    recorded = none_recorded (source.content s) (source.failed s);
    caused = λ some. absurd (some refl);
    owed = on_some (source.content s) _ (λ address. omega arith);
  }

  -- and then more
  pub runs_then : (w v : Bool) (a b c : Worker S) → RunsJobs source w a b → RunsJobs source v b c → RunsJobs source (w || v) a c
  runs_then w v a b c p q = record {
    content = q.content ∙ p.content;
    later = omega (arith, p.later, q.later);
    fetched = omega (arith, p.fetched, q.fetched);
    jobs = p.jobs ++ q.jobs;
    jobs_are = q.jobs_are ∙ ap (λ l. l ++ q.jobs) p.jobs_are ∙ append_assoc (fails_in a.caller.seen) p.jobs q.jobs;
    excused = excused_append (w || v) a.source c.source p.jobs q.jobs
        (all_excused w (w || v) a.source b.source a.source c.source (or_left w v) (omega arith) q.later p.jobs p.excused)
        (all_excused v (w || v) b.source c.source a.source c.source (or_right w v) p.later (omega arith) q.jobs q.excused);
    failed = p.failed ++ q.failed;
    recorded = more_recorded (source.content a.source) (source.content b.source) (source.failed a.source) (source.failed b.source) (source.failed c.source) p.failed q.failed p.content p.recorded q.recorded;
    caused = caused_more (source.faults a.source) (source.faults b.source) (source.faults c.source) p.failed q.failed p.later q.later p.caused q.caused;
    owed = more_owed (source.content a.source) (source.content b.source) p.jobs q.jobs p.failed q.failed p.content p.owed q.owed;
  }

  or_none : (w : Bool) → (w || false) ≡ w
  or_none true = refl
  or_none false = refl

  -- and then none
  pub then_none : (w : Bool) (a : Worker S) (b c : Caller) (s : S) → RunsJobs source w a (worker b s) → RunsNoJob b c → RunsJobs source w a (worker c s)
  then_none w a b c s p no_job = subst (λ t. RunsJobs source t a (worker c s)) (or_none w) (runs_then w false a (worker b s) (worker c s) p (none_run false b c s no_job))
