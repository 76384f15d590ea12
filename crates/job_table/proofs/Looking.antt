-- What the table's two searches find.
use Rattle.std.proofs.Common.{◌≡◌, ◌≢◌, ℕ, ◌<◌, ◌≤◌, Bool, true, false, List, Some, None, refl, ap, sym, subst, ◌∙◌, inl, inr, arith, eqb}
use Rattle.std.specs.Prelude.{T, not, ◌↔◌, IsTrue}
use Rattle.std.specs.Ordering.{nat_cmp}
use Rattle.std.specs.FinMap.{get, from_sorted, is_sorted, nat_cmp-IsAntisymmetric}
use Rattle.std.proofs.lemmas.Bool.{eqb-true, eqb-false, eq-eqb, and_parts, and_from}
use Rattle.std.proofs.lemmas.Cmp.{nat_cmp_total}
use Rattle.std.proofs.lemmas.Map.Keys.{ge_from_not_lt}
use Rattle.cache_key.specs.Key.{Key, same_key}
use Rattle.cache_key.specs.declared.load_spec.Priority.{Priority}
use Rattle.cache_key.specs.declared.load_spec.Priority.TheVariants.{Immediate, High, Normal, Low}
use Rattle.finite_maps.specs.Maps.{passes}
use Rattle.finite_maps.specs.MapLaws.{not_Some, same_Some, first_key-found, first_key-none, first_key-least}
use Rattle.finite_maps.specs.SortedEntries.{first_key-sorted}
use Rattle.job_table.specs.declared.jobs.Job.{Job}
use Rattle.job_table.specs.inside.Entries.{queued_among, next_among}
use Rattle.job_table.specs.Jobs.{Jobs, same_kind, serves, job_for, IsJobFor, is_queued, queued_in, rank, is_queued_at, queued_at, or_else, next_queued, Precedes, IsNext}
use Rattle.job_table.specs.JobTableView.{OneOfEach}

kind_is : (a b : Bool) → same_kind a b ≡ true → a ≡ b
kind_is true true e = refl
kind_is true false e = cc
kind_is false true e = cc
kind_is false false e = refl

kind_itself : (a b : Bool) → a ≡ b → same_kind a b ≡ true
kind_itself true true e = refl
kind_itself true false e = cc
kind_itself false true e = cc
kind_itself false false e = refl

not_true : (b : Bool) → not b ≡ true → b ≡ false
not_true true e = cc
not_true false e = refl

contrary : {b : Bool} → b ≡ false → b ≡ true → ⊥
contrary {b = b} isnt is = cc

-- ---- the job of a key and kind

-- that two keys are the same exactly where they are equal
abbrev pub KeyLaw : Type 0
KeyLaw = (a b : Key) → IsTrue (same_key a b) ↔ (a ≡ b)

module _ (law : KeyLaw) (key : Key) (cached : Bool) where
  pub serves_by : (job : Job) → job.spec.key ≡ key → job.spec.cached ≡ cached → job.cancelled ≡ false → serves key cached job ≡ true
  serves_by job k c w = and_from _ _ (and_from _ _ ((law job.spec.key key).1 k) (kind_itself job.spec.cached cached c)) (ap not w)

  it_serves : (jobs : Jobs) (number : ℕ) → IsJobFor key cached jobs number → (job : Job) × (get jobs number ≡ Some job) × (serves key cached job ≡ true)
  it_serves jobs number it = (it.job, it.live, serves_by it.job it.same_key it.same_kind it.wanted)

  serves_it : (jobs : Jobs) (number : ℕ) (job : Job) → get jobs number ≡ Some job → serves key cached job ≡ true → IsJobFor key cached jobs number
  serves_it jobs number job live is = record {
    job = job;
    live = live;
    same_key = (law job.spec.key key).0 (and_parts _ _ (and_parts _ _ is).0).0;
    same_kind = kind_is job.spec.cached cached (and_parts _ _ (and_parts _ _ is).0).1;
    wanted = not_true _ (and_parts _ _ is).1;
  }

  found_is : (jobs : Jobs) (number : ℕ) → job_for key cached jobs ≡ Some number → IsJobFor key cached jobs number
  found_is jobs number is =
      let found = first_key-found nat_cmp_total nat_cmp-IsAntisymmetric (λ n job. serves key cached job) jobs number is in
      serves_it jobs number found.0 found.1 found.2

  -- none is found where no job serves
  pub none_serves : (jobs : Jobs) (number : ℕ) → job_for key cached jobs ≡ None → ¬ (IsJobFor key cached jobs number)
  none_serves jobs number none it =
      let serving = it_serves jobs number it in
      contrary (first_key-none nat_cmp_total nat_cmp-IsAntisymmetric (λ n job. serves key cached job) jobs number serving.0 none serving.1) serving.2

  pub job_for-is : (jobs : Jobs) → OneOfEach jobs → (number : ℕ) → (job_for key cached jobs ≡ Some number) ↔ IsJobFor key cached jobs number
  job_for-is jobs one number = (
    found_is jobs number,
    λ it. elim (job_for key cached jobs) as (λ x. job_for key cached jobs ≡ x → x ≡ Some number) [
      | None ↦ λ none. absurd (none_serves jobs number none it)
      | Some other ↦ λ first.
          let found = found_is jobs other first in
          ap Some (one other number found.job it.job found.live it.live found.wanted it.wanted (found.same_key ∙ sym it.same_key) (found.same_kind ∙ sym it.same_kind))
    ] refl,
  )

  pub job_for-none : (jobs : Jobs) → (job_for key cached jobs ≡ None) ↔ ((number : ℕ) → ¬ (IsJobFor key cached jobs number))
  job_for-none jobs = (
    λ none number. none_serves jobs number none,
    λ nobody. elim (job_for key cached jobs) as (λ x. job_for key cached jobs ≡ x → x ≡ None) [
      | None ↦ λ e. refl
      | Some number ↦ λ first. absurd (nobody number (found_is jobs number first))
    ] refl,
  )

-- ---- the job that starts next

module _ (jobs : Jobs) where
  at : Priority → ℕ → Job → Bool
  at priority = λ n job. is_queued_at priority job

  -- no queued job is at a priority where none is found
  none_at : (priority : Priority) (other : ℕ) (rival : Job) → queued_at priority jobs ≡ None → get jobs other ≡ Some rival → is_queued rival ≡ true → rank rival.spec.priority ≢ rank priority
  none_at priority other rival none live queued same =
      contrary (first_key-none nat_cmp_total nat_cmp-IsAntisymmetric (λ n job. is_queued_at priority job) jobs other rival none live)
      (and_from _ _ queued (eq-eqb (rank rival.spec.priority) (rank priority) same))

  -- the first that is found at a priority, where no queued job has a lesser one
  found_at : (priority : Priority) (number : ℕ) → queued_at priority jobs ≡ Some number
      → ((other : ℕ) (rival : Job) → get jobs other ≡ Some rival → is_queued rival ≡ true → rank priority ≤ rank rival.spec.priority) → IsNext jobs number
  found_at priority number first least =
      let p : ℕ → Job → Bool = λ n job. is_queued_at priority job in
      let found = first_key-found nat_cmp_total nat_cmp-IsAntisymmetric p jobs number first in
      let among = first_key-least nat_cmp_total nat_cmp-IsAntisymmetric p jobs number first in
      let job : Job = found.0 in
      let same : rank job.spec.priority ≡ rank priority = eqb-true _ _ (and_parts (is_queued job) _ found.2).1 in
      record {
        job = job;
        live = found.1;
        queued = (and_parts _ _ found.2).0;
        first = λ other rival live queued.
            let reaches : rank priority ≤ rank rival.spec.priority = least other rival live queued in
            elim (eqb (rank rival.spec.priority) (rank priority)) as (λ t. eqb (rank rival.spec.priority) (rank priority) ≡ t → Precedes job.spec.priority number rival.spec.priority other) [
              | true ↦ λ ties.
                  let tied : rank rival.spec.priority ≡ rank priority = eqb-true _ _ ties in
                  let later : number ≤ other = ge_from_not_lt other number (among.1 other (ap (passes p other) live ∙ and_from _ _ queued ties)) in
                  inr (same ∙ sym tied, later)
              | false ↦ λ apart.
                  let ne : rank rival.spec.priority ≢ rank priority = eqb-false _ _ apart in
                  let below : rank job.spec.priority < rank rival.spec.priority = omega (arith, same, ne, reaches) in
                  inl below
            ] refl;
      }

  in_order : (number : ℕ) → next_queued jobs ≡ Some number → IsNext jobs number
  in_order number =
      elim (queued_at Immediate jobs) as (λ x. queued_at Immediate jobs ≡ x → or_else x (or_else (queued_at High jobs) (or_else (queued_at Normal jobs) (queued_at Low jobs))) ≡ Some number → IsNext jobs number) [
        | Some i ↦ λ first is. subst (IsNext jobs) (same_Some _ _ is) (found_at Immediate i first (λ other rival live queued. omega arith))
        | None ↦ λ none_0. elim (queued_at High jobs) as (λ x. queued_at High jobs ≡ x → or_else x (or_else (queued_at Normal jobs) (queued_at Low jobs)) ≡ Some number → IsNext jobs number) [
          | Some i ↦ λ first is. subst (IsNext jobs) (same_Some _ _ is) (found_at High i first (λ other rival live queued.
              let not_0 : rank rival.spec.priority ≢ 0 = none_at Immediate other rival none_0 live queued in omega (arith, not_0)))
          | None ↦ λ none_1. elim (queued_at Normal jobs) as (λ x. queued_at Normal jobs ≡ x → or_else x (queued_at Low jobs) ≡ Some number → IsNext jobs number) [
            | Some i ↦ λ first is. subst (IsNext jobs) (same_Some _ _ is) (found_at Normal i first (λ other rival live queued.
                let not_0 : rank rival.spec.priority ≢ 0 = none_at Immediate other rival none_0 live queued in
                let not_1 : rank rival.spec.priority ≢ 1 = none_at High other rival none_1 live queued in
                omega (arith, not_0, not_1)))
            | None ↦ λ none_2 is. found_at Low number is (λ other rival live queued.
                let not_0 : rank rival.spec.priority ≢ 0 = none_at Immediate other rival none_0 live queued in
                let not_1 : rank rival.spec.priority ≢ 1 = none_at High other rival none_1 live queued in
                let not_2 : rank rival.spec.priority ≢ 2 = none_at Normal other rival none_2 live queued in
                omega (arith, not_0, not_1, not_2))
          ] refl
        ] refl
      ] refl

  no_priority_left : (priority : Priority) → rank priority ≢ 0 → rank priority ≢ 1 → rank priority ≢ 2 → rank priority ≢ 3 → ⊥
  no_priority_left Immediate a b c d = a refl
  no_priority_left High a b c d = b refl
  no_priority_left Normal a b c d = c refl
  no_priority_left Low a b c d = d refl

  none_left : (other : ℕ) (rival : Job) → next_queued jobs ≡ None → get jobs other ≡ Some rival → is_queued rival ≡ true → ⊥
  none_left other rival =
      elim (queued_at Immediate jobs) as (λ x. queued_at Immediate jobs ≡ x → or_else x (or_else (queued_at High jobs) (or_else (queued_at Normal jobs) (queued_at Low jobs))) ≡ None → get jobs other ≡ Some rival → is_queued rival ≡ true → ⊥) [
        | Some i ↦ λ first is live queued. not_Some (sym is)
        | None ↦ λ none_0. elim (queued_at High jobs) as (λ x. queued_at High jobs ≡ x → or_else x (or_else (queued_at Normal jobs) (queued_at Low jobs)) ≡ None → get jobs other ≡ Some rival → is_queued rival ≡ true → ⊥) [
          | Some i ↦ λ first is live queued. not_Some (sym is)
          | None ↦ λ none_1. elim (queued_at Normal jobs) as (λ x. queued_at Normal jobs ≡ x → or_else x (queued_at Low jobs) ≡ None → get jobs other ≡ Some rival → is_queued rival ≡ true → ⊥) [
            | Some i ↦ λ first is live queued. not_Some (sym is)
            | None ↦ λ none_2 none_3 live queued. no_priority_left rival.spec.priority
                (none_at Immediate other rival none_0 live queued) (none_at High other rival none_1 live queued)
                (none_at Normal other rival none_2 live queued) (none_at Low other rival none_3 live queued)
          ] refl
        ] refl
      ] refl

  is_queued_in : (number : ℕ) (job : Job) → get jobs number ≡ Some job → is_queued job ≡ true → queued_in jobs number ≡ true
  is_queued_in number job live queued = ap (passes (λ n j. is_queued j) number) live ∙ queued

  both_first : (i j : ℕ) (a b : Priority) → Precedes a i b j → Precedes b j a i → i ≡ j
  both_first i j a b (inl x) (inl y) = omega (arith, x, y)
  both_first i j a b (inl x) (inr y) = omega (arith, x, y.0)
  both_first i j a b (inr x) (inl y) = omega (arith, x.0, y)
  both_first i j a b (inr x) (inr y) = omega (arith, x.1, y.1)

  pub next_queued-is : (number : ℕ) → (next_queued jobs ≡ Some number) ↔ IsNext jobs number
  next_queued-is number = (
    in_order number,
    λ it. elim (next_queued jobs) as (λ x. next_queued jobs ≡ x → x ≡ Some number) [
      | None ↦ λ none. absurd (none_left number it.job none it.live it.queued)
      | Some other ↦ λ first.
          let found = in_order other first in
          ap Some (both_first other number found.job.spec.priority it.job.spec.priority (found.first number it.job it.live it.queued) (it.first other found.job found.live found.queued))
    ] refl,
  )

  queued_nowhere : next_queued jobs ≡ None → (number : ℕ) → queued_in jobs number ≡ false
  queued_nowhere none number = elim (get jobs number) as (λ x. get jobs number ≡ x → passes (λ n j. is_queued j) number x ≡ false) [
    | None ↦ λ e. refl
    | Some job ↦ λ live. elim (is_queued job) as (λ t. is_queued job ≡ t → t ≡ false) [ true ↦ λ queued. absurd (none_left number job none live queued) | false ↦ λ e. refl ] refl
  ] refl

  pub next_queued-none : (next_queued jobs ≡ None) ↔ ((number : ℕ) → queued_in jobs number ≡ false)
  next_queued-none = (
    queued_nowhere,
    λ nowhere. elim (next_queued jobs) as (λ x. next_queued jobs ≡ x → x ≡ None) [
      | None ↦ λ e. refl
      | Some number ↦ λ first. let found = in_order number first in absurd (contrary (nowhere number) (is_queued_in number found.job found.live found.queued))
    ] refl,
  )

-- ---- the same on the entries of a vector

pub next-sorted : (es : List (ℕ × Job)) → T (is_sorted nat_cmp es) → next_queued (from_sorted es) ≡ next_among es
next-sorted es h =
    let at_each : (priority : Priority) → queued_at priority (from_sorted es) ≡ queued_among priority es = λ priority. first_key-sorted nat_cmp_total nat_cmp-IsAntisymmetric es h (λ n job. is_queued_at priority job) in
    λ i. or_else (at_each Immediate i) (or_else (at_each High i) (or_else (at_each Normal i) (at_each Low i)))
