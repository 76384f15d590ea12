-- What an edit of the table's vector is to its jobs, and that of one key and kind at most one stays that is not cancelled.
use Rattle.std.proofs.Common.{◌≡◌, ℕ, suc, ◌+◌, ◌-◌, ◌<◌, ◌≤◌, Bool, true, false, get_or, List, [], ◌∷◌, ◌++◌, take, drop, length, Some, None, refl, ap, sym, subst, ◌∙◌, inl, inr, arith}
use Rattle.std.specs.Prelude.{T, min, not, slice_get, slice_set, is_some, IsSome}
use Rattle.std.specs.declared.cmp.Ordering.TheVariants.{Less}
use Rattle.std.specs.Cmp.{nat_cmp_is}
use Rattle.std.proofs.lemmas.List.{length-set, length-take, length-drop, length-append}
use Rattle.std.proofs.lemmas.Option.{slice_get_within, get_or_from_slice_get}
use Rattle.std.specs.declared.option.Option.{Option}
use Rattle.std.specs.Option.{option_map, is_none}
use Rattle.std.specs.Ordering.{nat_cmp}
use Rattle.std.specs.FinMap.{get, empty, empty_of_len, insert, remove, entries, from_sorted, find, is_sorted, get-from_sorted, nat_cmp-IsAntisymmetric}
use Rattle.std.proofs.lemmas.Cmp.{nat_cmp_total}
use Rattle.cache_key.specs.declared.load_spec.LoadSpec.{LoadSpec}
use Rattle.finite_maps.specs.MapLaws.{modify_there, not_Some, insert_cases, remove_found}
use Rattle.finite_maps.specs.SortedEntries.{all_below, len-sorted, is_map, map_sorted, get-sorted_at, entries-set, entries-push, entries-removed, all_below-set, all_below-removed, all_below-push}
use Rattle.job_table.specs.declared.jobs.Job.{Job}
use Rattle.finite_maps.specs.Maps.{passes, modify}
use Rattle.job_table.specs.Jobs.{Jobs, JobTableValue, queued_job, marked, job_for, is_queued, queued_in}
use Rattle.job_table.specs.declared.jobs.JobTable.TheInside.{Inside}
use Rattle.job_table.specs.JobTableView.{jobs_of, value_of, OneOfEach, IsTable}
use Rattle.job_table.proofs.Looking.{KeyLaw, none_serves}

none_is : (b : Bool) (o : Option ℕ) → is_some o ≡ not b → b ≡ is_none o
none_is true None e = refl
none_is true (Some n) e = cc
none_is false None e = cc
none_is false (Some n) e = refl

-- where a live job stands
pub placed : (ds es : List (ℕ × Job)) (number place : ℕ) → ds ≡ es → T (is_sorted nat_cmp es)
    → slice_get ds place ≡ option_map (λ job. (number, job)) (find nat_cmp number ds) → IsSome (get (from_sorted {R = nat_cmp} es) number)
    → (job : Job) × (get (from_sorted {R = nat_cmp} es) number ≡ Some job) × (slice_get es place ≡ Some (number, job))
placed ds es number place same h at live =
    let here : slice_get es place ≡ option_map (λ job. (number, job)) (find nat_cmp number es) = subst (λ l. slice_get l place ≡ option_map (λ job. (number, job)) (find nat_cmp number l)) same at in
    elim (get (from_sorted {R = nat_cmp} es) number) as (λ x. get (from_sorted {R = nat_cmp} es) number ≡ x → is_some x ≡ true → (job : Job) × (x ≡ Some job) × (slice_get es place ≡ Some (number, job))) [
      | None ↦ λ e dead. cc
      | Some job ↦ λ e _.
          let found : find nat_cmp number es ≡ Some job = sym (get-from_sorted nat_cmp es number h) ∙ e in
          (job, refl, here ∙ ap (option_map (λ j. (number, j))) found)
    ] refl live

-- entries in order are the map's
pub edited : (jobs : Jobs) (es : List (ℕ × Job)) → entries jobs ≡ es → T (is_sorted nat_cmp es) × (from_sorted es ≡ jobs)
edited jobs es is = (map_sorted nat_cmp_total nat_cmp-IsAntisymmetric jobs es is, is_map nat_cmp_total nat_cmp-IsAntisymmetric jobs es is)

-- what is kept where each job that is not cancelled was there and was not cancelled
one_after : (old new : Jobs) → OneOfEach old
    → ((number : ℕ) (job : Job) → get new number ≡ Some job → job.cancelled ≡ false → (before : Job) × (get old number ≡ Some before) × (before.cancelled ≡ false) × (before.spec ≡ job.spec))
    → OneOfEach new
one_after old new one was i j a b at_i at_j wanted_a wanted_b same_key same_kind =
    let c = was i a at_i wanted_a in
    let d = was j b at_j wanted_b in
    one i j c.0 d.0 c.1 d.1 c.2 d.2
    (ap (λ (s : LoadSpec). s.key) c.3 ∙ same_key ∙ sym (ap (λ (s : LoadSpec). s.key) d.3))
    (ap (λ (s : LoadSpec). s.cached) c.3 ∙ same_kind ∙ sym (ap (λ (s : LoadSpec). s.cached) d.3))

pub one-removed : (jobs : Jobs) (number : ℕ) → OneOfEach jobs → OneOfEach (remove jobs number)
one-removed jobs number one = one_after jobs (remove jobs number) one (λ q job is wanted.
    let found = remove_found nat_cmp_total nat_cmp-IsAntisymmetric jobs number q job is in (job, found.1, wanted, refl))

pub one-changed : (jobs : Jobs) (number : ℕ) (old new : Job) → get jobs number ≡ Some old → old.spec ≡ new.spec → (new.cancelled ≡ false → old.cancelled ≡ false)
    → OneOfEach jobs → OneOfEach (insert jobs number new)
one-changed jobs number old new live same_spec keeps one = one_after jobs (insert jobs number new) one (λ q job is wanted.
    elim (insert_cases nat_cmp_total nat_cmp-IsAntisymmetric jobs number new q job is) [
      | inl here ↦ (old, ap (get jobs) here.0 ∙ live, keeps (ap (λ (j : Job). j.cancelled) here.1 ∙ wanted), same_spec ∙ ap (λ (j : Job). j.spec) here.1)
      | inr there ↦ (job, there.1, wanted, refl)
    ])

pub one-added : (law : KeyLaw) (jobs : Jobs) (number : ℕ) (spec : LoadSpec) → job_for spec.key spec.cached jobs ≡ None → OneOfEach jobs → OneOfEach (insert jobs number (queued_job spec))
one-added law jobs number spec none one i j a b at_i at_j wanted_a wanted_b same_key same_kind =
    elim (insert_cases nat_cmp_total nat_cmp-IsAntisymmetric jobs number (queued_job spec) i a at_i) [
      | inl new_i ↦ elim (insert_cases nat_cmp_total nat_cmp-IsAntisymmetric jobs number (queued_job spec) j b at_j) [
        | inl new_j ↦ new_i.0 ∙ sym new_j.0
        | inr old_j ↦ absurd (none_serves law spec.key spec.cached jobs j none (record {
          job = b;
          live = old_j.1;
          same_key = sym same_key ∙ sym (ap (λ (x : Job). x.spec.key) new_i.1);
          same_kind = sym same_kind ∙ sym (ap (λ (x : Job). x.spec.cached) new_i.1);
          wanted = wanted_b;
        }))
      ]
      | inr old_i ↦ elim (insert_cases nat_cmp_total nat_cmp-IsAntisymmetric jobs number (queued_job spec) j b at_j) [
        | inl new_j ↦ absurd (none_serves law spec.key spec.cached jobs i none (record {
          job = a;
          live = old_i.1;
          same_key = same_key ∙ sym (ap (λ (x : Job). x.spec.key) new_j.1);
          same_kind = same_kind ∙ sym (ap (λ (x : Job). x.spec.cached) new_j.1);
          wanted = wanted_a;
        }))
        | inr old_j ↦ one i j a b old_i.1 old_j.1 wanted_a wanted_b same_key same_kind
      ]
    ]

-- ---- the table after each edit

-- what the invariant says of a vector's entries, and the map that they are
pub record Kept (es : List (ℕ × Job)) (jobs : Jobs) (added room : ℕ) : Type 0 where
  pub sorted : T (is_sorted nat_cmp es)
  pub below : T (all_below nat_cmp es added)
  pub few : length es ≤ room
  pub one : OneOfEach (from_sorted es)
  pub is : from_sorted es ≡ jobs

module _ (s : Inside) (table : IsTable s) where
  by_entries : (new : List (ℕ × Job)) (jobs : Jobs) (added : ℕ) → entries jobs ≡ new → T (all_below nat_cmp new added) → length new ≤ s.room → OneOfEach jobs → Kept new jobs added s.room
  by_entries new jobs added is below few one =
      let both = edited jobs new is in
      record { sorted = both.0; below = below; few = few; one = subst OneOfEach (sym both.1) one; is = both.1 }

  pub kept-set : (place number : ℕ) (old new : Job) → slice_get s.jobs.items place ≡ Some (number, old) → old.spec ≡ new.spec → (new.cancelled ≡ false → old.cancelled ≡ false)
      → Kept (slice_set s.jobs.items place (number, new)) (insert (jobs_of s) number new) s.added s.room
  kept-set place number old new at same_spec keeps =
      let live : get (jobs_of s) number ≡ Some old = get-sorted_at nat_cmp_total nat_cmp-IsAntisymmetric s.jobs.items table.sorted place number old at in
      let size : length (slice_set s.jobs.items place (number, new)) ≡ length s.jobs.items = length-set s.jobs.items place (number, new) in
      let few : length s.jobs.items ≤ s.room = table.few in
      by_entries (slice_set s.jobs.items place (number, new)) (insert (jobs_of s) number new) s.added
      (entries-set nat_cmp_total nat_cmp-IsAntisymmetric s.jobs.items table.sorted place number old new at)
      (all_below-set nat_cmp s.jobs.items place number s.added old new at table.below)
      (omega (arith, size, few))
      (one-changed (jobs_of s) number old new live same_spec keeps table.one)

  pub kept-removed : (place number : ℕ) (job : Job) → slice_get s.jobs.items place ≡ Some (number, job)
      → Kept (take place s.jobs.items ++ drop (suc place) s.jobs.items) (remove (jobs_of s) number) s.added s.room
  kept-removed place number job at =
      let within : place < length s.jobs.items = slice_get_within s.jobs.items place (number, job) at in
      let front : length (take place s.jobs.items) ≡ min place (length s.jobs.items) = length-take place s.jobs.items in
      let back : length (drop (suc place) s.jobs.items) ≡ length s.jobs.items - suc place = length-drop (suc place) s.jobs.items in
      let all : length (take place s.jobs.items ++ drop (suc place) s.jobs.items) ≡ length (take place s.jobs.items) + length (drop (suc place) s.jobs.items) = length-append (take place s.jobs.items) (drop (suc place) s.jobs.items) in
      let few : length s.jobs.items ≤ s.room = table.few in
      by_entries (take place s.jobs.items ++ drop (suc place) s.jobs.items) (remove (jobs_of s) number) s.added
      (entries-removed nat_cmp_total nat_cmp-IsAntisymmetric s.jobs.items table.sorted place number job at)
      (all_below-removed nat_cmp s.jobs.items place s.added table.below)
      (omega (arith, within, front, back, all, few))
      (one-removed (jobs_of s) number table.one)

  pub kept-added : (law : KeyLaw) (spec : LoadSpec) → length s.jobs.items < s.room → job_for spec.key spec.cached (jobs_of s) ≡ None
      → Kept (s.jobs.items ++ (s.added, queued_job spec) ∷ []) (insert (jobs_of s) s.added (queued_job spec)) (s.added + 1) s.room
  kept-added law spec room none =
      let all : length (s.jobs.items ++ (s.added, queued_job spec) ∷ []) ≡ length s.jobs.items + 1 = length-append s.jobs.items ((s.added, queued_job spec) ∷ []) in
      by_entries (s.jobs.items ++ (s.added, queued_job spec) ∷ []) (insert (jobs_of s) s.added (queued_job spec)) (s.added + 1)
      (entries-push nat_cmp_total nat_cmp-IsAntisymmetric s.jobs.items table.sorted s.added (queued_job spec) table.below)
      (all_below-push nat_cmp nat_cmp_total s.jobs.items s.added (s.added + 1) (queued_job spec) (sym (nat_cmp_is s.added (s.added + 1) Less (omega arith))) table.below)
      (omega (arith, all, room))
      (one-added law (jobs_of s) s.added spec none table.one)

-- a queued job is live
pub queued_live : (jobs : Jobs) (number : ℕ) → queued_in jobs number ≡ true → IsSome (get jobs number)
queued_live jobs number = elim (get jobs number) as (λ x. passes (λ n job. is_queued job) number x ≡ true → is_some x ≡ true) [ None ↦ λ e. e | Some job ↦ λ e. refl ]

-- where the job of a call stands, in the words that the calls have
pub stands : (s : Inside) → IsTable s → (value : JobTableValue) (number place : ℕ) (ds : List (ℕ × Job)) → value_of s ≡ value → ds ≡ s.jobs.items
    → slice_get ds place ≡ option_map (λ job. (number, job)) (find nat_cmp number ds) → IsSome (get value.jobs number)
    → (job : Job) × (get (jobs_of s) number ≡ Some job) × (slice_get s.jobs.items place ≡ Some (number, job))
stands s table value number place ds view same at live =
    placed ds s.jobs.items number place same table.sorted at (subst (λ (v : JobTableValue). IsSome (get v.jobs number)) (sym view) live)

-- what is read there
pub read_is : (es : List (ℕ × Job)) (place number : ℕ) (job : Job) (r : ℕ × Job) → slice_get es place ≡ Some (number, job) → r ≡ get_or es place r → r ≡ (number, job)
read_is es place number job r at is = is ∙ get_or_from_slice_get es place (number, job) r at

-- a table with no job
pub one-none : OneOfEach (from_sorted [])
one-none i j a b at_i at_j wanted_a wanted_b same_key same_kind = absurd (not_Some (sym (get-from_sorted nat_cmp [] i tt) ∙ at_i))

pub none-empty : from_sorted {R = nat_cmp} [] ≡ empty {K = ℕ} {X = Job} {R = nat_cmp}
none-empty = empty_of_len (from_sorted []) (len-sorted nat_cmp_total nat_cmp-IsAntisymmetric [] tt)

-- a job's answer whether it is queued
pub queued_is : (jobs : Jobs) (number : ℕ) (job : Job) (answer : Bool) → get jobs number ≡ Some job → is_some job.seat ≡ not answer → answer ≡ queued_in jobs number
queued_is jobs number job answer live is = none_is answer job.seat is ∙ sym (ap (passes (λ n j. is_queued j) number) live)

-- a job changed at its place
pub changed_at : (s : Inside) → IsTable s → (number place : ℕ) (job : Job) (r : ℕ × Job) (f : Job → Job) → get (jobs_of s) number ≡ Some job → slice_get s.jobs.items place ≡ Some (number, job)
    → r ≡ get_or s.jobs.items place r → ((j : Job) → (f j).spec ≡ j.spec) → ((j : Job) → (f j).cancelled ≡ false → j.cancelled ≡ false)
    → Kept (slice_set s.jobs.items place (r.0, f r.1)) (modify (jobs_of s) number f) s.added s.room
changed_at s table number place job r f live at is same_spec keeps =
    let here : r ≡ (number, job) = read_is s.jobs.items place number job r at is in
    let k = kept-set s table place number job (f job) at (sym (same_spec job)) (keeps job) in
    subst (λ (e : ℕ × Job). Kept (slice_set s.jobs.items place (e.0, f e.1)) (modify (jobs_of s) number f) s.added s.room) (sym here)
    (subst (λ (m : Jobs). Kept (slice_set s.jobs.items place (number, f job)) m s.added s.room) (sym (modify_there nat_cmp_total nat_cmp-IsAntisymmetric (jobs_of s) number f job live)) k)

pub marked_wanted : (j : Job) → (marked j).cancelled ≡ false → j.cancelled ≡ false
marked_wanted j e = cc

-- a job taken out
pub removed_at : (s : Inside) → IsTable s → (number place : ℕ) (job : Job) (new : List (ℕ × Job)) → slice_get s.jobs.items place ≡ Some (number, job)
    → new ≡ take place s.jobs.items ++ drop (suc place) s.jobs.items → Kept new (remove (jobs_of s) number) s.added s.room
removed_at s table number place job new at is = subst (λ (l : List (ℕ × Job)). Kept l (remove (jobs_of s) number) s.added s.room) (sym is) (kept-removed s table place number job at)
