-- A sound world within its limits needs no more room than the quotas of its seats say.
use Rattle.std.proofs.Common.{◌≡◌, ℕ, ◌+◌, ◌-◌, ◌*◌, ◌<◌, ◌≤◌, Bool, true, false, cond, eqb, ltb, List, [], ◌∷◌, length, Some, None, Option, refl, ap, sym, subst, ◌∙◌, inl, inr, arith, true≢false}
use Rattle.std.specs.Prelude.{◌++◌, ◌&&◌, suc, slice_index_or, sum_by}
use Rattle.std.specs.Option.{is_some}
use Rattle.std.specs.Ordering.{nat_cmp}
use Rattle.std.specs.Cmp.{nat_cmp_total}
use Rattle.std.specs.FinMap.{get, len, keys, entries, contains_key, nat_cmp-IsAntisymmetric}
use Rattle.std.specs.FinSet as set
use Rattle.std.proofs.lemmas.Bool.{ltb-true, ltb-false}
use Rattle.std.proofs.lemmas.List.{get_or_past, length-append}
use Rattle.std.proofs.lemmas.List.Sums.{sum_by-cons}
use Rattle.finite_maps.specs.Maps.{sum_over, total}
use Rattle.finite_maps.specs.MapLaws.{not_Some, same_Some}
use Rattle.load_table.specs.declared.loads.LoadState.TheVariants.{Waiting, Ready, Failed}
use Rattle.active_resources.specs.Actives.{Numbers}
use Rattle.load_table.specs.Loads.{LoadName, waits_on, ready_on, waiting, holders, owned}
use Rattle.load_table.specs.LoadOrder.{load_total, load_same}
use Rattle.engine_world.specs.World.{LoadState, Loads, Job, Resource, World}
use Rattle.engine_world.specs.Places.{one_if, occurrences, is_held}
use Rattle.engine_world.specs.Balance.{out_count, held_count}
use Rattle.engine_world.specs.Knowledge.{OwnJob, Knowledge}
use Rattle.engine_world.specs.Permits.{load_limit}
use Rattle.engine_world.specs.Steps.{quota_of}
use Rattle.engine_world.specs.Sound.{IsJob, Sound}
use Rattle.engine_world.specs.Rooms.{quota_sum, WithinLimits}
use Rattle.engine_world.specs.RoomLaws.{NeedsNoMoreRoom}
use Rattle.engine_world.specs.OccurrenceLaws.{one_if_same, one_if_other, occurrences-append}
use Rattle.engine_world.specs.NumberLaws.{number_cases}
use Rattle.engine_world.proofs.EndEvents.{set_remove_found}
use Rattle.engine_world.proofs.Knowing.{there_known}
use Rattle.engine_world.proofs.Balances.{at_most, balance_law}
use Rattle.engine_world.proofs.KeySums.{total-le-found, total-add, total-ones, total-double, total-zero, one_if_most, stands_at, stands_once, key_once, key_there, sum_at, total-keys, sum_at-le, sum_at-less, sum_at-one, total_turned, counted_once, stand_few, stand_all, sum_at-zero}

-- ---- seats

-- the seats of quotas, from a number on
seats_from : ℕ → List ℕ → List ℕ
seats_from k [] = []
seats_from k (q ∷ qs) = k ∷ seats_from (k + 1) qs

is_seat : (a k : ℕ) (qs : List ℕ) → k ≤ a → a < k + length qs → 1 ≤ occurrences a (seats_from k qs)
unfolding seats_from
is_seat a k [] from below = absurd (omega (arith, from, below))
is_seat a k (q ∷ qs) from below = elim (number_cases k a) [
  | inl same ↦ let here : one_if (eqb k a) ≡ 1 = ap (λ i. one_if (eqb i a)) same ∙ one_if_same a in omega (arith, here)
  | inr ne ↦ let rest : 1 ≤ occurrences a (seats_from (k + 1) qs) = is_seat a (k + 1) qs (omega (arith, from, ne)) (omega (arith, below)) in omega (arith, rest)
]

-- the sum of the quotas, by seats
quota_at : (f : ℕ → ℕ) (k : ℕ) (qs : List ℕ) → ((i : ℕ) → f (k + i) ≡ slice_index_or qs i 0) → sum_at f (seats_from k qs) ≡ quota_sum qs
unfolding seats_from
quota_at f k [] h = refl
quota_at f k (q ∷ qs) h =
    let first : f k ≡ q = (let none : k ≡ k + 0 = omega arith in ap f none) ∙ h 0 in
    let rest : sum_at f (seats_from (k + 1) qs) ≡ quota_sum qs = quota_at f (k + 1) qs (λ i. (let next : k + 1 + i ≡ k + suc i = omega arith in ap f next) ∙ h (suc i)) in
    omega (arith, first, rest, sum_by-cons (λ quota. quota) q qs)

-- numbers of which each is at most another have at most so many times it for their sum
sum_most : (most : ℕ) (xs : List ℕ) → ((i : ℕ) → slice_index_or xs i 0 ≤ most) → sum_by (λ n. n) xs ≤ length xs * most
sum_most most [] h = omega arith
sum_most most (x ∷ xs) h =
    let first : x ≤ most = h 0 in
    let rest : sum_by (λ n. n) xs ≤ length xs * most = sum_most most xs (λ i. h (suc i)) in
    let times : length (x ∷ xs) * most ≡ most + length xs * most = omega arith in
    omega (arith, first, rest, times, sum_by-cons (λ n. n) x xs)

-- ---- which loads wait on which job, or hold which resource

wait_once : (xs : List ℕ) → ((b : ℕ) → occurrences b xs ≤ 1) → (state : LoadState) → sum_at (λ j. one_if (waits_on j state)) xs ≤ 1
wait_once xs once (Waiting i) = omega (arith, sum_at-one i xs, once i)
wait_once xs once (Ready r) = omega (arith, sum_at-zero xs)
wait_once xs once (Failed cause) = omega (arith, sum_at-zero xs)

hold_once : (xs : List ℕ) → ((b : ℕ) → occurrences b xs ≤ 1) → (state : LoadState) → sum_at (λ r. one_if (ready_on r state)) xs ≤ 1
hold_once xs once (Waiting i) = omega (arith, sum_at-zero xs)
hold_once xs once (Ready r) = omega (arith, sum_at-one r xs, once r)
hold_once xs once (Failed cause) = omega (arith, sum_at-zero xs)

-- Numbers of which none stands twice have no more loads that wait on them, or hold them, than there are.
waiting_few : (loads : Loads) (xs : List ℕ) → ((b : ℕ) → occurrences b xs ≤ 1) → sum_at (λ j. waiting j loads) xs ≤ len loads
waiting_few loads xs once = counted_once (λ j (name : LoadName) (state : LoadState). one_if (waits_on j state)) xs loads (λ name state. wait_once xs once state)

holders_few : (loads : Loads) (xs : List ℕ) → ((b : ℕ) → occurrences b xs ≤ 1) → sum_at (λ r. holders r loads) xs ≤ len loads
holders_few loads xs once = counted_once (λ r (name : LoadName) (state : LoadState). one_if (ready_on r state)) xs loads (λ name state. hold_once xs once state)

-- ---- the seats that jobs run on

seat_list : Option ℕ → List ℕ
seat_list None = []
seat_list (Some k) = k ∷ []

one_seat : (k : ℕ) → length (seat_list (Some k)) ≡ 1
unfolding seat_list
one_seat k = refl

seats_in : List (ℕ × Job) → List ℕ
seats_in [] = []
seats_in (e ∷ es) = seat_list e.1.seat ++ seats_in es

seats_stand : (k : ℕ) (es : List (ℕ × Job)) → occurrences k (seats_in es) ≡ sum_over (λ j (job : Job). occurrences k (seat_list job.seat)) es
unfolding seats_in
seats_stand k [] = refl
seats_stand k (e ∷ es) = occurrences-append k (seat_list e.1.seat) (seats_in es) ∙ ap (λ n. occurrences k (seat_list e.1.seat) + n) (seats_stand k es)

seats_length : (es : List (ℕ × Job)) → length (seats_in es) ≡ sum_over (λ j (job : Job). length (seat_list job.seat)) es
unfolding seats_in
seats_length [] = refl
seats_length (e ∷ es) = length-append (seat_list e.1.seat) (seats_in es) ∙ ap (λ n. length (seat_list e.1.seat) + n) (seats_length es)

-- a seat stands in its list at most where a job sits on it
sits_there : (k : ℕ) (seat : Option ℕ) → 0 < occurrences k (seat_list seat) → seat ≡ Some k
unfolding seat_list
sits_there k None some = absurd (omega (arith, some))
sits_there k (Some i) some = elim (number_cases i k) [
  | inl same ↦ ap Some same
  | inr ne ↦ absurd (omega (arith, some, one_if_other i k ne))
]

sits_once : (k : ℕ) (seat : Option ℕ) → occurrences k (seat_list seat) ≤ 1
unfolding seat_list
sits_once k None = omega arith
sits_once k (Some i) = elim (eqb i k) as (λ t. one_if t + 0 ≤ 1) [ true ↦ omega arith | false ↦ omega arith ]

-- ---- numbers of a set

-- where each of its numbers stands in a list, at a place of at least 1, the list's sum is at least as many
set_few : (f : ℕ → ℕ) (xs : List ℕ) (s : Numbers) → ((b : ℕ) → set.contains s b ≡ true → (0 < occurrences b xs) × (1 ≤ f b)) → set.len s ≤ sum_at f xs
set_few f [] s h =
    let none : (b : ℕ) → set.contains s b ≡ set.contains (set.empty {K = ℕ} {R = nat_cmp}) b = λ b. elim (set.contains s b) as (λ t. set.contains s b ≡ t → t ≡ set.contains (set.empty {K = ℕ} {R = nat_cmp}) b) [
      | true ↦ λ e. absurd (omega (arith, (h b e).0))
      | false ↦ λ e. sym (set.contains-empty nat_cmp b)
    ] refl in
    omega (arith, ap set.len (set.same_set nat_cmp_total nat_cmp-IsAntisymmetric s (set.empty {K = ℕ} {R = nat_cmp}) none), set.len-empty nat_cmp)
set_few f (x ∷ xs) s h =
    let rest : set.len (set.remove s x) ≤ sum_at f xs = set_few f xs (set.remove s x) (λ b e.
    let found = set_remove_found s x b e in
    let old = h b found.1 in
    (omega (arith, old.0, one_if_other x b (λ is. found.0 (sym is))), old.1)) in
    elim (set.contains s x) as (λ t. set.contains s x ≡ t → set.len s ≤ f x + sum_at f xs) [
      | true ↦ λ e.
          let less : set.len (set.remove s x) ≡ set.len s - 1 = set.len-remove nat_cmp_total s x ∙ ap (λ t. cond t (set.len s - 1) (set.len s)) e in
          omega (arith, rest, less, (h x e).1)
      | false ↦ λ e.
          let same : set.len (set.remove s x) ≡ set.len s = set.len-remove nat_cmp_total s x ∙ ap (λ t. cond t (set.len s - 1) (set.len s)) e in
          omega (arith, rest, same)
    ] refl

-- ---- what is held

held_few : (a : Bool) (n : ℕ) → one_if (a && ltb 0 n) ≤ n
held_few false n = omega arith
held_few true n = elim (ltb 0 n) as (λ t. ltb 0 n ≡ t → one_if t ≤ n) [ true ↦ λ e. omega (arith, ltb-true 0 n e) | false ↦ λ e. omega arith ] refl

module _ (w : World) (known : ℕ → Knowledge) (s : Sound w known) (l : WithinLimits w) where
  abbrev quotas : List ℕ
  quotas = w.limits.quotas

  abbrev seats : List ℕ
  seats = seats_from 0 quotas

  -- ---- loads

  -- a load's owner is a seat that there is
  owner_is_seat : (name : LoadName) (state : LoadState) → get w.loads name ≡ Some state → name.0 < length quotas
  owner_is_seat name state at =
      let knows = s.known_is name.0 in
      let found = there_known w.loads w.jobs w.resources (get (known name.0).loads name.1) (get w.loads name) state at (knows.each name.1) in
      let under : name.1 < (known name.0).begun = knows.below name.1 found.0 found.1 in
      elim (ltb name.0 (length w.begun)) as (λ t. ltb name.0 (length w.begun) ≡ t → name.0 < length quotas) [
        | true ↦ λ e. omega (arith, ltb-true name.0 (length w.begun) e, s.seats)
        | false ↦ λ e.
            let past : slice_index_or w.begun name.0 0 ≡ 0 = get_or_past w.begun name.0 0 (ltb-false name.0 (length w.begun) e) in
            absurd (omega (arith, past, knows.count, under))
      ] refl

  loads_owned : len w.loads ≤ sum_at (λ who. owned who w.loads) seats
  loads_owned =
      let each : total (λ (name : LoadName) (state : LoadState). 1) w.loads ≤ total (λ (name : LoadName) (state : LoadState). sum_at (λ who. one_if (eqb name.0 who)) seats) w.loads =
      total-le-found load_total load_same (λ (name : LoadName) (state : LoadState). 1) (λ (name : LoadName) (state : LoadState). sum_at (λ who. one_if (eqb name.0 who)) seats) w.loads (λ name state at.
      omega (arith, sum_at-one name.0 seats, (let under : name.0 < length quotas = owner_is_seat name state at in is_seat name.0 0 quotas (omega arith) (omega (arith, under))))) in
      omega (arith, each, total-ones w.loads, total_turned (λ who (name : LoadName) (state : LoadState). one_if (eqb name.0 who)) seats w.loads)

  quotas_sum : sum_at (λ who. quota_of w who) seats ≡ quota_sum quotas
  quotas_sum = quota_at (λ who. quota_of w who) 0 quotas (λ i. let same : 0 + i ≡ i = omega arith in ap (λ n. quota_of w n) same)

  few_loads : len w.loads ≤ quota_sum quotas
  few_loads = omega (arith, loads_owned, sum_at-le (λ who. owned who w.loads) (λ who. quota_of w who) l.quotas seats, quotas_sum)

  -- a seat that is below its quota is one that there is
  another : (who : ℕ) → owned who w.loads < quota_of w who → len w.loads < quota_sum quotas
  another who below =
      let in_range : who < length quotas = elim (ltb who (length quotas)) as (λ t. ltb who (length quotas) ≡ t → who < length quotas) [
        | true ↦ λ e. ltb-true who (length quotas) e
        | false ↦ λ e. absurd (omega (arith, below, get_or_past quotas who 0 (ltb-false who (length quotas) e)))
      ] refl in
      let stands : 0 < occurrences who seats = is_seat who 0 quotas (omega arith) (omega (arith, in_range)) in
      omega (arith, loads_owned, sum_at-less (λ who. owned who w.loads) (λ who. quota_of w who) who l.quotas below seats stands, quotas_sum)

  -- ---- jobs

  -- no two jobs sit on one seat
  one_sits : (k : ℕ) → occurrences k (seats_in (entries w.jobs)) ≤ 1
  unfolding total
  one_sits k =
      let knows = s.known_is k in
      let stands : occurrences k (seats_in (entries w.jobs)) ≡ total (λ j (job : Job). occurrences k (seat_list job.seat)) w.jobs = seats_stand k (entries w.jobs) in
      elim (known k).job as (λ o. (known k).job ≡ o → occurrences k (seats_in (entries w.jobs)) ≤ 1) [
        | None ↦ λ e.
            let none : total (λ j (job : Job). occurrences k (seat_list job.seat)) w.jobs ≤ total (λ j (job : Job). 0) w.jobs =
            total-le-found nat_cmp_total nat_cmp-IsAntisymmetric (λ j (job : Job). occurrences k (seat_list job.seat)) (λ j (job : Job). 0) w.jobs (λ j job at.
            elim (ltb 0 (occurrences k (seat_list job.seat))) as (λ t. ltb 0 (occurrences k (seat_list job.seat)) ≡ t → occurrences k (seat_list job.seat) ≤ 0) [
              | true ↦ λ some. let own = knows.knows j job at (sits_there k job.seat (ltb-true 0 (occurrences k (seat_list job.seat)) some)) in absurd (not_Some (sym e ∙ own.1))
              | false ↦ λ some. ltb-false 0 (occurrences k (seat_list job.seat)) some
            ] refl) in
            omega (arith, stands, none, total-zero w.jobs)
        | Some own ↦ λ e.
            let less : total (λ j (job : Job). occurrences k (seat_list job.seat)) w.jobs ≤ total (stands_at (λ _. true) own.number) w.jobs =
            total-le-found nat_cmp_total nat_cmp-IsAntisymmetric (λ j (job : Job). occurrences k (seat_list job.seat)) (stands_at (λ _. true) own.number) w.jobs (λ j job at.
            elim (ltb 0 (occurrences k (seat_list job.seat))) as (λ t. ltb 0 (occurrences k (seat_list job.seat)) ≡ t → occurrences k (seat_list job.seat) ≤ one_if (eqb j own.number)) [
              | true ↦ λ some.
                  let mine = knows.knows j job at (sits_there k job.seat (ltb-true 0 (occurrences k (seat_list job.seat)) some)) in
                  let same : j ≡ own.number = sym mine.2 ∙ ap (λ (a : OwnJob). a.number) (same_Some _ _ (sym mine.1 ∙ e)) in
                  omega (arith, sits_once k job.seat, ap (λ i. one_if (eqb i own.number)) same, one_if_same own.number)
              | false ↦ λ some. omega (arith, ltb-false 0 (occurrences k (seat_list job.seat)) some)
            ] refl) in
            omega (arith, stands, less, stands_once (λ _. true) own.number w.jobs, one_if_most (contains_key w.jobs own.number && true))
      ] refl

  -- each that a job sits on is there
  sits_below : (k : ℕ) → 0 < occurrences k (seats_in (entries w.jobs)) → k < length quotas
  unfolding total
  sits_below k some = elim (ltb k (length quotas)) as (λ t. ltb k (length quotas) ≡ t → k < length quotas) [
    | true ↦ λ e. ltb-true k (length quotas) e
    | false ↦ λ e.
        let past : length quotas ≤ k = ltb-false k (length quotas) e in
        let stands : occurrences k (seats_in (entries w.jobs)) ≡ total (λ j (job : Job). occurrences k (seat_list job.seat)) w.jobs = seats_stand k (entries w.jobs) in
        let none : total (λ j (job : Job). occurrences k (seat_list job.seat)) w.jobs ≤ total (λ j (job : Job). 0) w.jobs =
        total-le-found nat_cmp_total nat_cmp-IsAntisymmetric (λ j (job : Job). occurrences k (seat_list job.seat)) (λ j (job : Job). 0) w.jobs (λ j job at.
        elim (ltb 0 (occurrences k (seat_list job.seat))) as (λ t. ltb 0 (occurrences k (seat_list job.seat)) ≡ t → occurrences k (seat_list job.seat) ≤ 0) [
          | true ↦ λ more. let under : k < length quotas = l.seats j k job at (sits_there k job.seat (ltb-true 0 (occurrences k (seat_list job.seat)) more)) in absurd (omega (arith, past, under))
          | false ↦ λ more. ltb-false 0 (occurrences k (seat_list job.seat)) more
        ] refl) in
        absurd (omega (arith, some, stands, none, total-zero w.jobs))
  ] refl

  few_sit : total (λ j (job : Job). length (seat_list job.seat)) w.jobs ≤ length quotas
  unfolding total
  few_sit = omega (arith, seats_length (entries w.jobs), at_most (length quotas) (seats_in (entries w.jobs)) one_sits sits_below)

  -- a job is waited on, or it is cancelled, and then it runs
  waits_or_sits : (j : ℕ) (job : Job) → get w.jobs j ≡ Some job → 1 ≤ waiting j w.loads + length (seat_list job.seat)
  waits_or_sits j job at = elim job.cancelled as (λ t. job.cancelled ≡ t → 1 ≤ waiting j w.loads + length (seat_list job.seat)) [
    | true ↦ λ e. elim job.seat as (λ o. job.seat ≡ o → 1 ≤ waiting j w.loads + length (seat_list o)) [
      | None ↦ λ queued. absurd (true≢false (sym e ∙ ((s.jobs.each j job at).queued queued).1))
      | Some k ↦ λ runs. let one : length (seat_list (Some k)) ≡ 1 = one_seat k in omega (arith, one)
    ] refl
    | false ↦ λ e. let some : 0 < waiting j w.loads = s.awaited j job at e in omega (arith, some)
  ] refl

  few_jobs : len w.jobs ≤ len w.loads + length quotas
  few_jobs =
      let each : total (λ j (job : Job). 1) w.jobs ≤ total (λ j (job : Job). waiting j w.loads + length (seat_list job.seat)) w.jobs =
      total-le-found nat_cmp_total nat_cmp-IsAntisymmetric (λ j (job : Job). 1) (λ j (job : Job). waiting j w.loads + length (seat_list job.seat)) w.jobs waits_or_sits in
      omega (
        arith,
        each,
        total-ones w.jobs,
        total-add nat_cmp_total nat_cmp-IsAntisymmetric (λ j (job : Job). waiting j w.loads) (λ j (job : Job). length (seat_list job.seat)) w.jobs,
        total-keys (λ j. waiting j w.loads) w.jobs,
        waiting_few w.loads (keys w.jobs) (key_once w.jobs),
        few_sit,
      )

  few_out : out_count w ≤ 2 * len w.jobs
  few_out =
      let each : out_count w ≤ total (λ j (job : Job). 2) w.jobs = total-le-found nat_cmp_total nat_cmp-IsAntisymmetric (λ j (job : Job). length job.out) (λ j (job : Job). 2) w.jobs (λ j job at.
      let is : IsJob w.counts.started j job = s.jobs.each j job at in
      omega (arith, is.out, is.takes)) in
      omega (arith, each, total-double w.jobs)

  -- ---- resources

  few_held : sum_at (λ r. holders r w.loads) (keys w.resources) ≤ len w.loads
  few_held = holders_few w.loads (keys w.resources) (key_once w.resources)

  few_resources : len w.resources ≤ len w.loads + length w.cached
  few_resources =
      let each : total (λ r (a : Resource). 1) w.resources ≤ total (λ r (a : Resource). holders r w.loads + occurrences r w.cached) w.resources =
      total-le-found nat_cmp_total nat_cmp-IsAntisymmetric (λ r (a : Resource). 1) (λ r (a : Resource). holders r w.loads + occurrences r w.cached) w.resources (λ r a at.
      omega (arith, s.places.kept r a at, held_few (contains_key w.resources r) (holders r w.loads))) in
      omega (
        arith,
        each,
        total-ones w.resources,
        total-add nat_cmp_total nat_cmp-IsAntisymmetric (λ r (a : Resource). holders r w.loads) (λ r (a : Resource). occurrences r w.cached) w.resources,
        total-keys (λ r. holders r w.loads) w.resources,
        total-keys (λ r. occurrences r w.cached) w.resources,
        few_held,
        stand_few (keys w.resources) w.cached (key_once w.resources),
      )

  few_active : set.len w.active ≤ len w.loads
  few_active =
      let less : set.len w.active ≤ sum_at (λ r. holders r w.loads) (keys w.resources) = set_few (λ r. holders r w.loads) (keys w.resources) w.active (λ r is.
      let each = s.active.each r is in
      let there : occurrences r (keys w.resources) ≡ 1 = key_there w.resources r each.0.0 each.0.1 in
      (omega (arith, there), omega (arith, each.1))) in
      omega (arith, less, few_held)

  -- a resource is held or cached, and not both
  held_or_cached : (r : ℕ) (a : Resource) → get w.resources r ≡ Some a → one_if (ltb 0 (holders r w.loads)) + occurrences r w.cached ≡ 1
  held_or_cached r a at =
      let is : one_if (is_held w.loads w.resources r) ≡ one_if (ltb 0 (holders r w.loads)) = ap (λ o. one_if (is_some o && ltb 0 (holders r w.loads))) at in
      omega (arith, s.places.once r, s.places.kept r a at, is)

  held_count_is : held_count w + length w.cached ≡ len w.resources
  held_count_is =
      let f : ℕ → Resource → ℕ = λ r a. one_if (ltb 0 (holders r w.loads)) + occurrences r w.cached in
      let most : total f w.resources ≤ total (λ r (a : Resource). 1) w.resources = total-le-found nat_cmp_total nat_cmp-IsAntisymmetric f (λ r (a : Resource). 1) w.resources (λ r a at. omega (arith, held_or_cached r a at)) in
      let least : total (λ r (a : Resource). 1) w.resources ≤ total f w.resources = total-le-found nat_cmp_total nat_cmp-IsAntisymmetric (λ r (a : Resource). 1) f w.resources (λ r a at. omega (arith, held_or_cached r a at)) in
      let apart : total f w.resources ≡ held_count w + total (λ r (a : Resource). occurrences r w.cached) w.resources =
      total-add nat_cmp_total nat_cmp-IsAntisymmetric (λ r (a : Resource). one_if (ltb 0 (holders r w.loads))) (λ r (a : Resource). occurrences r w.cached) w.resources in
      let cached : sum_at (λ r. occurrences r w.cached) (keys w.resources) ≡ length w.cached = stand_all (keys w.resources) w.cached (λ r some.
      let there = (s.cached.each r some).0 in key_there w.resources r there.0 there.1) in
      omega (arith, most, least, apart, cached, total-keys (λ r. occurrences r w.cached) w.resources, total-ones w.resources)

pub rooms_law : NeedsNoMoreRoom
rooms_law w known s l =
    let most : w.counts.loads ≤ length w.begun * load_limit = subst (λ n. n ≤ length w.begun * load_limit) (sym l.begun) (sum_most load_limit w.begun l.each_begun) in
    record {
      loads = few_loads w known s l;
      another_load = another w known s l;
      jobs = omega (arith, few_jobs w known s l, few_loads w known s l);
      resources = omega (arith, few_resources w known s l, few_loads w known s l, s.cached.few);
      active = omega (arith, few_active w known s l, few_loads w known s l);
      held = held_count_is w known s l;
      out = few_out w known s l;
      kept = omega (arith, (balance_law w known s (record { loads = l.answered; takes = l.given })).made);
      loads_count = subst (λ n. w.counts.loads ≤ n * load_limit) s.seats most;
      takes_count = omega (arith, l.takes, l.answered);
    }
