-- The begins of one key that fail together by their source need one failed job: they run at the same time, and so were made
-- after the same gather.
use Rattle.std.proofs.Common.{Bool, Err, List, None, Ok, Option, Result, Some, [], ap, append_assoc, arith, cond, false, inl, inr, length, refl, subst, sym, true, true≢false, ℕ, ◌++◌, ◌+◌, ◌-◌, ◌<◌, ◌∙◌, ◌∷◌, ◌≡◌, ◌≤◌}
use Rattle.std.proofs.lemmas.Bool.{eq-eqb, and_from}
use Rattle.std.proofs.lemmas.List.{length-append}
use Rattle.std.proofs.lemmas.List.Sums.{sum_by-append, sum_by-cons}
use Rattle.std.specs.FinMap.{get, get-empty}
use Rattle.std.specs.List.{list_any}
use Rattle.std.specs.Prelude.{count_by, filter, slice_index_or, sum_by, ⊤, ◌||◌, ◌⊎◌}
use Rattle.bitmap_kind.specs.Picture.{Picture}
use Rattle.cache_key.specs.Key.{Key}
use Rattle.cache_key.specs.KeyBytes.{address_of}
use Rattle.cache_key.specs.declared.load_spec.LoadSpec.{LoadSpec}
use Rattle.engine_world.specs.EngineMachine.{engine_machine}
use Rattle.engine_world.specs.Knowledge.{Knowledge, OwnJob, OwnLoad, knowledge_in}
use Rattle.engine_world.specs.Laws.{HistoriesAreSound}
use Rattle.engine_world.specs.Moves.{begun_by}
use Rattle.engine_world.specs.Permits.{Permits}
use Rattle.engine_world.specs.Sound.{RefersTo, Sound}
use Rattle.engine_world.specs.Steps.{Step, Transition, collected}
use Rattle.engine_world.specs.World.{Job, Limits, LoadState, World}
use Rattle.engine_world.specs.declared.events.Event.{Event}
use Rattle.engine_world.specs.declared.events.Note.{Note}
use Rattle.engine_world.specs.declared.events.NotedReply.{NotedReply}
use Rattle.finite_maps.specs.MapLaws.{not_Some, same_Some}
use Rattle.load_cause.specs.declared.causes.Cause.{Cause}
use Rattle.load_table.specs.Loads.{LoadName, load_cmp}
use Rattle.load_table.specs.declared.loads.LoadState.TheVariants.{Failed, Waiting}
use Rattle.outside.specs.Content.{Address, Contents}
use Rattle.script_walk.specs.Laws.{TracesAreOrderly}
use Rattle.script_walk.specs.Marks.{Mark, Source, begins_at, begins_in, distinct, failed_fetches, is_source, same_address, same_fetch, source_marked}
use Rattle.script_walk.specs.Orderly.{AllIn, In, IsOrderly, without_begin}
use Rattle.script_walk.specs.Together.{AllAfter, BeginsRunTogether, RunTogether}
use Rattle.script_walk.specs.Walk.{Begin, Begun, Dropped, Ended, Printed, TraceEvent, Trimmed}
use Rattle.state_machine.specs.Legal.{Leads}
use Rattle.state_machine.specs.declared.entry.Entry.{Entry}
use Rattle.fetch_bounds.proofs.Bounds.{opening_sound}
use Rattle.fetch_bounds.proofs.Changing.{IsLoad, failed_law, waiting_law}
use Rattle.fetch_bounds.proofs.Entries.{work_no_load}
use Rattle.fetch_bounds.proofs.Following.{IsStep, Passes, all_work_law, known_after, next_law, prints_law}
use Rattle.fetch_bounds.proofs.Histories.{Goes, Grounds, Said, legal_goes, step_same}
use Rattle.cache_key.specs.KeyLaws.{same_key-of}
use Rattle.fetch_bounds.proofs.Seats.{there_known}
use Rattle.fetch_bounds.proofs.Standing.{IsKnown, Stands, begin_stands, drop_stands, in_without, load_known, opening_stands, same_number, stays_without, trim_stands, work_stands}
use Rattle.fetch_bounds.proofs.Starting.{IsNoLoad}
use Rattle.fetch_bounds.specs.Failures.{FailedJob, address_if_source, failed_job, fails_by, fails_from, source_addresses}
use Rattle.fetch_bounds.specs.Follows.{Follows, IsEndOf, IsLoadBy, IsLoadOf, IsReleaseOf, IsTrimTo, IsWork, reply_of}
use Rattle.fetch_bounds.specs.Laws.{FailedJobsSuffice, events_of, start_of}
use Rattle.fetch_bounds.proofs.Seats as Seats
use Rattle.load_cause.specs.declared.causes.Cause.TheVariants as causes
use Rattle.engine_world.specs.declared.events.Event.TheVariants as events
use Rattle.engine_world.specs.declared.events.NotedReply.TheVariants as replies

-- ---- pairs of a gather and a key

-- The begin is of this gather and key.
abbrev IsOfPair : Begin → ℕ × Key → Type 0
IsOfPair b pair = (b.gathers ≡ pair.0) × (b.spec.key ≡ pair.1)

-- It is of one of these.
abbrev pub HasPair : Begin → List (ℕ × Key) → Type 0
HasPair b [] = ⊥
HasPair b (pair ∷ pairs) = IsOfPair b pair ⊎ HasPair b pairs

pair_left : (b : Begin) (xs ys : List (ℕ × Key)) → HasPair b xs → HasPair b (xs ++ ys)
pair_left b [] ys h = absurd h
pair_left b (x ∷ xs) ys h = elim h [ inl is ↦ inl is | inr is ↦ inr (pair_left b xs ys is) ]

pair_right : (b : Begin) (xs ys : List (ℕ × Key)) → HasPair b ys → HasPair b (xs ++ ys)
pair_right b [] ys h = h
pair_right b (x ∷ xs) ys h = inr (pair_right b xs ys h)

-- the pairs without that of a begin
record Without (x : Begin) (pairs : List (ℕ × Key)) : Type 0 where
  left : List (ℕ × Key)
  fewer : length pairs ≡ length left + 1
  others : (b : Begin) → HasPair b pairs → ((b.gathers ≡ x.gathers) × (b.spec.key ≡ x.spec.key)) ⊎ HasPair b left

without_pair : (x : Begin) (pairs : List (ℕ × Key)) → HasPair x pairs → Without x pairs
without_pair x [] h = absurd h
without_pair x (pair ∷ pairs) h = elim h [
  | inl is ↦ record { left = pairs; fewer = omega arith; others = λ b b_has. elim b_has [ inl also ↦ inl (also.0 ∙ sym is.0, also.1 ∙ sym is.1) | inr old ↦ inr old ] }
  | inr is ↦
      let rest = without_pair x pairs is in
      record {
        left = pair ∷ rest.left;
        fewer = omega (arith, rest.fewer);
        others = λ b b_has. elim b_has [
          | inl of ↦ inr (inl of)
          | inr old ↦ elim (rest.others b old) [ inl same ↦ inl same | inr there ↦ inr (inr there) ]
        ];
      }
]

any_not : (p : Begin → Bool) (bs : List Begin) (b : Begin) → list_any p bs ≡ false → In b bs → p b ≡ true → ⊥
any_not p [] b none b_in passes = absurd b_in
any_not p (x ∷ bs) b none b_in passes = elim (p x) as (λ t. p x ≡ t → (t || list_any p bs) ≡ false → ⊥) [
  | true ↦ λ e none. true≢false none
  | false ↦ λ e none. elim b_in [ inl is ↦ true≢false (sym passes ∙ ap p is ∙ e) | inr is ↦ any_not p bs b none is passes ]
] refl none

-- begins that have pairs are no more by distinct fetches than the pairs
distinct_few : (bs : List Begin) (pairs : List (ℕ × Key)) → ((b : Begin) → In b bs → HasPair b pairs) → length (distinct same_fetch bs) ≤ length pairs
distinct_few [] pairs has = omega arith
distinct_few (x ∷ bs) pairs has = elim (list_any (same_fetch x) bs) as (λ t. list_any (same_fetch x) bs ≡ t → length (cond t (distinct same_fetch bs) (x ∷ distinct same_fetch bs)) ≤ length pairs) [
  | true ↦ λ e. distinct_few bs pairs (λ b b_in. has b (inr b_in))
  | false ↦ λ e.
      let out = without_pair x pairs (has x (inl refl)) in
      let rest : length (distinct same_fetch bs) ≤ length out.left =
      distinct_few bs out.left (λ b b_in. elim (out.others b (has b (inr b_in))) [
        | inl same ↦ absurd (any_not (same_fetch x) bs b e b_in (and_from _ _ (eq-eqb x.gathers b.gathers (sym same.0)) (same_key-of _ _ (sym same.1))))
        | inr there ↦ there
      ]) in
      omega (arith, rest, out.fewer)
] refl

-- ---- loads that fail by their source

abbrev failed_by_source : Option LoadState → Bool
failed_by_source (Some (Failed causes.Source)) = true
failed_by_source o = false

-- The load of this number has failed so.
abbrev pub HasFailed : ℕ → World → Type 0
HasFailed n w = get w.loads (0, n) ≡ Some (Failed causes.Source)

failed_if : (o : Option LoadState) → failed_by_source o ≡ true → o ≡ Some (Failed causes.Source)
failed_if (Some (Failed causes.Source)) e = refl
failed_if o e = absurd (true≢false (sym e))

-- It has failed so, or fails so later in these entries.
abbrev pub Meets : ℕ → World → List (Entry Note) → Type 0
Meets n w [] = HasFailed n w
Meets n w (e ∷ es) = HasFailed n w ⊎ ((m : World) × Step w e m × Meets n m es)

meets_now : (n : ℕ) (w : World) (es : List (Entry Note)) → HasFailed n w → Meets n w es
meets_now n w [] h = h
meets_now n w (e ∷ es) h = inl h

pub meets_later : {M Reply : Type 0} (world : M → World) (history : M → List (Entry Note)) (note : Event → Reply → Note) (n : ℕ) (xs ys : List (Entry Note)) (w v : World)
    → Leads (engine_machine world history note) w xs v → HasFailed n v → Meets n w (xs ++ ys)
meets_later world history note n [] ys w v leads h = meets_now n w ys (subst (HasFailed n) (sym leads) h)
meets_later world history note n (x ∷ xs) ys w v leads h = inr (leads.0, leads.1, meets_later world history note n xs ys leads.0 v leads.2 h)

-- ---- numbers of begins

pub later_numbers : (events : List TraceEvent) (begun : ℕ) (live : List Begin) → IsOrderly begun live events → (b : Begin) → In b (begins_in events) → begun < b.number
later_numbers [] begun live order b b_in = absurd b_in
later_numbers (Begun x others ∷ events) begun live order b b_in = elim b_in [
  | inl is ↦ omega (arith, ap (λ (o : Begin). o.number) is, order.0)
  | inr later ↦ omega (arith, later_numbers events (begun + 1) (x ∷ live) order.3 b later)
]
later_numbers (Dropped x ∷ events) begun live order b b_in = later_numbers events begun (without_begin x.number live) order.2 b b_in
later_numbers (Ended x result ∷ events) begun live order b b_in = later_numbers events begun live order.1 b b_in
later_numbers (Trimmed level ∷ events) begun live order b b_in = later_numbers events begun live order b b_in
later_numbers (Printed line ∷ events) begun live order b b_in = later_numbers events begun live order b b_in

-- no two begins of a trace have one number
pub numbers_apart : (events : List TraceEvent) (begun : ℕ) (live : List Begin) → IsOrderly begun live events → (a b : Begin) → In a (begins_in events) → In b (begins_in events) → a.number ≡ b.number → a ≡ b
numbers_apart [] begun live order a b a_in b_in same = absurd a_in
numbers_apart (Begun x others ∷ events) begun live order a b a_in b_in same = elim a_in [
  | inl a_is ↦ elim b_in [
    | inl b_is ↦ a_is ∙ sym b_is
    | inr b_later ↦ absurd (omega (arith, later_numbers events (begun + 1) (x ∷ live) order.3 b b_later, same, ap (λ (o : Begin). o.number) a_is, order.0))
  ]
  | inr a_later ↦ elim b_in [
    | inl b_is ↦ absurd (omega (arith, later_numbers events (begun + 1) (x ∷ live) order.3 a a_later, same, ap (λ (o : Begin). o.number) b_is, order.0))
    | inr b_later ↦ numbers_apart events (begun + 1) (x ∷ live) order.3 a b a_later b_later same
  ]
]
numbers_apart (Dropped x ∷ events) begun live order a b a_in b_in same = numbers_apart events begun (without_begin x.number live) order.2 a b a_in b_in same
numbers_apart (Ended x result ∷ events) begun live order a b a_in b_in same = numbers_apart events begun live order.1 a b a_in b_in same
numbers_apart (Trimmed level ∷ events) begun live order a b a_in b_in same = numbers_apart events begun live order a b a_in b_in same
numbers_apart (Printed line ∷ events) begun live order a b a_in b_in same = numbers_apart events begun live order a b a_in b_in same

-- ---- one entry

all_after_one : (gathers : ℕ) (bs : List Begin) (b : Begin) → AllAfter gathers bs → In b bs → b.gathers ≡ gathers
all_after_one gathers [] b all b_in = absurd b_in
all_after_one gathers (x ∷ bs) b all b_in = elim b_in [ inl is ↦ ap (λ (o : Begin). o.gathers) is ∙ all.0 | inr is ↦ all_after_one gathers bs b all.1 is ]

count-append : (p : Address → Bool) (xs ys : List Address) → count_by p (xs ++ ys) ≡ count_by p xs + count_by p ys
count-append p xs ys = sum_by-append (λ a. cond (p a) 1 0) xs ys

sources-append : (xs ys : List FailedJob) → source_addresses (xs ++ ys) ≡ source_addresses xs ++ source_addresses ys
sources-append [] ys = refl
sources-append (job ∷ xs) ys =
    let here = address_if_source job.cause (address_of job.spec.key) in
    ap (λ l. here ++ l) (sources-append xs ys) ∙ sym (append_assoc here (source_addresses xs) (source_addresses ys))

-- what is said of each state: nothing
abbrev pub Nothing : Said
Nothing w = ⊤

module _ (g : Grounds) (limits : Limits) (content : Option Contents) (every : List Begin) (apart : (a b : Begin) → In a every → In b every → a.number ≡ b.number → a ≡ b) (address : Address) where
  -- The begin is of the address.
  abbrev pub IsAt : Begin → Type 0
  IsAt b = same_address (address_of b.spec.key) address ≡ true

  -- where the walk and the engine stand, and that each begin whose load waits is among those that run, which run together
  pub record Runs (begun : ℕ) (live running : List Begin) (w : World) (known : ℕ → Knowledge) : Type 0 where
    pub stands : Stands limits content begun live w known
    pub in_every : AllIn live every
    pub waits : (b : Begin) (n j : ℕ) → In b live → IsLoadOf b n → get w.loads (0, n) ≡ Some (Waiting j) → In b running
    pub together : (a b : Begin) → In a running → In b running → a.gathers ≡ b.gathers

  -- There are pairs, no more than jobs failed by their source, such that each begin has one that fails so later.
  pub record Suffices (w : World) (known : ℕ → Knowledge) (es : List (Entry Note)) : Type 0 where
    pub pairs : List (ℕ × Key)
    pub fewer : length pairs ≤ count_by (λ a. same_address a address) (source_addresses (fails_from known es))
    pub covers : (b : Begin) (n : ℕ) → In b every → IsLoadOf b n → IsAt b → (HasFailed n w → ⊥) → Meets n w es → HasPair b pairs

  -- the pair of the begins that fail by an entry
  abbrev pair_of : Begin → OwnJob → ℕ × Key
  pair_of b job = (b.gathers, job.spec.key)

  abbrev source_pairs : List Begin → Option OwnJob → List (ℕ × Key)
  source_pairs (r ∷ rs) (Some job) = cond (same_address (address_of job.spec.key) address) (pair_of r job ∷ []) []
  source_pairs running job = []

  abbrev new_pairs : List Begin → Option OwnJob → Event → List (ℕ × Key)
  new_pairs running job (events.Fail j causes.Source) = source_pairs running job
  new_pairs running job event = []

  source_few : (running : List Begin) (job : Option OwnJob) → length (source_pairs running job) ≤ count_by (λ a. same_address a address) (source_addresses (failed_job job causes.Source))
  source_few [] job = omega arith
  source_few (r ∷ rs) None = omega arith
  source_few (r ∷ rs) (Some job) =
      let one : Address → ℕ = λ a. cond (same_address a address) 1 0 in
      let sum : sum_by one (address_of job.spec.key ∷ []) ≡ one (address_of job.spec.key) + sum_by one [] = sum_by-cons one (address_of job.spec.key) [] in
      let here : length (source_pairs (r ∷ rs) (Some job)) ≤ one (address_of job.spec.key) =
      elim (same_address (address_of job.spec.key) address) as (λ t. length (cond t (pair_of r job ∷ []) []) ≤ cond t 1 0) [ true ↦ omega arith | false ↦ omega arith ] in
      omega (arith, sum, here)

  new_few : (running : List Begin) (known : Knowledge) (event : Event) → length (new_pairs running known.job event) ≤ count_by (λ a. same_address a address) (source_addresses (fails_by known event))
  new_few running known (events.Fail j causes.Source) = source_few running known.job
  new_few running known event = omega arith

  new_pair : (running : List Begin) (job : OwnJob) (j : ℕ) (b : Begin) → ((a b : Begin) → In a running → In b running → a.gathers ≡ b.gathers) → In b running → b.spec.key ≡ job.spec.key → IsAt b
      → HasPair b (new_pairs running (Some job) (events.Fail j causes.Source))
  new_pair [] job j b together b_in key_is at = absurd b_in
  new_pair (r ∷ rs) job j b together b_in key_is at =
      let here : same_address (address_of job.spec.key) address ≡ true = ap (λ key. same_address (address_of key) address) (sym key_is) ∙ at in
      subst (λ t. HasPair b (cond t (pair_of r job ∷ []) [])) (sym here) (inl (together b r b_in (inl refl), key_is))

  module _ (begun : ℕ) (live running : List Begin) (w m : World) (known : ℕ → Knowledge) (at : Runs begun live running w known) (e : Entry Note) (s : IsStep Nothing w known e m) where
    -- a begin whose load waits on a job that fails has the new pair
    fails_now : (b : Begin) (n j : ℕ) → In b every → IsLoadOf b n → IsAt b → e.note.event ≡ events.Fail j causes.Source → get w.loads (0, n) ≡ Some (Waiting j) → HasPair b (new_pairs running (known e.by).job e.note.event)
    fails_now b n j b_in load_of is_at is waits =
        let own = there_known w.jobs w.resources (get (known 0).loads n) (get w.loads (0, n)) (Waiting j) waits ((at.stands.sound.known_is 0).each n) in
        let live_one = at.stands.known_are n own.0 own.1 in
        let same : live_one.0 ≡ b = apart live_one.0 b (at.in_every live_one.0 live_one.1) b_in (live_one.2 ∙ sym load_of) in
        let b_live : In b live = subst (λ o. In o live) same live_one.1 in
        let l = load_known (known 0) b n load_of (at.stands.live_are b b_live) in
        let same_load : own.0 ≡ l.0 = same_Some own.0 l.0 (sym own.1 ∙ l.1) in
        let refers : RefersTo w.jobs w.resources own.0 (Waiting j) = own.2.refers in
        let mine : Permits w.content (known e.by) (events.Fail j causes.Source) = subst (Permits w.content (known e.by)) is s.permits in
        let r = Seats.runs w known e.by j at.stands.sound mine.0 in
        let one_job : refers.0 ≡ r.job = same_Some _ _ (sym refers.1 ∙ r.at) in
        let of_load : b.spec.key ≡ own.0.key = sym l.2 ∙ ap (λ (o : OwnLoad). o.key) (sym same_load) in
        let of_job : refers.0.spec.key ≡ r.job.spec.key = ap (λ (o : Job). o.spec.key) one_job in
        let of_seat : r.job.spec.key ≡ mine.0.job.spec.key = ap (λ (o : LoadSpec). o.key) r.is.spec in
        let key_is : b.spec.key ≡ mine.0.job.spec.key = of_load ∙ (sym refers.3 ∙ (of_job ∙ of_seat)) in
        let pair : HasPair b (new_pairs running (Some mine.0.job) (events.Fail j causes.Source)) = new_pair running mine.0.job j b at.together (at.waits b n j b_live load_of waits) key_is is_at in
        subst (λ event. HasPair b (new_pairs running (known e.by).job event)) (sym is) (subst (λ o. HasPair b (new_pairs running o (events.Fail j causes.Source))) (sym mine.0.is) pair)

    pub entry_adds : (es : List (Entry Note)) → Suffices m (known_after known e) es → Suffices w known (e ∷ es)
    entry_adds es c =
        let new = new_pairs running (known e.by).job e.note.event in
        let failed = fails_by (known e.by) e.note.event in
        let later = fails_from (known_after known e) es in
        let both : count_by (λ a. same_address a address) (source_addresses (failed ++ later)) ≡ count_by (λ a. same_address a address) (source_addresses failed) + count_by (λ a. same_address a address) (source_addresses later) =
        ap (count_by (λ a. same_address a address)) (sources-append failed later) ∙ count-append (λ a. same_address a address) (source_addresses failed) (source_addresses later) in
        record {
          pairs = new ++ c.pairs;
          fewer = omega (arith, length-append new c.pairs, new_few running (known e.by) e.note.event, c.fewer, both);
          covers = λ b n b_in load_of is_at not_yet meets. elim meets [
            | inl now ↦ absurd (not_yet now)
            | inr later ↦
                let meets_m : Meets n m es = subst (λ v. Meets n v es) (step_same w later.0 m e later.1 s.step) later.2 in
                elim (failed_by_source (get m.loads (0, n))) as (λ t. failed_by_source (get m.loads (0, n)) ≡ t → HasPair b (new ++ c.pairs)) [
                  | true ↦ λ is. elim (failed_law w m (0, n) causes.Source e.by e.note.event e.note.reply s.step (failed_if _ is)) [
                    | inl was ↦ absurd (not_yet was)
                    | inr fails ↦ pair_left b new c.pairs (fails_now b n fails.0 b_in load_of is_at fails.1 fails.2)
                  ]
                  | false ↦ λ is. pair_right b new c.pairs (c.covers b n b_in load_of is_at (λ now. true≢false (sym (ap failed_by_source now) ∙ is)) meets_m)
                ] refl
          ];
        }

    -- a load of a live begin that waits did so before, where the event is no load
    waited : IsNoLoad e.note.event → (n j : ℕ) → get m.loads (0, n) ≡ Some (Waiting j) → get w.loads (0, n) ≡ Some (Waiting j)
    waited is n j now = elim (waiting_law w m (0, n) j e.by e.note.event e.note.reply s.step now) [
      | inl was ↦ was
      | inr new ↦ absurd (not_both e.note.event is new.1)
    ] where
      not_both : (event : Event) → IsNoLoad event → IsLoad event → ⊥
      not_both (events.Load spec) none some = none
      not_both event none some = some

    pub work_runs : IsWork e.note.event → Runs begun live running m (known_after known e)
    work_runs is = record {
      stands = work_stands g Nothing limits content begun live w m known at.stands e s is;
      in_every = at.in_every;
      waits = λ b n j b_in load_of now. at.waits b n j b_in load_of (waited (work_no_load e.note.event is) n j now);
      together = at.together;
    }

    module _ (mine : e.by ≡ 0) where
      pub trim_runs : (level : ℕ) → IsTrimTo level e → Runs begun live running m (known_after known e)
      trim_runs level is = record {
        stands = trim_stands g Nothing limits content begun live w m known at.stands e s mine level is;
        in_every = at.in_every;
        waits = λ b n j b_in load_of now. at.waits b n j b_in load_of (waited (subst IsNoLoad (sym is) tt) n j now);
        together = at.together;
      }

      pub drop_runs : (b : Begin) → IsReleaseOf b e → In b live → length (without_begin b.number live) + 1 ≡ length live → Runs begun (without_begin b.number live) (without_begin b.number running) m (known_after known e)
      drop_runs b is b_in fewer = record {
        stands = drop_stands g Nothing limits content begun live w m known at.stands e s mine b is b_in fewer;
        in_every = λ o o_in. at.in_every o (in_without b.number o live o_in).0;
        waits = λ o n j o_in load_of now.
            let old = in_without b.number o live o_in in
            stays_without b.number o running (at.waits o n j old.0 load_of (waited (subst IsNoLoad (sym is.2) tt) n j now)) old.1;
        together = λ x y x_in y_in. at.together x y (in_without b.number x running x_in).0 (in_without b.number y running y_in).0;
      }

      -- a begin that came to its end waits no longer
      not_waiting : (result : Result Picture Cause) (o : Option LoadState) (j : ℕ) → o ≡ Some (Waiting j) → reply_of result ≡ collected o → ⊥
      not_waiting (Ok picture) o j waits replied = true≢false (ap is_not_yet (ap collected (sym waits) ∙ sym replied)) where
        is_not_yet : NotedReply → Bool
        is_not_yet (replies.NotYet i) = true
        is_not_yet reply = false
      not_waiting (Err cause) o j waits replied = true≢false (ap is_not_yet (ap collected (sym waits) ∙ sym replied)) where
        is_not_yet : NotedReply → Bool
        is_not_yet (replies.NotYet i) = true
        is_not_yet reply = false

      pub end_runs : (b : Begin) (result : Result Picture Cause) → IsEndOf b result e → Runs begun live (without_begin b.number running) m (known_after known e)
      end_runs b result is =
          let is_work : IsWork e.note.event = subst IsWork (sym is.2) tt in
          let a = work_runs is_work in
          record {
            stands = a.stands;
            in_every = a.in_every;
            waits = λ o n j o_in load_of now.
                let was = waited (work_no_load e.note.event is_work) n j now in
                stays_without b.number o running (at.waits o n j o_in load_of was) (λ same.
                let step : Transition w e.by (events.Collect is.0) e.note.reply m = subst (λ event. Transition w e.by event e.note.reply m) is.2 s.step in
                let n_is : is.0 ≡ n = omega (arith, same, load_of, is.1) in
                let state : get w.loads (e.by, is.0) ≡ Some (Waiting j) = ap (λ q. get w.loads (q, is.0)) mine ∙ ap (λ q. get w.loads (0, q)) n_is ∙ was in
                not_waiting result (get w.loads (e.by, is.0)) j state (sym is.3 ∙ step.0));
            together = λ x y x_in y_in. at.together x y (in_without b.number x running x_in).0 (in_without b.number y running y_in).0;
          }

      pub begin_runs : (b : Begin) → In b every → b.number ≡ begun + 1 → IsLoadBy b e → length live < 4096 → 4096 ≤ slice_index_or limits.quotas 0 0 → AllAfter b.gathers running → Runs (begun + 1) (b ∷ live) (b ∷ running) m (known_after known e)
      begin_runs b b_in number is few room after =
          let all : (o : Begin) → In o (b ∷ running) → o.gathers ≡ b.gathers = λ o o_in. elim o_in [ inl same ↦ ap (λ (q : Begin). q.gathers) same | inr old ↦ all_after_one b.gathers running o after old ] in
          record {
            stands = begin_stands g Nothing limits content begun live w m known at.stands e s mine b is number few room;
            in_every = λ o o_in. elim o_in [ inl same ↦ subst (λ q. In q every) (sym same) b_in | inr old ↦ at.in_every o old ];
            waits = λ o n j o_in load_of now. elim o_in [
              | inl same ↦ inl same
              | inr old ↦ inr (elim (waiting_law w m (0, n) j e.by e.note.event e.note.reply s.step now) [
                | inl was ↦ at.waits o n j old load_of was
                | inr new ↦
                    let l : IsKnown (known 0) o = at.stands.live_are o old in
                    let below : l.0 < (known 0).begun = (at.stands.sound.known_is 0).below l.0 l.2 l.3 in
                    let count : begun_by w 0 ≡ (known 0).begun = (at.stands.sound.known_is 0).count in
                    let n_is : n ≡ begun_by w 0 = ap (λ (q : LoadName). q.1) new.0 ∙ ap (begun_by w) mine in
                    absurd (omega (arith, below, count, n_is, same_number o n l.0 load_of l.1))
              ])
            ];
            together = λ x y x_in y_in. all x x_in ∙ sym (all y y_in);
          }

  -- ---- a whole history

  module _ (room : 4096 ≤ slice_index_or limits.quotas 0 0) (z : World) where
    passes : (begun : ℕ) (live running : List Begin) → Passes Nothing (Runs begun live running) Suffices
    passes begun live running = record {
      keeps = λ w m known e at s is. work_runs begun live running w m known at e s is;
      adds = λ w m known e es at s is c. entry_adds begun live running w m known at e s es c;
    }

    pub suffice : (events : List TraceEvent) (begun : ℕ) (live running seen : List Begin) → IsOrderly begun live events → RunTogether running events → AllIn (begins_in events) every
        → (w : World) (known : ℕ → Knowledge) (es : List (Entry Note)) → Runs begun live running w known → Follows seen events es → Goes Nothing w known es z → Suffices w known es
    suffice [] begun live running seen order together all = all_work_law Nothing (Runs begun live running) Suffices (passes begun live running) z
        (λ w known at said same. record { pairs = []; fewer = omega arith; covers = λ b n b_in load_of is_at not_yet meets. absurd (not_yet meets) })
    suffice (Printed line ∷ events) begun live running seen order together all =
        prints_law Nothing (Runs begun live running) Suffices (passes begun live running) z seen line (Follows seen events) (suffice events begun live running seen order together all)
    suffice (Dropped b ∷ events) begun live running seen order together all =
        next_law Nothing (Runs begun live running) Suffices (passes begun live running) z (IsReleaseOf b) (Follows seen events)
        (λ w m known e es at s mine is follows goes. entry_adds begun live running w m known at e s es
        (suffice events begun (without_begin b.number live) (without_begin b.number running) seen order.2 together all m (known_after known e) es (drop_runs begun live running w m known at e s mine b is order.0 order.1) follows goes))
    suffice (Begun b others ∷ events) begun live running seen order together all =
        next_law Nothing (Runs begun live running) Suffices (passes begun live running) z (IsLoadBy b) (Follows (b ∷ seen) events)
        (λ w m known e es at s mine is follows goes. entry_adds begun live running w m known at e s es
        (suffice events (begun + 1) (b ∷ live) (b ∷ running) (b ∷ seen) order.3 together.1 (λ o o_in. all o (inr o_in)) m (known_after known e) es
        (begin_runs begun live running w m known at e s mine b (all b (inl refl)) order.0 is order.2 room together.0) follows goes))
    suffice (Ended b result ∷ events) begun live running seen order together all =
        next_law Nothing (Runs begun live running) Suffices (passes begun live running) z (IsEndOf b result) (Follows seen events)
        (λ w m known e es at s mine is follows goes. entry_adds begun live running w m known at e s es
        (suffice events begun live (without_begin b.number running) seen order.1 together all m (known_after known e) es (end_runs begun live running w m known at e s mine b result is) follows goes))
    suffice (Trimmed level ∷ events) begun live running seen order together all =
        next_law Nothing (Runs begun live running) Suffices (passes begun live running) z (IsTrimTo level) (Follows seen events)
        (λ w m known e es at s mine is follows goes. entry_adds begun live running w m known at e s es
        (suffice events begun live running seen order together all m (known_after known e) es (trim_runs begun live running w m known at e s mine level is) follows goes))

-- ---- the law

in_filter : (p : Begin → Bool) (bs : List Begin) (b : Begin) → In b (filter p bs) → In b bs × (p b ≡ true)
in_filter p [] b b_in = absurd b_in
in_filter p (x ∷ bs) b b_in = elim (p x) as (λ t. p x ≡ t → In b (cond t (x ∷ filter p bs) (filter p bs)) → In b (x ∷ bs) × (p b ≡ true)) [
  | true ↦ λ e b_in. elim b_in [
    | inl is ↦ (inl is, ap p is ∙ e)
    | inr is ↦ let rest = in_filter p bs b is in (inr rest.0, rest.1)
  ]
  | false ↦ λ e b_in. let rest = in_filter p bs b b_in in (inr rest.0, rest.1)
] refl b_in

source_is : (o : Option Mark) → is_source o ≡ true → o ≡ Some Source
source_is (Some Source) e = refl
source_is o e = absurd (true≢false (sym e))

pub load_number : (b : Begin) → 0 < b.number → (n : ℕ) × IsLoadOf b n
load_number b some = (b.number - 1, omega (arith, some))

pub failed_jobs_suffice : {M Reply : Type 0} → Grounds → HistoriesAreSound M Reply → TracesAreOrderly → BeginsRunTogether → FailedJobsSuffice M Reply
failed_jobs_suffice g always orderly together world history note run is marks_are address =
    let events = events_of run in
    let every = begins_in events in
    let order : IsOrderly 0 [] events = orderly run.outcome run.commands in
    let start : World = start_of run in
    let sound : Sound start (knowledge_in []) = opening_sound g world history note (always world history note) run.limits (Some run.content) in
    let goes : Goes Nothing start (knowledge_in []) run.history run.world = legal_goes world history note g run.limits (Some run.content) Nothing run.history run.world sound is.legal (λ xs ys v parts leads. tt) in
    let apart : (a b : Begin) → In a every → In b every → a.number ≡ b.number → a ≡ b = numbers_apart events 0 [] order in
    let at : Runs g run.limits (Some run.content) every apart address 0 [] [] start (knowledge_in []) = record {
      stands = opening_stands run.limits (Some run.content) sound;
      in_every = λ b b_in. absurd b_in;
      waits = λ b n j b_in load_of waits. absurd b_in;
      together = λ a b a_in b_in. absurd a_in;
    } in
    let c : Suffices g run.limits (Some run.content) every apart address start (knowledge_in []) run.history =
    suffice g run.limits (Some run.content) every apart address is.room run.world events 0 [] [] [] order (together run.outcome run.commands) (λ b b_in. b_in) start (knowledge_in []) run.history at is.follows goes in
    let few : failed_fetches run.marks every address ≤ length c.pairs =
    distinct_few (begins_at address (source_marked run.marks every)) c.pairs (λ b b_in.
    let here = in_filter (λ (o : Begin). same_address (address_of o.spec.key) address) (source_marked run.marks every) b b_in in
    let marked = in_filter (λ (o : Begin). is_source (run.marks o.number)) every b here.0 in
    let number = load_number b (later_numbers events 0 [] order b marked.0) in
    let mark : run.marks (number.0 + 1) ≡ Some Source = ap run.marks (sym number.1) ∙ source_is _ marked.1 in
    let failed = marks_are number.0 mark in
    let through = failed.1 in
    let meets : Meets number.0 start run.history = subst (Meets number.0 start) (sym through.parts) (meets_later world history note number.0 through.before through.after start failed.0 through.leads failed.2) in
    c.covers b number.0 marked.0 number.1 here.1 (λ now. not_Some (sym (get-empty load_cmp (0, number.0)) ∙ now)) meets) in
    omega (arith, few, c.fewer)
