-- The marks of a run: the failures of its loads, in the states that its history comes through.
use Rattle.std.proofs.Common.{Bool, Err, List, None, Ok, Option, Result, Some, [], ap, arith, false, inl, inr, refl, subst, sym, true, true≢false, ℕ, ◌++◌, ◌+◌, ◌<◌, ◌∙◌, ◌∷◌, ◌≡◌, ◌≤◌}
use Rattle.std.specs.FinMap.{get, get-empty}
use Rattle.std.specs.Option.{is_some, option_or}
use Rattle.std.specs.Prelude.{slice_index_or, suc, zero, ◌⊎◌}
use Rattle.bitmap_kind.specs.Picture.{Picture}
use Rattle.cache_key.specs.Key.{Key}
use Rattle.cache_key.specs.declared.load_spec.LoadSpec.{LoadSpec}
use Rattle.engine_world.specs.EngineMachine.{engine_machine}
use Rattle.engine_world.specs.Knowledge.{Knowledge, after_load, knowledge_in, updated}
use Rattle.engine_world.specs.Laws.{HistoriesAreSound}
use Rattle.engine_world.specs.Moves.{begun_by}
use Rattle.engine_world.specs.Permits.{IsCauseOf}
use Rattle.engine_world.specs.Sound.{Sound}
use Rattle.engine_world.specs.Steps.{Step, Transition, collected}
use Rattle.engine_world.specs.World.{Limits, LoadState, World}
use Rattle.engine_world.specs.declared.events.Event.{Event}
use Rattle.engine_world.specs.declared.events.Note.{Note}
use Rattle.engine_world.specs.declared.events.NotedReply.{NotedReply}
use Rattle.finite_maps.specs.MapLaws.{not_Some, same_Some}
use Rattle.load_cause.specs.Ends.{end_in}
use Rattle.load_cause.specs.declared.causes.Cause.{Cause}
use Rattle.load_table.specs.Loads.{LoadName, load_cmp}
use Rattle.load_table.specs.declared.loads.LoadState.TheVariants.{Failed, Ready, Waiting}
use Rattle.outside.specs.Content.{Contents}
use Rattle.script_walk.specs.Laws.{EachEnd, EndsDecide, TracesAreOrderly}
use Rattle.script_walk.specs.Marks.{Mark, Marks, Memory, Source, Uncached, cause_of, marked_result, outcome_of}
use Rattle.script_walk.specs.Orderly.{In, IsOrderly, without_begin}
use Rattle.script_walk.specs.Walk.{Begin, Begun, Dropped, Ended, Printed, TraceEvent, Trimmed, closing, walk}
use Rattle.state_machine.specs.Legal.{Leads}
use Rattle.state_machine.specs.declared.entry.Entry.{Entry}
use Rattle.fetch_bounds.proofs.Bounds.{opening_sound}
use Rattle.fetch_bounds.proofs.Changing.{change_law, failed_law, is_failed, is_waiting}
use Rattle.fetch_bounds.proofs.Entries.{work_knows}
use Rattle.fetch_bounds.proofs.Following.{IsStep, Passes, all_work_law, known_after, next_law, prints_law}
use Rattle.fetch_bounds.proofs.Histories.{Goes, Grounds, Said, legal_goes, step_same}
use Rattle.fetch_bounds.proofs.Licence.{Nothing}
use Rattle.fetch_bounds.proofs.Right.{AllRight, right_law}
use Rattle.fetch_bounds.proofs.Seats.{known_there, seat_law, there_known}
use Rattle.fetch_bounds.proofs.Standing.{Stands, begin_stands, drop_stands, load_known, opening_stands, trim_stands, work_stands}
use Rattle.fetch_bounds.specs.Follows.{Follows, IsEndOf, IsLoadBy, IsLoadOf, IsReleaseOf, IsTrimTo, IsWork, reply_of}
use Rattle.fetch_bounds.specs.Laws.{IsFree, events_of, start_of}
use Rattle.fetch_bounds.specs.OwnMarks.{RunsMarkThemselves}
use Rattle.load_cause.specs.declared.causes.Cause.TheVariants as causes
use Rattle.engine_world.specs.declared.events.Event.TheVariants as events
use Rattle.engine_world.specs.declared.events.NotedReply.TheVariants as replies
use Rattle.script_walk.specs.Walk as walk

-- ---- marks of states

abbrev pub mark_of : Cause → Option Mark
mark_of causes.Source = Some Source
mark_of causes.Memory = Some Memory
mark_of causes.Uncached = Some (Uncached None)
mark_of cause = None

abbrev pub mark_at : Option LoadState → Option Mark
mark_at (Some (Failed cause)) = mark_of cause
mark_at o = None

not_failed : (state : LoadState) → is_failed state ≡ false → mark_at (Some state) ≡ None
not_failed (Waiting j) e = refl
not_failed (Ready r) e = refl
not_failed (Failed cause) e = absurd (true≢false e)

free_some : (cause : Cause) → IsFree cause → is_some (mark_of cause) ≡ true
free_some causes.Missing free = absurd free
free_some (causes.Refused refusal) free = absurd free
free_some causes.Source free = refl
free_some causes.Memory free = refl
free_some causes.Uncached free = refl

-- what has a mark has failed for its cause
failure_of : (o : Option LoadState) (mark : Mark) → mark_at o ≡ Some mark → o ≡ Some (Failed (cause_of mark))
failure_of (Some (Failed causes.Source)) mark e = ap (λ m. Some (Failed (cause_of m))) (same_Some _ _ e)
failure_of (Some (Failed causes.Memory)) mark e = ap (λ m. Some (Failed (cause_of m))) (same_Some _ _ e)
failure_of (Some (Failed causes.Uncached)) mark e = ap (λ m. Some (Failed (cause_of m))) (same_Some _ _ e)
failure_of o mark e = absurd (not_Some e)

marked_is : (c : Contents) (key : Key) (cause : Cause) → IsCauseOf c key cause → marked_result (end_in c key) (mark_of cause) ≡ Err cause
marked_is c key causes.Missing right = right
marked_is c key (causes.Refused refusal) right = right
marked_is c key causes.Source right = refl
marked_is c key causes.Memory right = refl
marked_is c key causes.Uncached right = refl

-- ---- the first of two

some_left : {A : Type 0} (a b : Option A) → is_some a ≡ true → is_some (option_or a b) ≡ true
some_left None b e = absurd (true≢false (sym e))
some_left (Some x) b e = refl

some_right : {A : Type 0} (a b : Option A) → is_some b ≡ true → is_some (option_or a b) ≡ true
some_right None b e = e
some_right (Some x) b e = refl

or_assoc : {A : Type 0} (a b c : Option A) → option_or (option_or a b) c ≡ option_or a (option_or b c)
or_assoc None b c = refl
or_assoc (Some x) b c = refl

or_same : {A : Type 0} (a : Option A) → option_or a a ≡ a
or_same None = refl
or_same (Some x) = refl

or_none : {A : Type 0} (a : Option A) → option_or a None ≡ a
or_none None = refl
or_none (Some x) = refl

-- It is this or nothing.
abbrev pub IsMaybe : Option Mark → Option Mark → Type 0
IsMaybe a mark = (a ≡ mark) ⊎ (a ≡ None)

maybe_or : (a b mark : Option Mark) → IsMaybe a mark → IsMaybe b mark → IsMaybe (option_or a b) mark
maybe_or a b mark (inl x) (inl y) = inl (ap (λ o. option_or o b) x ∙ ap (option_or mark) y ∙ or_same mark)
maybe_or a b mark (inl x) (inr y) = inl (ap (λ o. option_or o b) x ∙ ap (option_or mark) y ∙ or_none mark)
maybe_or a b mark (inr x) (inl y) = inl (ap (λ o. option_or o b) x ∙ y)
maybe_or a b mark (inr x) (inr y) = inr (ap (λ o. option_or o b) x ∙ y)

-- ---- the marks of a history, by the numbers of loads

abbrev pub ByLoad : Type 0
ByLoad = ℕ → Option Mark

-- These are the marks that a history meets from a state on: of each load the first.
abbrev pub MarksFrom : World → List (Entry Note) → ByLoad → Type 0
MarksFrom w [] f = (n : ℕ) → f n ≡ mark_at (get w.loads (0, n))
MarksFrom w (e ∷ es) f = (m : World) × (g : ByLoad) × Step w e m × MarksFrom m es g × ((n : ℕ) → f n ≡ option_or (mark_at (get w.loads (0, n))) (g n))

-- the marks of begins
abbrev pub by_number : ByLoad → Marks
by_number f zero = None
by_number f (suc n) = f n

by_number_is : (f : ByLoad) (n : ℕ) → by_number f (n + 1) ≡ f n
by_number_is f n = let next : n + 1 ≡ suc n = omega arith in ap (by_number f) next

module _ {M Reply : Type 0} (world : M → World) (history : M → List (Entry Note)) (note : Event → Reply → Note) where
  marks_exist : (es : List (Entry Note)) (w z : World) → Leads (engine_machine world history note) w es z → (f : ByLoad) × MarksFrom w es f
  marks_exist [] w z leads = (λ n. mark_at (get w.loads (0, n)), λ n. refl)
  marks_exist (e ∷ es) w z leads =
      let rest = marks_exist es leads.0 z leads.2 in
      (λ n. option_or (mark_at (get w.loads (0, n))) (rest.0 n), (leads.0, rest.0, leads.1, rest.1, λ n. refl))

  -- a failure on the way is marked
  failure_marked : (xs ys : List (Entry Note)) (w v : World) (f : ByLoad) (n : ℕ) (cause : Cause) → Leads (engine_machine world history note) w xs v → get v.loads (0, n) ≡ Some (Failed cause) → IsFree cause
      → MarksFrom w (xs ++ ys) f → is_some (f n) ≡ true
  failure_marked [] [] w v f n cause leads failed free marks =
      ap is_some (marks n) ∙ ap (λ o. is_some (mark_at o)) (ap (λ (u : World). get u.loads (0, n)) leads ∙ failed) ∙ free_some cause free
  failure_marked [] (e ∷ ys) w v f n cause leads failed free marks =
      let here : is_some (mark_at (get w.loads (0, n))) ≡ true = ap (λ o. is_some (mark_at o)) (ap (λ (u : World). get u.loads (0, n)) leads ∙ failed) ∙ free_some cause free in
      ap is_some (marks.4 n) ∙ some_left (mark_at (get w.loads (0, n))) (marks.1 n) here
  failure_marked (x ∷ xs) ys w v f n cause leads failed free marks =
      let rest : MarksFrom leads.0 (xs ++ ys) marks.1 = subst (λ u. MarksFrom u (xs ++ ys) marks.1) (step_same w marks.0 leads.0 x marks.2 leads.1) marks.3 in
      ap is_some (marks.4 n) ∙ some_right (mark_at (get w.loads (0, n))) (marks.1 n) (failure_marked xs ys leads.0 v marks.1 n cause leads.2 failed free rest)

  -- a mark is a failure on the way
  record Met (mark : Mark) (n : ℕ) (w : World) (es : List (Entry Note)) : Type 0 where
    before : List (Entry Note)
    after : List (Entry Note)
    state : World
    parts : es ≡ before ++ after
    leads : Leads (engine_machine world history note) w before state
    failed : get state.loads (0, n) ≡ Some (Failed (cause_of mark))

  mark_met : (mark : Mark) (es : List (Entry Note)) (w : World) (f : ByLoad) (n : ℕ) → MarksFrom w es f → f n ≡ Some mark → Met mark n w es
  mark_met mark [] w f n marks is = record { before = []; after = []; state = w; parts = refl; leads = refl; failed = failure_of _ mark (sym (marks n) ∙ is) }
  mark_met mark (e ∷ es) w f n marks is = elim (mark_at (get w.loads (0, n))) as (λ o. mark_at (get w.loads (0, n)) ≡ o → option_or o (marks.1 n) ≡ Some mark → Met mark n w (e ∷ es)) [
    | Some first ↦ λ h now. record { before = []; after = e ∷ es; state = w; parts = refl; leads = refl; failed = failure_of _ mark (h ∙ now) }
    | None ↦ λ h later.
        let rest = mark_met mark es marks.0 marks.1 n marks.3 later in
        record { before = e ∷ rest.before; after = rest.after; state = rest.state; parts = ap (λ l. e ∷ l) rest.parts; leads = (marks.0, marks.2, rest.leads); failed = rest.failed }
  ] refl (sym (marks.4 n) ∙ is)

-- ---- states that stay

-- no load has a number that is still to come
none_later : (w : World) (known : ℕ → Knowledge) → Sound w known → (n : ℕ) → (known 0).begun ≤ n → get w.loads (0, n) ≡ None
none_later w known s n later = elim (get w.loads (0, n)) as (λ o. get w.loads (0, n) ≡ o → o ≡ None) [
  | None ↦ λ e. refl
  | Some state ↦ λ e.
      let own = there_known w.jobs w.resources (get (known 0).loads n) (get w.loads (0, n)) state e ((s.known_is 0).each n) in
      absurd (omega (arith, later, (s.known_is 0).below n own.0 own.1))
] refl

load_begun : (spec : LoadSpec) (reply : NotedReply) (known : Knowledge) → known.begun ≤ (after_load spec reply known).begun
load_begun spec replies.Full known = omega arith
load_begun spec reply known = omega arith

updated_begun : (event : Event) (reply : NotedReply) (known : Knowledge) → known.begun ≤ (updated event reply known).begun
updated_begun (events.Load spec) reply known = load_begun spec reply known
updated_begun (events.Release n) reply known = omega arith
updated_begun (events.Trim level) reply known = omega arith
updated_begun event reply known = let same = (work_knows event reply known tt).begun in omega (arith, same)

begun_grows : (known : ℕ → Knowledge) (e : Entry Note) → (known 0).begun ≤ (known_after known e 0).begun
begun_grows known e = seat_law (λ kn. (known 0).begun ≤ kn.begun) known e.by e.note.event e.note.reply (omega arith) (updated_begun e.note.event e.note.reply (known 0))

-- the number of a new load of seat 0
new_number : (w : World) (known : ℕ → Knowledge) → Sound w known → (n who : ℕ) → ◌≡◌ {A = LoadName} (0, n) (who, begun_by w who) → n ≡ (known 0).begun
new_number w known s n who is =
    let mine : 0 ≡ who = ap (λ (q : LoadName). q.0) is in
    ap (λ (q : LoadName). q.1) is ∙ ap (begun_by w) (sym mine) ∙ (s.known_is 0).count

module _ (g : Grounds) (P : Said) where
  -- a load that waits no more has one state while it is there
  marks_fixed : (n : ℕ) (state : LoadState) → is_waiting state ≡ false → (es : List (Entry Note)) (w z : World) (known : ℕ → Knowledge) (f : ByLoad) → Sound w known → n < (known 0).begun
      → (get w.loads (0, n) ≡ Some state) ⊎ (get w.loads (0, n) ≡ None) → Goes P w known es z → MarksFrom w es f → IsMaybe (f n) (mark_at (Some state))
  marks_fixed n state settled [] w z known f s below there goes marks = elim there [
    | inl is ↦ inl (marks n ∙ ap mark_at is)
    | inr none ↦ inr (marks n ∙ ap mark_at none)
  ]
  marks_fixed n state settled (e ∷ es) w z known f s below there goes marks =
      let m : World = goes.0 in
      let next : ℕ → Knowledge = known_after known e in
      let sound : Sound m next = g.keeps_sound e.note.event w m known e.by e.note.reply goes.2 s goes.3 goes.1 in
      let rest : MarksFrom m es marks.1 = subst (λ u. MarksFrom u es marks.1) (step_same w marks.0 m e marks.2 goes.1) marks.3 in
      let here : IsMaybe (mark_at (get w.loads (0, n))) (mark_at (Some state)) = elim there [ inl is ↦ inl (ap mark_at is) | inr none ↦ inr (ap mark_at none) ] in
      let there_next : (get m.loads (0, n) ≡ Some state) ⊎ (get m.loads (0, n) ≡ None) =
      elim (get m.loads (0, n)) as (λ o. get m.loads (0, n) ≡ o → (o ≡ Some state) ⊎ (o ≡ None)) [
        | None ↦ λ now. inr refl
        | Some to ↦ λ now. elim (change_law w (0, n) to m e.by e.note.event e.note.reply goes.1 now) [
          | inl was ↦ elim there [ inl is ↦ inl (sym was ∙ is) | inr none ↦ absurd (not_Some (sym none ∙ was)) ]
          | inr other ↦ elim other [
            | inl new ↦ absurd (omega (arith, below, new_number w known s n e.by new.0))
            | inr end ↦ elim there [
              | inl is ↦ absurd (true≢false (ap is_waiting (same_Some _ _ (sym end.1 ∙ is)) ∙ settled))
              | inr none ↦ absurd (not_Some (sym none ∙ end.1))
            ]
          ]
        ]
      ] refl in
      let later : IsMaybe (marks.1 n) (mark_at (Some state)) = marks_fixed n state settled es m z next marks.1 sound (omega (arith, below, begun_grows known e)) there_next goes.5 rest in
      elim (maybe_or (mark_at (get w.loads (0, n))) (marks.1 n) (mark_at (Some state)) here later) [ inl is ↦ inl (marks.4 n ∙ is) | inr none ↦ inr (marks.4 n ∙ none) ]

-- ---- marks of the states before

pub record Earlier (before : ByLoad) (w : World) (known : ℕ → Knowledge) : Type 0 where
  pub later : (n : ℕ) → (known 0).begun ≤ n → before n ≡ None
  pub live : (n : ℕ) (state : LoadState) → get w.loads (0, n) ≡ Some state → is_failed state ≡ false → before n ≡ None
  pub failed : (n : ℕ) (cause : Cause) → get w.loads (0, n) ≡ Some (Failed cause) → IsMaybe (before n) (mark_of cause)

abbrev with_state : ByLoad → World → ByLoad
with_state before w n = option_or (before n) (mark_at (get w.loads (0, n)))

both_none : (before : ByLoad) (w : World) (n : ℕ) → before n ≡ None → mark_at (get w.loads (0, n)) ≡ None → with_state before w n ≡ None
both_none before w n a b = ap (λ o. option_or o (mark_at (get w.loads (0, n)))) a ∙ b

earlier_next : (before : ByLoad) (w m : World) (known : ℕ → Knowledge) (e : Entry Note) → Sound w known → Step w e m → Earlier before w known → Earlier (with_state before w) m (known_after known e)
earlier_next before w m known e s step h =
    let later : (n : ℕ) → (known 0).begun ≤ n → with_state before w n ≡ None = λ n le. both_none before w n (h.later n le) (ap mark_at (none_later w known s n le)) in
    let waits : (n j : ℕ) → get w.loads (0, n) ≡ Some (Waiting j) → with_state before w n ≡ None = λ n j is. both_none before w n (h.live n (Waiting j) is refl) (ap mark_at is) in
    record {
      later = λ n le. later n (omega (arith, le, begun_grows known e));
      live = λ n state now not. elim (change_law w (0, n) state m e.by e.note.event e.note.reply step now) [
        | inl was ↦ both_none before w n (h.live n state was not) (ap mark_at was ∙ not_failed state not)
        | inr other ↦ elim other [
          | inl new ↦ later n (omega (arith, new_number w known s n e.by new.0))
          | inr end ↦ waits n end.0 end.1
        ]
      ];
      failed = λ n cause now. elim (failed_law w m (0, n) cause e.by e.note.event e.note.reply step now) [
        | inl was ↦ maybe_or (before n) (mark_at (get w.loads (0, n))) (mark_of cause) (h.failed n cause was) (inl (ap mark_at was))
        | inr new ↦ inr (waits n new.0 new.2)
      ];
    }

-- ---- ends of begins

module _ (g : Grounds) (limits : Limits) (c : Contents) (all : ByLoad) (room : 4096 ≤ slice_index_or limits.quotas 0 0) (z : World) where
  -- A begin came to what its mark, or else the content, says.
  abbrev pub Says : Begin → Result Picture Cause → Type 0
  Says b result = outcome_of (end_in c) (by_number all) b ≡ result

  abbrev pub IsRight : Begin → Result Picture Cause → Type 0
  IsRight b result = (picture : Picture) → result ≡ Ok picture → end_in c b.spec.key ≡ Ok picture

  pub record Ends (begun : ℕ) (live : List Begin) (w : World) (known : ℕ → Knowledge) : Type 0 where
    pub stands : Stands limits (Some c) begun live w known
    pub right : AllRight c w (known 0)

  -- From here on each end is as its mark says, if the marks are those before, and then those from here on.
  abbrev pub Concludes : List TraceEvent → World → (ℕ → Knowledge) → List (Entry Note) → Type 0
  Concludes events w known es = (before f : ByLoad) → MarksFrom w es f → Earlier before w known → ((n : ℕ) → all n ≡ option_or (before n) (f n)) → EachEnd Says events

  ends_add : (events : List TraceEvent) (w m : World) (known : ℕ → Knowledge) (e : Entry Note) (es : List (Entry Note)) → Sound w known → Step w e m → Concludes events m (known_after known e) es → Concludes events w known (e ∷ es)
  ends_add events w m known e es s step rest before f marks earlier whole =
      rest (with_state before w) marks.1 (subst (λ u. MarksFrom u es marks.1) (step_same w marks.0 m e marks.2 step) marks.3) (earlier_next before w m known e s step earlier)
      (λ n. whole n ∙ ap (option_or (before n)) (marks.4 n) ∙ sym (or_assoc (before n) (mark_at (get w.loads (0, n))) (marks.1 n)))

  keep : (begun begun' : ℕ) (live live' : List Begin) (w m : World) (known : ℕ → Knowledge) (e : Entry Note) → Ends begun live w known → IsStep Nothing w known e m → Stands limits (Some c) begun' live' m (known_after known e)
      → Ends begun' live' m (known_after known e)
  keep begun begun' live live' w m known e at s stands = record {
    stands = stands;
    right = right_law c w m known e.by e.note.event e.note.reply at.stands.sound at.stands.content_is s.permits s.step at.right;
  }

  passes : (events : List TraceEvent) (begun : ℕ) (live : List Begin) → Passes Nothing (Ends begun live) (Concludes events)
  passes events begun live = record {
    keeps = λ w m known e at s is. keep begun begun live live w m known e at s (work_stands g Nothing limits (Some c) begun live w m known at.stands e s is);
    adds = λ w m known e es at s is rest. ends_add events w m known e es at.stands.sound s.step rest;
  }

  says_none : (b : Begin) (n : ℕ) (picture : Picture) → IsLoadOf b n → all n ≡ None → end_in c b.spec.key ≡ Ok picture → Says b (Ok picture)
  says_none b n picture load_of none is = ap (marked_result (end_in c b.spec.key)) (ap (by_number all) load_of ∙ by_number_is all n ∙ none) ∙ is

  -- one end
  end_says : (begun : ℕ) (live : List Begin) (w m : World) (known : ℕ → Knowledge) (e : Entry Note) (es : List (Entry Note)) (b : Begin) (result : Result Picture Cause) → Ends begun live w known → IsStep Nothing w known e m → e.by ≡ 0
      → In b live → IsEndOf b result e → IsRight b result → Goes Nothing m (known_after known e) es z
      → (before f : ByLoad) → MarksFrom w (e ∷ es) f → Earlier before w known → ((n : ℕ) → all n ≡ option_or (before n) (f n)) → Says b result
  end_says begun live w m known e es b result at s mine b_in is right goes before f marks earlier whole =
      let n : ℕ = is.0 in
      let step : Transition w e.by (events.Collect n) e.note.reply m = subst (λ event. Transition w e.by event e.note.reply m) is.2 s.step in
      let l = load_known (known 0) b n is.1 (at.stands.live_are b b_in) in
      let found = known_there w.jobs w.resources (get (known 0).loads n) (get w.loads (0, n)) l.0 l.1 ((at.stands.sound.known_is 0).each n) in
      let at_seat : get w.loads (e.by, n) ≡ Some found.0 = ap (λ q. get w.loads (q, n)) mine ∙ found.1 in
      let replied : reply_of result ≡ collected (Some found.0) = sym is.3 ∙ step.0 ∙ ap collected at_seat in
      let below : n < (known 0).begun = (at.stands.sound.known_is 0).below n l.0 l.1 in
      let whole_goes : Goes Nothing w known (e ∷ es) z = (m, s.step, s.served, s.permits, s.said, goes) in
      let fixed : is_waiting found.0 ≡ false → IsMaybe (f n) (mark_at (Some found.0)) = λ settled. marks_fixed g Nothing n found.0 settled (e ∷ es) w z known f at.stands.sound below (inl found.1) whole_goes marks in
      let key_right : (cause : Cause) → found.0 ≡ Failed cause → IsCauseOf c b.spec.key cause = λ cause failed. subst (λ key. IsCauseOf c key cause) l.2 (at.right n l.0 cause l.1 (found.1 ∙ ap (λ q. Some q) failed)) in
      by_state found.0 found.1 result replied fixed key_right right where
        is_ready : NotedReply → Bool
        is_ready replies.Ready = true
        is_ready reply = false

        is_not_yet : NotedReply → Bool
        is_not_yet (replies.NotYet j) = true
        is_not_yet reply = false

        cause_of_reply : NotedReply → Cause
        cause_of_reply (replies.Failed cause) = cause
        cause_of_reply reply = causes.Missing

        by_state : (state : LoadState) → get w.loads (0, is.0) ≡ Some state → (result : Result Picture Cause) → reply_of result ≡ collected (Some state) → (is_waiting state ≡ false → IsMaybe (f is.0) (mark_at (Some state)))
            → ((cause : Cause) → state ≡ Failed cause → IsCauseOf c b.spec.key cause) → IsRight b result → Says b result
        by_state (Waiting j) now (Ok picture) replied fixed key_right right = absurd (true≢false (ap is_ready replied))
        by_state (Waiting j) now (Err cause) replied fixed key_right right = absurd (true≢false (sym (ap is_not_yet replied)))
        by_state (Ready r) now (Err cause) replied fixed key_right right = absurd (true≢false (sym (ap is_ready replied)))
        by_state (Failed c') now (Ok picture) replied fixed key_right right = absurd (true≢false (ap is_ready replied))
        by_state (Ready r) now (Ok picture) replied fixed key_right right =
            let none : f is.0 ≡ None = elim (fixed refl) [ inl e ↦ e | inr e ↦ e ] in
            says_none b is.0 picture is.1 (whole is.0 ∙ ap (λ o. option_or o (f is.0)) (earlier.live is.0 (Ready r) now refl) ∙ none) (right picture refl)
        by_state (Failed c') now (Err cause) replied fixed key_right right =
            let same : cause ≡ c' = ap cause_of_reply replied in
            let first : f is.0 ≡ option_or (mark_of c') (marks.1 is.0) = marks.4 is.0 ∙ ap (λ o. option_or (mark_at o) (marks.1 is.0)) now in
            let mine : IsMaybe (all is.0) (mark_of c') = elim (maybe_or (before is.0) (f is.0) (mark_of c') (earlier.failed is.0 c' now) (fixed refl)) [ inl e ↦ inl (whole is.0 ∙ e) | inr e ↦ inr (whole is.0 ∙ e) ] in
            let is_mark : all is.0 ≡ mark_of c' = known_mark (before is.0) (mark_of c') (marks.1 is.0) (all is.0) (whole is.0 ∙ ap (option_or (before is.0)) first) (earlier.failed is.0 c' now) mine in
            ap (marked_result (end_in c b.spec.key)) (ap (by_number all) is.1 ∙ by_number_is all is.0 ∙ is_mark) ∙ marked_is c b.spec.key c' (key_right c' refl) ∙ ap (λ q. Err q) (sym same) where
              known_mark : (earlier mark rest whole : Option Mark) → whole ≡ option_or earlier (option_or mark rest) → IsMaybe earlier mark → IsMaybe whole mark → whole ≡ mark
              known_mark earlier mark rest whole is e (inl same) = same
              known_mark earlier (Some x) rest whole is (inl same) (inr none) = absurd (not_Some (sym none ∙ is ∙ ap (λ o. option_or o (option_or (Some x) rest)) same))
              known_mark earlier (Some x) rest whole is (inr gone) (inr none) = absurd (not_Some (sym none ∙ is ∙ ap (λ o. option_or o (option_or (Some x) rest)) gone))
              known_mark earlier None rest whole is e (inr none) = none

  pub each_end : (events : List TraceEvent) (begun : ℕ) (live seen : List Begin) → IsOrderly begun live events → EachEnd IsRight events
      → (w : World) (known : ℕ → Knowledge) (es : List (Entry Note)) → Ends begun live w known → Follows seen events es → Goes Nothing w known es z → Concludes events w known es
  each_end [] begun live seen order right = all_work_law Nothing (Ends begun live) (Concludes []) (passes [] begun live) z (λ w known at said same before f marks earlier whole. tt)
  each_end (Printed line ∷ events) begun live seen order right = prints_law Nothing (Ends begun live) (Concludes events) (passes events begun live) z seen line (Follows seen events) (each_end events begun live seen order right)
  each_end (Dropped b ∷ events) begun live seen order right =
      next_law Nothing (Ends begun live) (Concludes events) (passes events begun live) z (IsReleaseOf b) (Follows seen events)
      (λ w m known e es at s mine is follows goes. ends_add events w m known e es at.stands.sound s.step
      (each_end events begun (without_begin b.number live) seen order.2 right m (known_after known e) es
      (keep begun begun live (without_begin b.number live) w m known e at s (drop_stands g Nothing limits (Some c) begun live w m known at.stands e s mine b is order.0 order.1)) follows goes))
  each_end (Begun b others ∷ events) begun live seen order right =
      next_law Nothing (Ends begun live) (Concludes events) (passes events begun live) z (IsLoadBy b) (Follows (b ∷ seen) events)
      (λ w m known e es at s mine is follows goes. ends_add events w m known e es at.stands.sound s.step
      (each_end events (begun + 1) (b ∷ live) (b ∷ seen) order.3 right m (known_after known e) es
      (keep begun (begun + 1) live (b ∷ live) w m known e at s (begin_stands g Nothing limits (Some c) begun live w m known at.stands e s mine b is order.0 order.2 room)) follows goes))
  each_end (Trimmed level ∷ events) begun live seen order right =
      next_law Nothing (Ends begun live) (Concludes events) (passes events begun live) z (IsTrimTo level) (Follows seen events)
      (λ w m known e es at s mine is follows goes. ends_add events w m known e es at.stands.sound s.step
      (each_end events begun live seen order right m (known_after known e) es
      (keep begun begun live live w m known e at s (trim_stands g Nothing limits (Some c) begun live w m known at.stands e s mine level is)) follows goes))
  each_end (Ended b result ∷ events) begun live seen order right =
      next_law Nothing (Ends begun live) (Concludes (Ended b result ∷ events)) (passes (Ended b result ∷ events) begun live) z (IsEndOf b result) (Follows seen events)
      (λ w m known e es at s mine is follows goes before f marks earlier whole.
      let at_next : Ends begun live m (known_after known e) = keep begun begun live live w m known e at s (work_stands g Nothing limits (Some c) begun live w m known at.stands e s (subst IsWork (sym is.2) tt)) in
      let rest : Concludes events m (known_after known e) es = each_end events begun live seen order.1 right.1 m (known_after known e) es at_next follows goes in (
        end_says begun live w m known e es b result at s mine order.0 is right.0 goes before f marks earlier whole,
        ends_add events w m known e es at.stands.sound s.step rest before f marks earlier whole,
      ))

-- ---- the law

each_left : (P : Begin → Result Picture Cause → Type 0) (xs ys : List TraceEvent) → EachEnd P (xs ++ ys) → EachEnd P xs
each_left P [] ys h = tt
each_left P (Ended b result ∷ xs) ys h = (h.0, each_left P xs ys h.1)
each_left P (Dropped b ∷ xs) ys h = each_left P xs ys h
each_left P (Begun b others ∷ xs) ys h = each_left P xs ys h
each_left P (Trimmed level ∷ xs) ys h = each_left P xs ys h
each_left P (Printed line ∷ xs) ys h = each_left P xs ys h

pub runs_mark_themselves : {M Reply : Type 0} → Grounds → HistoriesAreSound M Reply → TracesAreOrderly → EndsDecide → RunsMarkThemselves M Reply
runs_mark_themselves g always orderly decide world history note run is right =
    let start : World = start_of run in
    let events = events_of run in
    let sound : Sound start (knowledge_in []) = opening_sound g world history note (always world history note) run.limits (Some run.content) in
    let goes : Goes Nothing start (knowledge_in []) run.history run.world = legal_goes world history note g run.limits (Some run.content) Nothing run.history run.world sound is.legal (λ xs ys v parts leads. tt) in
    let marked = marks_exist world history note run.history start run.world is.legal.leads in
    let all : ByLoad = marked.0 in
    let no_load : (n : ℕ) → get start.loads (0, n) ≡ None = λ n. get-empty load_cmp (0, n) in
    let earlier : Earlier (λ n. None) start (knowledge_in []) = record { later = λ n le. refl; live = λ n state now not. refl; failed = λ n cause now. inr refl } in
    let ends : EachEnd (Says g run.limits run.content all is.room run.world) events =
    each_end g run.limits run.content all is.room run.world events 0 [] [] (orderly run.outcome run.commands) right start (knowledge_in []) run.history
    (record { stands = opening_stands run.limits (Some run.content) sound; right = λ n own cause own_at failed. absurd (not_Some (sym (no_load n) ∙ failed)) }) is.follows goes
    (λ n. None) all marked.1 earlier (λ n. refl) in
    let o : walk.Outcome = run.outcome in
    let p : walk.Outcome = outcome_of (end_in run.content) (by_number all) in
    let first = walk.walk o walk.opening run.commands in
    let same : walk.walk p walk.opening run.commands ≡ first = decide p o run.commands (each_left (Says g run.limits run.content all is.room run.world) first.events (closing first.stage) ends) in (
      by_number all,
      record {
        failures = λ w n cause through failed free. ap is_some (by_number_is all n)
            ∙ failure_marked world history note through.before through.after start w all n cause through.leads failed free (subst (λ l. MarksFrom start l all) through.parts marked.1);
        failed = λ n mark is_mark.
            let met = mark_met world history note mark run.history start all n marked.1 (sym (by_number_is all n) ∙ is_mark) in
            (met.state, record { before = met.before; after = met.after; parts = met.parts; leads = met.leads }, met.failed);
        walk_is = ap (λ (s : walk.Step). s.events ++ closing s.stage) (sym same);
      },
    )
