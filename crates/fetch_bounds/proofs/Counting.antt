-- A walk's begins start no more jobs than the walk has starts, besides those for begins that ask the caches alone.
use Rattle.std.proofs.Common.{Bool, Err, List, None, Ok, Option, Result, Some, [], ap, arith, false, inl, inr, length, refl, subst, sym, true, true≢false, ℕ, ◌+◌, ◌<◌, ◌∙◌, ◌∷◌, ◌≡◌, ◌≤◌}
use Rattle.std.proofs.lemmas.Bool.{and_parts, or_cases}
use Rattle.std.specs.FinMap.{get}
use Rattle.std.specs.List.{list_any}
use Rattle.std.specs.Option.{is_some}
use Rattle.std.specs.Prelude.{not, slice_index_or, ◌&&◌, ◌||◌}
use Rattle.std.specs.Result.{is_ok}
use Rattle.bitmap_kind.specs.Picture.{Picture}
use Rattle.cache_key.specs.Key.{Key}
use Rattle.engine_world.specs.Knowledge.{Knowledge, knowledge_in}
use Rattle.engine_world.specs.Places.{one_if}
use Rattle.engine_world.specs.Sound.{RefersTo, Sound}
use Rattle.engine_world.specs.Steps.{Transition, collected, load}
use Rattle.engine_world.specs.World.{Limits, LoadState, World, opening}
use Rattle.engine_world.specs.declared.events.Note.{Note}
use Rattle.engine_world.specs.declared.events.NotedReply.{NotedReply}
use Rattle.finite_maps.specs.MapLaws.{same_Some}
use Rattle.load_cause.specs.Ends.{end_in}
use Rattle.load_cause.specs.declared.causes.Cause.{Cause}
use Rattle.load_table.specs.Loads.{owned}
use Rattle.load_table.specs.declared.loads.LoadState.TheVariants.{Failed, Ready, Waiting}
use Rattle.outside.specs.Content.{Contents}
use Rattle.script_walk.specs.Marks.{Marks, begins_in}
use Rattle.script_walk.specs.Orderly.{AllIn, In, IsOrderly, without_begin}
use Rattle.script_walk.specs.Starts.{Walked, is_covered, is_plain, is_shared, is_trim, keys_of, remembers, starts_from}
use Rattle.script_walk.specs.Walk.{Begin, Begun, Dropped, Ended, Printed, TraceEvent, Trimmed}
use Rattle.state_machine.specs.declared.entry.Entry.{Entry}
use Rattle.fetch_bounds.proofs.Covered.{among_keys, any_among, asks_all, shared_in}
use Rattle.fetch_bounds.proofs.Entries.{work_among, work_asks_all, work_no_load, work_trims_nothing}
use Rattle.fetch_bounds.proofs.Following.{IsStep, Passes, all_work_law, known_after, next_law, prints_law, work_entry}
use Rattle.fetch_bounds.proofs.Histories.{Goes, Grounds, Said}
use Rattle.fetch_bounds.proofs.Keeping.{absent, findable_law, opens_findable}
use Rattle.fetch_bounds.proofs.Keyed.{keyed_law}
use Rattle.fetch_bounds.proofs.Remaining.{there_law}
use Rattle.fetch_bounds.proofs.Right.{AllRight, right_law, right_or_free}
use Rattle.fetch_bounds.proofs.Seats.{known_there}
use Rattle.fetch_bounds.proofs.Shares.{none_started, shared_loads_start_no_job}
use Rattle.fetch_bounds.proofs.Standing.{IsKnown, Stands, begin_stands, drop_stands, load_known, loaded, opening_stands, trim_stands, work_stands}
use Rattle.fetch_bounds.proofs.Starting.{IsMore, IsNoLoad, as_many_law, no_source_start}
use Rattle.fetch_bounds.specs.Costs.{cached_begins, is_started, source_start, source_starts}
use Rattle.fetch_bounds.specs.Findable.{IsFindable, LoadsAskAll}
use Rattle.fetch_bounds.specs.Follows.{Follows, IsEndOf, IsLoadBy, IsReleaseOf, IsTrimTo, IsWork}
use Rattle.fetch_bounds.specs.InMemory.{AllFit, IsAmong, IsInMemory, LoadedAmong, LoadsAmong, TrimsNothing}
use Rattle.fetch_bounds.specs.Laws.{IsFree}
use Rattle.fetch_bounds.proofs.Standing as Standing
use Rattle.engine_world.specs.declared.events.Event.TheVariants as events
use Rattle.engine_world.specs.declared.events.NotedReply.TheVariants as replies
use Rattle.engine_world.specs.NumberLaws.{none_at, number_cases}
use Rattle.script_walk.specs.Starts as walks

-- A walk, what the engine beside it knows, and its marks; `events` is the whole trace.
pub record Course : Type 0 where
  pub limits : Limits
  pub content : Contents
  pub marks : Marks
  pub events : List TraceEvent

-- Each load of seat 0 that has failed for what no content gives has a marked begin.
abbrev pub AllMarked : Marks → Said
AllMarked marks w = (n : ℕ) (cause : Cause) → get w.loads (0, n) ≡ Some (Failed cause) → IsFree cause → is_some (marks (n + 1)) ≡ true

abbrev says_ready : NotedReply → Bool
says_ready replies.Ready = true
says_ready reply = false

collected_ready : (o : Option LoadState) → collected o ≡ replies.Ready → (r : ℕ) × (o ≡ Some (Ready r))
collected_ready (Some (Ready r)) e = (r, refl)
collected_ready None e = absurd (true≢false (sym (ap says_ready e)))
collected_ready (Some (Waiting j)) e = absurd (true≢false (sym (ap says_ready e)))
collected_ready (Some (Failed cause)) e = absurd (true≢false (sym (ap says_ready e)))

module _ (g : Grounds) (k : Course) where
  abbrev pub run : Walked
  run = record { results = end_in k.content; marks = k.marks; memory = k.limits.memory; events = k.events }

  abbrev pub every : List Begin
  every = begins_in k.events

  abbrev pub keys : List Key
  keys = keys_of every

  -- Seat 0 may have a load for each view, and where the cache keeps each picture, all fit.
  pub record IsRoomy : Type 0 where
    pub room : 4096 ≤ slice_index_or k.limits.quotas 0 0
    pub fit : remembers run ≡ true → AllFit (end_in k.content) k.limits.memory keys

  -- where the walk and the engine stand, and what holds of the keys of the script
  pub record InStep (begun : ℕ) (live : List Begin) (complete : List Key) (w : World) (known : ℕ → Knowledge) : Type 0 where
    pub stands : Stands k.limits (Some k.content) begun live w known
    pub findable : (key : Key) → is_plain every key ≡ true → IsFindable key w
    pub among : LoadedAmong keys w
    pub there : remembers run ≡ true → (key : Key) → IsAmong key complete → is_plain every key ≡ true → IsInMemory key w
    pub right : AllRight k.content w (known 0)

  module _ (roomy : IsRoomy) (begun : ℕ) (live : List Begin) (complete : List Key) (w m : World) (known : ℕ → Knowledge) (at : InStep begun live complete w known) (e : Entry Note) (s : IsStep (AllMarked k.marks) w known e m) where
    fit_now : remembers run ≡ true → AllFit (end_in k.content) w.limits.memory keys
    fit_now r = subst (λ (l : Limits). AllFit (end_in k.content) l.memory keys) (sym at.stands.limits_are) (roomy.fit r)

    -- what an entry keeps
    in_step : (begun' : ℕ) (live' : List Begin) → Stands k.limits (Some k.content) begun' live' m (known_after known e) → ((key : Key) → is_plain every key ≡ true → LoadsAskAll key e.note.event)
        → LoadsAmong keys e.note.event → (remembers run ≡ true → TrimsNothing e.note.event) → InStep begun' live' complete m (known_after known e)
    in_step begun' live' stands asks among no_trim = record {
      stands = stands;
      findable = λ key h. findable_law key w known at.stands.sound (at.findable key h) m e.by e.note.event e.note.reply s.permits (asks key h) s.step;
      among = keyed_law keys w at.among m e.by e.note.event e.note.reply among s.step;
      there = λ r key in_complete h.
          there_law key keys k.content w known at.stands.sound (at.findable key h) at.among at.stands.content_is (fit_now r) m e.by e.note.event e.note.reply s.permits (no_trim r) s.step (at.there r key in_complete h);
      right = right_law k.content w m known e.by e.note.event e.note.reply at.stands.sound at.stands.content_is s.permits s.step at.right;
    }

    -- as many loads and jobs as before
    abbrev AsMany : Type 0
    AsMany = (m.counts.started ≡ w.counts.started) × (m.counts.loads ≡ w.counts.loads) × (source_start e.note.event e.note.reply ≡ 0)

    as_many : IsNoLoad e.note.event → AsMany
    as_many is = let h = as_many_law w m e.by e.note.event e.note.reply is s.step in (h.0, h.1, no_source_start e.note.event e.note.reply is)

    pub work : IsWork e.note.event → InStep begun live complete m (known_after known e)
    work is = in_step begun live (work_stands g (AllMarked k.marks) k.limits (Some k.content) begun live w m known at.stands e s is)
        (λ key h. work_asks_all key e.note.event is) (work_among keys e.note.event is) (λ r. work_trims_nothing e.note.event is)

    pub work_as_many : IsWork e.note.event → AsMany
    work_as_many is = as_many (work_no_load e.note.event is)

    module _ (mine : e.by ≡ 0) where
      -- memory is trimmed
      pub trim : (level : ℕ) → (remembers run ≡ true → ⊥) → IsTrimTo level e → InStep begun live complete m (known_after known e)
      trim level never is = in_step begun live (trim_stands g (AllMarked k.marks) k.limits (Some k.content) begun live w m known at.stands e s mine level is)
          (λ key h. subst (LoadsAskAll key) (sym is) tt) (subst (LoadsAmong keys) (sym is) tt) (λ r. absurd (never r))

      pub trim_as_many : (level : ℕ) → IsTrimTo level e → AsMany
      trim_as_many level is = as_many (subst IsNoLoad (sym is) tt)

      -- a hold is dropped
      pub drop : (b : Begin) → IsReleaseOf b e → In b live → length (without_begin b.number live) + 1 ≡ length live → InStep begun (without_begin b.number live) complete m (known_after known e)
      drop b is b_in fewer = in_step begun (without_begin b.number live) (drop_stands g (AllMarked k.marks) k.limits (Some k.content) begun live w m known at.stands e s mine b is b_in fewer)
          (λ key h. subst (LoadsAskAll key) (sym is.2) tt) (subst (LoadsAmong keys) (sym is.2) tt) (λ r. subst TrimsNothing (sym is.2) tt)

      pub drop_as_many : (b : Begin) → IsReleaseOf b e → AsMany
      drop_as_many b is = as_many (subst IsNoLoad (sym is.2) tt)

      -- a begin comes to its end
      pub end_is_work : (b : Begin) (result : Result Picture Cause) → IsEndOf b result e → IsWork e.note.event
      end_is_work b result is = subst IsWork (sym is.2) tt

      shows_its_key : (b : Begin) (picture : Picture) → In b live → IsEndOf b (Ok picture) e → IsInMemory b.spec.key m
      shows_its_key b picture b_in is =
          let n : ℕ = is.0 in
          let does : Transition w e.by (events.Collect n) e.note.reply m = subst (λ event. Transition w e.by event e.note.reply m) is.2 s.step in
          let found = collected_ready (get w.loads (e.by, n)) (sym does.0 ∙ is.3) in
          let l = load_known (known 0) b n is.1 (at.stands.live_are b b_in) in
          let state = known_there w.jobs w.resources (get (known 0).loads n) (get w.loads (0, n)) l.0 l.1 ((at.stands.sound.known_is 0).each n) in
          let same : state.0 ≡ Ready found.0 = same_Some _ _ (sym state.1 ∙ ap (λ q. get w.loads (q, n)) (sym mine) ∙ found.1) in
          let refers : RefersTo w.jobs w.resources l.0 (Ready found.0) = subst (RefersTo w.jobs w.resources l.0) same state.2.refers in
          subst (IsInMemory b.spec.key) (sym does.1) (found.0, refers.0, refers.1, refers.2 ∙ l.2)

      pub completed : (b : Begin) (picture : Picture) → In b live → IsEndOf b (Ok picture) e → InStep begun live (b.spec.key ∷ complete) m (known_after known e)
      completed b picture b_in is =
          let a : InStep begun live complete m (known_after known e) = work (end_is_work b (Ok picture) is) in
          record {
            stands = a.stands;
            findable = a.findable;
            among = a.among;
            there = λ r key in_complete h. elim in_complete [
              | inl same ↦ subst (λ q. IsInMemory q m) (sym same) (shows_its_key b picture b_in is)
              | inr old ↦ a.there r key old h
            ];
            right = a.right;
          }

      -- a begin is made
      module _ (b : Begin) (others : List Begin) (b_in : In b every) (number : b.number ≡ begun + 1) (sides : AllIn others live) (is : IsLoadBy b e) (few : length live < 4096) where
        made : (e.note.reply ≡ (load w e.by b.spec).0) × (m ≡ (load w e.by b.spec).1)
        made = loaded g (AllMarked k.marks) k.limits (Some k.content) begun live w m known at.stands e s mine b is number few roomy.room

        more : IsMore w (load w e.by b.spec)
        more = Standing.more g (AllMarked k.marks) k.limits (Some k.content) begun live w m known at.stands e s mine b is number few roomy.room

        pub begin : InStep (begun + 1) (b ∷ live) complete m (known_after known e)
        begin = in_step (begun + 1) (b ∷ live) (begin_stands g (AllMarked k.marks) k.limits (Some k.content) begun live w m known at.stands e s mine b is number few roomy.room)
            (λ key h. subst (LoadsAskAll key) (sym is) (asks_all key every b b_in h))
            (subst (LoadsAmong keys) (sym is) (among_keys b every b_in))
            (λ r. subst TrimsNothing (sym is) tt)

        pub begin_loads : m.counts.loads ≡ w.counts.loads + 1
        begin_loads = ap (λ (v : World). v.counts.loads) made.1 ∙ more.loads

        one_more : m.counts.started ≤ w.counts.started + 1
        one_more = omega (arith, ap (λ (v : World). v.counts.started) made.1, more.started)

        -- it is shared with another view
        by_shared : is_ok (end_in k.content b.spec.key) ≡ true → is_plain every b.spec.key ≡ true → is_shared k.marks b.spec.key others ≡ true → m.counts.started ≡ w.counts.started
        by_shared ok plain shared =
            let other = shared_in k.marks b.spec.key others shared in
            let l : IsKnown (known 0) other.0 = at.stands.live_are other.0 (sides other.0 other.1) in
            let unmarked : k.marks (l.0 + 1) ≡ None = ap k.marks (sym l.1) ∙ other.3 in
            let key_is : l.2.key ≡ b.spec.key = l.4 ∙ other.2 in
            ap (λ (v : World). v.counts.started) made.1 ∙ shared_loads_start_no_job w known e.by b.spec at.stands.sound (at.findable b.spec.key plain) (asks_all b.spec.key every b b_in plain)
            (record {
              seat = 0;
              number = l.0;
              load = l.2;
              is = l.3;
              key_is = key_is;
              live = λ cause failed. elim (right_or_free k.content l.2.key cause (at.right l.0 l.2 cause l.3 failed)) [
                | inl gives ↦ true≢false (sym ok ∙ ap is_ok (ap (end_in k.content) (sym key_is) ∙ gives))
                | inr free ↦ true≢false (sym (s.said l.0 cause failed free) ∙ ap is_some unmarked)
              ];
            })

        -- it is in memory
        by_memory : is_plain every b.spec.key ≡ true → remembers run ≡ true → walks.has_key b.spec.key complete ≡ true → m.counts.started ≡ w.counts.started
        by_memory plain r in_complete =
            let all = asks_all b.spec.key every b b_in plain in
            let there = at.there r b.spec.key (any_among b.spec.key complete in_complete) plain in
            ap (λ (v : World). v.counts.started) made.1 ∙ none_started w e.by b.spec (all.memory refl)
            (λ no_active no_cached no_job. absent b.spec.key w known at.stands.sound (at.findable b.spec.key plain) e.by b.spec all no_active no_cached refl there.0 there.1 there.2 there.3)

        by_cover : is_covered run complete b others ≡ true → m.counts.started ≡ w.counts.started
        by_cover h =
            let ok : Bool = is_ok (end_in k.content b.spec.key) in
            let plain : Bool = is_plain every b.spec.key in
            let shared : Bool = is_shared k.marks b.spec.key others in
            let there : Bool = walks.has_key b.spec.key complete in
            let both : (ok && plain) ≡ true = (and_parts (ok && plain) (shared || (remembers run && there)) h).0 in
            let cover : (shared || (remembers run && there)) ≡ true = (and_parts (ok && plain) (shared || (remembers run && there)) h).1 in
            elim (or_cases shared (remembers run && there) cover) [
              | inl e ↦ by_shared (and_parts ok plain both).0 (and_parts ok plain both).1 e
              | inr e ↦ by_memory (and_parts ok plain both).1 (and_parts (remembers run) there e).0 (and_parts (remembers run) there e).1
            ]

        pub begin_started : m.counts.started ≤ w.counts.started + (one_if (not (b.spec.cached || is_covered run complete b others)) + one_if b.spec.cached)
        begin_started = elim b.spec.cached as (λ t. m.counts.started ≤ w.counts.started + (one_if (not (t || is_covered run complete b others)) + one_if t)) [
          | true ↦ omega (arith, one_more)
          | false ↦ elim (is_covered run complete b others) as (λ t. is_covered run complete b others ≡ t → m.counts.started ≤ w.counts.started + (one_if (not t) + 0)) [
            | true ↦ λ h. omega (arith, by_cover h)
            | false ↦ λ h. omega (arith, one_more)
          ] refl
        ]

        -- a job that may ask its source
        pub begin_source : source_start e.note.event e.note.reply ≤ one_if (not (b.spec.cached || is_covered run complete b others))
        begin_source =
            let this : source_start e.note.event e.note.reply ≡ one_if (not b.spec.cached && is_started e.note.reply) = ap (λ event. source_start event e.note.reply) is in
            let most : one_if (not b.spec.cached && is_started e.note.reply) ≤ one_if (not (b.spec.cached || is_covered run complete b others)) =
            elim b.spec.cached as (λ t. one_if (not t && is_started e.note.reply) ≤ one_if (not (t || is_covered run complete b others))) [
              | true ↦ omega arith
              | false ↦ elim (is_covered run complete b others) as (λ t. is_covered run complete b others ≡ t → one_if (is_started e.note.reply) ≤ one_if (not t)) [
                | true ↦ λ h. elim (is_started e.note.reply) as (λ t. is_started e.note.reply ≡ t → one_if t ≤ 0) [
                  | true ↦ λ q. absurd (omega (arith, by_cover h, ap (λ (v : World). v.counts.started) made.1, more.answered (ap is_started (sym made.0) ∙ q)))
                  | false ↦ λ q. omega arith
                ] refl
                | false ↦ λ h. elim (is_started e.note.reply) as (λ t. one_if t ≤ 1) [ true ↦ omega arith | false ↦ omega arith ]
              ] refl
            ] in
            omega (arith, this, most)

  -- ---- a whole history

  -- what these events cost a history that leads from one state to another
  pub record Counted (z : World) (events : List TraceEvent) (complete : List Key) (w : World) (known : ℕ → Knowledge) (es : List (Entry Note)) : Type 0 where
    pub started : z.counts.started ≤ w.counts.started + (starts_from run complete events + cached_begins events)
    pub sources : source_starts es ≤ starts_from run complete events
    pub loads : z.counts.loads ≡ w.counts.loads + length (begins_in events)
    pub ended : (who : ℕ) → owned who z.loads ≡ 0

  module _ (roomy : IsRoomy) (z : World) where
    passes : (events : List TraceEvent) (begun : ℕ) (live : List Begin) (complete : List Key) → Passes (AllMarked k.marks) (InStep begun live complete) (Counted z events complete)
    passes events begun live complete = record {
      keeps = λ w m known e at s is. work roomy begun live complete w m known at e s is;
      adds = λ w m known e es at s is c.
          let same = work_as_many roomy begun live complete w m known at e s is in
          record { started = omega (arith, c.started, same.0); sources = omega (arith, c.sources, same.2); loads = omega (arith, c.loads, same.1); ended = c.ended };
    }

    no_loads : (begun : ℕ) (live : List Begin) (complete : List Key) (w : World) (known : ℕ → Knowledge) → InStep begun live complete w known → live ≡ [] → (who : ℕ) → owned who w.loads ≡ 0
    no_loads begun live complete w known at none who = elim (number_cases who 0) [
      | inl is ↦ ap (λ q. owned q w.loads) is ∙ (at.stands.sound.known_is 0).live ∙ at.stands.size_is ∙ ap length none
      | inr ne ↦ (at.stands.sound.known_is who).live ∙ at.stands.others who ne
    ]

    pub count : (events : List TraceEvent) (begun : ℕ) (live : List Begin) (complete : List Key) (seen : List Begin) → IsOrderly begun live events → AllIn (begins_in events) every → (remembers run ≡ true → list_any is_trim events ≡ false)
        → (w : World) (known : ℕ → Knowledge) (es : List (Entry Note)) → InStep begun live complete w known → Follows seen events es → Goes (AllMarked k.marks) w known es z → Counted z events complete w known es
    count [] begun live complete seen order all no_trims = all_work_law (AllMarked k.marks) (InStep begun live complete) (Counted z [] complete) (passes [] begun live complete) z
        (λ w known at said same. record {
          started = omega (arith, ap (λ (v : World). v.counts.started) same);
          sources = omega arith;
          loads = omega (arith, ap (λ (v : World). v.counts.loads) same);
          ended = λ who. ap (λ (v : World). owned who v.loads) (sym same) ∙ no_loads begun live complete w known at order who;
        })
    count (Printed line ∷ events) begun live complete seen order all no_trims =
        prints_law (AllMarked k.marks) (InStep begun live complete) (Counted z (Printed line ∷ events) complete) (passes (Printed line ∷ events) begun live complete) z seen line (Follows seen events)
        (λ w known es at follows goes.
        let c = count events begun live complete seen order all no_trims w known es at follows goes in
        record { started = c.started; sources = c.sources; loads = c.loads; ended = c.ended })
    count (Dropped b ∷ events) begun live complete seen order all no_trims =
        next_law (AllMarked k.marks) (InStep begun live complete) (Counted z (Dropped b ∷ events) complete) (passes (Dropped b ∷ events) begun live complete) z (IsReleaseOf b) (Follows seen events)
        (λ w m known e es at s mine is follows goes.
        let c = count events begun (without_begin b.number live) complete seen order.2 all no_trims m (known_after known e) es (drop roomy begun live complete w m known at e s mine b is order.0 order.1) follows goes in
        let same = drop_as_many roomy begun live complete w m known at e s mine b is in
        record { started = omega (arith, c.started, same.0); sources = omega (arith, c.sources, same.2); loads = omega (arith, c.loads, same.1); ended = c.ended })
    count (Begun b others ∷ events) begun live complete seen order all no_trims =
        let b_in : In b every = all b (inl refl) in
        next_law (AllMarked k.marks) (InStep begun live complete) (Counted z (Begun b others ∷ events) complete) (passes (Begun b others ∷ events) begun live complete) z (IsLoadBy b) (Follows (b ∷ seen) events)
        (λ w m known e es at s mine is follows goes.
        let next = begin roomy begun live complete w m known at e s mine b others b_in order.0 order.1 is order.2 in
        let c = count events (begun + 1) (b ∷ live) complete (b ∷ seen) order.3 (λ o o_in. all o (inr o_in)) no_trims m (known_after known e) es next follows goes in
        record {
          started = omega (arith, c.started, begin_started roomy begun live complete w m known at e s mine b others b_in order.0 order.1 is order.2);
          sources = omega (arith, c.sources, begin_source roomy begun live complete w m known at e s mine b others b_in order.0 order.1 is order.2);
          loads = omega (arith, c.loads, begin_loads roomy begun live complete w m known at e s mine b others b_in order.0 order.1 is order.2);
          ended = c.ended;
        })
    count (Ended b (Ok picture) ∷ events) begun live complete seen order all no_trims =
        next_law (AllMarked k.marks) (InStep begun live complete) (Counted z (Ended b (Ok picture) ∷ events) complete) (passes (Ended b (Ok picture) ∷ events) begun live complete) z (IsEndOf b (Ok picture)) (Follows seen events)
        (λ w m known e es at s mine is follows goes.
        let c = count events begun live (b.spec.key ∷ complete) seen order.1 all no_trims m (known_after known e) es (completed roomy begun live complete w m known at e s mine b picture order.0 is) follows goes in
        let same = work_as_many roomy begun live complete w m known at e s (end_is_work roomy begun live complete w m known at e s mine b (Ok picture) is) in
        record { started = omega (arith, c.started, same.0); sources = omega (arith, c.sources, same.2); loads = omega (arith, c.loads, same.1); ended = c.ended })
    count (Ended b (Err cause) ∷ events) begun live complete seen order all no_trims =
        work_entry (AllMarked k.marks) (InStep begun live complete) (Counted z (Ended b (Err cause) ∷ events) complete) (passes (Ended b (Err cause) ∷ events) begun live complete) z (IsEndOf b (Err cause)) (Follows seen events)
        (λ e is. subst IsWork (sym is.2) tt)
        (λ w known es at follows goes.
        let c = count events begun live complete seen order.1 all no_trims w known es at follows goes in
        record { started = c.started; sources = c.sources; loads = c.loads; ended = c.ended })
    count (Trimmed level ∷ events) begun live complete seen order all no_trims =
        let never : remembers run ≡ true → ⊥ = λ r. true≢false (no_trims r) in
        next_law (AllMarked k.marks) (InStep begun live complete) (Counted z (Trimmed level ∷ events) complete) (passes (Trimmed level ∷ events) begun live complete) z (IsTrimTo level) (Follows seen events)
        (λ w m known e es at s mine is follows goes.
        let c = count events begun live complete seen order all (λ r. absurd (never r)) m (known_after known e) es (trim roomy begun live complete w m known at e s mine level never is) follows goes in
        let same = trim_as_many roomy begun live complete w m known at e s mine level is in
        record { started = omega (arith, c.started, same.0); sources = omega (arith, c.sources, same.2); loads = omega (arith, c.loads, same.1); ended = c.ended })

  -- the state at the beginning
  pub at_opening : Sound (opening k.limits (Some k.content)) (knowledge_in []) → InStep 0 [] [] (opening k.limits (Some k.content)) (knowledge_in [])
  at_opening sound = record {
    stands = opening_stands k.limits (Some k.content) sound;
    findable = λ key h. opens_findable key k.limits (Some k.content);
    among = record { jobs = λ j job at. none_at j job at; resources = λ r a at. none_at r a at };
    there = λ r key is h. absurd is;
    right = λ n own cause own_at failed. none_at n own own_at;
  }
