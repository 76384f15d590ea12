-- Each kind of step on a word keeps the rule.
use Rattle.std.proofs.Common.{◌≡◌, ◌≢◌, ℕ, zero, suc, ◌+◌, ◌%◌, ◌<◌, ◌≤◌, ◌==◌, Bool, true, false, List, [], ◌∷◌, ◌++◌, length, set, Option, Some, refl, sym, ap, ◌∙◌, subst, ⊎_elim, inl, inr, arith, length-append, eqb-true}
use Rattle.std.specs.Prelude.{slice_index, slice_set}
use mathlib.Core.Option.{Option as Maybe, some, none, some-injective}
use mathlib.Core.Logic.{dite}
use native.Mathlib.Decide.{ℕ_discrete}
use lib.ListN.{get_elem?}
use prog.Atomic.{either}
use Rattle.atomic_table.specs.Table.{State, Act, keeps, takes, gives, Valid, Allows, stepped, step, carried_after}
use Rattle.atomic_table.proofs.Lists.{at_snoc, set_again}
use Rattle.std.proofs.Math.Nat.{eq-or-lt_of_le}
use Rattle.state_machine.specs.declared.entry.Entry.{Entry}
use Rattle.state_machine.specs.declared.machine.Machine.{Ghosts}
use Rattle.state_machine.specs.Laws.{OwnEntriesAppend}
use Rattle.turn_lock.specs.declared.view.About.{About}
use Rattle.turn_lock.specs.declared.view.Joined.{Joined}
use Rattle.turn_lock.specs.declared.view.View.{View}
use Rattle.turn_lock.specs.inside.Views.{lap, word_of, with_ticket, with_known, with_turn, without_ticket}
use Rattle.turn_lock.specs.inside.Rule.{Each, One, IsAt, HasSeen, Fits, Kept}
use Rattle.turn_lock.specs.inside.Steps.{Holder, LooksAtNext, TakesTicket, LearnsLength, LooksForTurn, PassesTurn}
use Rattle.turn_lock.proofs.Words.{word-lt, word-next, same-ticket, least_shown, least-shown, least-le, least-least}
use Rattle.turn_lock.proofs.Lists.{each_set, prefix_self, prefix_more, same_some}
use Rattle.turn_lock.proofs.Histories.{own_other}
use Rattle.turn_lock.proofs.Changes.{off, not_true, one_here, no_ticket, a_ticket, changed, home_stays}

module _ {M Event Reply Note : Type 0} (machine : Ghosts M Event Reply Note) (about : About M) where
  abbrev S : Type 0
  S = State (Option M) (View M Note)

  abbrev K : S → Type 0
  K = Kept machine about

  abbrev F : List (Entry Note) → ℕ → ℕ → View M Note → Type 0
  F = Fits about

  with_words : (s : S) (ws : List ℕ) (homes : List (Maybe (Option M))) (views : List (View M Note)) (other : List ℕ) → other ≡ ws → K (record { words = ws; homes = homes; views = views }) → K (record { words = other; homes = homes; views = views })
  with_words s ws homes views other e k = subst (λ (x : List ℕ). K (record { words = x; homes = homes; views = views })) (sym e) k

  word0 : (s : S) (h : K s) → slice_index s.words 0 ≡ word_of about.first_ticket h.next
  word0 s h = ap (λ ws. slice_index ws 0) h.words

  word1 : (s : S) (h : K s) → slice_index s.words 1 ≡ word_of about.first_ticket (length h.past)
  word1 s h = ap (λ ws. slice_index ws 1) h.words

  same_words : (s : S) (h : K s) (i : ℕ) → i < 2 → slice_set s.words i (slice_index s.words i) ≡ s.words
  same_words s h i lt = subst (λ ws. slice_set ws i (slice_index ws i) ≡ ws) (sym h.words) (at i lt (word_of about.first_ticket h.next) (word_of about.first_ticket (length h.past)))
    where
      at : (i : ℕ) → i < 2 → (a b : ℕ) → slice_set (a ∷ b ∷ []) i (slice_index (a ∷ b ∷ []) i) ≡ a ∷ b ∷ []
      at zero lt a b = refl
      at (suc zero) lt a b = refl
      at (suc (suc i)) lt a b = absurd (omega arith)

  -- nothing changes
  stays : (s : S) (h : K s) (i : ℕ) → i < 2 → (id : ℕ) (v : View M Note) → get_elem? s.views id ≡ some v → K (record { words = slice_set s.words i (slice_index s.words i); homes = s.homes; views = set s.views id v })
  stays s h i lt id v at = subst (λ (x : List ℕ). K (record { words = x; homes = s.homes; views = set s.views id v })) (sym (same_words s h i lt))
      (subst (λ (x : List (View M Note)). K (record { words = s.words; homes = s.homes; views = x })) (sym (set_again s.views id v at)) h)

  -- kind 1
  pub looks : (slots id : ℕ) (m : Holder M Note) → Allows K slots id m 0 (λ n. n) (LooksAtNext (step slots 0 0 0 none) m)
  looks slots id m s h wide at small =
      (m.0, keeps, tt, stays s h 0 (omega arith) id m.0 at, (refl, subst (λ n. n < lap) (sym (word0 s h)) (word-lt about.first_ticket h.next)))

  -- kind 2
  one_more : (past : List (Entry Note)) (next made : ℕ) (v : View M Note) → F past next made v → F past (next + 1) made v
  one_more past next made v f = record { start = f.start; first_ticket = f.first_ticket; number = f.number; newest = f.newest; seen = f.seen; own = f.own; known = f.known; ticket = λ w. (let t = f.ticket w in (t.0, t.1, omega arith)); served = f.served; joined = f.joined; apart = f.apart }

  takes_goes : (slots id : ℕ) (v : View M Note) (old new : ℕ) (s : S) (h : K s) → get_elem? s.views id ≡ some v → v.live ≡ true → v.waits ≡ false → v.served ≡ false → new ≡ (old + 1) % lap
      → (b : Bool) → (slice_index s.words 0 == old) ≡ b
      → (w : View M Note) × (a : Act (Option M)) × Valid s.homes [] a × K (stepped s 0 (either (slice_index s.words 0 == old) new (slice_index s.words 0)) id [] w a)
      × TakesTicket (step slots 0 old new none) (v, []) (slice_index s.words 0) (w, carried_after [] a)
  takes_goes slots id v old new s h at live idle free is true b =
      let f = h.each id v at in
      let w = with_ticket v h.next in
      let none-yet = no_ticket v idle in
      let here : slice_index s.words 0 ≡ old = eqb-true (slice_index s.words 0) old b in
      let word : new ≡ word_of about.first_ticket (h.next + 1) = is ∙ (ap (λ n. (n + 1) % lap) (sym here ∙ word0 s h) ∙ word-next about.first_ticket h.next) in
      let kept = changed machine about s h id v w h.past (h.next + 1) s.homes record {
        at = at;
        same = record { live = refl; number = refl; joined = refl };
        count = omega arith;
        tickets = λ t low high. ⊎_elim
            (λ (e : t ≡ h.next). inl record { waits = refl; ticket = sym e })
            (λ (lt : t < h.next). inr (low, lt, λ has. absurd (off (sym idle ∙ has.waits))))
            (eq-or-lt_of_le (omega arith));
        fits = record { start = f.start; first_ticket = f.first_ticket; number = f.number; newest = f.newest; seen = f.seen; own = f.own; known = f.known; ticket = λ _. (live, waiting s h, omega arith); served = λ e. absurd (off e); joined = f.joined; apart = f.apart };
        others = λ j y ne e. one_more h.past h.next h.made y (h.each j y e);
        apart = λ j y ne e _ wy k. (let t = (h.each j y e).ticket wy in let k' : h.next ≡ y.ticket = k in omega arith);
        entries = h.entries;
        home = home_stays machine about s.homes h.past s.views id v w at free refl h.home;
      } in
      let words : slice_set s.words 0 new ≡ word_of about.first_ticket (h.next + 1) ∷ word_of about.first_ticket (length h.past) ∷ [] = ap (λ ws. slice_set ws 0 new) h.words ∙ ap (λ n. n ∷ word_of about.first_ticket (length h.past) ∷ []) word in
      let first : v.first_ticket ≡ about.first_ticket = f.first_ticket live in
      (w, keeps, tt, rw b (with_words s _ s.homes (set s.views id w) _ words kept), rw b (h.next, word0 s h ∙ ap (λ n. word_of n h.next) (sym first), refl))
    where
      waiting : (s : S) (h : K s) → length h.past ≤ h.next
      waiting s h = let c = h.count in omega arith
  takes_goes slots id v old new s h at live idle free is false b =
      (v, keeps, tt, rw b (stays s h 0 (omega arith) id v at), rw b refl)

  -- kind 2
  pub takes_ticket : (slots id : ℕ) (v : View M Note) (old new : ℕ) → v.live ≡ true → v.waits ≡ false → v.served ≡ false → new ≡ (old + 1) % lap
      → Allows K slots id (v, []) 0 (λ n. either (n == old) new n) (TakesTicket (step slots 0 old new none) (v, []))
  takes_ticket slots id v old new live idle free is s h wide at small = takes_goes slots id v old new s h at live idle free is (slice_index s.words 0 == old) refl

  -- kind 3, where it is not the seat's turn
  learns_goes : (slots id : ℕ) (v : View M Note) (s : S) (h : K s) → get_elem? s.views id ≡ some v → v.live ≡ true → v.served ≡ false
      → (w : View M Note) × (a : Act (Option M)) × Valid s.homes [] a × K (stepped s 1 (slice_index s.words 1) id [] w a)
      × LearnsLength (step slots 1 0 0 none) (v, []) (slice_index s.words 1) (w, carried_after [] a)
  learns_goes slots id v s h at live free =
      let f = h.each id v at in
      let k = least_shown about.first_ticket v.known (length h.past) f.known.1 in
      let le : k ≤ length h.past = least-le about.first_ticket v.known (length h.past) f.known.1 in
      let w = with_known v k in
      let kept = changed machine about s h id v w h.past h.next s.homes record {
        at = at;
        same = record { live = refl; number = refl; joined = refl };
        count = omega arith;
        tickets = λ t low high. inr (low, high, λ has. record { waits = has.waits; ticket = has.ticket });
        fits = record { start = f.start; first_ticket = f.first_ticket; number = f.number; newest = f.newest; seen = f.seen; own = f.own; known = (let known = f.known.0 in omega arith, le); ticket = f.ticket; served = f.served; joined = f.joined; apart = f.apart };
        others = λ j y ne e. h.each j y e;
        apart = λ j y ne e. (h.apart id j v y (λ q. ne (sym q)) at e).tickets;
        entries = h.entries;
        home = home_stays machine about s.homes h.past s.views id v w at free free h.home;
      } in
      let first : v.first_ticket ≡ about.first_ticket = f.first_ticket live in
      let shown : slice_index s.words 1 ≡ word_of v.first_ticket (length h.past) = word1 s h ∙ ap (λ n. word_of n (length h.past)) (sym first) in (
        w,
        keeps,
        tt,
        with_words s _ s.homes (set s.views id w) _ (same_words s h 1 (omega arith) ∙ h.words) kept,
        (
          k,
          record {
            above = omega arith;
            shown = shown ∙ least-shown v.first_ticket v.known (length h.past) f.known.1;
            least = λ j above e. least-least v.first_ticket v.known (length h.past) f.known.1 j above (sym shown ∙ e);
          },
          refl,
        ),
      )

  -- kind 3, by a seat with no ticket
  pub learns_length : (slots id : ℕ) (v : View M Note) → v.live ≡ true → v.served ≡ false → Allows K slots id (v, []) 1 (λ n. n) (LearnsLength (step slots 1 0 0 none) (v, []))
  learns_length slots id v live free s h wide at small = learns_goes slots id v s h at live free

  -- no seat is served besides one with the next ticket
  alone : (s : S) (h : K s) (id : ℕ) (v : View M Note) → get_elem? s.views id ≡ some v → v.waits ≡ true → v.served ≡ false → length h.past ≡ v.ticket → One (λ u. u.served ≡ true) s.views → ⊥
  alone s h id v at waits free turn one =
      dite (ℕ_discrete one.0 id)
      (λ e. let same : v ≡ one.1 = some-injective v one.1 (sym at ∙ (ap (λ k. get_elem? s.views k) (sym e) ∙ one.2)) in off (sym free ∙ (ap (λ (x : View M Note). x.served) same ∙ one.3)))
      (λ ne. let r = (h.each one.0 one.1 one.2).served one.3 in (h.apart one.0 id one.1 v ne one.2 at).tickets r.0 waits (r.1 ∙ turn))

  looks_goes : (id : ℕ) (v : View M Note) (s : S) (h : K s) → length s.homes ≡ 1 → get_elem? s.views id ≡ some v → v.waits ≡ true → v.served ≡ false
      → (b : Bool) → (slice_index s.words 1 == word_of v.first_ticket v.ticket) ≡ b
      → (w : View M Note) × (a : Act (Option M)) × Valid s.homes [] a × K (stepped s 1 (slice_index s.words 1) id [] w a)
      × LooksForTurn machine (step 1 1 0 0 none) (v, []) (slice_index s.words 1) (w, carried_after [] a)
  looks_goes id v s h wide at waits free true b =
      let f = h.each id v at in
      let t = f.ticket waits in
      let first : v.first_ticket ≡ about.first_ticket = f.first_ticket t.0 in
      let few = h.few in
      let room = h.room in
      let shown : word_of about.first_ticket (length h.past) ≡ word_of about.first_ticket v.ticket = sym (word1 s h) ∙ (eqb-true (slice_index s.words 1) (word_of v.first_ticket v.ticket) b ∙ ap (λ n. word_of n v.ticket) first) in
      let turn : length h.past ≡ v.ticket = same-ticket about.first_ticket (length h.past) v.ticket t.1 (near (length h.past) h.next v.ticket h.made about.seats t.2 few room.0 room.1) shown in
      ⊎_elim
      (λ (x : (m : M) × (s.homes ≡ some (Some m) ∷ []) × IsAt machine about.start.value m h.past × Each (λ v. v.served ≡ false) s.views).
      let w = with_turn v h.past in
      let kept = changed machine about s h id v w h.past h.next (none ∷ []) record {
        at = at;
        same = record { live = refl; number = refl; joined = refl };
        count = omega arith;
        tickets = λ t low high. inr (low, high, λ has. record { waits = has.waits; ticket = has.ticket });
        fits = record { start = f.start; first_ticket = f.first_ticket; number = f.number; newest = f.newest; seen = prefix_self h.past; own = λ _. refl; known = (omega arith, omega arith); ticket = f.ticket; served = λ _. (waits, sym turn, refl); joined = f.joined; apart = f.apart };
        others = λ j y ne e. h.each j y e;
        apart = λ j y ne e. (h.apart id j v y (λ q. ne (sym q)) at e).tickets;
        entries = h.entries;
        home = inr (refl, one_here (λ u. u.served ≡ true) s.views id v w at refl);
      } in
      let homes : slice_set s.homes 0 none ≡ none ∷ [] = ap (λ hs. slice_set hs 0 none) x.1 in (
        w,
        takes 0 (Some x.0),
        ap (λ hs. get_elem? hs 0) x.1,
        subst (λ hs. K (record { words = slice_set s.words 1 (slice_index s.words 1); homes = hs; views = set s.views id w })) (sym homes)
            (with_words s _ (none ∷ []) (set s.views id w) _ (same_words s h 1 (omega arith) ∙ h.words) kept),
        rw b record {
          past = h.past;
          holds = x.0;
          view = refl;
          held = refl;
          turn = sym turn;
          begins = f.seen;
          own = f.own t.0;
          at = λ m e. subst (λ (o : M). IsAt machine o x.0 h.past) (same_some v.start about.start.value m (f.start t.0) e) x.2;
          number = λ m e. subst (λ (o : M). v.number < machine.seats (machine.opening o)) (same_some v.start about.start.value m (f.start t.0) e) (let n = f.number t.0 in omega arith);
        },
      ))
      (λ (x : (s.homes ≡ none ∷ []) × One (λ v. v.served ≡ true) s.views). absurd (alone s h id v at waits free turn x.1))
      h.home
    where
      near : (long next t made seats : ℕ) → t < next → next ≤ long + made → made ≤ seats → seats ≤ 64 → t < long + lap
      near long next t made seats lt few le room = omega arith
  looks_goes id v s h wide at waits free false b =
      let f = h.each id v at in
      let r = learns_goes 1 id v s h at (f.ticket waits).0 free in (r.0, r.1, r.2, r.3, rw b r.4)

  -- kind 3, by a seat with a ticket
  pub looks_for_turn : (slots id : ℕ) (v : View M Note) → slots ≡ 1 → v.waits ≡ true → v.served ≡ false
      → Allows K slots id (v, []) 1 (λ n. n) (LooksForTurn machine (step slots 1 0 0 none) (v, []))
  looks_for_turn slots id v one waits free s h wide at small = looks_goes id v s h (wide ∙ one) at waits free (slice_index s.words 1 == word_of v.first_ticket v.ticket) refl

  module _ (appends : OwnEntriesAppend Note) where
    seen_on : (past : List (Entry Note)) (made : ℕ) (e : Entry Note) (p : Joined Note) → e.by ≢ p.number → HasSeen past made p → HasSeen (past ++ e ∷ []) made p
    seen_on past made e p ne t = record { begins = prefix_more p.seen past (e ∷ []) t.begins; own = own_other appends p.number past e ne ∙ t.own; known = (t.known.0, (let le = t.known.1 in omega (arith, length-append past (e ∷ [])))); number = t.number }

    -- another seat, where one entry more stands in the history
    later : (past : List (Entry Note)) (next made : ℕ) (e : Entry Note) (y : View M Note) → F past next made y → (y.live ≡ true → e.by ≢ y.number) → (y.waits ≡ true → length past ≢ y.ticket) → Each (λ p. e.by ≢ p.number) y.joined → F (past ++ e ∷ []) next made y
    later past next made e y f other apart others =
        let long : length (past ++ e ∷ []) ≡ length past + 1 = length-append past (e ∷ []) in
        record {
          start = f.start;
          first_ticket = f.first_ticket;
          number = f.number;
          newest = f.newest;
          seen = prefix_more y.seen past (e ∷ []) f.seen;
          own = λ live. own_other appends y.number past e (other live) ∙ f.own live;
          known = (f.known.0, (let k = f.known.1 in omega arith));
          ticket = λ q. (let t = f.ticket q in let a = apart q in (t.0, omega arith, t.2));
          served = λ q. (let r = f.served q in absurd (apart r.0 (sym r.1)));
          joined = λ i p ep. seen_on past made e p (others i p ep) (f.joined i p ep);
          apart = f.apart;
        }

    passes_kept : (id : ℕ) (v : View M Note) (m : M) (e : Entry Note) (s : S) (h : K s) → get_elem? s.views id ≡ some v → v.served ≡ true → e.by ≡ v.number → IsAt machine about.start.value m (h.past ++ e ∷ [])
        → K (record { words = word_of about.first_ticket h.next ∷ word_of about.first_ticket (length (h.past ++ e ∷ [])) ∷ []; homes = some (Some m) ∷ []; views = set s.views id (without_ticket v (h.past ++ e ∷ [])) })
    passes_kept id v m e s h at served by stands =
        let f = h.each id v at in
        let sv = f.served served in
        let t = f.ticket sv.0 in
        let past = h.past ++ e ∷ [] in
        let w = without_ticket v past in
        let long : length past ≡ length h.past + 1 = length-append h.past (e ∷ []) in
        let one = a_ticket v sv.0 in
        changed machine about s h id v w past h.next (some (Some m) ∷ []) record {
          at = at;
          same = record { live = refl; number = refl; joined = refl };
          count = omega arith;
          tickets = λ t low high. inr (omega arith, high, λ has. absurd (passed (length h.past) (length past) t v.ticket long low sv.1 has.ticket));
          fits = record {
            start = f.start;
            first_ticket = f.first_ticket;
            number = f.number;
            newest = f.newest;
            seen = prefix_self past;
            own = λ _. refl;
            known = (omega arith, omega arith);
            ticket = λ q. absurd (off q);
            served = λ q. absurd (off q);
            joined = λ i p ep. seen_on h.past h.made e p (λ k. f.apart t.0 i p ep (sym by ∙ k)) (f.joined i p ep);
            apart = f.apart;
          };
          others = λ j y ne ej. (let a = h.apart id j v y (λ q. ne (sym q)) at ej in
              later h.past h.next h.made e y (h.each j y ej) (λ live k. a.numbers t.0 live (sym by ∙ k)) (λ wy k. a.tickets sv.0 wy (sv.1 ∙ k)) (λ i p ep k. a.joined t.0 i p ep (sym by ∙ k)));
          apart = λ j y ne ej q. absurd (off q);
          entries = λ j y ej. ⊎_elim (λ old. h.entries j y old) (λ (is : e ≡ y). subst (λ (x : Entry Note). x.by < h.made) is (subst (λ n. n < h.made) (sym by) (f.number t.0))) (at_snoc h.past e y j ej);
          home = inl (
            m,
            refl,
            stands,
            each_set (λ x. x.served ≡ false) s.views id w
                (λ j y ne ej. not_true y.served (λ q. let r = (h.each j y ej).served q in (h.apart id j v y (λ k. ne (sym k)) at ej).tickets sv.0 r.0 (sv.1 ∙ sym r.1))) refl,
          );
        }
      where
        passed : (long longer t ticket : ℕ) → longer ≡ long + 1 → longer ≤ t → ticket ≡ long → ticket ≡ t → ⊥
        passed long longer t ticket e low at is = omega arith

    one_home : (hs : List (Maybe (Option M))) (x : Maybe (Option M)) → length hs ≡ 1 → set hs 0 x ≡ x ∷ []
    one_home [] x e = absurd (omega arith)
    one_home (h ∷ []) x e = refl
    one_home (h ∷ g ∷ hs) x e = absurd (omega arith)

    -- kind 6
    pub passes_turn : (slots id : ℕ) → slots ≡ 1 → (v : View M Note) (start m : M) (e : Entry Note) (new : ℕ) → v.served ≡ true → e.by ≡ v.number → new ≡ (word_of v.first_ticket v.ticket + 1) % lap → v.start ≡ Some start → IsAt machine start m (v.seen ++ e ∷ [])
        → Allows K slots id (v, (0, Some m) ∷ []) 1 (λ _. new) (λ _. PassesTurn machine (step slots 1 new 0 none) (v, (0, Some m) ∷ []) new)
    passes_turn slots id one v start m e new served by is start_is stands s h wide at small =
        let f = h.each id v at in
        let sv = f.served served in
        let live = (f.ticket sv.0).0 in
        let same : start ≡ about.start.value = same_some v.start start about.start.value start_is (f.start live) in
        let past = h.past ++ e ∷ [] in
        let here : v.seen ++ e ∷ [] ≡ past = ap (λ (l : List (Entry Note)). l ++ e ∷ []) sv.2 in
        let stands' : IsAt machine about.start.value m past = subst (λ (p : List (Entry Note)). IsAt machine about.start.value m p) here (subst (λ (o : M). IsAt machine o m (v.seen ++ e ∷ [])) same stands) in
        let long : v.ticket + 1 ≡ length past = omega (arith, length-append h.past (e ∷ []), sv.1) in
        let word : new ≡ word_of about.first_ticket (length past) = is ∙ (word-next v.first_ticket v.ticket ∙ (ap (λ n. word_of n (v.ticket + 1)) (f.first_ticket live) ∙ ap (λ n. word_of about.first_ticket n) long)) in
        let words : slice_set s.words 1 new ≡ word_of about.first_ticket h.next ∷ word_of about.first_ticket (length past) ∷ [] = ap (λ ws. slice_set ws 1 new) h.words ∙ ap (λ n. word_of about.first_ticket h.next ∷ n ∷ []) word in
        let views = set s.views id (without_ticket v past) in
        let kept = with_words s _ (some (Some m) ∷ []) views _ words (passes_kept id v m e s h at served by stands') in
        let home = subst (λ hs. K (record { words = slice_set s.words 1 new; homes = hs; views = views })) (sym (one_home s.homes (some (Some m)) (wide ∙ one))) kept in
        let shown : views ≡ set s.views id (without_ticket v (machine.history m)) = ap (λ (p : List (Entry Note)). set s.views id (without_ticket v p)) (sym stands'.history) in
        (without_ticket v (machine.history m), gives, tt, subst (λ (vs : List (View M Note)). K (record { words = slice_set s.words 1 new; homes = set s.homes 0 (some (Some m)); views = vs })) shown home, (m, refl, refl))
