-- The rule as the turn starts, as seats are split and joined, and as it ends.
use Rattle.std.proofs.Common.{◌≡◌, ◌≢◌, ℕ, zero, suc, ◌+◌, ◌<◌, ◌≤◌, Bool, true, false, List, [], ◌∷◌, ◌++◌, length, set, Option, Some, refl, sym, ap, ◌∙◌, subst, ⊎_elim, inl, inr, arith, length-set, length-append, sum_by}
use Rattle.std.specs.Prelude.{if◌then◌else◌}
use Rattle.std.proofs.lemmas.List.Sums.{sum_by_push}
use Rattle.std.proofs.Math.Nat.{eq-or-lt_of_le}
use mathlib.Core.Option.{Option as Maybe, some, none, some-injective, some-ne-none}
use mathlib.Core.Logic.{dite}
use native.Mathlib.Decide.{ℕ_discrete}
use lib.ListN.{get_elem?}
use Rattle.atomic_table.specs.Table.{State, Splits, Joins, opening as table_at_first}
use Rattle.atomic_table.proofs.Lists.{at_set, at_longer, at_last, set_else}
use Rattle.state_machine.specs.declared.entry.Entry.{Entry}
use Rattle.state_machine.specs.declared.machine.Machine.{Ghosts}
use Rattle.state_machine.specs.Legal.{IsLegal}
use Rattle.turn_lock.specs.declared.view.About.{About}
use Rattle.turn_lock.specs.declared.view.Joined.{Joined}
use Rattle.turn_lock.specs.declared.view.View.{View}
use Rattle.turn_lock.specs.inside.Views.{word_of, tickets_of, seats_of, summary, IsIdle, first_seat, older, next_seat, with_joined, spent}
use Rattle.turn_lock.specs.inside.Rule.{Each, One, EachTwo, Apart, HasTicket, StandsFor, IsAt, HasSeen, Fits, Home, Kept}
use Rattle.turn_lock.proofs.Histories.{own_none}
use Rattle.turn_lock.proofs.Lists.{each_set, each_snoc, each_cons, each_none, two_set, two_snoc, sum_set, sum_one, sum_two, set_swap}
use Rattle.turn_lock.proofs.Changes.{off, one_set, one_here, no_ticket, home_stays}

module _ {A : Type 0} where
  one_longer : (P : A → Type 0) (xs : List A) (x : A) → One P xs → One P (xs ++ x ∷ [])
  one_longer P xs x one = (one.0, one.1, at_longer xs (x ∷ []) one.0 one.1 one.2, one.3)

  one_last : (P : A → Type 0) (xs : List A) (x : A) → P x → One P (xs ++ x ∷ [])
  one_last P xs x p = (length xs, x, at_last xs x (length xs) refl, p)

module _ {M N : Type 0} where
  seats_live : (v : View M N) → v.live ≡ true → seats_of v ≡ 1 + length v.joined
  seats_live v e = ap (λ (b : Bool). (if b then 1 else 0) + length v.joined) e

  -- what the seat knows, and what those did that were joined to it
  abbrev pub all_of : View M N → List (Joined N)
  all_of v = v.joined ++ summary v ∷ []

module _ {M Event Reply Note : Type 0} (machine : Ghosts M Event Reply Note) (about : About M) where
  abbrev S : Type 0
  S = State (Option M) (View M Note)

  abbrev K : S → Type 0
  K = Kept machine about

  abbrev F : List (Entry Note) → ℕ → ℕ → View M Note → Type 0
  F = Fits about

  abbrev H : List (Maybe (Option M)) → List (Entry Note) → List (View M Note) → Type 0
  H = Home machine about

  home_longer : (homes : List (Maybe (Option M))) (past : List (Entry Note)) (views : List (View M Note)) (w : View M Note) → w.served ≡ false → H homes past views → H homes past (views ++ w ∷ [])
  home_longer homes past views w free h =
      ⊎_elim
      (λ (t : (m : M) × (homes ≡ some (Some m) ∷ []) × IsAt machine about.start.value m past × Each (λ v. v.served ≡ false) views). inl (t.0, t.1, t.2, each_snoc (λ x. x.served ≡ false) views w t.3 free))
      (λ (t : (homes ≡ none ∷ []) × One (λ v. v.served ≡ true) views). inr (t.0, one_longer (λ x. x.served ≡ true) views w t.1))
      h

  -- one seat more is made, which no seat was the newest before
  grown : (past : List (Entry Note)) (next made : ℕ) (y : View M Note) → F past next made y → (y.live ≡ true → y.newest ≡ true → ⊥) → F past next (made + 1) y
  grown past next made y f never = record {
    start = f.start;
    first_ticket = f.first_ticket;
    number = λ live. (let n = f.number live in omega arith);
    newest = λ live m. absurd (never live m);
    seen = f.seen;
    own = f.own;
    known = f.known;
    ticket = f.ticket;
    served = f.served;
    joined = λ i p e. (let t = f.joined i p e in let n = t.number in record { begins = t.begins; own = t.own; known = t.known; number = omega arith });
    apart = f.apart;
  }

  -- kind 7
  pub splits : (id : ℕ) (v : View M Note) → IsIdle v → v.newest ≡ true → v.number + 1 < about.seats → Splits K id v (older v) (next_seat v)
  splits id v idle newest room s h at =
      let f = h.each id v at in
      let last : v.number + 1 ≡ h.made = f.newest idle.live newest in
      let old = set s.views id (older v) in
      let new = next_seat v in
      let mine : F h.past h.next h.made (older v) = record { start = f.start; first_ticket = f.first_ticket; number = f.number; newest = λ _ q. absurd (off q); seen = f.seen; own = f.own; known = f.known; ticket = f.ticket; served = f.served; joined = f.joined; apart = f.apart } in
      let before : Each (F h.past h.next h.made) old = each_set (F h.past h.next h.made) s.views id (older v) (λ j y ne e. h.each j y e) mine in
      let apart : EachTwo Apart old = two_set Apart s.views id (older v) h.apart (λ j y ne e. (let a = h.apart id j v y (λ k. ne (sym k)) at e in record { numbers = a.numbers; tickets = a.tickets; joined = a.joined }, let a = h.apart j id y v ne e at in record { numbers = a.numbers; tickets = a.tickets; joined = a.joined })) in
      let few = h.few in
      record {
        past = h.past;
        next = h.next;
        made = h.made + 1;
        words = h.words;
        count = omega (arith, sum_by_push tickets_of old new, sum_set tickets_of s.views id v (older v) at, h.count);
        few = omega arith;
        tickets = λ t low high. one_longer (HasTicket t) old new (one_set (HasTicket t) s.views id v (older v) at (λ has. record { waits = has.waits; ticket = has.ticket }) (h.tickets t low high));
        each = each_snoc (F h.past h.next (h.made + 1)) old new
            (each_set (F h.past h.next (h.made + 1)) s.views id (older v) (λ j y ne e. grown h.past h.next h.made y (h.each j y e) (λ live m. (h.apart id j v y (λ k. ne (sym k)) at e).numbers idle.live live (let q = (h.each j y e).newest live m in omega arith)))
            (grown h.past h.next h.made (older v) mine (λ _ q. absurd (off q))))
            record {
              start = λ _. f.start idle.live;
              first_ticket = λ _. f.first_ticket idle.live;
              number = λ _. omega arith;
              newest = λ _ _. omega arith;
              seen = (h.past, refl);
              own = λ _. own_none (v.number + 1) h.past (λ i e q k. (let b = h.entries i e q in let k' : e.by ≡ v.number + 1 = k in omega arith));
              known = (omega arith, omega arith);
              ticket = λ q. absurd (off q);
              served = λ q. absurd (off q);
              joined = each_none (HasSeen h.past (h.made + 1));
              apart = λ _. each_none (λ (p : Joined Note). v.number + 1 ≢ p.number);
            };
        apart = two_snoc Apart old new apart (λ j y e. (let g = before j y e in (
          record { numbers = λ _ live k. (let n = g.number live in let k' : v.number + 1 ≡ y.number = k in omega arith); tickets = λ q _. absurd (off q); joined = λ _ i p q k. (let n = (g.joined i p q).number in let k' : v.number + 1 ≡ p.number = k in omega arith) },
          record { numbers = λ live _ k. (let n = g.number live in let k' : y.number ≡ v.number + 1 = k in omega arith); tickets = λ _ q. absurd (off q); joined = λ _. each_none (λ (p : Joined Note). y.number ≢ p.number) },
        )));
        home = home_longer s.homes h.past old new refl (home_stays machine about s.homes h.past s.views id v (older v) at idle.served idle.served h.home);
        views = omega (arith, length-append old (new ∷ []), length-set s.views id (older v), h.views);
        seats = omega (arith, sum_by_push seats_of old new, sum_set seats_of s.views id v (older v) at, h.seats);
        numbers = λ k lt. ⊎_elim
            (λ (e : k ≡ h.made). one_last (StandsFor k) old new record { live = refl; number = inl (last ∙ sym e) })
            (λ (lt : k < h.made). one_longer (StandsFor k) old new (one_set (StandsFor k) s.views id v (older v) at (λ x. record { live = x.live; number = x.number }) (h.numbers k lt)))
            (eq-or-lt_of_le (omega arith));
        room = (omega arith, h.room.1, h.room.2);
        entries = λ i e q. (let b = h.entries i e q in omega arith);
      }

  gone : (past : List (Entry Note)) (next made : ℕ) → F past next made spent
  gone past next made = record {
    start = λ q. absurd (off q);
    first_ticket = λ q. absurd (off q);
    number = λ q. absurd (off q);
    newest = λ q. absurd (off q);
    seen = (past, refl);
    own = λ q. absurd (off q);
    known = (omega arith, omega arith);
    ticket = λ q. absurd (off q);
    served = λ q. absurd (off q);
    joined = each_none (HasSeen past made);
    apart = λ q. absurd (off q);
  }

  from_spent : (y : View M Note) → Apart spent y
  from_spent y = record { numbers = λ q. absurd (off q); tickets = λ q. absurd (off q); joined = λ q. absurd (off q) }

  to_spent : (y : View M Note) → Apart y spent
  to_spent y = record { numbers = λ _ q. absurd (off q); tickets = λ _ q. absurd (off q); joined = λ _. each_none (λ (p : Joined Note). y.number ≢ p.number) }

  -- kind 8
  pub joins : (id : ℕ) (v : View M Note) (other : ℕ) (w : View M Note) → IsIdle v → IsIdle w → w.joined ≡ [] → Joins K id v other w (with_joined v w) spent
  joins id v other w idle free none_joined s h at apart there =
      let f = h.each id v at in
      let both = with_joined v w in
      let at' : get_elem? s.views other ≡ some w = sym (set_else s.views id other both apart) ∙ there in
      let g = h.each other w at' in
      let one_less = set s.views other spent in
      let all = set one_less id both in
      let at_id : get_elem? one_less id ≡ some v = set_else s.views other id spent (λ k. apart (sym k)) ∙ at in
      let away : v.number ≢ w.number = (h.apart id other v w (λ k. apart (sym k)) at at').numbers idle.live free.live in
      let no_more : length w.joined ≡ 0 = ap length none_joined in
      let v-waits = no_ticket v idle.waits in
      let w-waits = no_ticket w free.waits in
      let w-seats = seats_live w free.live in
      let v-seats = seats_live v idle.live in
      let both-seats : seats_of both ≡ 1 + (1 + length v.joined) = ap (λ (b : Bool). (if b then 1 else 0) + length (summary w ∷ v.joined)) idle.live ∙ omega arith in
      let kept : K (record { words = s.words; homes = s.homes; views = all }) = record {
        past = h.past;
        next = h.next;
        made = h.made;
        words = h.words;
        count = omega (arith, sum_set tickets_of one_less id v both at_id, sum_set tickets_of s.views other w spent at', h.count);
        few = h.few;
        tickets = λ t low high. one_set (HasTicket t) one_less id v both at_id (λ has. absurd (off (sym idle.waits ∙ has.waits)))
            (one_set (HasTicket t) s.views other w spent at' (λ has. absurd (off (sym free.waits ∙ has.waits))) (h.tickets t low high));
        each = each_set (F h.past h.next h.made) one_less id both (λ j y ne e. each_set (F h.past h.next h.made) s.views other spent (λ k z _ q. h.each k z q) (gone h.past h.next h.made) j y e) record {
          start = f.start;
          first_ticket = f.first_ticket;
          number = f.number;
          newest = λ _ q. absurd (off q);
          seen = f.seen;
          own = f.own;
          known = f.known;
          ticket = f.ticket;
          served = f.served;
          joined = each_cons (HasSeen h.past h.made) (summary w) v.joined record { begins = g.seen; own = g.own free.live; known = g.known; number = g.number free.live } f.joined;
          apart = λ live. each_cons (λ (p : Joined Note). v.number ≢ p.number) (summary w) v.joined away (f.apart live);
        };
        apart = two_set Apart one_less id both (two_set Apart s.views other spent h.apart (λ j y _ _. (from_spent y, to_spent y))) (λ j y ne e. ⊎_elim
            (λ (t : (j ≡ other) × (spent ≡ y)). subst (λ (z : View M Note). Apart both z × Apart z both) t.1 (to_spent both, from_spent both))
            (λ (t : (j ≢ other) × (get_elem? s.views j ≡ some y)).
            let a = h.apart id j v y (λ k. ne (sym k)) at t.1 in let b = h.apart j id y v ne t.1 at in let o = h.apart j other y w t.0 t.1 at' in (
              record { numbers = a.numbers; tickets = a.tickets; joined = a.joined },
              record { numbers = b.numbers; tickets = b.tickets; joined = λ live. each_cons (λ (p : Joined Note). y.number ≢ p.number) (summary w) v.joined (o.numbers live free.live) (b.joined live) },
            ))
            (at_set s.views other j spent y e));
        home = home_stays machine about s.homes h.past one_less id v both at_id idle.served idle.served
            (home_stays machine about s.homes h.past s.views other w spent at' free.served refl h.home);
        views = length-set one_less id both ∙ (length-set s.views other spent ∙ h.views);
        seats = omega (arith, sum_set seats_of one_less id v both at_id, sum_set seats_of s.views other w spent at', h.seats);
        numbers = λ k lt. stands_on k at_id at' (h.numbers k lt);
        room = h.room;
        entries = h.entries;
      } in
      subst (λ (vs : List (View M Note)). K (record { words = s.words; homes = s.homes; views = vs })) (set_swap s.views other id spent both apart) kept
    where
      stands_both : (k : ℕ) → StandsFor k v → StandsFor k (with_joined v w)
      stands_both k x = record {
        live = x.live;
        number = ⊎_elim (λ n. inl n) (λ (o : One (λ (p : Joined Note). p.number ≡ k) v.joined). inr (suc o.0, o.1, o.2, o.3)) x.number;
      }

      stands_other : (k : ℕ) → StandsFor k w → StandsFor k (with_joined v w)
      stands_other k x = record {
        live = idle.live;
        number = ⊎_elim
            (λ n. inr (zero, summary w, refl, n))
            (λ (o : One (λ (p : Joined Note). p.number ≡ k) w.joined). absurd (some-ne-none o.1 (sym (sym (ap (λ l. get_elem? l o.0) none_joined) ∙ o.2))))
            x.number;
      }

      stands_on : (k : ℕ) → get_elem? (set s.views other spent) id ≡ some v → get_elem? s.views other ≡ some w → One (StandsFor k) s.views → One (StandsFor k) (set (set s.views other spent) id (with_joined v w))
      stands_on k at_id at' one = dite (ℕ_discrete one.0 other)
          (λ e. let same : one.1 ≡ w = some-injective one.1 w (sym one.2 ∙ (ap (λ n. get_elem? s.views n) e ∙ at')) in
          one_here (StandsFor k) (set s.views other spent) id v (with_joined v w) at_id (stands_other k (subst (StandsFor k) same one.3)))
          (λ ne. one_set (StandsFor k) (set s.views other spent) id v (with_joined v w) at_id (stands_both k) (one.0, one.1, set_else s.views other one.0 spent ne ∙ one.2, one.3))

  -- the table as it is made
  pub begins : (m : M) (slots : List (Option M)) → about.start.value ≡ m → slots ≡ Some m ∷ [] → (first : ℕ) → first ≡ word_of about.first_ticket 0 → 0 < about.seats → about.seats ≤ 64 → about.seats ≤ machine.seats (machine.opening m)
      → machine.history m ≡ [] → machine.world m ≡ machine.opening m → IsLegal machine (machine.opening m) [] (machine.opening m)
      → K (table_at_first (first ∷ first ∷ []) slots (first_seat about))
  begins m slots start e first word some_seat few served none_yet fresh legal =
      subst (λ n. K (table_at_first (n ∷ n ∷ []) slots (first_seat about))) (sym word)
      (subst (λ (l : List (Option M)). K (table_at_first (word_of about.first_ticket 0 ∷ word_of about.first_ticket 0 ∷ []) l (first_seat about))) (sym e) record {
        past = [];
        next = 0;
        made = 1;
        words = refl;
        count = refl;
        few = omega arith;
        tickets = λ t low high. absurd (omega arith);
        each = each_cons (F [] 0 1) (first_seat about) [] record {
          start = λ _. refl;
          first_ticket = λ _. refl;
          number = λ _. omega arith;
          newest = λ _ _. refl;
          seen = ([], refl);
          own = λ _. refl;
          known = (omega arith, omega arith);
          ticket = λ q. absurd (off q);
          served = λ q. absurd (off q);
          joined = each_none (HasSeen [] 1);
          apart = λ _. each_none (λ (p : Joined Note). 0 ≢ p.number);
        } (each_none (F [] 0 1));
        apart = λ i j x y ne p q. absurd (alone i j x y ne p q);
        home = inl (m, refl, at, each_cons (λ (v : View M Note). v.served ≡ false) (first_seat about) [] refl (each_none (λ (v : View M Note). v.served ≡ false)));
        views = refl;
        seats = refl;
        numbers = λ k lt. (0, first_seat about, refl, record { live = refl; number = inl (zero_of k lt) });
        room = (omega arith, few, subst (λ o. about.seats ≤ machine.seats (machine.opening o)) (sym start) served);
        entries = each_none (λ (e : Entry Note). e.by < 1);
      })
    where
      zero_of : (k : ℕ) → k < 1 → 0 ≡ k
      zero_of k lt = omega arith

      at : IsAt machine about.start.value m []
      at = record {
        history = none_yet;
        opening = ap machine.opening (sym start);
        legal = subst (λ o. IsLegal machine (machine.opening o) [] (machine.world m)) (sym start) (subst (λ w. IsLegal machine (machine.opening m) [] w) (sym fresh) legal);
      }

      alone : (i j : ℕ) (x y : View M Note) → i ≢ j → get_elem? (first_seat about ∷ []) i ≡ some x → get_elem? (first_seat about ∷ []) j ≡ some y → ⊥
      alone zero zero x y ne e g = ne refl
      alone zero (suc j) x y ne e g = some-ne-none y (sym g)
      alone (suc i) j x y ne e g = some-ne-none x (sym e)

  -- what is known once all seats are joined to one
  pub record Ends (v : View M Note) (homes : List (Maybe (Option M))) : Type 0 where
    pub holds : M
    pub past : List (Entry Note)
    pub home : homes ≡ some (Some holds) ∷ []
    pub at : IsAt machine about.start.value holds past
    pub seen : Each (HasSeen past about.seats) (all_of v)
    pub entries : Each (λ e. One (λ p. p.number ≡ e.by) (all_of v)) past

  pub ends : (id : ℕ) (v : View M Note) (s : S) → K s → get_elem? s.views id ≡ some v → IsIdle v → length (all_of v) ≡ about.seats → Ends v s.homes
  ends id v s h at idle all =
      let f = h.each id v at in
      let v-seats = seats_live v idle.live in
      let long : length (all_of v) ≡ length v.joined + 1 = length-append v.joined (summary v ∷ []) in
      let whole : h.made ≡ about.seats = made_all h.made about.seats (seats_of v) (sum_by seats_of s.views) (omega (arith, long, all, v-seats)) (sum_one seats_of s.views id v at) h.seats h.room.0 in
      ⊎_elim
      (λ (t : (m : M) × (s.homes ≡ some (Some m) ∷ []) × IsAt machine about.start.value m h.past × Each (λ v. v.served ≡ false) s.views). record {
        holds = t.0;
        past = h.past;
        home = t.1;
        at = t.2;
        seen = subst (λ n. Each (HasSeen h.past n) (all_of v)) whole (each_snoc (HasSeen h.past h.made) v.joined (summary v) f.joined record { begins = f.seen; own = f.own idle.live; known = f.known; number = f.number idle.live });
        entries = λ i e q. among e.by (h.numbers e.by (h.entries i e q)) whole;
      })
      (λ (t : (s.homes ≡ none ∷ []) × One (λ v. v.served ≡ true) s.views). absurd (none_served t.1 whole))
      h.home
    where
      made_all : (made plan here sum : ℕ) → here ≡ plan → here ≤ sum → sum ≡ made → made ≤ plan → made ≡ plan
      made_all made plan here sum e le is few = omega arith

      -- another live seat would be one too many
      only : (i : ℕ) (u : View M Note) → get_elem? s.views i ≡ some u → u.live ≡ true → h.made ≡ about.seats → v ≡ u
      only i u there live whole = dite (ℕ_discrete i id)
          (λ e. some-injective v u (sym at ∙ (ap (λ k. get_elem? s.views k) (sym e) ∙ there)))
          (λ ne. absurd (too_many h.made about.seats (seats_of v) (length v.joined) (seats_of u) (length u.joined) (sum_by seats_of s.views)
          (sum_two seats_of s.views i id u v ne there at) h.seats whole (seats_live v idle.live) (seats_live u live) (sym all ∙ length-append v.joined (summary v ∷ []))))
        where
          too_many : (made plan sv jv su ju sum : ℕ) → su + sv ≤ sum → sum ≡ made → made ≡ plan → sv ≡ 1 + jv → su ≡ 1 + ju → plan ≡ jv + 1 → ⊥
          too_many made plan sv jv su ju sum le is whole a b c = omega arith

      among : (k : ℕ) → One (StandsFor k) s.views → h.made ≡ about.seats → One (λ p. p.number ≡ k) (all_of v)
      among k one whole =
          let x : StandsFor k v = subst (StandsFor k) (sym (only one.0 one.1 one.2 one.3.live whole)) one.3 in
          ⊎_elim (λ n. one_last (λ p. p.number ≡ k) v.joined (summary v) n) (λ o. one_longer (λ p. p.number ≡ k) v.joined (summary v) o) x.number

      none_served : One (λ v. v.served ≡ true) s.views → h.made ≡ about.seats → ⊥
      none_served one whole =
          let g = h.each one.0 one.1 one.2 in let r = g.served one.3 in
          off (sym idle.served ∙ (ap (λ (x : View M Note). x.served) (only one.0 one.1 one.2 (g.ticket r.0).0 whole) ∙ one.3))
