-- A step changes one view, and the rule is kept.
use Rattle.std.proofs.Common.{◌≡◌, ◌≢◌, ℕ, ◌+◌, ◌<◌, ◌≤◌, ◌⊎◌, Bool, true, false, true≢false, List, [], ◌∷◌, length, set, Option, Some, refl, sym, ap, ◌∙◌, subst, ⊎_elim, inl, inr, arith, length-set, sum_by}
use Rattle.std.specs.Prelude.{if◌then◌else◌}
use mathlib.Core.Option.{Option as Maybe, some, none, some-injective}
use mathlib.Core.Logic.{dite}
use native.Mathlib.Decide.{ℕ_discrete}
use lib.ListN.{get_elem?}
use Rattle.atomic_table.specs.Table.{State}
use Rattle.atomic_table.proofs.Lists.{set_here, set_else}
use Rattle.state_machine.specs.declared.entry.Entry.{Entry}
use Rattle.state_machine.specs.declared.machine.Machine.{Ghosts}
use Rattle.turn_lock.specs.declared.view.About.{About}
use Rattle.turn_lock.specs.declared.view.View.{View}
use Rattle.turn_lock.specs.inside.Views.{word_of, tickets_of, seats_of}
use Rattle.turn_lock.specs.inside.Rule.{Each, One, Apart, HasTicket, StandsFor, IsAt, Fits, Home, Kept}
use Rattle.turn_lock.proofs.Lists.{each_set, two_set, sum_set, sum_few, at_length}

pub off : false ≡ true → ⊥
off e = true≢false (sym e)

pub not_true : (b : Bool) → (b ≡ true → ⊥) → b ≡ false
not_true true n = absurd (n refl)
not_true false n = refl

module _ {A : Type 0} where
  -- where some element has a fact, and the element here keeps it, some element has it after a change here
  pub one_set : (P : A → Type 0) (xs : List A) (id : ℕ) (v w : A) → get_elem? xs id ≡ some v → (P v → P w) → One P xs → One P (set xs id w)
  one_set P xs id v w at keeps one = dite (ℕ_discrete one.0 id)
      (λ here. (id, w, set_here xs id w (at_length xs id v at), keeps (subst P (some-injective one.1 v (sym one.2 ∙ (ap (λ k. get_elem? xs k) here ∙ at))) one.3)))
      (λ away. (one.0, one.1, set_else xs id one.0 w away ∙ one.2, one.3))

  pub one_here : (P : A → Type 0) (xs : List A) (id : ℕ) (v w : A) → get_elem? xs id ≡ some v → P w → One P (set xs id w)
  one_here P xs id v w at p = (id, w, set_here xs id w (at_length xs id v at), p)

module _ {M N : Type 0} where
  pub record IsSameSeat (v w : View M N) : Type 0 where
    pub live : w.live ≡ v.live
    pub number : w.number ≡ v.number
    pub joined : w.joined ≡ v.joined

  stands : (k : ℕ) (v w : View M N) → IsSameSeat v w → StandsFor k v → StandsFor k w
  stands k v w same s = record {
    live = same.live ∙ s.live;
    number = ⊎_elim (λ n. inl (same.number ∙ n)) (λ o. inr (subst (One (λ p. p.number ≡ k)) (sym same.joined) o)) s.number;
  }

  seats_same : (v w : View M N) → IsSameSeat v w → seats_of w ≡ seats_of v
  seats_same v w same = ap (λ (b : Bool). (if b then 1 else 0) + length w.joined) same.live ∙ ap (λ l. (if v.live then 1 else 0) + length l) same.joined

  apart_from : (v w y : View M N) → IsSameSeat v w → (w.waits ≡ true → y.waits ≡ true → w.ticket ≢ y.ticket) → Apart v y → Apart y v → Apart w y × Apart y w
  apart_from v w y same tickets a b = (
    record {
      numbers = λ lw ly e. a.numbers (sym same.live ∙ lw) ly (sym same.number ∙ e);
      tickets = tickets;
      joined = λ lw i p q e. a.joined (sym same.live ∙ lw) i p q (sym same.number ∙ e);
    },
    record {
      numbers = λ ly lw e. b.numbers ly (sym same.live ∙ lw) (e ∙ same.number);
      tickets = λ wy ww e. tickets ww wy (sym e);
      joined = λ ly. subst (Each (λ p. y.number ≢ p.number)) (sym same.joined) (b.joined ly);
    },
  )

  pub ticket_one : (v : View M N) → tickets_of v ≤ 1
  ticket_one v = at_bool v.waits
    where
      at_bool : (b : Bool) → (if b then 1 else 0) ≤ 1
      at_bool true = omega arith
      at_bool false = omega arith

  pub no_ticket : (v : View M N) → v.waits ≡ false → tickets_of v ≡ 0
  no_ticket v e = ap (λ (b : Bool). if b then 1 else 0) e

  pub a_ticket : (v : View M N) → v.waits ≡ true → tickets_of v ≡ 1
  a_ticket v e = ap (λ (b : Bool). if b then 1 else 0) e

module _ {M Event Reply Note : Type 0} (machine : Ghosts M Event Reply Note) (about : About M) where
  abbrev pub K : State (Option M) (View M Note) → Type 0
  K = Kept machine about

  -- what a change of the view v to w owes, where the history becomes `past` and the number of tickets `next`
  pub record Change (s : State (Option M) (View M Note)) (h : K s) (id : ℕ) (v w : View M Note) (past : List (Entry Note)) (next : ℕ) (homes : List (Maybe (Option M))) : Type 0 where
    pub at : get_elem? s.views id ≡ some v
    pub same : IsSameSeat v w
    pub count : tickets_of w + length past + h.next ≡ next + tickets_of v + length h.past
    pub tickets : (t : ℕ) → length past ≤ t → t < next → HasTicket t w ⊎ ((length h.past ≤ t) × (t < h.next) × (HasTicket t v → HasTicket t w))
    pub fits : Fits about past next h.made w
    pub others : (j : ℕ) (y : View M Note) → j ≢ id → get_elem? s.views j ≡ some y → Fits about past next h.made y
    pub apart : (j : ℕ) (y : View M Note) → j ≢ id → get_elem? s.views j ≡ some y → w.waits ≡ true → y.waits ≡ true → w.ticket ≢ y.ticket
    pub entries : Each (λ e. e.by < h.made) past
    pub home : Home machine about homes past (set s.views id w)

  pub changed : (s : State (Option M) (View M Note)) (h : K s) (id : ℕ) (v w : View M Note) (past : List (Entry Note)) (next : ℕ) (homes : List (Maybe (Option M))) → Change s h id v w past next homes
      → K (record { words = word_of about.first_ticket next ∷ word_of about.first_ticket (length past) ∷ []; homes = homes; views = set s.views id w })
  changed s h id v w past next homes c =
      let views = set s.views id w in
      let long : length views ≡ h.made = length-set s.views id w ∙ h.views in
      let sum : sum_by tickets_of views + tickets_of v ≡ sum_by tickets_of s.views + tickets_of w = sum_set tickets_of s.views id v w c.at in
      let count : sum_by tickets_of views + length past ≡ next = omega (arith, sum, h.count, c.count) in
      let waiting : sum_by tickets_of views ≤ length views = sum_few tickets_of ticket_one views in
      record {
        past = past;
        next = next;
        made = h.made;
        words = refl;
        count = count;
        few = omega (arith, count, waiting, long);
        tickets = λ t low high. ⊎_elim
            (λ (here : HasTicket t w). one_here (HasTicket t) s.views id v w c.at here)
            (λ (x : (length h.past ≤ t) × (t < h.next) × (HasTicket t v → HasTicket t w)). one_set (HasTicket t) s.views id v w c.at x.2 (h.tickets t x.0 x.1))
            (c.tickets t low high);
        each = each_set (Fits about past next h.made) s.views id w c.others c.fits;
        apart = two_set Apart s.views id w h.apart (λ j y ne e. apart_from v w y c.same (c.apart j y ne e) (h.apart id j v y (λ k. ne (sym k)) c.at e) (h.apart j id y v ne e c.at));
        home = c.home;
        views = long;
        seats = omega (arith, sum_set seats_of s.views id v w c.at, seats_same v w c.same, h.seats);
        numbers = λ k lt. one_set (StandsFor k) s.views id v w c.at (stands k v w c.same) (h.numbers k lt);
        room = h.room;
        entries = c.entries;
      }

  -- where no seat's turn changes, the machine stays where it is
  pub home_stays : (homes : List (Maybe (Option M))) (past : List (Entry Note)) (views : List (View M Note)) (id : ℕ) (v w : View M Note) → get_elem? views id ≡ some v → v.served ≡ false → w.served ≡ false
      → Home machine about homes past views → Home machine about homes past (set views id w)
  home_stays homes past views id v w at free still h =
      ⊎_elim
      (λ (t : (m : M) × (homes ≡ some (Some m) ∷ []) × IsAt machine about.start.value m past × Each (λ v. v.served ≡ false) views). inl (t.0, t.1, t.2, each_set (λ x. x.served ≡ false) views id w (λ j y ne e. t.3 j y e) still))
      (λ (t : (homes ≡ none ∷ []) × One (λ v. v.served ≡ true) views). inr (t.0, one_set (λ x. x.served ≡ true) views id v w at (λ served. absurd (off (sym free ∙ served))) t.1))
      h
