-- Lists of seats, and what is known of all seats at the end.
use Rattle.std.proofs.Common.{◌≡◌, ℕ, zero, suc, ◌+◌, ◌≤◌, List, [], ◌∷◌, ◌++◌, length, map, get_or, Option, Some, refl, sym, ap, ◌∙◌, subst, arith, All}
use Rattle.std.specs.Prelude.{Contains}
use Rattle.std.specs.List.{range_with_len}
use Rattle.std.proofs.lemmas.List.{map-append, length-map}
use Rattle.std.proofs.lemmas.List.Elements.{All-push}
use Rattle.std.proofs.lemmas.List.FromFn.{map-range_with_len_more}
use mathlib.Core.Option.{some, some-injective, some-ne-none}
use mathlib.Core.List.{IsPrefix}
use lib.ListN.{get_elem?}
use Rattle.atomic_table.specs.Table.{Final, Seen}
use Rattle.state_machine.specs.declared.machine.Machine.{Ghosts}
use Rattle.state_machine.specs.Histories.{own}
use Rattle.state_machine.specs.Legal.{IsLegal}
use Rattle.turn_lock.specs.declared.view.About.{About}
use Rattle.turn_lock.specs.declared.view.Joined.{Joined}
use Rattle.turn_lock.specs.declared.view.View.{View}
use Rattle.turn_lock.specs.Turns.{SeatState, own_entries}
use Rattle.turn_lock.specs.inside.Views.{shown, IsIdle}
use Rattle.turn_lock.specs.inside.Rule.{Each, One, HasSeen, Kept}
use Rattle.turn_lock.proofs.Lists.{all_each, same_some}
use Rattle.turn_lock.proofs.SeatsKeep.{Ends, ends, all_of}

module _ {A : Type 0} where
  pub all_pushed : (P : A → Type 0) (xs ys : List A) (a : A) → ys ≡ xs ++ a ∷ [] → All P xs → P a → All P ys
  all_pushed P xs ys a e h p = subst (λ (l : List A). All P l) (sym e) (All-push P xs a h p)

  pub all_popped : (P : A → Type 0) (xs ys : List A) (a : A) → ys ≡ xs ++ a ∷ [] → All P ys → All P xs × P a
  all_popped P xs ys a e h = split xs (subst (λ (l : List A). All P l) e h)
    where
      split : (zs : List A) → All P (zs ++ a ∷ []) → All P zs × P a
      split [] h = (λ k d lt. absurd (omega arith), h zero a (omega arith))
      split (z ∷ zs) h = let r = split zs (λ k d lt. h (suc k) d (omega arith)) in (all_cons z zs (h zero z (omega arith)) r.0, r.1)
        where
          all_cons : (b : A) (bs : List A) → P b → All P bs → All P (b ∷ bs)
          all_cons b bs p ps zero d lt = p
          all_cons b bs p ps (suc k) d lt = ps k d (omega arith)

  pub map_pushed : (f : A → ℕ) (xs ys : List A) (a : A) (n : ℕ) → ys ≡ xs ++ a ∷ [] → map f xs ≡ range_with_len 0 n → f a ≡ n → map f ys ≡ range_with_len 0 (n + 1)
  map_pushed f xs ys a n e h p = ap (λ l. map f l) e ∙ (map-append f xs (a ∷ []) ∙ (ap (λ l. l ++ f a ∷ []) h ∙ (ap (λ k. range_with_len 0 n ++ k ∷ []) p ∙ sym (range_more n))))
    where
      plain : (xs : List ℕ) → map (λ x. x) xs ≡ xs
      plain [] = refl
      plain (x ∷ xs) = ap (λ l. x ∷ l) (plain xs)

      range_more : (n : ℕ) → range_with_len 0 (n + 1) ≡ range_with_len 0 n ++ n ∷ []
      range_more n = sym (plain (range_with_len 0 (n + 1))) ∙ (map-range_with_len_more (λ x. x) 0 n n (omega arith) ∙ ap (λ l. l ++ n ∷ []) (plain (range_with_len 0 n)))

  pub each_map : {B : Type 0} (P : B → Type 0) (f : A → B) (xs : List A) → Each P (map f xs) → All (λ x. P (f x)) xs
  each_map P f [] h k d lt = absurd (omega arith)
  each_map P f (x ∷ xs) h zero d lt = h zero (f x) refl
  each_map P f (x ∷ xs) h (suc k) d lt = each_map P f xs (λ i y e. h (suc i) y e) k d (omega arith)

module _ {M Note : Type 0} where
  -- one of these seats has the number
  contains_number : (xs : List (SeatState M Note)) (number i : ℕ) (p : Joined Note) → get_elem? (map (λ s. shown s) xs) i ≡ some p → p.number ≡ number → Contains (map (λ s. s.number) xs) number
  contains_number [] number i p at is = absurd (some-ne-none p (sym at))
  contains_number (x ∷ xs) number zero p at is = (0, omega arith, ap (λ (q : Joined Note). q.number) (some-injective (shown x) p at) ∙ is)
  contains_number (x ∷ xs) number (suc i) p at is = let rest = contains_number xs number i p at is in (suc rest.0, (let lt = rest.1 in omega arith), rest.2)

module _ {M Event Reply Note : Type 0} (machine : Ghosts M Event Reply Note) where
  -- what is known of the machine that comes back, and of the seats
  pub record Returned (start m : M) (seats : List (SeatState M Note)) : Type 0 where
    pub opening : machine.opening m ≡ machine.opening start
    pub legal : IsLegal machine (machine.opening start) (machine.history m) (machine.world m)
    pub seen : All (λ s. IsPrefix s.seen (machine.history m)) seats
    pub known : All (λ s. s.known ≤ length (machine.history m)) seats
    pub own : All (λ s. own s.number (machine.history m) ≡ own_entries s) seats
    pub entries : All (λ e. Contains (map (λ s. s.number) seats) e.by) (machine.history m)

  module _ (about : About M) (id : ℕ) (v : View M Note) (words : List ℕ) (slots : List (Option M)) (taken : Option M) (seats : List (SeatState M Note)) (idle : IsIdle v) (all : length seats ≡ about.seats) (each : map (λ s. shown s) seats ≡ all_of v) (final : Final (Seen (Kept machine about) id v) words slots) (there : get_elem? slots 0 ≡ some taken) where
    whole : length (all_of v) ≡ about.seats
    whole = ap length (sym each) ∙ (length-map seats (λ s. shown s) ∙ all)

    pub e : Ends machine about v final.0.homes
    e = ends machine about id v final.0 final.1.0 final.1.1 idle whole

    pub taken_is : taken ≡ Some e.holds
    taken_is = some-injective taken (Some e.holds) (sym there ∙ final.4 0 (Some e.holds) (ap (λ hs. get_elem? hs 0) e.home))

    pub returned : (m : M) → taken ≡ Some m → Returned about.start.value m seats
    returned m is =
        let same : e.holds ≡ m = same_some taken e.holds m taken_is is in
        subst (λ (x : M). Returned about.start.value x seats) same
        (kept e.at.history)
      where
        kept : machine.history e.holds ≡ e.past → Returned about.start.value e.holds seats
        kept is =
            let seen : All (λ s. HasSeen e.past about.seats (shown s)) seats = each_map (HasSeen e.past about.seats) (λ s. shown s) seats (subst (Each (HasSeen e.past about.seats)) (sym each) e.seen) in
            record {
              opening = e.at.opening;
              legal = subst (λ h. IsLegal machine (machine.opening about.start.value) h (machine.world e.holds)) (sym is) e.at.legal;
              seen = λ k d lt. subst (λ h. IsPrefix (get_or seats k d).seen h) (sym is) (seen k d lt).begins;
              known = λ k d lt. subst (λ h. (get_or seats k d).known ≤ length h) (sym is) (seen k d lt).known.1;
              own = λ k d lt. ap (λ h. own (get_or seats k d).number h) is ∙ (seen k d lt).own;
              entries = subst (λ h. All (λ x. Contains (map (λ s. s.number) seats) x.by) h) (sym is)
                  (all_each (λ x. Contains (map (λ s. s.number) seats) x.by) e.past (λ i x q. (let one = subst (One (λ p. p.number ≡ x.by)) (sym each) (e.entries i x q) in contains_number seats x.by one.0 one.1 one.2 one.3)));
            }

pub all_seats : (shown inside planned : ℕ) → inside ≡ shown → planned ≡ inside → shown ≡ planned
all_seats shown inside planned e f = sym e ∙ sym f
