-- The finite map that the vector's entries stand for.
use Rattle.std.proofs.Common.{◌≡◌, ◌≢◌, ℕ, ◌+◌, ◌<◌, ◌≤◌, Bool, true, false, cond, List, [], ◌∷◌, ◌++◌, length, map, take, drop, get_or, Some, None, Option, refl, ap, sym, subst, ◌∙◌, arith, zero, suc}
use Rattle.std.specs.Prelude.{IsSome, is_some, slice_get, count_by}
use Rattle.std.specs.Option.{option_map}
use Rattle.std.specs.List.{position_or_len}
use Rattle.std.specs.Ordering.{nat_cmp, eq_by_cmp}
use Rattle.std.specs.Cmp.{IsTotalOrder, nat_cmp_total}
use Rattle.std.specs.FinMap.{FinMap, IsAntisymmetric, nat_cmp-IsAntisymmetric, empty, get, insert, remove, len, find, from_entries, get-from_entries, from_entries_push, get-empty, len-empty, len-insert, same_map, get-remove}
use Rattle.std.specs.FinMap as map
use Rattle.std.proofs.lemmas.List.{at_drop_more, at_drop_all}
use Rattle.std.proofs.lemmas.List.Sums.{sum_by-cons}
use Rattle.std.proofs.lemmas.Option.{slice_get_past}
use Rattle.load_table.specs.declared.loads.LoadState.{LoadState}
use Rattle.load_table.specs.declared.loads.Settle.{Settle}
use Rattle.load_table.specs.declared.loads.LoadEntry.{LoadEntry}
use Rattle.finite_maps.specs.Maps.{sum_over, total, map_values}
use Rattle.finite_maps.specs.MapLaws.{not_Some, same_Some, key_itself, key_same, key_other, total-insert_new, get-map_values}
use Rattle.load_table.specs.Loads.{LoadName, load_cmp, Loads, count_where, settled}
use Rattle.load_table.specs.LoadOrder.{load_total, load_same}
use Rattle.load_table.specs.LoadsView.{name_of, entry_of, loads_of, found_as, AreApart, settled_entry}

both_none : {A : Type 0} (b : Bool) → cond {A = Option A} b None None ≡ None
both_none true = refl
both_none false = refl

module _ {C : Type 0} where
  -- what is found among the entries is found in the map
  pub found_is : (es : List (LoadEntry C)) (q : LoadName) → find load_cmp q (map entry_of es) ≡ get (loads_of es) q
  unfolding loads_of
  found_is es q = sym (get-from_entries load_total (map entry_of es) q)

  none_there : (e : LoadEntry C) (es : List (LoadEntry C)) → find load_cmp (e.owner, e.number) (map entry_of es) ≡ None → get (loads_of es) (e.owner, e.number) ≡ None
  none_there e es none = sym (found_is es (e.owner, e.number)) ∙ none

  loads_of_more : (e : LoadEntry C) (es : List (LoadEntry C)) → loads_of (e ∷ es) ≡ insert (loads_of es) (e.owner, e.number) e.state
  unfolding loads_of
  loads_of_more e es = refl

  pub loads_of_none : loads_of {C = C} [] ≡ empty
  unfolding loads_of
  loads_of_none = refl

  sum_of_none : (f : LoadName → LoadState C → ℕ) (es : List (LoadName × LoadState C)) → length es ≡ 0 → sum_over f es ≡ 0
  sum_of_none f [] e = refl
  sum_of_none f (x ∷ es) e = absurd (omega (arith, e))

  total_of_none : (f : LoadName → LoadState C → ℕ) (m : Loads C) → len m ≡ 0 → total f m ≡ 0
  unfolding total
  total_of_none f m e = sum_of_none f (map.entries m) (sym (map.len-entries m) ∙ e)

  total_empty : (p : LoadName → LoadState C → Bool) → count_where p (empty {X = LoadState C} {R = load_cmp}) ≡ 0
  total_empty p = let none : len (empty {X = LoadState C} {R = load_cmp}) ≡ 0 = len-empty load_cmp (LoadState C) in total_of_none (λ k x. cond (p k x) 1 0) empty none

  -- how many entries pass
  pub count_is : (p : LoadName → LoadState C → Bool) (es : List (LoadEntry C)) → AreApart es → count_by (λ (e : LoadEntry C). p (name_of e) e.state) es ≡ count_where p (loads_of es)
  count_is p [] apart = sym (ap (λ (m : Loads C). count_where p m) loads_of_none ∙ total_empty p)
  count_is p (e ∷ es) apart =
      let rest : count_by (λ (e : LoadEntry C). p (name_of e) e.state) es ≡ count_where p (loads_of es) = count_is p es apart.1 in
      let all : count_where p (loads_of (e ∷ es)) ≡ cond (p (name_of e) e.state) 1 0 + count_where p (loads_of es) =
      ap (λ (m : Loads C). count_where p m) (loads_of_more e es) ∙ total-insert_new load_total load_same (λ k x. cond (p k x) 1 0) (loads_of es) (name_of e) e.state (none_there e es apart.0) in
      let first : count_by (λ (e : LoadEntry C). p (name_of e) e.state) (e ∷ es) ≡ cond (p (name_of e) e.state) 1 0 + count_by (λ (e : LoadEntry C). p (name_of e) e.state) es = sum_by-cons (λ (e : LoadEntry C). cond (p (name_of e) e.state) 1 0) e es in
      omega (arith, rest, all, first)

  -- as many as the map has
  pub length_is : (es : List (LoadEntry C)) → AreApart es → len (loads_of es) ≡ length es
  length_is [] apart = ap len loads_of_none ∙ len-empty load_cmp (LoadState C)
  length_is (e ∷ es) apart =
      let rest : len (loads_of es) ≡ length es = length_is es apart.1 in
      ap len (loads_of_more e es) ∙ len-insert load_total (loads_of es) (e.owner, e.number) e.state
      ∙ ap (λ o. cond (Rattle.std.specs.Option.is_some o) (len (loads_of es)) (len (loads_of es) + 1)) (none_there e es apart.0) ∙ (omega (arith, rest))

  -- an entry more
  pub pushed_is : (es : List (LoadEntry C)) (e : LoadEntry C) → get (loads_of es) (e.owner, e.number) ≡ None → loads_of (es ++ e ∷ []) ≡ insert (loads_of es) (e.owner, e.number) e.state
  unfolding loads_of
  pushed_is es e none =
      ap from_entries (Rattle.std.proofs.lemmas.List.map_push entry_of es e)
      ∙ from_entries_push load_total load_same (map entry_of es) (e.owner, e.number) e.state (found_is es (e.owner, e.number) ∙ none)

  find_push : (es : List (LoadEntry C)) (e : LoadEntry C) (q : LoadName) → find load_cmp q (map entry_of es) ≡ None → eq_by_cmp load_cmp q (e.owner, e.number) ≡ false → find load_cmp q (map entry_of (es ++ e ∷ [])) ≡ None
  find_push [] e q none other = ap (λ t. cond t (Some e.state) None) other
  find_push (x ∷ es) e q none other = elim (eq_by_cmp load_cmp q (x.owner, x.number)) as (λ t. cond t (Some x.state) (find load_cmp q (map entry_of es)) ≡ None → cond t (Some x.state) (find load_cmp q (map entry_of (es ++ e ∷ []))) ≡ None) [
    | true ↦ λ h. h
    | false ↦ λ h. find_push es e q h other
  ] none

  apart_other : (x e : LoadEntry C) (es : List (LoadEntry C)) → find load_cmp (e.owner, e.number) (map entry_of (x ∷ es)) ≡ None → (eq_by_cmp load_cmp (x.owner, x.number) (e.owner, e.number) ≡ false) × (find load_cmp (e.owner, e.number) (map entry_of es) ≡ None)
  apart_other x e es none = elim (eq_by_cmp load_cmp (e.owner, e.number) (x.owner, x.number)) as (λ t. eq_by_cmp load_cmp (e.owner, e.number) (x.owner, x.number) ≡ t → cond t (Some x.state) (find load_cmp (e.owner, e.number) (map entry_of es)) ≡ None → (eq_by_cmp load_cmp (x.owner, x.number) (e.owner, e.number) ≡ false) × (find load_cmp (e.owner, e.number) (map entry_of es) ≡ None)) [
    | true ↦ λ t h. absurd (not_Some (sym h))
    | false ↦ λ t h. (key_other load_total load_same (x.owner, x.number) (e.owner, e.number) (λ is. let no : true ≡ false = sym (ap (λ k. eq_by_cmp load_cmp (e.owner, e.number) k) is ∙ key_itself load_total load_same (e.owner, e.number)) ∙ t in cc), h)
  ] refl none

  pub apart_push : (es : List (LoadEntry C)) (e : LoadEntry C) → AreApart es → find load_cmp (e.owner, e.number) (map entry_of es) ≡ None → AreApart (es ++ e ∷ [])
  apart_push [] e apart none = (refl, tt)
  apart_push (x ∷ es) e apart none =
      let other = apart_other x e es none in
      (find_push es e (x.owner, x.number) apart.0 other.0, apart_push es e apart.1 other.1)

  -- ---- a walk over the entries

  begins : (q : LoadName) (es : List (LoadEntry C)) (i : ℕ) (e : LoadEntry C) → i < length es → e ≡ get_or es i e → find load_cmp q (map entry_of (drop i es)) ≡ find load_cmp q (map entry_of (e ∷ drop (i + 1) es))
  begins q es i e within at = at_drop_more (λ l. find load_cmp q (map entry_of l)) es i e within ∙ ap (λ x. find load_cmp q (map entry_of (x ∷ drop (i + 1) es))) (sym at)

  -- the entry is the load's
  pub found_here : (q : LoadName) (es : List (LoadEntry C)) (i : ℕ) (e : LoadEntry C) → i < length es → e ≡ get_or es i e → name_of e ≡ q → find load_cmp q (map entry_of (drop i es)) ≡ Some e.state
  found_here q es i e within at is = begins q es i e within at ∙ ap (λ b. cond b (Some e.state) (find load_cmp q (map entry_of (drop (i + 1) es)))) (ap (λ n. eq_by_cmp load_cmp q n) is ∙ key_itself load_total load_same q)

  -- the entry is another's
  pub found_later : (q : LoadName) (es : List (LoadEntry C)) (i : ℕ) (e : LoadEntry C) → i < length es → e ≡ get_or es i e → q ≢ name_of e → find load_cmp q (map entry_of (drop (i + 1) es)) ≡ find load_cmp q (map entry_of (drop i es))
  found_later q es i e within at other = sym (begins q es i e within at ∙ ap (λ b. cond b (Some e.state) (find load_cmp q (map entry_of (drop (i + 1) es)))) (key_other load_total load_same q (name_of e) other))

  -- no entry is left
  pub found_end : (q : LoadName) (es : List (LoadEntry C)) (i : ℕ) → length es ≤ i → find load_cmp q (map entry_of (drop i es)) ≡ None
  found_end q es i past = at_drop_all (λ l. find load_cmp q (map entry_of l)) es i past

  stands_as : (o : Option (LoadEntry C)) (s : Option (LoadState C)) (q : LoadName) → option_map entry_of o ≡ option_map (λ state. (q, state)) s → is_some s ≡ true
      → (x : LoadEntry C) × (o ≡ Some x) × (name_of x ≡ q) × (s ≡ Some x.state)
  stands_as o None q here live = cc
  stands_as None (Some s) q here live = absurd (not_Some here)
  stands_as (Some x) (Some s) q here live = let is : entry_of x ≡ (q, s) = same_Some _ _ here in (x, refl, ap (λ (e : LoadName × LoadState C). e.0) is, ap (λ (e : LoadName × LoadState C). Some e.1) (sym is))

  is_there : (o : Option (LoadEntry C)) (s : Option (LoadState C)) (q : LoadName) → option_map entry_of o ≡ option_map (λ state. (q, state)) s → is_some o ≡ true → is_some s ≡ true
  is_there None s q here some = cc
  is_there (Some x) None q here some = absurd (not_Some (sym here))
  is_there (Some x) (Some s) q here some = refl

  is_absent : (s : Option (LoadState C)) (q : LoadName) → None ≡ option_map {U = LoadName × LoadState C} (λ state. (q, state)) s → s ≡ None
  is_absent None q here = refl
  is_absent (Some s) q here = absurd (not_Some here)

  slice_get_some : (es : List (LoadEntry C)) (i : ℕ) → i < length es → is_some (slice_get es i) ≡ true
  slice_get_some [] i within = absurd (omega (arith, within))
  slice_get_some (e ∷ es) zero within = refl
  slice_get_some (e ∷ es) (suc i) within = slice_get_some es i (omega (arith, within))

  -- a load that is there has its entry at the place that was found
  pub placed : (ds es : List (LoadEntry C)) (m : Loads C) (q : LoadName) (place : ℕ) → ds ≡ es → loads_of es ≡ m → option_map entry_of (slice_get ds place) ≡ found_as q ds → IsSome (get m q)
      → (x : LoadEntry C) × (slice_get es place ≡ Some x) × (name_of x ≡ q) × (get m q ≡ Some x.state)
  placed ds es m q place same seen at live =
      stands_as (slice_get es place) (get m q) q
      (subst (λ l. option_map entry_of (slice_get l place) ≡ found_as q l) same at ∙ ap (option_map (λ state. (q, state))) (found_is es q ∙ ap (λ n. get n q) seen))
      live

  -- a load whose place is one of the entries is there, and one whose place is past them is not
  pub there : (ds es : List (LoadEntry C)) (m : Loads C) (q : LoadName) (place : ℕ) → ds ≡ es → loads_of es ≡ m → option_map entry_of (slice_get ds place) ≡ found_as q ds → place < length es → IsSome (get m q)
  there ds es m q place same seen at within =
      let here : option_map entry_of (slice_get es place) ≡ option_map (λ state. (q, state)) (get m q) =
      subst (λ l. option_map entry_of (slice_get l place) ≡ found_as q l) same at ∙ ap (option_map (λ state. (q, state))) (found_is es q ∙ ap (λ n. get n q) seen) in
      is_there (slice_get es place) (get m q) q here (slice_get_some es place within)

  pub absent : (ds es : List (LoadEntry C)) (m : Loads C) (q : LoadName) (place : ℕ) → ds ≡ es → loads_of es ≡ m → option_map entry_of (slice_get ds place) ≡ found_as q ds → length es ≤ place → get m q ≡ None
  absent ds es m q place same seen at past =
      let here : option_map entry_of (slice_get es place) ≡ option_map (λ state. (q, state)) (get m q) =
      subst (λ l. option_map entry_of (slice_get l place) ≡ found_as q l) same at ∙ ap (option_map (λ state. (q, state))) (found_is es q ∙ ap (λ n. get n q) seen) in
      is_absent (get m q) q (ap (option_map entry_of) (sym (slice_get_past es place past)) ∙ here)

  -- ---- an entry less

  -- an entry is found by its name
  pub find_at : (es : List (LoadEntry C)) (i : ℕ) (x : LoadEntry C) → AreApart es → slice_get es i ≡ Some x → find load_cmp (name_of x) (map entry_of es) ≡ Some x.state
  find_at [] i x apart is = absurd (not_Some is)
  find_at (e ∷ es) zero x apart is =
      let here : e ≡ x = same_Some e x is in
      ap (λ (y : LoadEntry C). cond (eq_by_cmp load_cmp (name_of x) (name_of y)) (Some y.state) (find load_cmp (name_of x) (map entry_of es))) here
      ∙ ap (λ b. cond b (Some x.state) (find load_cmp (name_of x) (map entry_of es))) (key_itself load_total load_same (name_of x))
  find_at (e ∷ es) (suc i) x apart is =
      let rest : find load_cmp (name_of x) (map entry_of es) ≡ Some x.state = find_at es i x apart.1 is in
      elim (eq_by_cmp load_cmp (name_of x) (name_of e)) as (λ t. eq_by_cmp load_cmp (name_of x) (name_of e) ≡ t → cond t (Some e.state) (find load_cmp (name_of x) (map entry_of es)) ≡ Some x.state) [
        | true ↦ λ t. absurd (not_Some (sym apart.0 ∙ ap (λ q. find load_cmp q (map entry_of es)) (sym (key_same load_total load_same (name_of x) (name_of e) t)) ∙ rest))
        | false ↦ λ t. rest
      ] refl

  -- what is found without the entry at a place
  find_without : (es : List (LoadEntry C)) (i : ℕ) (x : LoadEntry C) (k : LoadName) → AreApart es → slice_get es i ≡ Some x
      → find load_cmp k (map entry_of (take i es ++ drop (suc i) es)) ≡ cond (eq_by_cmp load_cmp k (name_of x)) None (find load_cmp k (map entry_of es))
  find_without [] i x k apart is = absurd (not_Some is)
  find_without (e ∷ es) zero x k apart is =
      let here : e ≡ x = same_Some e x is in
      elim (eq_by_cmp load_cmp k (name_of e)) as (λ t. eq_by_cmp load_cmp k (name_of e) ≡ t → find load_cmp k (map entry_of es) ≡ cond t None (cond t (Some e.state) (find load_cmp k (map entry_of es)))) [
        | true ↦ λ t. ap (λ q. find load_cmp q (map entry_of es)) (key_same load_total load_same k (name_of e) t) ∙ apart.0
        | false ↦ λ t. refl
      ] refl
      ∙ ap (λ (y : LoadEntry C). cond (eq_by_cmp load_cmp k (name_of y)) None (find load_cmp k (map entry_of (e ∷ es)))) here
  find_without (e ∷ es) (suc i) x k apart is =
      let rest = find_without es i x k apart.1 is in
      let there : find load_cmp (name_of x) (map entry_of es) ≡ Some x.state = find_at es i x apart.1 is in
      elim (eq_by_cmp load_cmp k (name_of e)) as (λ t. eq_by_cmp load_cmp k (name_of e) ≡ t → cond t (Some e.state) (find load_cmp k (map entry_of (take i es ++ drop (suc i) es))) ≡ cond (eq_by_cmp load_cmp k (name_of x)) None (cond t (Some e.state) (find load_cmp k (map entry_of es)))) [
        | true ↦ λ t. sym (ap (λ b. cond b None (Some e.state)) (key_other load_total load_same k (name_of x) (λ at. not_Some (sym apart.0 ∙ ap (λ q. find load_cmp q (map entry_of es)) (sym (key_same load_total load_same k (name_of e) t) ∙ at) ∙ there))))
        | false ↦ λ t. rest
      ] refl

  pub apart_without : (es : List (LoadEntry C)) (i : ℕ) (x : LoadEntry C) → AreApart es → slice_get es i ≡ Some x → AreApart (take i es ++ drop (suc i) es)
  apart_without [] i x apart is = absurd (not_Some is)
  apart_without (e ∷ es) zero x apart is = apart.1
  apart_without (e ∷ es) (suc i) x apart is =
      (find_without es i x (name_of e) apart.1 is ∙ ap (λ o. cond (eq_by_cmp load_cmp (name_of e) (name_of x)) None o) apart.0 ∙ both_none (eq_by_cmp load_cmp (name_of e) (name_of x)), apart_without es i x apart.1 is)

  -- the map without the load
  pub without_is : (es : List (LoadEntry C)) (i : ℕ) (x : LoadEntry C) → AreApart es → slice_get es i ≡ Some x → loads_of (take i es ++ drop (suc i) es) ≡ remove (loads_of es) (name_of x)
  without_is es i x apart is = same_map load_total load_same _ _ (λ k.
      sym (found_is (take i es ++ drop (suc i) es) k)
      ∙ find_without es i x k apart is
      ∙ ap (λ o. cond (eq_by_cmp load_cmp k (name_of x)) None o) (found_is es k)
      ∙ sym (get-remove load_total (loads_of es) (name_of x) k))

  -- ---- each entry settled

  find_settled : (job : ℕ) (to : Settle C) (q : LoadName) (es : List (LoadEntry C)) → find load_cmp q (map entry_of (map (settled_entry job to) es)) ≡ option_map (settled job to) (find load_cmp q (map entry_of es))
  find_settled job to q [] = refl
  find_settled job to q (e ∷ es) =
      let rest = find_settled job to q es in
      elim (eq_by_cmp load_cmp q (name_of e)) as (λ t. cond t (Some (settled job to e.state)) (find load_cmp q (map entry_of (map (settled_entry job to) es))) ≡ option_map (settled job to) (cond t (Some e.state) (find load_cmp q (map entry_of es)))) [
        | true ↦ refl
        | false ↦ rest
      ]

  pub apart_settled : (job : ℕ) (to : Settle C) (es : List (LoadEntry C)) → AreApart es → AreApart (map (settled_entry job to) es)
  apart_settled job to [] apart = tt
  apart_settled job to (e ∷ es) apart = (find_settled job to (name_of e) es ∙ ap (option_map (settled job to)) apart.0, apart_settled job to es apart.1)

  -- the map with each load settled
  pub settled_is : (job : ℕ) (to : Settle C) (es : List (LoadEntry C)) → loads_of (map (settled_entry job to) es) ≡ map_values (settled job to) (loads_of es)
  settled_is job to es = same_map load_total load_same _ _ (λ q.
      sym (found_is (map (settled_entry job to) es) q)
      ∙ find_settled job to q es
      ∙ ap (option_map (settled job to)) (found_is es q)
      ∙ sym (get-map_values load_cmp (settled job to) (loads_of es) q))
