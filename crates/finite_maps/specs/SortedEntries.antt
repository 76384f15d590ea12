-- A finite map whose entries a vector keeps in the order of their keys: what an edit of the vector is to the map. It is plain mathematics.
use Rattle.std.proofs.Common.{◌≡◌, ℕ, suc, zero, Bool, true, false, cond, List, [], ◌∷◌, ◌++◌, take, drop, length, Some, refl, ap, sym, subst, ◌∙◌}
use Rattle.std.proofs.Math.Facts.{and_yes, yes_and}
use Rattle.std.specs.Prelude.{T, not, ◌&&◌, slice_get, slice_set}
use Rattle.std.specs.declared.cmp.Ordering.{Ordering}
use Rattle.std.specs.declared.cmp.Ordering.TheVariants.{Less, Greater}
use Rattle.std.specs.Ordering.{eq_by_cmp, is_eq, is_lt, ordering_reverse}
use Rattle.std.specs.Cmp.{IsTotalOrder, tied_itself}
use Rattle.std.specs.FinMap.{FinMap, IsAntisymmetric, get, len, insert, remove, entries, from_sorted, find, put, is_sorted, entries_sorted, len-entries, entries-insert, entries-from_sorted, get-from_sorted, same_entries_map}
use Rattle.std.specs.FinMap.Entries.{where_key, below_all, by_order}
use Rattle.finite_maps.specs.Maps.{first_in, first_key}
use Rattle.finite_maps.specs.MapLaws.{not_Some, same_Some, is_less, entries-remove}

-- each key is below this one
abbrev pub all_below : {K X : Type 0} → (K → K → Ordering) → List (K × X) → K → Bool
all_below R [] k = true
all_below R (e ∷ es) k = is_lt (R e.0 k) && all_below R es k

module _ {K : Type 0} {R : K → K → Ordering} (o : IsTotalOrder R) where
  greater : (j k : K) → R j k ≡ Less → R k j ≡ Greater
  greater j k e = o.antisymm k j ∙ ap ordering_reverse e

  not_tied : (j k : K) → R j k ≡ Less → eq_by_cmp R k j ≡ false
  not_tied j k e = ap is_eq (greater j k e)

module _ {K X : Type 0} {R : K → K → Ordering} (o : IsTotalOrder R) where
  -- what stands in a list above a key is greater
  above : (k j : K) (v : X) (es : List (K × X)) (i : ℕ) → T (below_all R k es) → slice_get es i ≡ Some (j, v) → R k j ≡ Less
  above k j v [] i h is = absurd (not_Some is)
  above k j v (e ∷ es) zero h is = ap (λ (f : K × X). R k f.0) (sym (same_Some _ _ is)) ∙ is_less _ (and_yes _ _ h).0
  above k j v (e ∷ es) (suc i) h is = above k j v es i (and_yes _ _ h).1 is

  -- what stands at a place is found
  pub find_at : (k : K) (v : X) (es : List (K × X)) (i : ℕ) → T (is_sorted R es) → slice_get es i ≡ Some (k, v) → find R k es ≡ Some v
  find_at k v [] i h is = absurd (not_Some is)
  find_at k v (e ∷ es) zero h is =
      let here : e ≡ (k, v) = same_Some _ _ is in
      ap (λ (f : K × X). cond (eq_by_cmp R k f.0) (Some f.1) (find R k es)) here ∙ ap (λ r. cond (is_eq r) (Some v) (find R k es)) (tied_itself o k)
  find_at k v (e ∷ es) (suc i) h is =
      ap (λ b. cond b (Some e.1) (find R k es)) (not_tied o e.0 k (above e.0 k v es i (and_yes _ _ h).0 is)) ∙ find_at k v es i (and_yes _ _ h).1 is

  -- a new value at its key's place
  pub put_at : (k : K) (u v : X) (es : List (K × X)) (i : ℕ) → T (is_sorted R es) → slice_get es i ≡ Some (k, u) → put R k v es ≡ slice_set es i (k, v)
  put_at k u v [] i h is = absurd (not_Some is)
  put_at k u v (e ∷ es) zero h is =
      let here : e ≡ (k, u) = same_Some _ _ is in
      ap (λ (f : K × X). by_order (R k f.0) ((k, v) ∷ f ∷ es) ((f.0, v) ∷ es) (f ∷ put R k v es)) here ∙ ap (λ r. by_order r ((k, v) ∷ (k, u) ∷ es) ((k, v) ∷ es) ((k, u) ∷ put R k v es)) (tied_itself o k)
  put_at k u v (e ∷ es) (suc i) h is =
      ap (λ r. by_order r ((k, v) ∷ e ∷ es) ((e.0, v) ∷ es) (e ∷ put R k v es)) (greater o e.0 k (above e.0 k u es i (and_yes _ _ h).0 is)) ∙ ap (λ l. e ∷ l) (put_at k u v es i (and_yes _ _ h).1 is)

  -- a key above all goes last
  pub put_last : (k : K) (v : X) (es : List (K × X)) → T (all_below R es k) → put R k v es ≡ es ++ (k, v) ∷ []
  put_last k v [] h = refl
  put_last k v (e ∷ es) h =
      ap (λ r. by_order r ((k, v) ∷ e ∷ es) ((e.0, v) ∷ es) (e ∷ put R k v es)) (greater o e.0 k (is_less _ (and_yes _ _ h).0)) ∙ ap (λ l. e ∷ l) (put_last k v es (and_yes _ _ h).1)

  stay : (k : K) (es : List (K × X)) → T (below_all R k es) → where_key R (λ x. not (eq_by_cmp R k x)) es ≡ es
  stay k [] h = refl
  stay k (e ∷ es) h =
      ap (λ r. cond (not (is_eq r)) (e ∷ where_key R (λ x. not (eq_by_cmp R k x)) es) (where_key R (λ x. not (eq_by_cmp R k x)) es)) (is_less _ (and_yes _ _ h).0) ∙ ap (λ l. e ∷ l) (stay k es (and_yes _ _ h).1)

  -- without the entry at a place
  pub without_at : (k : K) (v : X) (es : List (K × X)) (i : ℕ) → T (is_sorted R es) → slice_get es i ≡ Some (k, v) → where_key R (λ x. not (eq_by_cmp R k x)) es ≡ take i es ++ drop (suc i) es
  without_at k v [] i h is = absurd (not_Some is)
  without_at k v (e ∷ es) zero h is =
      let here : e ≡ (k, v) = same_Some _ _ is in
      let rest = where_key R (λ x. not (eq_by_cmp R k x)) es in
      ap (λ (f : K × X). cond (not (eq_by_cmp R k f.0)) (e ∷ rest) rest) here ∙ ap (λ r. cond (not (is_eq r)) (e ∷ rest) rest) (tied_itself o k)
      ∙ stay k es (subst (λ (f : K × X). T (below_all R f.0 es)) here (and_yes _ _ h).0)
  without_at k v (e ∷ es) (suc i) h is =
      let rest = where_key R (λ x. not (eq_by_cmp R k x)) es in
      ap (λ b. cond (not b) (e ∷ rest) rest) (not_tied o e.0 k (above e.0 k v es i (and_yes _ _ h).0 is)) ∙ ap (λ l. e ∷ l) (without_at k v es i (and_yes _ _ h).1 is)

module _ {K X : Type 0} {R : K → K → Ordering} (o : IsTotalOrder R) (same : IsAntisymmetric R) where
  -- entries in order are a map's, and the map is of them
  pub is_map : (m : FinMap R X) (es : List (K × X)) → entries m ≡ es → from_sorted es ≡ m
  is_map m es is =
      let h : T (is_sorted R es) = subst (λ l. T (is_sorted R l)) is (entries_sorted m) in
      same_entries_map (from_sorted es) m (entries-from_sorted R es h ∙ sym is)

  pub map_sorted : (m : FinMap R X) (es : List (K × X)) → entries m ≡ es → T (is_sorted R es)
  map_sorted m es is = subst (λ l. T (is_sorted R l)) is (entries_sorted m)

  module _ (es : List (K × X)) (h : T (is_sorted R es)) where
    there : entries (from_sorted {R = R} es) ≡ es
    there = entries-from_sorted R es h

    pub len-sorted : len (from_sorted {R = R} es) ≡ length es
    len-sorted = len-entries (from_sorted es) ∙ ap length there

    pub first_key-sorted : (p : K → X → Bool) → first_key p (from_sorted {R = R} es) ≡ first_in p es
    unfolding first_key
    first_key-sorted p = ap (first_in p) there

    pub get-sorted_at : (i : ℕ) (k : K) (v : X) → slice_get es i ≡ Some (k, v) → get (from_sorted {R = R} es) k ≡ Some v
    get-sorted_at i k v is = get-from_sorted R es k h ∙ find_at o k v es i h is

    -- ---- the entries after each edit

    pub entries-set : (i : ℕ) (k : K) (u v : X) → slice_get es i ≡ Some (k, u) → entries (insert (from_sorted {R = R} es) k v) ≡ slice_set es i (k, v)
    entries-set i k u v is = entries-insert o (from_sorted es) k v ∙ ap (put R k v) there ∙ put_at o k u v es i h is

    pub entries-push : (k : K) (v : X) → T (all_below R es k) → entries (insert (from_sorted {R = R} es) k v) ≡ es ++ (k, v) ∷ []
    entries-push k v below = entries-insert o (from_sorted es) k v ∙ ap (put R k v) there ∙ put_last o k v es below

    pub entries-removed : (i : ℕ) (k : K) (v : X) → slice_get es i ≡ Some (k, v) → entries (remove (from_sorted {R = R} es) k) ≡ take i es ++ drop (suc i) es
    entries-removed i k v is = entries-remove o same (from_sorted es) k ∙ ap (where_key R (λ x. not (eq_by_cmp R k x))) there ∙ without_at o k v es i h is

-- ---- keys below a bound, after each edit

module _ {K X : Type 0} (R : K → K → Ordering) where
  pub all_below-set : (es : List (K × X)) (i : ℕ) (k b : K) (u v : X) → slice_get es i ≡ Some (k, u) → T (all_below R es b) → T (all_below R (slice_set es i (k, v)) b)
  all_below-set [] i k b u v is h = absurd (not_Some is)
  all_below-set (e ∷ es) zero k b u v is h = yes_and _ _ (subst (λ (f : K × X). T (is_lt (R f.0 b))) (same_Some _ _ is) (and_yes _ _ h).0) (and_yes _ _ h).1
  all_below-set (e ∷ es) (suc i) k b u v is h = yes_and _ _ (and_yes _ _ h).0 (all_below-set es i k b u v is (and_yes _ _ h).1)

  pub all_below-removed : (es : List (K × X)) (i : ℕ) (b : K) → T (all_below R es b) → T (all_below R (take i es ++ drop (suc i) es) b)
  all_below-removed [] zero b h = tt
  all_below-removed [] (suc i) b h = tt
  all_below-removed (e ∷ es) zero b h = (and_yes _ _ h).1
  all_below-removed (e ∷ es) (suc i) b h = yes_and _ _ (and_yes _ _ h).0 (all_below-removed es i b (and_yes _ _ h).1)

  pub all_below-push : (o : IsTotalOrder R) (es : List (K × X)) (k b : K) (v : X) → R k b ≡ Less → T (all_below R es k) → T (all_below R (es ++ (k, v) ∷ []) b)
  all_below-push o [] k b v less h = yes_and _ _ (subst (λ r. T (is_lt r)) (sym less) tt) tt
  all_below-push o (e ∷ es) k b v less h = yes_and _ _ (subst (λ r. T (is_lt r)) (sym (o.trans e.0 k b (is_less _ (and_yes _ _ h).0) less)) tt) (all_below-push o es k b v less (and_yes _ _ h).1)
