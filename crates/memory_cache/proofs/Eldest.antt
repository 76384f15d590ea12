-- The eldest goes first, and what stays is what fits.
use Rattle.std.proofs.Common.{◌≡◌, ◌≢◌, ℕ, ◌-◌, ◌≤◌, List, [], ◌∷◌, ◌++◌, length, take, drop, Some, None, ap, sym, subst, ◌∙◌, arith}
use Rattle.std.specs.Prelude.{T, not, reverse, slice_get, sum_by, unwrap_or, is_some}
use Rattle.std.proofs.lemmas.List.{length-take, take_all, take-take, drop_all, drop-append-le, reverse-append}
use Rattle.fitting.specs.Fitting.{fitting}
use Rattle.fitting.specs.Prefixes.{IsOver, within_fits, last_goes, same_fitting}
use Rattle.memory_cache.specs.Cache.{cache_kept, cache_gone}

not_Some : {A : Type 0} {x : A} → None ≢ Some x
not_Some {x = x} e = subst (λ o. T (not (is_some o))) e tt

same_Some : {A : Type 0} (x y : A) → Some x ≡ Some y → x ≡ y
same_Some x y e = ap (λ o. unwrap_or o x) e

module _ {A : Type 0} where
  last_apart : (y : A) (ys : List A) (x : A) → slice_get (y ∷ ys) (length ys) ≡ Some x → y ∷ ys ≡ take (length ys) (y ∷ ys) ++ x ∷ []
  last_apart y [] x e = ap (λ z. z ∷ []) (same_Some _ _ e)
  last_apart y (z ∷ ys) x e = ap (λ l. y ∷ l) (last_apart z ys x e)

  split_last : (xs : List A) (x : A) → slice_get xs (length xs - 1) ≡ Some x → xs ≡ take (length xs - 1) xs ++ x ∷ []
  split_last [] x e = absurd (not_Some e)
  split_last (y ∷ ys) x e =
      let one_less : length (y ∷ ys) - 1 ≡ length ys = omega arith in
      last_apart y ys x (ap (slice_get (y ∷ ys)) (sym one_less) ∙ e) ∙ ap (λ n. take n (y ∷ ys) ++ x ∷ []) (sym one_less)

  pub eldest_goes : (size : A → ℕ) (room : ℕ) (xs : List A) (x : A) → IsOver size room 1024 xs → slice_get xs (length xs - 1) ≡ Some x
      → (cache_kept size room (take (length xs - 1) xs) ≡ cache_kept size room xs) × (cache_gone size room xs ≡ x ∷ cache_gone size room (take (length xs - 1) xs))
  eldest_goes size room xs x over last =
      let front : List A = take (length xs - 1) xs in
      let n : ℕ = fitting size room 1024 xs in
      let most : n ≤ length xs - 1 = last_goes size room 1024 xs over in
      let same : fitting size room 1024 front ≡ n = same_fitting size room 1024 xs over in
      let long : length front ≡ length xs - 1 = length-take (length xs - 1) xs ∙ (omega arith) in
      let split : xs ≡ front ++ x ∷ [] = split_last xs x last in
      let rest : drop n xs ≡ drop n front ++ x ∷ [] = ap (drop n) split ∙ drop-append-le n front (x ∷ []) (omega (arith, most, long)) in (
        ap (λ k. take k front) same ∙ take-take n (length xs - 1) xs most,
        ap reverse rest ∙ reverse-append (drop n front) (x ∷ []) ∙ ap (λ k. x ∷ reverse (drop k front)) (sym same),
      )

  pub none_goes : (size : A → ℕ) (room : ℕ) (xs : List A) → sum_by size xs ≤ room → length xs ≤ 1024
      → (cache_kept size room xs ≡ xs) × (cache_gone size room xs ≡ [])
  none_goes size room xs fits few =
      let all : fitting size room 1024 xs ≡ length xs = within_fits size room 1024 xs fits few in
      (ap (λ n. take n xs) all ∙ take_all (length xs) xs (omega arith), ap (λ n. reverse (drop n xs)) all ∙ ap reverse (drop_all (length xs) xs (omega arith)))
