-- A pool does the same whatever its bitmaps are seen as.
use Rattle.std.proofs.Common.{◌≡◌, ℕ, ◌+◌, ◌-◌, ◌*◌, Bool, true, false, cond, eqb, ltb, leb, List, [], ◌∷◌, ◌++◌, length, take, map, Some, refl, ap, sym, ◌∙◌}
use Rattle.std.specs.Prelude.{◌&&◌, ◌||◌, not, filter, slice_get, unwrap_or}
use Rattle.std.specs.List.{list_any}
use Rattle.std.specs.Option.{option_map}
use Rattle.std.proofs.lemmas.List.{map-append, length-map, take-map}
use Rattle.std.proofs.lemmas.Option.{slice_get-map}
use Rattle.bitmap_kind.specs.declared.bitmaps.Config.{Config}
use Rattle.cache_key.specs.Key.{same_config}
use Rattle.fitting.specs.Fitting.{fitting}
use Rattle.bitmap_pool.specs.Pool.{Group, pooled, is_group, has_group, is_empty, pool_within, pool_trim, without_last, with_room, with_room_for, add_last, pool_put, least_with, least_size, serving_size, items_of, others_of, pick_among, pick_at, pool_pick}
use Rattle.bitmap_pool.specs.Numbered.{each_as, picked_as}

module _ {A B : Type 0} (f : A → B) where
  abbrev one_as : Group A → Group B
  one_as g = record { size = g.size; config = g.config; items = map f g.items }

  fitting_as : (s room slots : ℕ) (xs : List A) → fitting (λ _. s) room slots (map f xs) ≡ fitting (λ _. s) room slots xs
  fitting_as s room slots [] = refl
  fitting_as s room slots (x ∷ xs) = ap (λ n. cond (ltb 0 slots && leb s room) (1 + n) 0) (fitting_as s (room - s) (slots - 1) xs)

  pub within_as : (room slots : ℕ) (gs : List (Group A)) → pool_within room slots (each_as f gs) ≡ each_as f (pool_within room slots gs)
  within_as room slots [] = refl
  within_as room slots (g ∷ gs) =
      let n : ℕ = fitting (λ _. g.size) room slots g.items in
      let same : fitting (λ _. g.size) room slots (map f g.items) ≡ n = fitting_as g.size room slots g.items in
      let long : length (map f g.items) ≡ length g.items = length-map g.items f in
      let rest : pool_within (room - g.size * length (map f g.items)) (slots - length (map f g.items)) (each_as f gs) ≡ each_as f (pool_within (room - g.size * length g.items) (slots - length g.items) gs) =
      ap (λ k. pool_within (room - g.size * k) (slots - k) (each_as f gs)) long ∙ within_as (room - g.size * length g.items) (slots - length g.items) gs in
      let cut : take (fitting (λ _. g.size) room slots (map f g.items)) (map f g.items) ≡ map f (take n g.items) = ap (λ k. take k (map f g.items)) same ∙ take-map f n g.items in
      let tests : eqb (fitting (λ _. g.size) room slots (map f g.items)) (length (map f g.items)) ≡ eqb n (length g.items) = ap (λ k. eqb k (length (map f g.items))) same ∙ ap (eqb n) long in
      ap (λ t. cond t (one_as g ∷ pool_within (room - g.size * length (map f g.items)) (slots - length (map f g.items)) (each_as f gs)) (record { size = g.size; config = g.config; items = take (fitting (λ _. g.size) room slots (map f g.items)) (map f g.items) } ∷ [])) tests
      ∙ ap (λ l. cond (eqb n (length g.items)) (one_as g ∷ l) (record { size = g.size; config = g.config; items = take (fitting (λ _. g.size) room slots (map f g.items)) (map f g.items) } ∷ [])) rest
      ∙ ap (λ l. cond (eqb n (length g.items)) (one_as g ∷ each_as f (pool_within (room - g.size * length g.items) (slots - length g.items) gs)) (record { size = g.size; config = g.config; items = l } ∷ [])) cut
      ∙ elim (eqb n (length g.items)) as (λ t. cond t (one_as g ∷ each_as f (pool_within (room - g.size * length g.items) (slots - length g.items) gs)) (record { size = g.size; config = g.config; items = map f (take n g.items) } ∷ [])
      ≡ each_as f (cond t (g ∷ pool_within (room - g.size * length g.items) (slots - length g.items) gs) (record g { items = take n g.items } ∷ []))) [ true ↦ refl | false ↦ refl ]

  has_as : (s : ℕ) (c : Config) (gs : List (Group A)) → has_group s c (each_as f gs) ≡ has_group s c gs
  has_as s c [] = refl
  has_as s c (g ∷ gs) = ap (λ t. is_group s c g || t) (has_as s c gs)

  empty_as : (g : Group A) → is_empty (one_as g) ≡ is_empty g
  empty_as g = ap (λ n. eqb n 0) (length-map g.items f)

  any_as : (p : Group B → Bool) (q : Group A → Bool) → ((g : Group A) → p (one_as g) ≡ q g) → (gs : List (Group A)) → list_any p (each_as f gs) ≡ list_any q gs
  any_as p q same [] = refl
  any_as p q same (g ∷ gs) = ap (λ t. t || list_any p (each_as f gs)) (same g) ∙ ap (λ t. q g || t) (any_as p q same gs)

  cond_as : (t : Bool) (x y : List (Group A)) → cond t (each_as f x) (each_as f y) ≡ each_as f (cond t x y)
  cond_as true x y = refl
  cond_as false x y = refl

  without_empty_as : (gs : List (Group A)) → without_last is_empty (each_as f gs) ≡ each_as f (without_last is_empty gs)
  without_empty_as [] = refl
  without_empty_as (g ∷ gs) =
      ap (λ t. cond t (one_as g ∷ without_last is_empty (each_as f gs)) (cond (is_empty (one_as g)) (each_as f gs) (one_as g ∷ each_as f gs))) (any_as is_empty is_empty empty_as gs)
      ∙ ap (λ l. cond (list_any is_empty gs) (one_as g ∷ l) (cond (is_empty (one_as g)) (each_as f gs) (one_as g ∷ each_as f gs))) (without_empty_as gs)
      ∙ ap (λ t. cond (list_any is_empty gs) (one_as g ∷ each_as f (without_last is_empty gs)) (cond t (each_as f gs) (one_as g ∷ each_as f gs))) (empty_as g)
      ∙ ap (λ l. cond (list_any is_empty gs) (one_as g ∷ each_as f (without_last is_empty gs)) l) (cond_as (is_empty g) gs (g ∷ gs))
      ∙ cond_as (list_any is_empty gs) (g ∷ without_last is_empty gs) (cond (is_empty g) gs (g ∷ gs))

  room_as : (s : ℕ) (c : Config) (gs : List (Group A)) → with_room_for s c (each_as f gs) ≡ each_as f (with_room_for s c gs)
  room_as s c gs =
      ap (λ t. cond t (each_as f gs) (cond (ltb (length (each_as f gs)) 2048) (each_as f gs) (without_last is_empty (each_as f gs)))) (has_as s c gs)
      ∙ ap (λ n. cond (has_group s c gs) (each_as f gs) (cond (ltb n 2048) (each_as f gs) (without_last is_empty (each_as f gs)))) (length-map gs one_as)
      ∙ ap (λ l. cond (has_group s c gs) (each_as f gs) (cond (ltb (length gs) 2048) (each_as f gs) l)) (without_empty_as gs)
      ∙ ap (λ l. cond (has_group s c gs) (each_as f gs) l) (cond_as (ltb (length gs) 2048) gs (without_last is_empty gs))
      ∙ cond_as (has_group s c gs) gs (with_room gs)

  add_as : (s : ℕ) (c : Config) (x : A) (gs : List (Group A)) → add_last s c (f x) (each_as f gs) ≡ each_as f (add_last s c x gs)
  add_as s c x [] = refl
  add_as s c x (g ∷ gs) =
      ap (λ l. cond (is_group s c g) (record { size = g.size; config = g.config; items = map f g.items ++ f x ∷ [] } ∷ each_as f gs) (one_as g ∷ l)) (add_as s c x gs)
      ∙ ap (λ l. cond (is_group s c g) (record { size = g.size; config = g.config; items = l } ∷ each_as f gs) (one_as g ∷ each_as f (add_last s c x gs))) (sym (map-append f g.items (x ∷ [])))
      ∙ cond_as (is_group s c g) (record g { items = g.items ++ x ∷ [] } ∷ gs) (g ∷ add_last s c x gs)

  pub trim_as : (room : ℕ) (gs : List (Group A)) → each_as f (pool_trim room gs) ≡ pool_trim room (each_as f gs)
  trim_as room gs = sym (within_as room 1024 gs)

  pub put_as : (maximum s : ℕ) (c : Config) (x : A) (gs : List (Group A)) → each_as f (pool_put maximum s c x gs) ≡ pool_put maximum s c (f x) (each_as f gs)
  put_as maximum s c x gs = sym (
      ap (λ l. cond (ltb maximum s) (each_as f gs) (pool_trim maximum (add_last s c (f x) l))) (room_as s c gs)
      ∙ ap (λ l. cond (ltb maximum s) (each_as f gs) (pool_trim maximum l)) (add_as s c x (with_room_for s c gs))
      ∙ ap (λ l. cond (ltb maximum s) (each_as f gs) l) (within_as maximum 1024 (add_last s c x (with_room_for s c gs)))
      ∙ cond_as (ltb maximum s) gs (pool_trim maximum (add_last s c x (with_room_for s c gs))))

  filter_as : (p : Group B → Bool) (q : Group A → Bool) → ((g : Group A) → p (one_as g) ≡ q g) → (gs : List (Group A)) → filter p (each_as f gs) ≡ each_as f (filter q gs)
  filter_as p q same [] = refl
  filter_as p q same (g ∷ gs) =
      ap (λ t. cond t (one_as g ∷ filter p (each_as f gs)) (filter p (each_as f gs))) (same g)
      ∙ ap (λ l. cond (q g) (one_as g ∷ l) l) (filter_as p q same gs)
      ∙ cond_as (q g) (g ∷ filter q gs) (filter q gs)

  pooled_as : (gs : List (Group A)) → pooled (each_as f gs) ≡ map f (pooled gs)
  pooled_as [] = refl
  pooled_as (g ∷ gs) = ap (λ l. map f g.items ++ l) (pooled_as gs) ∙ sym (map-append f g.items (pooled gs))

  items_as : (s : ℕ) (c : Config) (gs : List (Group A)) → items_of s c (each_as f gs) ≡ map f (items_of s c gs)
  items_as s c gs = ap pooled (filter_as (is_group s c) (is_group s c) (λ g. refl) gs) ∙ pooled_as (filter (is_group s c) gs)

  least_as : (c : Config) (low high : ℕ) (gs : List (Group A)) → least_size c low high (each_as f gs) ≡ least_size c low high gs
  least_as c low high [] = refl
  least_as c low high (g ∷ gs) =
      ap (λ t. cond (same_config g.config c && not t && leb low g.size && leb g.size high) (Some (least_with g.size (least_size c low high (each_as f gs)))) (least_size c low high (each_as f gs))) (empty_as g)
      ∙ ap (λ o. cond (same_config g.config c && not (is_empty g) && leb low g.size && leb g.size high) (Some (least_with g.size o)) o) (least_as c low high gs)

  among_as : (s : ℕ) (c : Config) (gs : List (Group A)) → pick_among s c (each_as f gs) ≡ picked_as f (pick_among s c gs)
  among_as s c gs =
      let items : List A = items_of s c gs in
      let same : items_of s c (each_as f gs) ≡ map f items = items_as s c gs in
      let one_less : length (map f items) - 1 ≡ length items - 1 = ap (λ n. n - 1) (length-map items f) in
      let found : slice_get (items_of s c (each_as f gs)) (length (items_of s c (each_as f gs)) - 1) ≡ option_map f (slice_get items (length items - 1)) =
      ap (λ l. slice_get l (length l - 1)) same ∙ ap (slice_get (map f items)) one_less ∙ slice_get-map f items (length items - 1) in
      let left : take (length (items_of s c (each_as f gs)) - 1) (items_of s c (each_as f gs)) ≡ map f (take (length items - 1) items) =
      ap (λ l. take (length l - 1) l) same ∙ ap (λ n. take n (map f items)) one_less ∙ take-map f (length items - 1) items in
      let others : others_of s c (each_as f gs) ≡ each_as f (others_of s c gs) = filter_as (λ g. not (is_group s c g)) (λ g. not (is_group s c g)) (λ g. refl) gs in
      λ i. record { found = found i; size = s; groups = record { size = s; config = c; items = left i } ∷ others i }

  pub pick_as : (c : Config) (wanted : ℕ) (gs : List (Group A)) → picked_as f (pool_pick c wanted gs) ≡ pool_pick c wanted (each_as f gs)
  pick_as c wanted gs =
      let s : ℕ = serving_size c wanted gs in
      let same : serving_size c wanted (each_as f gs) ≡ s = ap (λ o. unwrap_or o wanted) (least_as c wanted (8 * wanted) gs) in
      sym (ap (λ n. pick_at n c (each_as f gs)) same ∙ ap (pick_among s c) (room_as s c gs) ∙ among_as s c (with_room_for s c gs))
