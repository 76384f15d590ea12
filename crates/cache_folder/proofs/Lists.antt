-- What holds of each element of a list.
use Rattle.std.proofs.Common.{List, [], ◌∷◌, ◌++◌, ℕ, zero, suc, take, length, ◌<◌, get_or, arith}
use Rattle.std.specs.Prelude.{set}
use Rattle.std.specs.List.{AllByRecursion}

pub all_append : {V : Type 0} (P : V → Type 0) (xs ys : List V) → AllByRecursion P xs → AllByRecursion P ys → AllByRecursion P (xs ++ ys)
all_append P [] ys h k = k
all_append P (x ∷ xs) ys h k = (h.0, all_append P xs ys h.1 k)

pub weaken : {X : Type 0} (P Q : X → Type 0) → ((x : X) → P x → Q x) → (xs : List X) → AllByRecursion P xs → AllByRecursion Q xs
weaken P Q h [] a = tt
weaken P Q h (x ∷ xs) a = (h x a.0, weaken P Q h xs a.1)

pub all_take : {X : Type 0} (P : X → Type 0) (n : ℕ) (xs : List X) → AllByRecursion P xs → AllByRecursion P (take n xs)
all_take P zero xs h = tt
all_take P (suc n) [] h = tt
all_take P (suc n) (x ∷ xs) h = (h.0, all_take P n xs h.1)

pub all_at : {X : Type 0} (P : X → Type 0) (d : X) (xs : List X) (n : ℕ) → AllByRecursion P xs → n < length xs → P (get_or xs n d)
all_at P d [] n h lt = absurd (omega (arith, lt))
all_at P d (x ∷ xs) zero h lt = h.0
all_at P d (x ∷ xs) (suc n) h lt = all_at P d xs n h.1 (omega (arith, lt))

pub all_set : {X : Type 0} (P : X → Type 0) (xs : List X) (n : ℕ) (x : X) → P x → AllByRecursion P xs → AllByRecursion P (set xs n x)
all_set P [] n v p h = tt
all_set P (x ∷ xs) zero v p h = (p, h.1)
all_set P (x ∷ xs) (suc n) v p h = (h.0, all_set P xs n v p h.1)
