-- Entries in order of use under a change of their values.
use Rattle.std.proofs.Common.{◌≡◌, ◌≢◌, ℕ, ◌+◌, ◌≤◌, true, false, cond, List, [], ◌∷◌, ◌++◌, length, Some, None, refl, sym, ap, subst, ◌∙◌, arith, unwrap_or}
use Rattle.std.specs.declared.option.Option.{Option}
use Rattle.std.specs.Option.{option_map}
use Rattle.std.specs.List.{AllByRecursion}
use Rattle.std.specs.Str.{bytes_eq}
use Rattle.std.proofs.lemmas.Slice.Eq.{bytes_eq-Decides}
use Rattle.std.proofs.lemmas.List.{length-append}
use Rattle.disk_table.specs.UseOrder.{IsOnce, without, value_at, newest, renewed, used}
use Rattle.cache_folder.specs.Tables.{mapped}
use Rattle.cache_folder.proofs.Lists.{all_append}

pub without-mapped : {V W : Type 0} (f : List ℕ → V → W) (key : List ℕ) (es : List (List ℕ × V)) → without key (mapped f es) ≡ mapped f (without key es)
without-mapped f key [] = refl
without-mapped f key (e ∷ es) =
    elim (bytes_eq key e.0) as (λ b. cond b (without key (mapped f es)) ((e.0, f e.0 e.1) ∷ without key (mapped f es)) ≡ mapped f (cond b (without key es) (e ∷ without key es))) [
      | true ↦ without-mapped f key es
      | false ↦ ap (λ l. (e.0, f e.0 e.1) ∷ l) (without-mapped f key es)
    ]

pub mapped-append : {V W : Type 0} (f : List ℕ → V → W) (es gs : List (List ℕ × V)) → mapped f (es ++ gs) ≡ mapped f es ++ mapped f gs
mapped-append f [] gs = refl
mapped-append f (e ∷ es) gs = ap (λ l. (e.0, f e.0 e.1) ∷ l) (mapped-append f es gs)

pub newest-mapped : {V W : Type 0} (f : List ℕ → V → W) (key : List ℕ) (v : V) (es : List (List ℕ × V)) → newest key (f key v) (mapped f es) ≡ mapped f (newest key v es)
newest-mapped f key v es = ap (λ l. l ++ (key, f key v) ∷ []) (without-mapped f key es) ∙ sym (mapped-append f (without key es) ((key, v) ∷ []))

pub value_at-mapped : {V W : Type 0} (f : List ℕ → V → W) (key : List ℕ) (es : List (List ℕ × V)) → value_at key (mapped f es) ≡ option_map (f key) (value_at key es)
value_at-mapped f key [] = refl
value_at-mapped f key (e ∷ es) =
    elim (bytes_eq key e.0) as (λ b. bytes_eq key e.0 ≡ b → cond b (Some (f e.0 e.1)) (value_at key (mapped f es)) ≡ option_map (f key) (cond b (Some e.1) (value_at key es))) [
      | true ↦ λ t. ap (λ k. Some (f k e.1)) (sym ((bytes_eq-Decides key e.0).0 t))
      | false ↦ λ t. value_at-mapped f key es
    ] refl

-- the entries of other keys have P, and are of other keys
pub all_without : {V : Type 0} (P Q : List ℕ × V → Type 0) (key : List ℕ) → ((e : List ℕ × V) → e.0 ≢ key → P e → Q e) → (es : List (List ℕ × V)) → AllByRecursion P es → AllByRecursion Q (without key es)
all_without P Q key carry [] h = tt
all_without P Q key carry (e ∷ es) h =
    elim (bytes_eq key e.0) as (λ b. bytes_eq key e.0 ≡ b → AllByRecursion Q (cond b (without key es) (e ∷ without key es))) [
      | true ↦ λ t. all_without P Q key carry es h.1
      | false ↦ λ t. (carry e (λ same. let yes = (bytes_eq-Decides key e.0).1 (sym same) in cc) h.0, all_without P Q key carry es h.1)
    ] refl

pub all_newest : {V : Type 0} (P Q : List ℕ × V → Type 0) (key : List ℕ) (v : V) → ((e : List ℕ × V) → e.0 ≢ key → P e → Q e) → Q (key, v) → (es : List (List ℕ × V)) → AllByRecursion P es → AllByRecursion Q (newest key v es)
all_newest P Q key v carry here es h = all_append Q (without key es) ((key, v) ∷ []) (all_without P Q key carry es h) (here, tt)

-- a known key has one entry at least
pub length_without : {V : Type 0} (key : List ℕ) (es : List (List ℕ × V)) → length (without key es) ≤ length es
length_without key [] = omega arith
length_without key (e ∷ es) =
    let rest = length_without key es in
    elim (bytes_eq key e.0) as (λ b. length (cond b (without key es) (e ∷ without key es)) ≤ length (e ∷ es)) [ true ↦ omega (arith, rest) | false ↦ omega (arith, rest) ]

pub length_without_known : {V : Type 0} (key : List ℕ) (v : V) (es : List (List ℕ × V)) → value_at key es ≡ Some v → length (without key es) + 1 ≤ length es
length_without_known key v [] e = cc
length_without_known key v (x ∷ es) known =
    elim (bytes_eq key x.0) as (λ b. cond b (Some x.1) (value_at key es) ≡ Some v → length (cond b (without key es) (x ∷ without key es)) + 1 ≤ length (x ∷ es)) [
      | true ↦ λ k. omega (arith, length_without key es)
      | false ↦ λ k. omega (arith, length_without_known key v es k)
    ] known

pub length_newest : {V : Type 0} (key : List ℕ) (v : V) (es : List (List ℕ × V)) → length (newest key v es) ≡ length (without key es) + 1
length_newest key v es = length-append (without key es) ((key, v) ∷ [])

pub length_mapped : {V W : Type 0} (f : List ℕ → V → W) (es : List (List ℕ × V)) → length (mapped f es) ≡ length es
length_mapped f [] = refl
length_mapped f (e ∷ es) = omega (arith, length_mapped f es)

pub used-mapped : {V W : Type 0} (f : List ℕ → V → W) (key : List ℕ) (es : List (List ℕ × V)) → used key (mapped f es) ≡ mapped f (used key es)
used-mapped {V} {W} f key es = ap (λ o. renewed key o (mapped f es)) (value_at-mapped f key es) ∙ each (value_at key es) where
  each : (o : Option V) → renewed key (option_map (f key) o) (mapped f es) ≡ mapped f (renewed key o es)
  each None = refl
  each (Some v) = newest-mapped f key v es

-- what holds of each entry holds of the one that is found
pub found_has : {V : Type 0} (P : List ℕ × V → Type 0) (key : List ℕ) (v : V) (es : List (List ℕ × V)) → AllByRecursion P es → value_at key es ≡ Some v → P (key, v)
found_has P key v [] h e = cc
found_has P key v (x ∷ es) h found =
    elim (bytes_eq key x.0) as (λ b. bytes_eq key x.0 ≡ b → cond b (Some x.1) (value_at key es) ≡ Some v → P (key, v)) [
      | true ↦ λ t k. subst P (λ i. (sym ((bytes_eq-Decides key x.0).0 t) i, unwrap_or (k i) x.1)) h.0
      | false ↦ λ t k. found_has P key v es h.1 k
    ] refl found

once_last : {V : Type 0} (key : List ℕ) (v : V) (es : List (List ℕ × V)) → AllByRecursion (λ x. x.0 ≢ key) es → IsOnce es → IsOnce (es ++ (key, v) ∷ [])
once_last key v [] h o = (tt, tt)
once_last key v (e ∷ es) h o = (all_append _ es ((key, v) ∷ []) o.0 (λ same. h.0 (sym same), tt), once_last key v es h.1 o.1)

pub once_without : {V : Type 0} (key : List ℕ) (es : List (List ℕ × V)) → IsOnce es → IsOnce (without key es)
once_without key [] o = tt
once_without key (e ∷ es) o =
    elim (bytes_eq key e.0) as (λ b. IsOnce (cond b (without key es) (e ∷ without key es))) [
      | true ↦ once_without key es o.1
      | false ↦ (all_without (λ x. x.0 ≢ e.0) (λ x. x.0 ≢ e.0) key (λ x ne h. h) es o.0, once_without key es o.1)
    ]

pub apart_without : {V : Type 0} (key : List ℕ) (es : List (List ℕ × V)) → AllByRecursion (λ x. x.0 ≢ key) (without key es)
apart_without key [] = tt
apart_without key (e ∷ es) =
    elim (bytes_eq key e.0) as (λ b. bytes_eq key e.0 ≡ b → AllByRecursion (λ x. x.0 ≢ key) (cond b (without key es) (e ∷ without key es))) [
      | true ↦ λ t. apart_without key es
      | false ↦ λ t. (λ same. let yes = (bytes_eq-Decides key e.0).1 (sym same) in cc, apart_without key es)
    ] refl

pub once_newest : {V : Type 0} (key : List ℕ) (v : V) (es : List (List ℕ × V)) → IsOnce es → IsOnce (newest key v es)
once_newest key v es o = once_last key v (without key es) (apart_without key es) (once_without key es o)

-- the entries of other keys under two maps that agree on them
pub mapped_without : {V W : Type 0} (f g : List ℕ → V → W) (key : List ℕ) (es : List (List ℕ × V)) → ((k : List ℕ) (v : V) → k ≢ key → g k v ≡ f k v) → mapped g (without key es) ≡ mapped f (without key es)
mapped_without f g key [] same = refl
mapped_without f g key (e ∷ es) same =
    elim (bytes_eq key e.0) as (λ b. bytes_eq key e.0 ≡ b → mapped g (cond b (without key es) (e ∷ without key es)) ≡ mapped f (cond b (without key es) (e ∷ without key es))) [
      | true ↦ λ t. mapped_without f g key es same
      | false ↦ λ t i. (e.0, same e.0 e.1 (λ is. let yes = (bytes_eq-Decides key e.0).1 (sym is) in cc) i) ∷ mapped_without f g key es same i
    ] refl

pub once_mapped : {V W : Type 0} (h : List ℕ → V → W) (es : List (List ℕ × V)) → IsOnce es → IsOnce (mapped h es)
once_mapped {V} {W} h [] o = tt
once_mapped {V} {W} h (e ∷ es) o = (apart_mapped es o.0, once_mapped h es o.1) where
  apart_mapped : (xs : List (List ℕ × V)) → AllByRecursion (λ x. x.0 ≢ e.0) xs → AllByRecursion (λ x. x.0 ≢ e.0) (mapped h xs)
  apart_mapped [] a = tt
  apart_mapped (x ∷ xs) a = (a.0, apart_mapped xs a.1)
