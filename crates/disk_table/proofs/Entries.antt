-- Entries in order of use: what is found after a change, and that each key stays once.
use Rattle.std.proofs.Common.{◌≡◌, ◌≢◌, ℕ, ◌+◌, ◌*◌, ◌^◌, ◌≤◌, ◌<◌, Bool, true, false, cond, List, [], ◌∷◌, ◌++◌, length, Some, None, refl, sym, ap, subst, ◌∙◌, arith}
use Rattle.std.specs.Prelude.{reverse, unwrap_or, is_some, IsSome, nat_le}
use Rattle.std.specs.declared.option.Option.{Option}
use Rattle.std.specs.List.{AllByRecursion}
use Rattle.std.specs.Str.{bytes_eq}
use Rattle.std.proofs.lemmas.List.{length-append, reverse-append}
use Rattle.std.proofs.lemmas.List.Sums.{sum_by-cons, sum_by_push}
use Rattle.std.proofs.lemmas.Bool.{le-leb, lt-leb}
use Rattle.std.proofs.lemmas.Slice.Eq.{bytes_eq-Decides}
use Rattle.disk_table.specs.inside.Kept.{length_at}
use Rattle.std.specs.Option.{option_flatten}
use Rattle.disk_table.specs.UseOrder.{Entries, without, value_at, is_known, newest, renewed, used, IsOnce, IsShort, length_in, size_of}

-- keys that differ
pub differs : (a b : List ℕ) → a ≢ b → bytes_eq a b ≡ false
differs a b ne = elim (bytes_eq a b) as (λ t. bytes_eq a b ≡ t → bytes_eq a b ≡ false) [
  | true ↦ λ t. absurd (ne ((bytes_eq-Decides a b).0 t))
  | false ↦ λ t. t
] refl

pub reverse_cons : {X : Type 0} (x : X) (xs : List X) → reverse (x ∷ xs) ≡ reverse xs ++ x ∷ []
reverse_cons x xs = reverse-append (x ∷ []) xs

pub all_append : {X : Type 0} (P : X → Type 0) (xs ys : List X) → AllByRecursion P xs → AllByRecursion P ys → AllByRecursion P (xs ++ ys)
all_append P [] ys h k = k
all_append P (x ∷ xs) ys h k = (h.0, all_append P xs ys h.1 k)

pub all_split : {X : Type 0} (P : X → Type 0) (xs ys : List X) → AllByRecursion P (xs ++ ys) → AllByRecursion P xs × AllByRecursion P ys
all_split P [] ys h = (tt, h)
all_split P (x ∷ xs) ys h = let rest = all_split P xs ys h.1 in ((h.0, rest.0), rest.1)

pub all_back : {X : Type 0} (P : X → Type 0) (xs : List X) → AllByRecursion P (reverse xs) → AllByRecursion P xs
all_back P [] h = tt
all_back P (x ∷ xs) h = let parts = all_split P (reverse xs) (x ∷ []) (subst (AllByRecursion P) (reverse_cons x xs) h) in (parts.1.0, all_back P xs parts.0)

-- ---- the entries of other keys

-- what holds of the entries holds of those of other keys, which have other keys
pub all_without : {V : Type 0} (P Q : List ℕ × V → Type 0) (key : List ℕ) → ((e : List ℕ × V) → e.0 ≢ key → P e → Q e) → (es : Entries V) → AllByRecursion P es
    → AllByRecursion Q (without key es)
all_without P Q key carry [] h = tt
all_without P Q key carry (e ∷ es) h =
    elim (bytes_eq key e.0) as (λ b. bytes_eq key e.0 ≡ b → AllByRecursion Q (cond b (without key es) (e ∷ without key es))) [
      | true ↦ λ t. all_without P Q key carry es h.1
      | false ↦ λ t. (carry e (λ same. let yes = (bytes_eq-Decides key e.0).1 (sym same) in cc) h.0, all_without P Q key carry es h.1)
    ] refl

pub all_newest : {V : Type 0} (P Q : List ℕ × V → Type 0) (key : List ℕ) (v : V) → ((e : List ℕ × V) → e.0 ≢ key → P e → Q e) → Q (key, v) → (es : Entries V)
    → AllByRecursion P es → AllByRecursion Q (newest key v es)
all_newest P Q key v carry here es h = all_append Q (without key es) ((key, v) ∷ []) (all_without P Q key carry es h) (here, tt)

pub apart_without : {V : Type 0} (key : List ℕ) (es : Entries V) → AllByRecursion (λ x. x.0 ≢ key) (without key es)
apart_without key [] = tt
apart_without key (e ∷ es) =
    elim (bytes_eq key e.0) as (λ b. bytes_eq key e.0 ≡ b → AllByRecursion (λ x. x.0 ≢ key) (cond b (without key es) (e ∷ without key es))) [
      | true ↦ λ t. apart_without key es
      | false ↦ λ t. (λ same. let yes = (bytes_eq-Decides key e.0).1 (sym same) in cc, apart_without key es)
    ] refl

pub once_without : {V : Type 0} (key : List ℕ) (es : Entries V) → IsOnce es → IsOnce (without key es)
once_without key [] o = tt
once_without key (e ∷ es) o =
    elim (bytes_eq key e.0) as (λ b. IsOnce (cond b (without key es) (e ∷ without key es))) [
      | true ↦ once_without key es o.1
      | false ↦ (all_without (λ x. x.0 ≢ e.0) (λ x. x.0 ≢ e.0) key (λ x ne h. h) es o.0, once_without key es o.1)
    ]

once_last : {V : Type 0} (key : List ℕ) (v : V) (es : Entries V) → AllByRecursion (λ x. x.0 ≢ key) es → IsOnce es → IsOnce (es ++ (key, v) ∷ [])
once_last key v [] h o = (tt, tt)
once_last key v (e ∷ es) h o = (all_append _ es ((key, v) ∷ []) o.0 (λ same. h.0 (sym same), tt), once_last key v es h.1 o.1)

pub once_newest : {V : Type 0} (key : List ℕ) (v : V) (es : Entries V) → IsOnce es → IsOnce (newest key v es)
once_newest key v es o = once_last key v (without key es) (apart_without key es) (once_without key es o)

-- the last entry of distinct ones
pub once_split : {V : Type 0} (es : Entries V) (e : List ℕ × V) → IsOnce (es ++ e ∷ []) → IsOnce es × AllByRecursion (λ x. x.0 ≢ e.0) es
once_split [] e o = (tt, tt)
once_split (x ∷ es) e o =
    let rest = once_split es e o.1 in let there = all_split (λ y. y.0 ≢ x.0) es (e ∷ []) o.0 in
    ((there.0, rest.0), (λ same. there.1.0 (sym same), rest.1))

-- ---- how many there are

pub length_without : {V : Type 0} (key : List ℕ) (es : Entries V) → length (without key es) ≤ length es
length_without key [] = omega arith
length_without key (e ∷ es) =
    let rest = length_without key es in
    elim (bytes_eq key e.0) as (λ b. length (cond b (without key es) (e ∷ without key es)) ≤ length (e ∷ es)) [ true ↦ omega (arith, rest) | false ↦ omega (arith, rest) ]

pub length_without_known : {V : Type 0} (key : List ℕ) (v : V) (es : Entries V) → value_at key es ≡ Some v → length (without key es) + 1 ≤ length es
length_without_known key v [] e = cc
length_without_known key v (x ∷ es) known =
    elim (bytes_eq key x.0) as (λ b. cond b (Some x.1) (value_at key es) ≡ Some v → length (cond b (without key es) (x ∷ without key es)) + 1 ≤ length (x ∷ es)) [
      | true ↦ λ k. omega (arith, length_without key es)
      | false ↦ λ k. omega (arith, length_without_known key v es k)
    ] known

pub length_newest : {V : Type 0} (key : List ℕ) (v : V) (es : Entries V) → length (newest key v es) ≡ length (without key es) + 1
length_newest key v es = length-append (without key es) ((key, v) ∷ [])

-- ---- an unknown key

pub none_without : {V : Type 0} (key : List ℕ) (es : Entries V) → value_at key es ≡ None → without key es ≡ es
none_without key [] h = refl
none_without {V} key (e ∷ es) h =
    elim (bytes_eq key e.0) as (λ b. cond b (Some e.1) (value_at key es) ≡ None → cond b (without key es) (e ∷ without key es) ≡ e ∷ es) [
      | true ↦ λ k. cc
      | false ↦ λ k. ap (λ l. e ∷ l) (none_without key es k)
    ] h

pub apart_none : {V : Type 0} (key : List ℕ) (es : Entries V) → AllByRecursion (λ x. x.0 ≢ key) es → value_at key es ≡ None
apart_none key [] h = refl
apart_none {V} key (e ∷ es) h = ap (λ b. cond b (Some e.1) (value_at key es)) (differs key e.0 (λ same. h.0 (sym same))) ∙ apart_none key es h.1

-- ---- the lengths

-- without a key of distinct ones, the sum lacks its length
pub size_without : (key : List ℕ) (es : Entries (Option ℕ)) → IsOnce es → size_of (without key es) + length_at key es ≡ size_of es
size_without key [] o = refl
size_without key (e ∷ es) o =
    let cons = sum_by-cons length_in e es in
    elim (bytes_eq key e.0) as (λ b. bytes_eq key e.0 ≡ b → size_of (cond b (without key es) (e ∷ without key es)) + unwrap_or (option_flatten (cond b (Some e.1) (value_at key es))) 0 ≡ size_of (e ∷ es)) [
      | true ↦ λ t. let gone = none_without key es (apart_none key es (subst (λ k. AllByRecursion (λ x. x.0 ≢ k) es) (sym ((bytes_eq-Decides key e.0).0 t)) o.0)) in
          omega (arith, cons, ap size_of gone)
      | false ↦ λ t. let rest = size_without key es o.1 in omega (arith, cons, sum_by-cons length_in e (without key es), rest)
    ] refl

pub size_newest : (key : List ℕ) (v : Option ℕ) (es : Entries (Option ℕ)) → size_of (newest key v es) ≡ size_of (without key es) + unwrap_or v 0
size_newest key v es = sum_by_push length_in (without key es) (key, v)

short_value : (v : Option ℕ) → IsShort v → unwrap_or v 0 < 2 ^ 40
short_value None h = omega arith
short_value (Some n) h = h

pub short_is : (v : Option ℕ) → IsShort v → unwrap_or v 0 < 2 ^ 40
short_is = short_value

pub size_bound : (es : Entries (Option ℕ)) → AllByRecursion (λ e. IsShort e.1) es → size_of es ≤ length es * 2 ^ 40
size_bound [] h = omega arith
size_bound (e ∷ es) h = omega (arith, sum_by-cons length_in e es, short_value e.1 h.0, size_bound es h.1)

-- a known key that goes leaves room for one
pub known_room : {V : Type 0} (key : List ℕ) (es : Entries V) (n : ℕ) → IsSome (value_at key es) → length es ≤ n → length (without key es) + 1 ≤ n
known_room {V} key es n known few = cases (value_at key es) refl known where
  cases : (o : Option V) → value_at key es ≡ o → IsSome o → length (without key es) + 1 ≤ n
  cases None h some = cc
  cases (Some v) h some = omega (arith, length_without_known key v es h, few)

-- what holds of each entry holds of the one that is found
pub found_has : {V : Type 0} (P : List ℕ × V → Type 0) (key : List ℕ) (v : V) (es : Entries V) → AllByRecursion P es → value_at key es ≡ Some v → P (key, v)
found_has P key v [] h e = cc
found_has {V} P key v (x ∷ es) h found =
    elim (bytes_eq key x.0) as (λ b. bytes_eq key x.0 ≡ b → cond b (Some x.1) (value_at key es) ≡ Some v → P (key, v)) [
      | true ↦ λ t k. subst P (λ i. (sym ((bytes_eq-Decides key x.0).0 t) i, unwrap_or (k i) x.1)) h.0
      | false ↦ λ t k. found_has P key v es h.1 k
    ] refl found

-- a key that is not known, by the test that says so
pub is_none_is : {V : Type 0} (o : Option V) (b : Bool) → b ≡ is_some o → b ≡ false → o ≡ None
is_none_is None b same fails = refl
is_none_is (Some v) b same fails = cc

-- room for a key
pub fits_known : {V : Type 0} (key : List ℕ) (v : V) (es : Entries V) (n : ℕ) → IsSome (value_at key es) → length es ≤ n → nat_le (length (newest key v es)) n ≡ true
fits_known key v es n known few = le-leb _ _ (omega (arith, length_newest key v es, known_room key es n known few))

-- few entries leave room for any key
pub fits_few : {V : Type 0} (key : List ℕ) (v : V) (es : Entries V) (n : ℕ) → length es < n → nat_le (length (newest key v es)) n ≡ true
fits_few key v es n few = le-leb _ _ (omega (arith, length_newest key v es, length_without key es, few))

pub full_new : {V : Type 0} (key : List ℕ) (v : V) (es : Entries V) (n : ℕ) → value_at key es ≡ None → n ≤ length es → nat_le (length (newest key v es)) n ≡ false
full_new key v es n unknown many = lt-leb _ _ (omega (arith, length_newest key v es, ap length (none_without key es unknown), many))

-- and as many as there may be leave room for a known key alone
pub fits_full : {V : Type 0} (key : List ℕ) (v : V) (es : Entries V) (n : ℕ) → length es ≤ n → n ≤ length es → nat_le (length (newest key v es)) n ≡ is_known key es
fits_full {V} key v es n few many = cases (value_at key es) refl where
  cases : (o : Option V) → value_at key es ≡ o → nat_le (length (newest key v es)) n ≡ is_known key es
  cases None h = full_new key v es n h many ∙ sym (ap is_some h)
  cases (Some w) h = fits_known key v es n (subst IsSome (sym h) refl) few ∙ sym (ap is_some h)

-- ---- what is found after a change

found_append : {V : Type 0} (key : List ℕ) (v : V) (es : Entries V) → AllByRecursion (λ x. x.0 ≢ key) es → value_at key (es ++ (key, v) ∷ []) ≡ Some v
found_append {V} key v [] h = ap (λ b. cond b (Some v) None) ((bytes_eq-Decides key key).1 refl)
found_append {V} key v (e ∷ es) h = ap (λ b. cond b (Some e.1) (value_at key (es ++ (key, v) ∷ []))) (differs key e.0 (λ same. h.0 (sym same))) ∙ found_append key v es h.1

pub value_newest : {V : Type 0} (key : List ℕ) (v : V) (es : Entries V) → value_at key (newest key v es) ≡ Some v
value_newest key v es = found_append key v (without key es) (apart_without key es)

pub value_other : {V : Type 0} (other key : List ℕ) (es : Entries V) → other ≢ key → value_at other (without key es) ≡ value_at other es
value_other other key [] ne = refl
value_other {V} other key (e ∷ es) ne =
    elim (bytes_eq key e.0) as (λ b. bytes_eq key e.0 ≡ b → value_at other (cond b (without key es) (e ∷ without key es)) ≡ cond (bytes_eq other e.0) (Some e.1) (value_at other es)) [
      | true ↦ λ t. value_other other key es ne ∙ sym (ap (λ b. cond b (Some e.1) (value_at other es)) (differs other e.0 (λ same. ne (same ∙ sym ((bytes_eq-Decides key e.0).0 t)))))
      | false ↦ λ t. ap (λ o. cond (bytes_eq other e.0) (Some e.1) o) (value_other other key es ne)
    ] refl

value_front : {V : Type 0} (other key : List ℕ) (v : V) (es : Entries V) → other ≢ key → value_at other (es ++ (key, v) ∷ []) ≡ value_at other es
value_front {V} other key v [] ne = ap (λ b. cond b (Some v) None) (differs other key ne)
value_front other key v (e ∷ es) ne = ap (λ o. cond (bytes_eq other e.0) (Some e.1) o) (value_front other key v es ne)

pub value_newest_other : {V : Type 0} (other key : List ℕ) (v : V) (es : Entries V) → other ≢ key → value_at other (newest key v es) ≡ value_at other es
value_newest_other other key v es ne = value_front other key v (without key es) ne ∙ value_other other key es ne

-- a key that was known is known after another is the most recent
pub known_newest : {V : Type 0} (other key : List ℕ) (v : V) (es : Entries V) → IsSome (value_at other es) → IsSome (value_at other (newest key v es))
known_newest {V} other key v es known = (elim (bytes_eq other key) as (λ b. bytes_eq other key ≡ b → IsSome (value_at other (newest key v es))) [
  | true ↦ λ t. subst (λ k. IsSome (value_at k (newest key v es))) (sym ((bytes_eq-Decides other key).0 t)) (subst IsSome (sym (value_newest key v es)) refl)
  | false ↦ λ t. subst IsSome (sym (value_newest_other other key v es (λ same. let is = (bytes_eq-Decides other key).1 same in cc))) known
]) refl

pub known_without : {V : Type 0} (other key : List ℕ) (es : Entries V) → other ≢ key → IsSome (value_at other es) → IsSome (value_at other (without key es))
known_without other key es ne known = subst IsSome (sym (value_other other key es ne)) known

pub known_used : {V : Type 0} (other key : List ℕ) (es : Entries V) → IsSome (value_at other es) → IsSome (value_at other (used key es))
known_used {V} other key es known = cases (value_at key es) where
  cases : (o : Option V) → IsSome (value_at other (renewed key o es))
  cases None = known
  cases (Some v) = known_newest other key v es known
