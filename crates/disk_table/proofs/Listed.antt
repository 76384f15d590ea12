-- Entries as the hash map lists them, the most recent first.
use Rattle.std.proofs.Common.{◌≡◌, ◌≢◌, ℕ, ◌+◌, ◌-◌, ◌≤◌, ◌<◌, true, false, cond, List, [], ◌∷◌, ◌++◌, length, take, Some, None, refl, sym, ap, subst, ◌∙◌, arith, append-nil, zero, suc}
use Rattle.std.specs.Prelude.{Bool, reverse, is_some, IsSome, unwrap_or, ◌^◌, Result, Ok, Err, OnOk, OnErr, IfOk, IsOk}
use Rattle.std.specs.declared.option.Option.{Option}
use Rattle.std.specs.List.{AllByRecursion}
use Rattle.std.specs.Map.{lookup, lookup_entry, remove_entry}
use Rattle.std.specs.Option.{option_flatten}
use Rattle.std.specs.Str.{bytes_eq}
use Rattle.std.proofs.lemmas.Slice.Eq.{bytes_eq-Decides}
use Rattle.lru.specs.LruCache.{LruCache, promoted, put_entries}
use Rattle.disk_table.specs.UseOrder.{Entries, without, value_at, newest, renewed, used, IsOnce, IsShort, size_of}
use Rattle.disk_table.specs.inside.Kept.{IsOrder, length_at}
use Rattle.disk_table.proofs.Entries.{reverse_cons, all_back, once_split, none_without, apart_none, length_without, length_without_known, found_has, length_newest, once_without, once_newest, all_without, all_newest, size_without, size_newest, size_bound, short_is}
use Rattle.std.proofs.lemmas.List.{length-reverse}

-- distinct keys stay so the other way round
front : {V : Type 0} (es : Entries V) → IsOnce (reverse es) → IsOnce es
front [] o = tt
front (e ∷ es) o = let parts = once_split (reverse es) e (subst IsOnce (reverse_cons e es) o) in (all_back (λ x. x.0 ≢ e.0) es parts.1, front es parts.0)

without-append : {V : Type 0} (key : List ℕ) (xs ys : Entries V) → without key (xs ++ ys) ≡ without key xs ++ without key ys
without-append key [] ys = refl
without-append key (x ∷ xs) ys =
    elim (bytes_eq key x.0) as (λ b. cond b (without key (xs ++ ys)) (x ∷ without key (xs ++ ys)) ≡ cond b (without key xs) (x ∷ without key xs) ++ without key ys) [
      | true ↦ without-append key xs ys
      | false ↦ ap (λ l. x ∷ l) (without-append key xs ys)
    ]

without-reverse : {V : Type 0} (key : List ℕ) (es : Entries V) → without key (reverse es) ≡ reverse (without key es)
without-reverse key [] = refl
without-reverse {V} key (e ∷ es) =
    ap (without key) (reverse_cons e es) ∙ without-append key (reverse es) (e ∷ []) ∙ ap (λ l. l ++ without key (e ∷ [])) (without-reverse key es)
    ∙ (elim (bytes_eq key e.0) as (λ b. reverse (without key es) ++ cond b [] (e ∷ []) ≡ reverse (cond b (without key es) (e ∷ without key es))) [
      | true ↦ append-nil (reverse (without key es))
      | false ↦ sym (reverse_cons e (without key es))
    ])

-- the first that is found
abbrev first_of : {V : Type 0} → Option V → Option V → Option V
first_of None other = other
first_of (Some v) other = Some v

value-append : {V : Type 0} (key : List ℕ) (xs ys : Entries V) → value_at key (xs ++ ys) ≡ first_of (value_at key xs) (value_at key ys)
value-append key [] ys = refl
value-append key (x ∷ xs) ys =
    elim (bytes_eq key x.0) as (λ b. cond b (Some x.1) (value_at key (xs ++ ys)) ≡ first_of (cond b (Some x.1) (value_at key xs)) (value_at key ys)) [
      | true ↦ refl
      | false ↦ value-append key xs ys
    ]

first_none : {V : Type 0} (o : Option V) → first_of o None ≡ o
first_none None = refl
first_none (Some v) = refl

value-reverse : {V : Type 0} (key : List ℕ) (es : Entries V) → IsOnce es → value_at key (reverse es) ≡ value_at key es
value-reverse key [] o = refl
value-reverse {V} key (e ∷ es) o =
    ap (value_at key) (reverse_cons e es) ∙ value-append key (reverse es) (e ∷ []) ∙ ap (λ v. first_of v (value_at key (e ∷ []))) (value-reverse key es o.1)
    ∙ (elim (bytes_eq key e.0) as (λ b. bytes_eq key e.0 ≡ b → first_of (value_at key es) (cond b (Some e.1) None) ≡ cond b (Some e.1) (value_at key es)) [
      | true ↦ λ t. ap (λ v. first_of v (Some e.1)) (apart_none key es (subst (λ k. AllByRecursion (λ x. x.0 ≢ k) es) (sym ((bytes_eq-Decides key e.0).0 t)) o.0))
      | false ↦ λ t. first_none (value_at key es)
    ] refl)

-- ---- the words of the hash map

value_is : {V : Type 0} (key : List ℕ) (es : Entries V) → value_at key es ≡ lookup (bytes_eq key) es
value_is key [] = refl
value_is key (e ∷ es) = ap (λ v. cond (bytes_eq key e.0) (Some e.1) v) (value_is key es)

removed : {V : Type 0} (key : List ℕ) (es : Entries V) → IsOnce es → remove_entry (bytes_eq key) es ≡ without key es
removed key [] o = refl
removed {V} key (e ∷ es) o =
    elim (bytes_eq key e.0) as (λ b. bytes_eq key e.0 ≡ b → cond b es (e ∷ remove_entry (bytes_eq key) es) ≡ cond b (without key es) (e ∷ without key es)) [
      | true ↦ λ t. sym (none_without key es (apart_none key es (subst (λ k. AllByRecursion (λ x. x.0 ≢ k) es) (sym ((bytes_eq-Decides key e.0).0 t)) o.0)))
      | false ↦ λ t. ap (λ l. e ∷ l) (removed key es o.1)
    ] refl

module _ {V : Type 0} (key : List ℕ) (es : Entries V) (once : IsOnce (reverse es)) where
  pub at_key : value_at key (reverse es) ≡ lookup (bytes_eq key) es
  at_key = value-reverse key es (front es once) ∙ value_is key es

  pub taken_out : reverse (remove_entry (bytes_eq key) es) ≡ without key (reverse es)
  taken_out = ap reverse (removed key es (front es once)) ∙ sym (without-reverse key es)

known_none : {V : Type 0} {A : Type 0} {o : Option V} → o ≡ None → IsSome o → A
known_none none some = let bad = subst IsSome none some in cc

-- a call that succeeded did what it does where it succeeds
pub on_ok : {T E P : Type 0} (r : Result T E) → OnOk r P → IsOk r → P
on_ok (Ok x) h k = h
on_ok (Err e) h k = cc

-- a call that succeeds for each known key failed for an unknown one
pub failed_unknown : {V T E : Type 0} (o : Option V) (r : Result T E) (e : E) → r ≡ Err e → (IsSome o → IsOk r) → is_some o ≡ false
failed_unknown None r e is succeeds = refl
failed_unknown (Some v) r e is succeeds = let bad = subst IsOk is (succeeds refl) in cc

-- a known key for which there is room is put
pub put_done : {E X : Type 0} (r : Result Bool E) (fits known : Bool) (new next old : X) → fits ≡ true → known ≡ true → IfOk r (λ put. put ≡ fits)
    → IfOk r (λ put. new ≡ cond put next old) → OnErr r (known ≡ false) → new ≡ next
put_done (Ok put) fits known new next old fit is room order fails = order ∙ ap (λ b. cond b next old) (room ∙ fit)
put_done (Err e) fits known new next old fit is room order fails = let bad = sym fails ∙ is in cc

-- the entry of a key has this very key
entry_has : {V : Type 0} (key : List ℕ) (es : Entries V) (e : List ℕ × V) → lookup_entry (bytes_eq key) es ≡ Some e → (key ≡ e.0) × (lookup (bytes_eq key) es ≡ Some e.1)
entry_has key [] e h = cc
entry_has {V} key (x ∷ es) e h =
    elim (bytes_eq key x.0) as (λ b. bytes_eq key x.0 ≡ b → cond b (Some x) (lookup_entry (bytes_eq key) es) ≡ Some e → (key ≡ e.0) × (cond b (Some x.1) (lookup (bytes_eq key) es) ≡ Some e.1)) [
      | true ↦ λ t k. let same : x ≡ e = cc in ((bytes_eq-Decides key x.0).0 t ∙ ap (λ y. y.0) same, ap (λ y. Some y.1) same)
      | false ↦ λ t k. entry_has key es e k
    ] refl h

no_entry : {V : Type 0} (key : List ℕ) (es : Entries V) → lookup_entry (bytes_eq key) es ≡ None → lookup (bytes_eq key) es ≡ None
no_entry key [] h = refl
no_entry {V} key (x ∷ es) h =
    elim (bytes_eq key x.0) as (λ b. cond b (Some x) (lookup_entry (bytes_eq key) es) ≡ None → cond b (Some x.1) (lookup (bytes_eq key) es) ≡ None) [
      | true ↦ λ k. cc
      | false ↦ λ k. no_entry key es k
    ] h

take_all : {X : Type 0} (n : ℕ) (xs : List X) → length xs ≤ n → take n xs ≡ xs
take_all zero [] h = refl
take_all zero (x ∷ xs) h = absurd (omega (arith, h))
take_all (suc n) [] h = refl
take_all (suc n) (x ∷ xs) h = ap (λ l. x ∷ l) (take_all n xs (omega (arith, h)))

module _ {V : Type 0} (key : List ℕ) (c : LruCache (List ℕ) V) (once : IsOnce (reverse c.entries)) where
  last_is : (e : List ℕ × V) (v : V) → key ≡ e.0 → reverse ((e.0, v) ∷ remove_entry (bytes_eq key) c.entries) ≡ newest key v (reverse c.entries)
  last_is e v same = reverse_cons (e.0, v) (remove_entry (bytes_eq key) c.entries) ∙ (λ i. taken_out key c.entries once i ++ (sym same i, v) ∷ [])

  -- a known key that is put is the most recent
  pub put_known : (v : V) → IsSome (lookup (bytes_eq key) c.entries) → reverse (put_entries bytes_eq c key v) ≡ newest key v (reverse c.entries)
  put_known v known = cases (lookup_entry (bytes_eq key) c.entries) refl where
    cases : (o : Option (List ℕ × V)) → lookup_entry (bytes_eq key) c.entries ≡ o → reverse (put_entries bytes_eq c key v) ≡ newest key v (reverse c.entries)
    cases None h = known_none (no_entry key c.entries h) known
    cases (Some e) h = rw h (last_is e v (entry_has key c.entries e h).0)

  -- and so is a new one
  pub put_new : (v : V) → lookup (bytes_eq key) c.entries ≡ None → length c.entries < c.cap → reverse (put_entries bytes_eq c key v) ≡ newest key v (reverse c.entries)
  put_new v new room = cases (lookup_entry (bytes_eq key) c.entries) refl where
    cases : (o : Option (List ℕ × V)) → lookup_entry (bytes_eq key) c.entries ≡ o → reverse (put_entries bytes_eq c key v) ≡ newest key v (reverse c.entries)
    cases None h = rw h (reverse_cons (key, v) (take (c.cap - 1) c.entries) ∙ (λ i. reverse (whole i) ++ (key, v) ∷ []) ∙ ap (λ l. l ++ (key, v) ∷ []) (sym (none_without key (reverse c.entries) (at_key key c.entries once ∙ new)))) where
      whole : take (c.cap - 1) c.entries ≡ c.entries
      whole = take_all (c.cap - 1) c.entries (omega (arith, room))
    cases (Some e) h = let found = (entry_has key c.entries e h).1 in cc

  pub promoted_is : reverse (promoted (bytes_eq key) c.entries) ≡ used key (reverse c.entries)
  promoted_is = cases (lookup_entry (bytes_eq key) c.entries) refl where
    cases : (o : Option (List ℕ × V)) → lookup_entry (bytes_eq key) c.entries ≡ o → reverse (promoted (bytes_eq key) c.entries) ≡ used key (reverse c.entries)
    cases None h = rw h (ap (λ v. renewed key v (reverse c.entries)) (sym (at_key key c.entries once ∙ no_entry key c.entries h)))
    cases (Some e) h = let has = entry_has key c.entries e h in
        rw h (last_is e e.1 has.0 ∙ ap (λ v. renewed key v (reverse c.entries)) (sym (at_key key c.entries once ∙ has.1)))

-- ---- the rules that an order keeps

order_of : (es : Entries (Option ℕ)) (listed : Entries (Option ℕ)) (cap size : ℕ) → reverse listed ≡ es → cap ≡ 16400 → length es ≤ 16400 → IsOnce es → AllByRecursion (λ e. IsShort e.1) es
    → size ≡ size_of es → IsOrder listed cap size
order_of es listed cap size is cap_is few once short sized = record {
  cap_is = cap_is;
  few = omega (arith, few, ap length is, length-reverse listed);
  once = subst IsOnce (sym is) once;
  short = subst (AllByRecursion (λ e. IsShort e.1)) (sym is) short;
  sized = sized ∙ ap size_of (sym is);
}

module _ (old : Entries (Option ℕ)) (cap size : ℕ) (order : IsOrder old cap size) (key : List ℕ) where
  -- what the key adds is in the sum
  pub length_within : length_at key (reverse old) ≤ size
  length_within = omega (arith, size_without key (reverse old) order.once, order.sized)

  pub size_small : (v : Option ℕ) → IsShort v → size + unwrap_or v 0 < 2 ^ 64
  size_small v short = omega (arith, short_is v short, order.sized, size_bound (reverse old) order.short, order.few, length-reverse old)

  pub order_without : (new : Entries (Option ℕ)) → reverse new ≡ without key (reverse old) → IsOrder new cap (size - length_at key (reverse old))
  order_without new is =
      order_of (without key (reverse old)) new cap _ is order.cap_is (omega (arith, length_without key (reverse old), order.few, length-reverse old)) (once_without key _ order.once)
      (all_without (λ e. IsShort e.1) (λ e. IsShort e.1) key (λ e ne h. h) _ order.short) (omega (arith, size_without key (reverse old) order.once, order.sized))

  pub order_newest : (new : Entries (Option ℕ)) (v : Option ℕ) → IsShort v → length (without key (reverse old)) + 1 ≤ 16400 → reverse new ≡ newest key v (reverse old)
      → IsOrder new cap (size - length_at key (reverse old) + unwrap_or v 0)
  order_newest new v short room is =
      order_of (newest key v (reverse old)) new cap _ is order.cap_is (omega (arith, length_newest key v (reverse old), room)) (once_newest key v _ order.once)
      (all_newest (λ e. IsShort e.1) (λ e. IsShort e.1) key v (λ e ne h. h) short _ order.short)
      (omega (arith, size_without key (reverse old) order.once, order.sized, size_newest key v (reverse old)))

  -- a known key that is used again
  pub order_used : (new : Entries (Option ℕ)) → reverse new ≡ used key (reverse old) → IsOrder new cap size
  order_used new is = cases (value_at key (reverse old)) refl where
    cases : (o : Option (Option ℕ)) → value_at key (reverse old) ≡ o → IsOrder new cap size
    cases None h = order_of (reverse old) new cap size (is ∙ ap (λ v. renewed key v (reverse old)) h) order.cap_is (omega (arith, order.few, length-reverse old)) order.once order.short order.sized
    cases (Some v) h =
        let known : length (without key (reverse old)) + 1 ≤ 16400 = omega (arith, length_without_known key v (reverse old) h, order.few, length-reverse old) in
        let was : length_at key (reverse old) ≡ unwrap_or v 0 = ap (λ o. unwrap_or (option_flatten o) 0) h in
        let same : size - length_at key (reverse old) + unwrap_or v 0 ≡ size = omega (arith, was, length_within) in
        subst (IsOrder new cap) same (order_newest new v (found_has (λ e. IsShort e.1) key v (reverse old) order.short h) known (is ∙ ap (λ o. renewed key o (reverse old)) h))
