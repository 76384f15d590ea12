-- What the words of the count say: keys that are loaded plainly, keys among those of the script, begins beside another.
use Rattle.std.proofs.Common.{Bool, List, None, Option, Some, [], ap, cond, false, inl, inr, map, refl, subst, sym, true, true≢false, ◌∙◌, ◌∷◌, ◌≡◌}
use Rattle.std.proofs.lemmas.Bool.{and_parts, or_cases, or_parts}
use Rattle.std.specs.List.{list_any}
use Rattle.std.specs.Option.{is_none}
use Rattle.std.specs.Prelude.{not, ◌&&◌, ◌||◌}
use Rattle.cache_key.specs.Key.{Key, same_key}
use Rattle.script_walk.specs.Marks.{Marks, distinct}
use Rattle.script_walk.specs.Orderly.{In}
use Rattle.script_walk.specs.Starts.{is_plain, is_shared, keys_of}
use Rattle.script_walk.specs.Walk.{Begin}
use Rattle.cache_key.specs.KeyLaws.{same_key-is, same_key-of}
use Rattle.fetch_bounds.specs.Findable.{AsksAll}
use Rattle.fetch_bounds.specs.InMemory.{IsAmong}

or_not : (a b : Bool) → (not a || not b) ≡ true → a ≡ true → b ≡ false
or_not true true e h = absurd (true≢false (sym e))
or_not true false e h = refl
or_not false b e h = absurd (true≢false (sym h))

pub asks_all : (key : Key) (bs : List Begin) (b : Begin) → In b bs → is_plain bs key ≡ true → AsksAll key b.spec
asks_all key [] b is e = absurd is
asks_all key (x ∷ bs) b (inl is) e =
    let one : (not (same_key x.spec.key key) || not (x.spec.skip || x.spec.cached)) ≡ true = (and_parts _ _ e).0 in
    let both : x.spec.key ≡ key → (x.spec.skip ≡ false) × (x.spec.cached ≡ false) = λ same. or_parts _ _ (or_not _ _ one (same_key-of _ _ same)) in
    record {
      memory = λ same. ap (λ (y : Begin). y.spec.skip) is ∙ (both (sym (ap (λ (y : Begin). y.spec.key) is) ∙ same)).0;
      source = λ same. ap (λ (y : Begin). y.spec.cached) is ∙ (both (sym (ap (λ (y : Begin). y.spec.key) is) ∙ same)).1;
    }
asks_all key (x ∷ bs) b (inr is) e = asks_all key bs b is (and_parts _ _ e).1

-- ---- keys

pub any_among : (key : Key) (ks : List Key) → list_any (same_key key) ks ≡ true → IsAmong key ks
any_among key [] e = absurd (true≢false (sym e))
any_among key (k ∷ ks) e = elim (or_cases (same_key key k) (list_any (same_key key) ks) e) [
  | inl h ↦ inl (same_key-is key k h)
  | inr h ↦ inr (any_among key ks h)
]

among_distinct : (key : Key) (ks : List Key) → IsAmong key ks → IsAmong key (distinct same_key ks)
among_distinct key [] h = h
among_distinct key (k ∷ ks) h = elim (list_any (same_key k) ks) as (λ t. list_any (same_key k) ks ≡ t → IsAmong key (cond t (distinct same_key ks) (k ∷ distinct same_key ks))) [
  | true ↦ λ e. elim h [
    | inl is ↦ among_distinct key ks (subst (λ q. IsAmong q ks) (sym is) (any_among k ks e))
    | inr is ↦ among_distinct key ks is
  ]
  | false ↦ λ e. elim h [ inl is ↦ inl is | inr is ↦ inr (among_distinct key ks is) ]
] refl

among_map : (b : Begin) (bs : List Begin) → In b bs → IsAmong b.spec.key (map (λ (x : Begin). x.spec.key) bs)
among_map b [] h = h
among_map b (x ∷ bs) (inl is) = inl (ap (λ (y : Begin). y.spec.key) is)
among_map b (x ∷ bs) (inr is) = inr (among_map b bs is)

pub among_keys : (b : Begin) (bs : List Begin) → In b bs → IsAmong b.spec.key (keys_of bs)
among_keys b bs is = among_distinct b.spec.key (map (λ (x : Begin). x.spec.key) bs) (among_map b bs is)

-- ---- begins beside another

none_of : {A : Type 0} (o : Option A) → is_none o ≡ true → o ≡ None
none_of None e = refl
none_of (Some x) e = absurd (true≢false (sym e))

pub shared_in : (marks : Marks) (key : Key) (bs : List Begin) → is_shared marks key bs ≡ true → (b : Begin) × In b bs × (b.spec.key ≡ key) × (marks b.number ≡ None)
shared_in marks key [] e = absurd (true≢false (sym e))
shared_in marks key (x ∷ bs) e = elim (or_cases (same_key x.spec.key key && is_none (marks x.number)) (is_shared marks key bs) e) [
  | inl h ↦ (x, inl refl, same_key-is _ _ (and_parts _ _ h).0, none_of (marks x.number) (and_parts _ _ h).1)
  | inr h ↦ let rest = shared_in marks key bs h in (rest.0, inr rest.1, rest.2, rest.3)
]
