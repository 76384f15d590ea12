-- Evictions, one after the other.
use Rattle.std.proofs.Common.{◌≡◌, ℕ, ◌<◌, ◌≤◌, true, false, cond, List, [], ◌∷◌, length, Some, None, Ok, Option, refl, sym, subst, arith}
use Rattle.std.specs.Prelude.{is_some, IfSome}
use Rattle.std.specs.Str.{bytes_eq}
use Rattle.disk_table.specs.UseOrder.{without, value_at, is_known}
use Rattle.disk_lru.specs.State.{entries}
use Rattle.disk_lru.specs.Past.{DiskState}
use Rattle.disk_lru.specs.Trims.{Trims}
use Rattle.store_world.specs.DiskCalls.{Evicts, next_eviction}

-- the key that goes, where one does
pub next_key : (o : Option (List ℕ)) → is_some o ≡ true → (key : List ℕ) × (o ≡ Some key)
next_key None is = cc
next_key (Some key) is = (key, refl)

pub trims_of : (old new : DiskState) (key : List ℕ) → Evicts old (Ok true) new → next_eviction old ≡ Some key → Trims key (Ok true) old new
trims_of old new key evicts next = subst (λ o. IfSome o (λ key. Trims key (Ok true) old new)) next evicts.key

-- ---- the table gets smaller

shorter : {V : Type 0} (key : List ℕ) (es : List (List ℕ × V)) → length (without key es) ≤ length es
shorter key [] = omega arith
shorter key (e ∷ es) = let rest = shorter key es in elim (bytes_eq key e.0) as (λ t. length (cond t (without key es) (e ∷ without key es)) ≤ length (e ∷ es)) [ true ↦ omega (arith, rest) | false ↦ omega (arith, rest) ]

pub one_less : {V : Type 0} (key : List ℕ) (es : List (List ℕ × V)) → is_known key es ≡ true → length (without key es) < length es
one_less key [] is = cc
one_less key (e ∷ es) is =
    elim (bytes_eq key e.0) as (λ t. is_some (cond t (Some e.1) (value_at key es)) ≡ true → length (cond t (without key es) (e ∷ without key es)) < length (e ∷ es)) [
      | true ↦ λ is. let rest = shorter key es in omega (arith, rest)
      | false ↦ λ is. let rest = one_less key es is in omega (arith, rest)
    ] is

pub falls : (old new : DiskState) → Evicts old (Ok true) new → length (entries new.cache) < length (entries old.cache)
falls old new evicts =
    let next = next_key (next_eviction old) (sym evicts.over) in
    let trims = trims_of old new next.0 evicts next.1 in
    subst (λ es. length es < length (entries old.cache)) (sym (trims.gone refl)) (one_less next.0 (entries old.cache) trims.known)
