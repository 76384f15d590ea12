-- Each key under edit has an entry, after each call.
use Rattle.std.proofs.Common.{◌≡◌, ◌≢◌, ℕ, Bool, true, false, cond, List, [], ◌∷◌, zero, suc, Some, None, refl, sym, ap, subst, ◌∙◌, inl, inr}
use Rattle.std.specs.Prelude.{set, slice_get, ◌⊎◌, is_some, IsSome, not, ◌&&◌, ◌||◌, nat_le, length, ◌≤◌}
use Rattle.std.proofs.lemmas.Bool.{leb-true, leb-false}
use Rattle.std.specs.declared.option.Option.{Option}
use Rattle.std.specs.List.{AllByRecursion}
use Rattle.std.specs.Option.{option_flatten}
use Rattle.journal_lines.specs.declared.lines.Line.{Line}
use Rattle.journal_lines.specs.declared.lines.Line.TheVariants.{Dirty, Clean, Read, Remove}
use Rattle.disk_table.specs.UseOrder.{Entries, value_at, without, newest, is_known}
use Rattle.disk_table.specs.Table.{key_in, replayed, edit_of, is_under_edit, key_of_edit, ended_with, TableValue, free_edit, is_full_for}
use Rattle.disk_table.specs.inside.Kept.{AreKnown, AreApart}
use Rattle.disk_table.proofs.Entries.{value_newest, known_newest, known_without, known_used, is_none_is, fits_known, fits_few, full_new}
use Rattle.disk_table.proofs.Numbers.{edit_kept}
use Rattle.disk_table.proofs.Apart.{none_of, closed_free, none_found}

abbrev Edits : Type 0
Edits = List (Option (List ℕ))

pub not_under : (key : List ℕ) (edits : Edits) → is_under_edit key edits ≡ false → AllByRecursion (λ e. e ≢ Some key) edits
not_under key edits closed = none_of key edits (is_none_is (edit_of key edits) false (sym closed) refl)

-- the key of an open edit, among edits of other keys
other_key : (key other : List ℕ) (edits : Edits) (n : ℕ) → AllByRecursion (λ e. e ≢ Some key) edits → slice_get edits n ≡ Some (Some other) → other ≢ key
other_key key other [] n h at = cc
other_key key other (e ∷ edits) zero h at = λ same. h.0 (let is : e ≡ Some other = cc in is ∙ ap (λ k. Some k) same)
other_key key other (e ∷ edits) (suc n) h at = other_key key other edits n h.1 at

pub known_replayed : (es : Entries (Option ℕ)) (edits : Edits) (line : Line) → AreKnown es edits → is_under_edit (key_in line) edits ≡ false → AreKnown (replayed es line) edits
known_replayed es edits (Dirty key) known closed other n at = known_newest other key None es (known other n at)
known_replayed es edits (Clean key length) known closed other n at = known_newest other key (Some length) es (known other n at)
known_replayed es edits (Read key) known closed other n at = known_used other key es (known other n at)
known_replayed es edits (Remove key) known closed other n at = known_without other key es (other_key key other edits n (not_under key edits closed) at) (known other n at)

pub known_if : (es new : Entries (Option ℕ)) (edits : Edits) (b : Bool) → AreKnown es edits → AreKnown new edits → AreKnown (cond b new es) edits
known_if es new edits true old known = known
known_if es new edits false old known = old

-- what a place has, once one is set
set_some : (key other : List ℕ) (edits : Edits) (n i : ℕ) → slice_get (set edits n (Some key)) i ≡ Some (Some other) → (other ≡ key) ⊎ (slice_get edits i ≡ Some (Some other))
set_some key other [] n i at = inr at
set_some key other (e ∷ edits) zero zero at = inl (let is : key ≡ other = cc in sym is)
set_some key other (e ∷ edits) zero (suc i) at = inr at
set_some key other (e ∷ edits) (suc n) zero at = inr at
set_some key other (e ∷ edits) (suc n) (suc i) at = set_some key other edits n i at

set_none : (other : List ℕ) (edits : Edits) (n i : ℕ) → slice_get (set edits n None) i ≡ Some (Some other) → slice_get edits i ≡ Some (Some other)
set_none other [] n i at = at
set_none other (e ∷ edits) zero zero at = cc
set_none other (e ∷ edits) zero (suc i) at = at
set_none other (e ∷ edits) (suc n) zero at = at
set_none other (e ∷ edits) (suc n) (suc i) at = set_none other edits n i at

pub known_opened : (es : Entries (Option ℕ)) (edits : Edits) (key : List ℕ) (n : ℕ) (v : Option ℕ) → AreKnown es edits → AreKnown (newest key v es) (set edits n (Some key))
known_opened es edits key n v known other i at = elim (set_some key other edits n i at) [
  | inl same ↦ subst (λ k. IsSome (value_at k (newest key v es))) (sym same) (subst IsSome (sym (value_newest key v es)) refl)
  | inr was ↦ known_newest other key v es (known other i was)
]

-- the key of an edit stands at its number
pub key_at : (edits : Edits) (n : ℕ) (key : List ℕ) → key_of_edit n edits ≡ Some key → slice_get edits n ≡ Some (Some key)
key_at edits n key is = cases (slice_get edits n) is where
  cases : (o : Option (Option (List ℕ))) → option_flatten o ≡ Some key → o ≡ Some (Some key)
  cases None h = cc
  cases (Some None) h = cc
  cases (Some (Some k)) h = ap (λ e. Some e) h

pub known_closed : (es : Entries (Option ℕ)) (edits : Edits) (key : List ℕ) (n : ℕ) (v : Option ℕ) → AreKnown es edits → is_under_edit key (set edits n None) ≡ false
    → AreKnown (ended_with key v es) (set edits n None)
known_closed es edits key n None known free other i at =
    known_without other key es (other_key key other (set edits n None) i (not_under key (set edits n None) free) at) (known other i (set_none other edits n i at))
known_closed es edits key n (Some v) known free other i at = known_newest other key (Some v) es (known other i (set_none other edits n i at))

-- the key is under edit no longer
pub free_closed : (edits : Edits) (key : List ℕ) (n : ℕ) → AreApart edits → key_of_edit n edits ≡ Some key → is_under_edit key (set edits n None) ≡ false
free_closed edits key n apart is = ap is_some (none_found key (set edits n None) (closed_free key edits n apart (key_at edits n key is)))

pub known_without_key : (es : Entries (Option ℕ)) (edits : Edits) (key : List ℕ) → AreKnown es edits → is_under_edit key edits ≡ false → AreKnown (without key es) edits
known_without_key es edits key known closed other n at = known_without other key es (other_key key other edits n (not_under key edits closed) at) (known other n at)

-- ---- a table that has no room for an edit

full_or : (es : Entries (Option ℕ)) (key : List ℕ) (v : Option ℕ) (o : Option (Option ℕ)) → length es ≤ 16400 → value_at key es ≡ o
    → (not (is_some o) && nat_le 16400 (length es)) ≡ not (nat_le (length (newest key v es)) 16400)
full_or es key v None few e = (elim (nat_le 16400 (length es)) as (λ b. nat_le 16400 (length es) ≡ b → b ≡ not (nat_le (length (newest key v es)) 16400)) [
  | true ↦ λ t. sym (ap not (full_new key v es 16400 e (leb-true _ _ t)))
  | false ↦ λ t. sym (ap not (fits_few key v es 16400 (leb-false _ _ t)))
]) refl
full_or es key v (Some w) few e = sym (ap not (fits_known key v es 16400 (subst IsSome (sym e) refl) few))

pub full_is : (table : TableValue) (key : List ℕ) (n : ℕ) (v : Option ℕ) → length table.entries ≤ 16400 → edit_of key table.edits ≡ None → free_edit table.edits ≡ Some n
    → is_full_for key table ≡ not (nat_le (length (newest key v table.entries)) 16400)
full_is table key n v few closed free =
    ap (λ o. not (is_some o) && (not (is_some (free_edit table.edits)) || not (is_known key table.entries) && nat_le 16400 (length table.entries))) closed
    ∙ ap (λ o. not (is_some o) || not (is_known key table.entries) && nat_le 16400 (length table.entries)) free
    ∙ full_or table.entries key v (value_at key table.entries) few refl

-- ---- the open edit of a key

pub edit_known : (es : Entries (Option ℕ)) (edits : Edits) (key : List ℕ) (n : ℕ) → AreKnown es edits → edit_of key edits ≡ Some n → IsSome (value_at key es)
edit_known es edits key n known open' = known key n (edit_kept key edits n open')
