-- The numbers of open edits under the changes that calls make.
use Rattle.std.proofs.Common.{◌≡◌, ◌≢◌, ℕ, zero, suc, ◌+◌, ◌<◌, Bool, true, cond, List, [], ◌∷◌, length, Some, None, refl, sym, ap, subst, ◌∙◌, arith}
use Rattle.std.specs.Prelude.{is_some, not, set, get_or, position, nat_lt}
use Rattle.std.specs.declared.option.Option.{Option}
use Rattle.std.proofs.lemmas.List.{length-set}
use Rattle.std.proofs.lemmas.List.Folds.{position_or_len-set}
use Rattle.std.proofs.lemmas.List.Quantifiers.{position-Some}
use Rattle.disk_table.specs.Table.{is_edit_of, edit_of, free_edit}
use Rattle.cache_folder.specs.Tables.{closed_at}
use Rattle.disk_lru.specs.Calls.{ClosesEdit}
use Rattle.disk_lru.specs.State.{CacheState, EditValue, IsOpen, edits}
use Rattle.store_world.specs.Sound.{one_if, taken}
use Rattle.store_world.proofs.Tables.{false_if}

-- numbers of which one key now has one, or none
pub record Renumbered (key : List ℕ) (edit : Option ℕ) (old new : List (Option (List ℕ))) : Type 0 where
  pub here : is_some (edit_of key new) ≡ is_some edit
  pub others : (other : List ℕ) → other ≢ key → edit_of other new ≡ edit_of other old
  pub count : taken new + one_if (is_some (edit_of key old)) ≡ taken old + one_if (is_some edit)
  pub places : length new ≡ length old

-- ---- a place that is set

taken_set : (edits : List (Option (List ℕ))) (n : ℕ) (edit : Option (List ℕ)) → n < length edits
    → taken (set edits n edit) + one_if (is_some (get_or edits n None)) ≡ taken edits + one_if (is_some edit)
taken_set [] n edit lt = absurd (omega (arith, lt))
taken_set (e ∷ edits) zero edit lt = omega arith
taken_set (e ∷ edits) (suc n) edit lt = omega (arith, taken_set edits n edit (omega (arith, lt)))

position_set : {X : Type 0} (p : X → Bool) (xs : List X) (n : ℕ) (y d : X) → p y ≡ p (get_or xs n d) → position p (set xs n y) ≡ position p xs
position_set p xs n y d same i = cond (nat_lt (position_or_len-set p xs n y d same i) (length-set xs n y i)) (Some (position_or_len-set p xs n y d same i)) None

-- ---- the calls

pub renumbered_same : (key : List ℕ) (edit : Option ℕ) (old new : List (Option (List ℕ))) → is_some (edit_of key old) ≡ is_some edit → new ≡ old → Renumbered key edit old new
renumbered_same key edit old new open_ same = record {
  here = ap (λ es. is_some (edit_of key es)) same ∙ open_;
  others = λ other ne. ap (edit_of other) same;
  count = omega (arith, ap taken same, ap one_if open_);
  places = ap length same;
}

some_found : (key : List ℕ) (edit : Option (List ℕ)) → is_edit_of key edit ≡ true → is_some edit ≡ true
some_found key None e = cc
some_found key (Some k) e = refl

closed_count : (key : List ℕ) (old : List (Option (List ℕ))) (found : Option ℕ) → edit_of key old ≡ found
    → (taken (closed_at found old) + one_if (is_some found) ≡ taken old) × (length (closed_at found old) ≡ length old)
closed_count key old None is = (omega arith, refl)
closed_count key old (Some n) is =
    let at = position-Some (is_edit_of key) old n None is in
    (omega (arith, taken_set old n None at.0, ap one_if (some_found key (get_or old n None) at.1)), length-set old n None)

pub renumbered_closed : (key : List ℕ) (old new : CacheState) → ClosesEdit key old new → Renumbered key None (edits old) (edits new)
renumbered_closed key old new closes =
    let count = closed_count key (edits old) (edit_of key (edits old)) refl in
    record {
      here = ap is_some closes.own;
      others = closes.others;
      count = omega (arith, ap taken closes.edits_are, count.0);
      places = ap length closes.edits_are ∙ count.1;
    }

not_some : (edit : Option (List ℕ)) → not (is_some edit) ≡ true → edit ≡ None
not_some None e = refl
not_some (Some key) e = cc

pub begun_others : (key : List ℕ) (n : ℕ) (old new : List (Option (List ℕ))) → free_edit old ≡ Some n → new ≡ set old n (Some key) → (other : List ℕ) → other ≢ key → edit_of other new ≡ edit_of other old
begun_others key n old new free is other ne =
    let at = position-Some (λ (e : Option (List ℕ)). not (is_some e)) old n None free in
    let none = not_some (get_or old n None) at.1 in
    ap (edit_of other) is ∙ position_set (is_edit_of other) old n (Some key) None (false_if key other (λ same. ne (sym same)) ∙ sym (ap (is_edit_of other) none))

pub renumbered_begun : (key : List ℕ) (edit : EditValue) (old new : CacheState) → edit.key ≡ key → IsOpen edit new → edit_of key (edits old) ≡ None → free_edit (edits old) ≡ Some edit.number
    → edits new ≡ set (edits old) edit.number (Some key) → Renumbered key (Some 0) (edits old) (edits new)
renumbered_begun key edit old new key_is is_open closed free edits_are =
    let at = position-Some (λ (e : Option (List ℕ)). not (is_some e)) (edits old) edit.number None free in
    let none = not_some (get_or (edits old) edit.number None) at.1 in
    record {
      here = ap is_some (subst (λ k. edit_of k (edits new) ≡ Some edit.number) key_is is_open.1);
      others = begun_others key edit.number (edits old) (edits new) free edits_are;
      count = omega (arith, ap taken edits_are, taken_set (edits old) edit.number (Some key) at.0, ap (λ (e : Option (List ℕ)). one_if (is_some e)) none, ap (λ (e : Option ℕ). one_if (is_some e)) closed);
      places = ap length edits_are ∙ length-set (edits old) edit.number (Some key);
    }
