-- The open edit of a key has the key at its number.
use Rattle.std.proofs.Common.{◌≡◌, ℕ, ◌<◌, true, List, [], ◌∷◌, zero, suc, length, Some, None, sym, ap, arith}
use Rattle.std.specs.Prelude.{get_or, slice_get}
use Rattle.std.specs.Option.{option_flatten}
use Rattle.std.specs.declared.option.Option.{Option}
use Rattle.std.proofs.lemmas.List.Quantifiers.{position-Some}
use Rattle.std.proofs.lemmas.Slice.Eq.{bytes_eq-Decides}
use Rattle.disk_table.specs.Table.{is_edit_of, edit_of, key_of_edit}

same_key : (key : List ℕ) (edit : Option (List ℕ)) → is_edit_of key edit ≡ true → edit ≡ Some key
same_key key None is = cc
same_key key (Some k) is = ap (λ j. Some j) (sym ((bytes_eq-Decides key k).0 is))

found_at : (key : List ℕ) (edits : List (Option (List ℕ))) (n : ℕ) → n < length edits → is_edit_of key (get_or edits n None) ≡ true → slice_get edits n ≡ Some (Some key)
found_at key [] n lt is = absurd (omega (arith, lt))
found_at key (e ∷ edits) zero lt is = ap (λ x. Some x) (same_key key e is)
found_at key (e ∷ edits) (suc n) lt is = found_at key edits n (omega (arith, lt)) is

pub edit_kept : (key : List ℕ) (edits : List (Option (List ℕ))) (n : ℕ) → edit_of key edits ≡ Some n → slice_get edits n ≡ Some (Some key)
edit_kept key edits n found = let at = position-Some (is_edit_of key) edits n None found in found_at key edits n at.0 at.1

pub edit_open : (key : List ℕ) (edits : List (Option (List ℕ))) (n : ℕ) → edit_of key edits ≡ Some n → key_of_edit n edits ≡ Some key
edit_open key edits n found = ap option_flatten (edit_kept key edits n found)
