-- The eldest key that is not under edit.
use Rattle.std.proofs.Common.{◌≡◌, ℕ, Bool, true, false, cond, List, [], ◌∷◌, Some, None, refl, sym, ap, subst, ◌∙◌, IfSome, is_some, unwrap_or}
use Rattle.std.specs.declared.option.Option.{Option}
use Rattle.std.specs.Str.{bytes_eq}
use Rattle.std.proofs.lemmas.Slice.Eq.{bytes_eq-Decides}
use Rattle.disk_table.specs.UseOrder.{Entries, value_at, is_known}
use Rattle.disk_table.specs.Table.{TableValue, edit_of, is_under_edit, keys_in, is_over, eldest_closed, eldest_over}
use Rattle.cache_folder.proofs.Kept.{is_none}

known_more : (key : List ℕ) (e : List ℕ × Option ℕ) (es : Entries (Option ℕ)) → is_known key es ≡ true → is_known key (e ∷ es) ≡ true
known_more key e es h = elim (bytes_eq key e.0) as (λ b. is_some (cond b (Some e.1) (value_at key es)) ≡ true) [ true ↦ refl | false ↦ h ]

known_first : (key : List ℕ) (v : Option ℕ) (es : Entries (Option ℕ)) → is_known key ((key, v) ∷ es) ≡ true
known_first key v es = ap (λ b. is_some (cond b (Some v) (value_at key es))) ((bytes_eq-Decides key key).1 refl)

eldest_found : (edits : List (Option (List ℕ))) (es : Entries (Option ℕ)) (key : List ℕ) → eldest_closed edits (keys_in es) ≡ Some key → (is_known key es ≡ true) × (edit_of key edits ≡ None)
eldest_found edits [] key h = cc
eldest_found edits (e ∷ es) key h =
    elim (is_under_edit e.0 edits) as (λ b. is_under_edit e.0 edits ≡ b → cond b (eldest_closed edits (keys_in es)) (Some e.0) ≡ Some key → (is_known key (e ∷ es) ≡ true) × (edit_of key edits ≡ None)) [
      | true ↦ λ open' is. let found = eldest_found edits es key is in (known_more key e es found.0, found.1)
      | false ↦ λ closed is. subst (λ k. (is_known k (e ∷ es) ≡ true) × (edit_of k edits ≡ None)) (ap (λ o. unwrap_or o e.0) is) (known_first e.0 e.1 es, is_none (edit_of e.0 edits) closed)
    ] refl h

over_found : (b : Bool) (edits : List (Option (List ℕ))) (es : Entries (Option ℕ)) (key : List ℕ) → cond b (eldest_closed edits (keys_in es)) None ≡ Some key → (is_known key es ≡ true) × (edit_of key edits ≡ None)
over_found true edits es key h = eldest_found edits es key h
over_found false edits es key h = cc

pub over_is : (maximum : ℕ) (t : TableValue) (o : Option (List ℕ)) → o ≡ eldest_over maximum t → IfSome o (λ key. (is_known key t.entries ≡ true) × (edit_of key t.edits ≡ None))
over_is maximum t None e = tt
over_is maximum t (Some key) e = over_found (is_over maximum t.entries) t.edits t.entries key (sym e)
