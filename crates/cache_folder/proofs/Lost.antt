-- What is left of a table's entries where the value of one key may be gone.
use Rattle.std.proofs.Common.{◌≡◌, ◌≢◌, ◌⊎◌, ◌≤◌, ℕ, Bool, true, false, List, [], ◌∷◌, ◌++◌, length, Some, None, refl, sym, ap, subst, ◌∙◌, inl, inr, is_some, option_and_then}
use Rattle.std.specs.declared.option.Option.{Option}
use Rattle.std.specs.List.{AllByRecursion}
use Rattle.std.specs.FinMap.{get}
use Rattle.std.specs.Str.{bytes_eq}
use Rattle.std.proofs.lemmas.Slice.Eq.{bytes_eq-Decides}
use Rattle.outside.specs.Files.{Folder}
use Rattle.disk_table.specs.UseOrder.{without}
use Rattle.cache_folder.specs.Offered.{value_name, edit_name}
use Rattle.cache_folder.specs.Steps.{Entry, Cached}
use Rattle.cache_folder.specs.Tables.{Kept, Table, mapped}
use Rattle.cache_folder.specs.Sound.{in_folder, listed, HasLength, MayHave, Fits, IsKept, MayLose}
use Rattle.cache_folder.specs.Allowed.{Pass, value_of, values_of}
use Rattle.cache_folder.proofs.Apart.{journal-value, journal-edit, value-value, value-edit, flip}
use Rattle.cache_folder.proofs.Allowed.{split_left, split_right}
use Rattle.cache_folder.proofs.Lists.{all_append, weaken}
use Rattle.cache_folder.proofs.Mapped.{without-mapped, mapped_without}

module _ (key : List ℕ) (f g : Folder) (lost : MayLose key f g) where
  pub lost_edit : (k : List ℕ) → get g (edit_name k) ≡ get f (edit_name k)
  lost_edit k = lost.others (edit_name k) (flip _ _ (journal-edit k)) (flip _ _ (value-edit key k))

  -- the value of a key is there, or gone
  value_left : (k : List ℕ) → (get g (value_name k) ≡ get f (value_name k)) ⊎ (get g (value_name k) ≡ None)
  value_left k = elim (bytes_eq k key) as (λ b. bytes_eq k key ≡ b → (get g (value_name k) ≡ get f (value_name k)) ⊎ (get g (value_name k) ≡ None)) [
    | true ↦ λ same. subst (λ j. (get g (value_name j) ≡ get f (value_name j)) ⊎ (get g (value_name j) ≡ None)) (sym ((bytes_eq-Decides k key).0 same)) lost.value
    | false ↦ λ other. inl (lost.others (value_name k) (flip _ _ (journal-value k)) (value-value k key (λ e. let same = (bytes_eq-Decides k key).1 e in cc)))
  ] refl

  may_have : (o o' : Option (List ℕ)) (len : Option ℕ) → (o' ≡ o) ⊎ (o' ≡ None) → MayHave o len → MayHave o' len
  may_have o o' None h m = tt
  may_have o o' (Some n) h m = (m.0, λ bytes e. elim h as (λ _. length bytes ≡ n) [ inl same ↦ m.1 bytes (sym same ∙ e) | inr none ↦ (let bad = sym none ∙ e in cc) ])

  fits_left : (e : List ℕ × Kept) → Fits f e → Fits g e
  fits_left e h = record {
    key = h.key;
    value = may_have (get f (value_name e.0)) (get g (value_name e.0)) e.1.len (value_left e.0) h.value;
    edit = subst (λ o. HasLength o e.1.edit) (sym (lost_edit e.0)) h.edit;
  }

  pub lost_kept : (t : Table) → IsKept f t → IsKept g t
  lost_kept t k = record { files = weaken (Fits f) (Fits g) fits_left t k.files; count = k.count; once = k.once }

  pub lost_listed : (t : Table) → without key (listed g t) ≡ without key (listed f t)
  lost_listed t =
      without-mapped (in_folder g) key t
      ∙ mapped_without (in_folder f) (in_folder g) key t (λ k v ne i. record { values = option_and_then (λ n. lost.others (value_name k) (flip _ _ (journal-value k)) (value-value k key ne) i) v.len; marked = is_some v.edit })
      ∙ sym (without-mapped (in_folder f) key t)

  module _ (allowed : List ℕ × List ℕ → Bool) where
    value_allowed : (k : List ℕ) (o o' : Option (List ℕ)) (len : Option ℕ) → (o' ≡ o) ⊎ (o' ≡ None) → Pass allowed (value_of k (option_and_then (λ n. o) len)) → Pass allowed (value_of k (option_and_then (λ n. o') len))
    value_allowed k o o' None h p = tt
    value_allowed k o o' (Some n) h p = elim h as (λ _. Pass allowed (value_of k o')) [
      | inl same ↦ subst (λ x. Pass allowed (value_of k x)) (sym same) p
      | inr none ↦ subst (λ x. Pass allowed (value_of k x)) (sym none) tt
    ]

    pub lost_allowed : (t : Table) → Pass allowed (values_of (listed f t)) → Pass allowed (values_of (listed g t))
    lost_allowed [] h = tt
    lost_allowed (e ∷ t) h =
        let own : List (List ℕ × List ℕ) = value_of e.0 (option_and_then (λ n. get f (value_name e.0)) e.1.len) in
        all_append _ (value_of e.0 (option_and_then (λ n. get g (value_name e.0)) e.1.len)) (values_of (listed g t))
        (value_allowed e.0 (get f (value_name e.0)) (get g (value_name e.0)) e.1.len (value_left e.0) (split_left allowed own (values_of (listed f t)) h))
        (lost_allowed t (split_right allowed own (values_of (listed f t)) h))
