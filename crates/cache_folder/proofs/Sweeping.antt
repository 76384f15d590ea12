-- Files of no entry, and the folder without them.
use Rattle.std.proofs.Common.{◌≡◌, ◌≢◌, ℕ, Bool, true, false, cond, List, [], ◌∷◌, ◌++◌, length, take, Some, None, refl, sym, ap, subst, ◌∙◌, is_some, IsSome, inl, inr, arith, codes, ◌<◌, ◌≤◌, ◌+◌, get_or, drop, add-one, drop-cons, ◌||◌, ◌⊎◌}
use Rattle.std.specs.declared.option.Option.{Option}
use Rattle.std.specs.Option.{option_flatten}
use Rattle.std.specs.List.{AllByRecursion, list_any}
use Rattle.std.specs.Str.{bytes_eq}
use Rattle.std.proofs.lemmas.Slice.Eq.{bytes_eq-Decides}
use Rattle.std.specs.FinMap.{get, remove}
use Rattle.std.proofs.Math.Seq.{take-append_seam}
use Rattle.std.proofs.lemmas.List.{length-append, drop_all}
use Rattle.outside.specs.Files.{Folder, FolderHistory, deleted}
use Rattle.journal_lines.specs.Keys.{is_key}
use Rattle.disk_table.specs.UseOrder.{Entries, value_at, is_known}
use Rattle.disk_table.specs.Table.{clean_length}
use Rattle.cache_folder.specs.Offered.{Replayed, journal_name, journal_bkp, value_name, offered}
use Rattle.cache_folder.specs.Starts.{IsEntryFile}
use Rattle.cache_folder.specs.inside.Leaving.{AreClean, AreKnown, IsNoEntryFile, IsForeign, Sweeps}
use Rattle.cache_folder.proofs.Apart.{flip}
use Rattle.cache_folder.proofs.Folders.{tied, get_cut, gone_other}
use Rattle.cache_folder.proofs.Lists.{weaken}
use Rattle.cache_folder.proofs.Mapped.{found_has}
use Rattle.cache_folder.proofs.Openings.{Alike, foreign_deleted}

-- ---- whose file it is

-- a key has one value's name
pub same_key : (j k : List ℕ) → value_name j ≡ value_name k → j ≡ k
same_key j k e =
    let len : length j ≡ length k = omega (arith, length-append j (codes ".0"), length-append k (codes ".0"), ap length e) in
    sym (take-append_seam j (codes ".0")) ∙ ap (take (length j)) e ∙ ap (λ n. take n (value_name k)) len ∙ take-append_seam k (codes ".0")

known_by : (o : Option (Option ℕ)) → is_some (option_flatten o) ≡ true → is_some o ≡ true
known_by None h = cc
known_by (Some len) h = refl

-- the key of a readable length is known
pub known_clean : (key : List ℕ) (es : Replayed) → is_some (clean_length key es) ≡ true → is_known key es ≡ true
known_clean key es h = known_by (value_at key es) h

-- and a known one has a readable length where all have
pub clean_known : (key : List ℕ) (es : Replayed) → AreClean es → is_known key es ≡ true → is_some (clean_length key es) ≡ true
clean_known key es clean known = by (value_at key es) refl known where
  by : (o : Option (Option ℕ)) → value_at key es ≡ o → is_some o ≡ true → is_some (option_flatten o) ≡ true
  by None e h = cc
  by (Some len) e h = found_has (λ x. IsSome x.1) key len es clean e

pub its_file : (name key : List ℕ) (es : Replayed) (b : Bool) → name ≡ value_name key → b ≡ is_some (clean_length key es) → b ≡ true → IsEntryFile name es
its_file name key es b is found yes' = record { key = key; name_is = is; known = known_clean key es (sym found ∙ yes') }

pub no_file : (name key : List ℕ) (es : Replayed) (b : Bool) → name ≡ value_name key → b ≡ is_some (clean_length key es) → b ≡ false → AreClean es → IsNoEntryFile name es
no_file name key es b is found no' clean other good known same =
    let one = same_key key other (sym is ∙ same) in
    let yes' : is_some (clean_length key es) ≡ true = clean_known key es clean (subst (λ k. is_known k es ≡ true) (sym one) known) in
    let both : true ≡ false = sym yes' ∙ sym found ∙ no' in
    absurd (cc)

-- ---- the folder without it

pub sweeps_none : (es : Replayed) (f : Folder) → get f journal_bkp ≡ None → Sweeps es f f
sweeps_none es f alone = record { offers = refl; journal = refl; alone = alone; values = λ key good known. refl; fewer = λ name there. there }

cut_none : (b : Bool) (o : Option (List ℕ)) → o ≡ None → cond b None o ≡ None
cut_none true o none = refl
cut_none false o none = none

cut_some : (b : Bool) (o : Option (List ℕ)) → IsSome (cond b None o) → IsSome o
cut_some true o there = cc
cut_some false o there = there

module _ (es : Replayed) (f : Folder) (name : List ℕ) (alone : get f journal_bkp ≡ None) (known : AreKnown (offered f) es) (foreign : IsForeign name es) where
  offers_others : AllByRecursion (λ p. value_name p.0 ≢ name) (offered f)
  offers_others = weaken _ _ (λ p k. flip _ _ (foreign.no_entry p.0 k.0 k.1)) (offered f) known

  pub sweeps_deleted : AllByRecursion (Sweeps es f) (deleted name f)
  sweeps_deleted =
      elim (is_some (get f name)) as (λ b. AllByRecursion (Alike f) (cond b (remove f name ∷ []) []) → AllByRecursion (Sweeps es f) (cond b (remove f name ∷ []) [])) [
        | true ↦ λ a. (
          record {
            offers = a.0;
            journal = gone_other f name journal_name (flip _ _ foreign.no_journal);
            alone = get_cut f name journal_bkp ∙ cut_none (tied journal_bkp name) (get f journal_bkp) alone;
            values = λ key good there. gone_other f name (value_name key) (flip _ _ (foreign.no_entry key good there));
            fewer = λ n there. cut_some (tied n name) (get f n) (subst IsSome (get_cut f name n) there);
          },
          tt,
        )
        | false ↦ λ a. tt
      ] (foreign_deleted f name foreign.no_journal alone offers_others)

pub sweeps_more : (es : Replayed) (f g h : Folder) → Sweeps es f g → Sweeps es g h → Sweeps es f h
sweeps_more es f g h x y = record {
  offers = y.offers ∙ x.offers;
  journal = y.journal ∙ x.journal;
  alone = y.alone;
  values = λ key good known. y.values key good known ∙ x.values key good known;
  fewer = λ name there. x.fewer name (y.fewer name there);
}

-- ---- the names that are left

pub held_next : (names : List (List ℕ)) (at : ℕ) (this name : List ℕ) (B : Type 0) → at < length names → this ≡ get_or names at this → (name ≡ this → B)
    → B ⊎ (list_any (bytes_eq name) (drop at names) ≡ true) → B ⊎ (list_any (bytes_eq name) (drop (at + 1) names) ≡ true)
held_next names at this name B within is here (inl b) = inl b
held_next names at this name B within is here (inr later) =
    let split : drop at names ≡ this ∷ drop (at + 1) names = drop_here names at this within ∙ ap (λ x. x ∷ drop (at + 1) names) (sym is) in
    elim (bytes_eq name this) as (λ b. bytes_eq name this ≡ b → (b || list_any (bytes_eq name) (drop (at + 1) names)) ≡ true → B ⊎ (list_any (bytes_eq name) (drop (at + 1) names) ≡ true)) [
      | true ↦ λ same any. inl (here ((bytes_eq-Decides name this).0 same))
      | false ↦ λ other any. inr any
    ] refl (sym (ap (list_any (bytes_eq name)) split) ∙ later) where
      drop_here : (xs : List (List ℕ)) (i : ℕ) (d : List ℕ) → i < length xs → drop i xs ≡ get_or xs i d ∷ drop (i + 1) xs
      drop_here xs i d lt = rw (add-one, drop-cons xs i d)

pub held_last : (names : List (List ℕ)) (at : ℕ) (name : List ℕ) (B : Type 0) → length names ≤ at → B ⊎ (list_any (bytes_eq name) (drop at names) ≡ true) → B
held_last names at name B past (inl b) = b
held_last names at name B past (inr later) =
    let none : false ≡ true = sym (ap (list_any (bytes_eq name)) (drop_all at names past)) ∙ later in
    absurd (cc)
