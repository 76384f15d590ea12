-- The steps of an opening on files offer what was offered.
use Rattle.std.proofs.Common.{◌≡◌, ◌≢◌, ℕ, Bool, true, false, cond, List, [], ◌∷◌, ◌++◌, length, ◌==◌, Some, None, refl, sym, ap, ◌∙◌, is_some, IsSome}
use Rattle.std.specs.declared.option.Option.{Option}
use Rattle.std.specs.List.{AllByRecursion}
use Rattle.std.specs.FinMap.{get, insert, remove}
use Rattle.outside.specs.Files.{Folder, deleted, renamed, moved}
use Rattle.cache_folder.proofs.Folders.{tied, tied_names, get_cut, get_same, get_other, gone_other}
use Rattle.cache_folder.specs.Offered.{Replayed}
use Rattle.cache_folder.specs.Offered.{journal_name, journal_tmp, journal_bkp, value_name, first_text, journal_text, replay_of, clean_pair, pair_of, readable, offered_by, offered}
use Rattle.cache_folder.proofs.Apart.{journal-value, value-tmp, value-bkp, journal-tmp, journal-bkp, tmp-bkp, flip}
use Rattle.cache_folder.proofs.Journaled.{readable_same}

-- the same journals and the same files of entries
pub offered_alike : (f g : Folder) → get g journal_name ≡ get f journal_name → get g journal_bkp ≡ get f journal_bkp → ((k : List ℕ) → get g (value_name k) ≡ get f (value_name k)) → offered g ≡ offered f
offered_alike f g j b v = (λ i. offered_by g (replay_of (first_text (j i) (b i)))) ∙ by_replay (replay_of (journal_text f)) where
  by_replay : (o : Option Replayed) → offered_by g o ≡ offered_by f o
  by_replay None = refl
  by_replay (Some es) = readable_same f g es v

-- a delete has one image or none
delete_image : (P : Folder → Type 0) (f : Folder) (name : List ℕ) (b : Bool) → P (remove f name) → AllByRecursion P (cond b (remove f name ∷ []) [])
delete_image P f name true h = (h, tt)
delete_image P f name false h = tt

abbrev pub Alike : Folder → Folder → Type 0
Alike f c = offered c ≡ offered f

-- beside a journal `journal.bkp` is nothing
backup_gone : (f : Folder) (text : List ℕ) → get f journal_name ≡ Some text → AllByRecursion (Alike f) (deleted journal_bkp f)
backup_gone f text there = delete_image (Alike f) f journal_bkp (is_some (get f journal_bkp)) (
    ap (λ o. offered_by (remove f journal_bkp) (replay_of o)) (ap (λ o. first_text o (get (remove f journal_bkp) journal_bkp)) (gone_other f journal_bkp journal_name journal-bkp ∙ there) ∙ sym (ap (λ o. first_text o (get f journal_bkp)) there))
    ∙ by_replay (replay_of (journal_text f))
    ) where
      by_replay : (o : Option Replayed) → offered_by (remove f journal_bkp) o ≡ offered_by f o
      by_replay None = refl
      by_replay (Some es) = readable_same f _ es (λ key. gone_other f journal_bkp (value_name key) (value-bkp key))

pub no_backup : (f : Folder) → IsSome (get f journal_name) → AllByRecursion (Alike f) (deleted journal_bkp f)
no_backup f held = cases (get f journal_name) refl held where
  cases : (o : Option (List ℕ)) → get f journal_name ≡ o → IsSome o → AllByRecursion (Alike f) (deleted journal_bkp f)
  cases None e h = cc
  cases (Some text) e h = backup_gone f text e

-- where there is none, `journal.bkp` takes its name
abbrev back_with : Folder → List ℕ → Folder
back_with f text = insert (remove f journal_bkp) journal_name text

backup_moved : (f : Folder) (o : Option (List ℕ)) → get f journal_bkp ≡ o → get f journal_name ≡ None → AllByRecursion (Alike f) (moved o journal_bkp journal_name f)
backup_moved f None e none = tt
backup_moved f (Some text) e none = (
  ap (λ o. offered_by (back_with f text) (replay_of (first_text o (get (back_with f text) journal_bkp)))) (get_same _ journal_name text)
      ∙ by_replay (replay_of (Some text))
      ∙ sym ((λ i. offered_by f (replay_of (first_text (none i) (e i))))),
  tt,
) where
  by_replay : (o : Option Replayed) → offered_by (back_with f text) o ≡ offered_by f o
  by_replay None = refl
  by_replay (Some es) = readable_same f _ es (λ key. get_other _ journal_name text (value_name key) (flip _ _ (journal-value key)) ∙ gone_other f journal_bkp (value_name key) (value-bkp key))

pub backup_back : (f : Folder) → get f journal_name ≡ None → AllByRecursion (Alike f) (renamed journal_bkp journal_name f)
backup_back f none = backup_moved f (get f journal_bkp) refl none

-- `journal.tmp` is nothing
pub no_new_journal : (f : Folder) → AllByRecursion (Alike f) (deleted journal_tmp f)
no_new_journal f = delete_image (Alike f) f journal_tmp (is_some (get f journal_tmp)) (offered_alike f _ (gone_other f journal_tmp journal_name journal-tmp) (gone_other f journal_tmp journal_bkp (flip _ _ tmp-bkp)) (λ key. gone_other f journal_tmp (value_name key) (value-tmp key)))

-- ---- a file that is no offered entry's

clean_none : (key : List ℕ) (n : ℕ) (name : List ℕ) (o : Option (List ℕ)) → AllByRecursion (λ p. value_name p.0 ≢ name) (clean_pair key n o) → value_name key ≡ name → clean_pair key n o ≡ []
clean_none key n name None h e = refl
clean_none key n name (Some bytes) h e = chosen (length bytes == n) h where
  chosen : (b : Bool) → AllByRecursion (λ (p : List ℕ × List ℕ). value_name p.0 ≢ name) (cond {A = List (List ℕ × List ℕ)} b ((key, bytes) ∷ []) []) → cond {A = List (List ℕ × List ℕ)} b ((key, bytes) ∷ []) [] ≡ []
  chosen true k = absurd (k.0 e)
  chosen false k = refl

clean_cut : (key : List ℕ) (n : ℕ) (o : Option (List ℕ)) (b : Bool) → (b ≡ true → clean_pair key n o ≡ []) → clean_pair key n (cond b None o) ≡ clean_pair key n o
clean_cut key n o true h = sym (h refl)
clean_cut key n o false h = refl

pair_cut : (f : Folder) (name key : List ℕ) (o : Option ℕ) → AllByRecursion (λ p. value_name p.0 ≢ name) (pair_of f key o) → pair_of (remove f name) key o ≡ pair_of f key o
pair_cut f name key None h = refl
pair_cut f name key (Some n) h = ap (clean_pair key n) (get_cut f name (value_name key)) ∙ clean_cut key n (get f (value_name key)) (tied (value_name key) name) (λ e. clean_none key n name (get f (value_name key)) h (tied_names _ _ e))

front_all : (P : List ℕ × List ℕ → Type 0) (xs ys : List (List ℕ × List ℕ)) → AllByRecursion P (xs ++ ys) → AllByRecursion P xs × AllByRecursion P ys
front_all P [] ys h = (tt, h)
front_all P (x ∷ xs) ys h = let k = front_all P xs ys h.1 in ((h.0, k.0), k.1)

readable_cut : (f : Folder) (name : List ℕ) (es : Replayed) → AllByRecursion (λ p. value_name p.0 ≢ name) (readable f es) → readable (remove f name) es ≡ readable f es
readable_cut f name [] h = refl
readable_cut f name (e ∷ es) h = let k = front_all _ (pair_of f e.0 e.1) (readable f es) h in (λ i. pair_cut f name e.0 e.1 k.0 i ++ readable_cut f name es k.1 i)

pub foreign_deleted : (f : Folder) (name : List ℕ) → name ≢ journal_name → get f journal_bkp ≡ None → AllByRecursion (λ p. value_name p.0 ≢ name) (offered f) → AllByRecursion (Alike f) (deleted name f)
foreign_deleted f name ne none h = delete_image (Alike f) f name (is_some (get f name)) (
    (λ i. offered_by (remove f name) (replay_of (first_text (gone_other f name journal_name (flip _ _ ne) i) (still i)))) ∙ by_replay (replay_of (journal_text f)) h
    ) where
      still : get (remove f name) journal_bkp ≡ get f journal_bkp
      still = get_cut f name journal_bkp ∙ by_tied (tied journal_bkp name) where
        by_tied : (b : Bool) → cond b None (get f journal_bkp) ≡ get f journal_bkp
        by_tied true = sym none
        by_tied false = refl

      by_replay : (o : Option Replayed) → AllByRecursion (λ p. value_name p.0 ≢ name) (offered_by f o) → offered_by (remove f name) o ≡ offered_by f o
      by_replay None k = refl
      by_replay (Some es) k = readable_cut f name es k
