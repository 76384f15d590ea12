-- Deletes and renames of single files, and what they leave.
use Rattle.std.proofs.Common.{◌≡◌, ◌≢◌, ℕ, List, [], ◌∷◌, Bool, true, false, cond, Some, None, refl, sym, ap, subst, ◌∙◌, length, is_some, IsSome}
use Rattle.std.specs.declared.option.Option.{Option}
use Rattle.std.specs.Option.{option_map}
use Rattle.std.specs.List.{AllByRecursion}
use Rattle.std.specs.FinMap.{get, insert, remove}
use Rattle.outside.specs.Files.{Folder, FolderHistory, last_of, passed_through, moved, renamed, deleted}
use Rattle.cache_folder.specs.Offered.{journal_name, journal_tmp, journal_bkp, value_name}
use Rattle.cache_folder.specs.Journals.{HasOneJournal}
use Rattle.cache_folder.specs.Images.{Runs}
use Rattle.cache_folder.specs.Starts.{OffersSame}
use Rattle.cache_folder.proofs.Apart.{journal-tmp, journal-bkp, tmp-bkp, flip}
use Rattle.cache_folder.proofs.Folders.{get_other, gone_same, gone_other}
use Rattle.cache_folder.proofs.Lists.{weaken}
use Rattle.cache_folder.proofs.Openings.{no_new_journal}
use Rattle.cache_folder.proofs.Runs.{run_more, run_weaken}

-- a run, and one behind it
pub run_on : (P : Folder → Type 0) (h : FolderHistory) (mid after : Option FolderHistory) (x : Runs P h mid) → Runs P (passed_through x.contents h) after → Runs P h after
run_on P h mid after x y = run_more P h (passed_through x.contents h) after (subst (Runs P h) x.after_is x) y

pub length_some : (o : Option (List ℕ)) (found : Option ℕ) → found ≡ option_map length o → is_some found ≡ true → IsSome o
length_some None found e h = let no' : is_some found ≡ false = ap is_some e in cc
length_some (Some text) found e h = refl

pub length_none : (o : Option (List ℕ)) (found : Option ℕ) → found ≡ option_map length o → is_some found ≡ false → o ≡ None
length_none None found e h = refl
length_none (Some text) found e h = let yes' : is_some found ≡ true = ap is_some e in cc

-- a file that was deleted is gone, and no other
pub gone_after : (f : Folder) (name : List ℕ) → get (last_of f (deleted name f)) name ≡ None
gone_after f name = by (get f name) refl where
  by : (o : Option (List ℕ)) → get f name ≡ o → get (last_of f (cond (is_some o) (remove f name ∷ []) [])) name ≡ None
  by None e = e
  by (Some text) e = gone_same f name

pub others_after : (f : Folder) (name n : List ℕ) → n ≢ name → get (last_of f (deleted name f)) n ≡ get f n
others_after f name n ne = by (is_some (get f name)) where
  by : (b : Bool) → get (last_of f (cond b (remove f name ∷ []) [])) n ≡ get f n
  by true = gone_other f name n ne
  by false = refl

-- `journal.bkp` is gone where it took the journal's name
pub back_alone : (f : Folder) → get (last_of f (renamed journal_bkp journal_name f)) journal_bkp ≡ None
back_alone f = by (get f journal_bkp) refl where
  by : (o : Option (List ℕ)) → get f journal_bkp ≡ o → get (last_of f (moved o journal_bkp journal_name f)) journal_bkp ≡ None
  by None e = e
  by (Some text) e = get_other (remove f journal_bkp) journal_name text journal_bkp (flip _ _ journal-bkp) ∙ gone_same f journal_bkp

pub tmp_gone : (f g : Folder) → OffersSame f g → AllByRecursion (OffersSame f) (deleted journal_tmp g)
tmp_gone f g same = weaken (OffersSame g) (OffersSame f) (λ c s. s ∙ same) (deleted journal_tmp g) (no_new_journal g)

pub still_alone : (g : Folder) → get g journal_bkp ≡ None → get (last_of g (deleted journal_tmp g)) journal_bkp ≡ None
still_alone g none = others_after g journal_tmp journal_bkp (flip _ _ tmp-bkp) ∙ none

-- `journal.tmp` is gone where it took the journal's name, and then `journal.bkp`
pub new_gone : (f : Folder) → get (last_of f (renamed journal_tmp journal_name f)) journal_tmp ≡ None
new_gone f = by (get f journal_tmp) refl where
  by : (o : Option (List ℕ)) → get f journal_tmp ≡ o → get (last_of f (moved o journal_tmp journal_name f)) journal_tmp ≡ None
  by None e = e
  by (Some text) e = get_other (remove f journal_tmp) journal_name text journal_tmp (flip _ _ journal-tmp) ∙ gone_same f journal_tmp

pub one_journal : (g : Folder) → get g journal_tmp ≡ None → HasOneJournal (last_of g (deleted journal_bkp g))
one_journal g none = record { no_new = others_after g journal_bkp journal_tmp tmp-bkp ∙ none; no_old = gone_after g journal_bkp }

-- two runs that offer the same
pub same_on : (h : FolderHistory) (mid after : Option FolderHistory) → Runs (OffersSame h.held) h mid → ((m : FolderHistory) → mid ≡ Some m → Runs (OffersSame m.held) m after) → Runs (OffersSame h.held) h after
same_on h mid after x y =
    let m : FolderHistory = passed_through x.contents h in
    run_on (OffersSame h.held) h mid after x (run_weaken (OffersSame m.held) (OffersSame h.held) m after (λ d s. s ∙ x.here) (y m x.after_is))
