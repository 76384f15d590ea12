-- What a folder offers by its journal, and what one line more does.
use Rattle.std.proofs.Common.{◌≡◌, ℕ, ◌≤◌, true, false, cond, List, [], ◌∷◌, ◌++◌, ◌⊎◌, length, Some, None, Ok, refl, sym, ap, subst, ◌∙◌, append_assoc, append-nil, inl, inr, unwrap_or, nat_le}
use Rattle.std.specs.declared.option.Option.{Option}
use Rattle.std.specs.List.{AllByRecursion}
use Rattle.std.specs.FinMap.{get, insert}
use Rattle.std.proofs.lemmas.Bool.{le-leb}
use Rattle.outside.specs.Files.{Folder, last_of, grown, appended, appended_to}
use Rattle.cache_folder.proofs.Folders.{get_same, get_other, last_appended}
use Rattle.journal_lines.specs.Lines.{spelled, IsLine}
use Rattle.journal_lines.specs.Journal.{Lacks, header, ended, text_of, rest_of, journal_of}
use Rattle.cache_folder.specs.Offered.{Replayed}
use Rattle.disk_table.specs.Table.{replayed, fold_from, fold}
use Rattle.journal_lines.specs.declared.lines.Line.{Line}
use Rattle.cache_folder.specs.Offered.{journal_name, journal_bkp, value_name, first_text, entries_of, replay_of, clean_pair, pair_of, readable, offered_by, offered}
use Rattle.cache_folder.specs.Journals.{Says}
use Rattle.cache_folder.proofs.Apart.{journal-value, flip}

-- what is readable rests on the entries' files alone
pub readable_same : (f g : Folder) (es : Replayed) → ((key : List ℕ) → get g (value_name key) ≡ get f (value_name key)) → readable g es ≡ readable f es
readable_same f g [] same = refl
readable_same f g (e ∷ es) same = (λ i. pairs e.0 e.1 i ++ readable_same f g es same i) where
  pairs : (key : List ℕ) (len : Option ℕ) → pair_of g key len ≡ pair_of f key len
  pairs key None = refl
  pairs key (Some n) = ap (clean_pair key n) (same key)

-- ---- a journal's text tells what is offered

-- what the law of the journal's text says
abbrev pub TextLaw : Type 0
TextLaw = (lines : List Line) (tail : List ℕ) → AllByRecursion IsLine lines → Lacks 10 tail → journal_of (header ++ (text_of lines ++ tail)) ≡ Ok (lines, rest_of tail)

abbrev pub LineLaw : Type 0
LineLaw = (line : Line) → IsLine line → Lacks 10 (spelled line)

pub record JournalLaws : Type 0 where
  pub text : TextLaw
  pub unbroken : LineLaw

module _ (laws : JournalLaws) where
  pub offered_text : (f : Folder) (lines : List Line) (tail : List ℕ) (es : Replayed) → get f journal_name ≡ Some (header ++ (text_of lines ++ tail)) → AllByRecursion IsLine lines → Lacks 10 tail → fold lines ≡ Some es → offered f ≡ readable f es
  offered_text f lines tail es text good lack folds =
      ap (λ o. offered_by f (replay_of (first_text o (get f journal_bkp)))) text
      ∙ ap (λ r. offered_by f (entries_of r)) (laws.text lines tail good lack)
      ∙ ap (offered_by f) folds

  pub offered_says : (f : Folder) (es : Replayed) → Says f es → offered f ≡ readable f es
  offered_says f es s = offered_text f s.lines [] es (s.text ∙ ap (λ t. Some (header ++ t)) (sym (append-nil (text_of s.lines)))) s.good tt s.folds

  -- ---- one line more

  pub text_of-append : (lines : List Line) (line : Line) → text_of (lines ++ line ∷ []) ≡ text_of lines ++ ended (spelled line)
  text_of-append [] line = append-nil (ended (spelled line))
  text_of-append (l ∷ lines) line = ap (λ t. ended (spelled l) ++ t) (text_of-append lines line) ∙ sym (append_assoc (ended (spelled l)) (text_of lines) (ended (spelled line)))

  pub good-append : (lines : List Line) (line : Line) → AllByRecursion IsLine lines → IsLine line → AllByRecursion IsLine (lines ++ line ∷ [])
  good-append [] line h k = (k, tt)
  good-append (l ∷ lines) line h k = (h.0, good-append lines line h.1 k)

  fold-append : (from es : Replayed) (lines : List Line) (line : Line) → fold_from from lines ≡ Some es → length (replayed es line) ≤ 16400 → fold_from from (lines ++ line ∷ []) ≡ Some (replayed es line)
  fold-append from es [] line e fits =
      let same : from ≡ es = ap (λ o. unwrap_or o from) e in
      ap (λ r. cond (nat_le (length (replayed r line)) 16400) (Some (replayed r line)) None) same
      ∙ ap (λ b. cond b (Some (replayed es line)) None) (le-leb _ _ fits)
  fold-append from es (l ∷ lines) line e fits =
      elim (nat_le (length (replayed from l)) 16400) as (λ b. cond b (fold_from (replayed from l) lines) None ≡ Some es → cond b (fold_from (replayed from l) (lines ++ line ∷ [])) None ≡ Some (replayed es line)) [
        | true ↦ λ k. fold-append (replayed from l) es lines line k fits
        | false ↦ λ k. cc
      ] e

  -- a folder with this journal text and the same files of entries
  module _ (f : Folder) (es : Replayed) (s : Says f es) (line : Line) (good : IsLine line) (fits : length (replayed es line) ≤ 16400) where
    -- with a front of the line, and no newline: as before
    part_of : (tail : List ℕ) → Lacks 10 tail → offered (insert f journal_name ((header ++ text_of s.lines) ++ tail)) ≡ readable f es
    part_of tail lack =
        offered_text _ s.lines tail es (get_same f journal_name _ ∙ ap (λ t. Some t) (append_assoc header (text_of s.lines) tail)) s.good lack s.folds
        ∙ readable_same f _ es (λ key. get_other f journal_name _ (value_name key) (flip _ _ (journal-value key)))

    whole_line : Says (insert f journal_name ((header ++ text_of s.lines) ++ ended (spelled line))) (replayed es line)
    whole_line = record {
      lines = s.lines ++ line ∷ [];
      good = good-append s.lines line s.good good;
      text = get_same f journal_name _ ∙ ap (λ t. Some t) (append_assoc header (text_of s.lines) (ended (spelled line)) ∙ ap (λ t. header ++ t) (sym (text_of-append s.lines line)));
      folds = fold-append [] es s.lines line s.folds fits;
    }

    whole_of : offered (insert f journal_name ((header ++ text_of s.lines) ++ ended (spelled line))) ≡ readable f (replayed es line)
    whole_of = offered_says _ _ whole_line ∙ readable_same f _ (replayed es line) (λ key. get_other f journal_name _ (value_name key) (flip _ _ (journal-value key)))

    -- what an image of the append offers
    abbrev pub OneOf : Folder → Type 0
    OneOf c = (offered c ≡ readable f es) ⊎ (offered c ≡ readable f (replayed es line))

    -- every image of the append is the folder with another journal
    abbrev pub Journaled : Folder → Type 0
    Journaled c = (text : List ℕ) × (c ≡ insert f journal_name text) × OneOf c

    steps_of : (pre post text : List ℕ) → spelled line ≡ pre ++ post → text ≡ (header ++ text_of s.lines) ++ pre → AllByRecursion Journaled (grown journal_name text (post ++ 10 ∷ []) f)
    steps_of pre [] text splits is =
        let all : text ++ 10 ∷ [] ≡ (header ++ text_of s.lines) ++ ended (spelled line) = ap (λ t. t ++ 10 ∷ []) is ∙ append_assoc (header ++ text_of s.lines) pre (10 ∷ []) ∙ ap (λ l. (header ++ text_of s.lines) ++ ended l) (sym (splits ∙ append-nil pre)) in
        ((text ++ 10 ∷ [], refl, inr (ap (λ t. offered (insert f journal_name t)) all ∙ whole_of)), tt)
    steps_of pre (b ∷ post) text splits is =
        let splits' : spelled line ≡ (pre ++ b ∷ []) ++ post = splits ∙ sym (append_assoc pre (b ∷ []) post) in
        let is' : text ++ b ∷ [] ≡ (header ++ text_of s.lines) ++ (pre ++ b ∷ []) = ap (λ t. t ++ b ∷ []) is ∙ append_assoc (header ++ text_of s.lines) pre (b ∷ []) in
        let lack : Lacks 10 (pre ++ b ∷ []) = lacks_front (pre ++ b ∷ []) post (subst (Lacks 10) splits' (laws.unbroken line good)) in
        ((text ++ b ∷ [], refl, inl (ap (λ t. offered (insert f journal_name t)) is' ∙ part_of (pre ++ b ∷ []) lack)), steps_of (pre ++ b ∷ []) post (text ++ b ∷ []) splits' is')
      where
        lacks_front : (xs ys : List ℕ) → Lacks 10 (xs ++ ys) → Lacks 10 xs
        lacks_front [] ys h = tt
        lacks_front (x ∷ xs) ys h = (h.0, lacks_front xs ys h.1)

    -- each image of the append of a line offers what was offered before it, or what it leaves
    pub said_images : AllByRecursion Journaled (appended journal_name (ended (spelled line)) f)
    said_images = subst (λ o. AllByRecursion Journaled (appended_to o journal_name (ended (spelled line)) f)) (sym s.text) (steps_of [] (spelled line) (header ++ text_of s.lines) refl (sym (append-nil _)))

    -- what the append leaves
    pub said_last : last_of f (appended journal_name (ended (spelled line)) f) ≡ insert f journal_name ((header ++ text_of s.lines) ++ ended (spelled line))
    said_last = last_appended f journal_name (header ++ text_of s.lines) (ended (spelled line)) s.text

    pub said_more : Says (last_of f (appended journal_name (ended (spelled line)) f)) (replayed es line)
    said_more = subst (λ c. Says c (replayed es line)) (sym said_last) whole_line
