-- How many lines a journal has, and what a change of the journal and of one value leaves of the other files.
use Rattle.std.proofs.Common.{◌≡◌, ◌≢◌, ◌⊎◌, ℕ, suc, ◌+◌, ◌<◌, ◌^◌, true, List, [], ◌∷◌, ◌++◌, length, Some, None, refl, sym, ap, ◌∙◌, append_assoc, append-nil, inl, inr, arith}
use Rattle.std.proofs.lemmas.List.{length-append}
use Rattle.std.specs.declared.option.Option.{Option}
use Rattle.std.specs.List.{AllByRecursion}
use Rattle.std.specs.FinMap.{get, insert}
use Rattle.outside.specs.Files.{Folder, last_of, made, appended, deleted, grown, appended_to}
use Rattle.journal_lines.specs.Keys.{is_key}
use Rattle.journal_lines.specs.Lines.{spelled, IsLine}
use Rattle.journal_lines.specs.Journal.{header, ended, text_of}
use Rattle.journal_lines.specs.declared.lines.Line.{Line}
use Rattle.disk_table.specs.UseOrder.{IsShort}
use Rattle.cache_folder.specs.Offered.{Replayed, journal_name, value_name, edit_name}
use Rattle.cache_folder.specs.Journals.{Says, count_of, count_in, line_count}
use Rattle.cache_folder.specs.Tables.{Table, edit_at, lines_for, line_back}
use Rattle.cache_folder.specs.Sound.{IsSound, MayLose}
use Rattle.cache_folder.proofs.Apart.{journal-value, journal-edit, flip}
use Rattle.cache_folder.proofs.Folders.{get_same, get_other, last_appended}
use Rattle.cache_folder.proofs.Journaled.{JournalLaws, text_of-append, good-append}
use Rattle.cache_folder.proofs.Calls.{edit_fits, deleted_gone, deleted_other}

module _ (laws : JournalLaws) where
  pub count_says : (f : Folder) (es : Replayed) (s : Says f es) → line_count f ≡ length s.lines
  count_says f es s = ap count_in (s.text ∙ ap (λ t. Some (header ++ t)) (sym (append-nil (text_of s.lines)))) ∙ ap count_of (laws.text s.lines [] s.good tt)

  -- the journal is the same
  pub count_same : (f g : Folder) → get g journal_name ≡ get f journal_name → line_count g ≡ line_count f + 0
  count_same f g same = ap count_in same ∙ omega arith

  -- one line more
  count_line : (f : Folder) (es : Replayed) (s : Says f es) (line : Line) → IsLine line → line_count (last_of f (appended journal_name (ended (spelled line)) f)) ≡ length s.lines + 1
  count_line f es s line good =
      ap line_count (last_appended f journal_name (header ++ text_of s.lines) (ended (spelled line)) s.text)
      ∙ ap count_in (get_same f journal_name _ ∙ ap (λ t. Some t) (append_assoc header (text_of s.lines) (ended (spelled line)) ∙ ap (λ t. header ++ t) (sym (text_of-append laws s.lines line) ∙ sym (append-nil _))))
      ∙ ap count_of (laws.text (s.lines ++ line ∷ []) [] (good-append laws s.lines line s.good good) tt)
      ∙ length-append s.lines (line ∷ [])

  -- after changes that the journal does not see
  pub count_later : (f g : Folder) (es : Replayed) (s : Says g es) (line : Line) → get g journal_name ≡ get f journal_name → IsLine line → line_count (last_of g (appended journal_name (ended (spelled line)) g)) ≡ line_count f + 1
  count_later f g es s line same good = count_line g es s line good ∙ ap (λ n. n + 1) (sym (count_says g es s) ∙ ap count_in same)

  -- the line, and then an edit's file
  pub count_begun : (f : Folder) (es : Replayed) (s : Says f es) (line : Line) (key : List ℕ) → IsLine line → line_count (last_of (last_of f (appended journal_name (ended (spelled line)) f)) (made (edit_name key) (last_of f (appended journal_name (ended (spelled line)) f)))) ≡ line_count f + 1
  count_begun f es s line key good = ap count_in (get_other _ (edit_name key) [] journal_name (journal-edit key)) ∙ count_later f f es s line refl good

  pub count_written : (f : Folder) (t : Table) (key bytes : List ℕ) (n : ℕ) → IsSound f t → edit_at key t ≡ Some n → line_count (last_of f (appended (edit_name key) bytes f)) ≡ line_count f + 0
  count_written f t key bytes n s open' = let there = edit_fits laws f key t n s.files open' in
      count_same f _ (ap (λ c. get c journal_name) (last_appended f (edit_name key) there.0 bytes there.1) ∙ get_other f (edit_name key) _ journal_name (journal-edit key))

  -- a new journal
  length_lines : (t : Table) → length (lines_for t) ≡ length t
  length_lines [] = refl
  length_lines (e ∷ t) = ap suc (length_lines t)

  pub count_new : (f : Folder) (t : Table) → AllByRecursion IsLine (lines_for t) → get f journal_name ≡ Some (header ++ text_of (lines_for t)) → line_count f ≡ length t
  count_new f t good text = ap count_in (text ∙ ap (λ l. Some (header ++ l)) (sym (append-nil (text_of (lines_for t))))) ∙ ap count_of (laws.text (lines_for t) [] good tt) ∙ length_lines t

  pub line_back_good : (key : List ℕ) (old : Option ℕ) → is_key key ≡ true → IsShort old → IsLine (line_back key old)
  line_back_good key None good short = good
  line_back_good key (Some n) good short = (good, short)

  -- ---- what may be lost

  pub lost_here : (key : List ℕ) (f : Folder) → MayLose key f f
  lost_here key f = record { value = inl refl; others = λ name j v. refl }

  pub lost_value : (key : List ℕ) (f : Folder) → MayLose key f (last_of f (deleted (value_name key) f))
  lost_value key f = record { value = inr (deleted_gone laws f (value_name key)); others = λ name j v. deleted_other laws f (value_name key) name v }

  lost_more : (key : List ℕ) (f g : Folder) (text : List ℕ) → MayLose key f g → MayLose key f (insert g journal_name text)
  lost_more key f g text h =
      let same : get (insert g journal_name text) (value_name key) ≡ get g (value_name key) = get_other g journal_name text (value_name key) (flip _ _ (journal-value key)) in
      record {
        value = elim h.value as (λ _. (get (insert g journal_name text) (value_name key) ≡ get f (value_name key)) ⊎ (get (insert g journal_name text) (value_name key) ≡ None)) [ inl e ↦ inl (same ∙ e) | inr e ↦ inr (same ∙ e) ];
        others = λ name j v. get_other g journal_name text name j ∙ h.others name j v;
      }

  -- the append of a line, where each text of the journal leaves what holds
  pub line_leaves : (P : Folder → Type 0) (bytes : List ℕ) (g : Folder) → ((text : List ℕ) → P (insert g journal_name text)) → AllByRecursion P (appended journal_name bytes g)
  line_leaves P bytes g leaves = by (get g journal_name) where
    grows : (text bytes : List ℕ) → AllByRecursion P (grown journal_name text bytes g)
    grows text [] = tt
    grows text (b ∷ bytes) = (leaves (text ++ b ∷ []), grows (text ++ b ∷ []) bytes)

    by : (o : Option (List ℕ)) → AllByRecursion P (appended_to o journal_name bytes g)
    by None = tt
    by (Some text) = grows text bytes

  pub lost_line : (key bytes : List ℕ) (f g : Folder) → MayLose key f g → AllByRecursion (MayLose key f) (appended journal_name bytes g)
  lost_line key bytes f g h = line_leaves (MayLose key f) bytes g (λ text. lost_more key f g text h)

  -- and of a value that was deleted
  pub gone_line : (key bytes : List ℕ) (g : Folder) → get g (value_name key) ≡ None → AllByRecursion (λ c. get c (value_name key) ≡ None) (appended journal_name bytes g)
  gone_line key bytes g gone = line_leaves (λ c. get c (value_name key) ≡ None) bytes g (λ text. get_other g journal_name text (value_name key) (flip _ _ (journal-value key)) ∙ gone)
