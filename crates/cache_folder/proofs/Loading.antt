-- What a journal leaves in a table, and what of it is offered.
use Rattle.std.proofs.Common.{◌≡◌, ◌≢◌, ℕ, ◌+◌, ◌-◌, ◌^◌, ◌≤◌, Bool, true, false, cond, List, [], ◌∷◌, ◌++◌, length, Some, None, Ok, Err, Result, refl, sym, ap, subst, ◌∙◌, arith, is_some, IsSome, unwrap_or, zero-add, ◌==◌}
use Rattle.std.specs.Prelude.{min}
use Rattle.std.specs.declared.option.Option.{Option}
use Rattle.std.specs.Option.{option_map}
use Rattle.std.specs.List.{AllByRecursion, slice_split}
use Rattle.std.specs.Str.{bytes_eq}
use Rattle.std.specs.FinMap.{get, remove}
use Rattle.std.proofs.lemmas.Bool.{eqb-true, eq-eqb}
use Rattle.std.proofs.lemmas.Slice.Eq.{bytes_eq-Decides}
use Rattle.outside.specs.Files.{Folder, last_of, deleted}
use Rattle.journal_lines.specs.Keys.{is_key}
use Rattle.journal_lines.specs.Lines.{spelled, line_of, after_word, IsLine}
use Rattle.journal_lines.specs.Journal.{Lines, header, text_of, rest_of, onto, onto_read, lines_of, text_lines, after_header, journal_of}
use Rattle.journal_lines.specs.declared.lines.Line.{Line}
use Rattle.journal_lines.specs.declared.lines.Line.TheVariants.{Dirty, Clean, Read, Remove}
use Rattle.journal_lines.specs.declared.lines.Rest.{Rest}
use Rattle.journal_lines.specs.declared.lines.Rest.TheVariants.{Whole, Cut}
use Rattle.journal_lines.specs.declared.lines.JournalFault.{JournalFault}
use Rattle.disk_table.specs.UseOrder.{Entries, IsOnce, IsShort, without, value_at, newest, renewed, used, is_known}
use Rattle.disk_table.specs.Table.{TableValue, no_entries, counted, replayed, fold_from, fold, has_room_for, after_line}
use Rattle.cache_folder.specs.Offered.{Replayed, journal_name, journal_bkp, value_name, first_text, journal_text, entries_of, replay_of, clean_pair, pair_of, readable, offered_by, offered}
use Rattle.cache_folder.specs.Journals.{Says, count_of, count_in, line_count}
use Rattle.cache_folder.specs.Starts.{applied, with_rest, applied_all, table_of, entries_found, has_length, has_value, entries_staying, kept_count, OffersSame}
use Rattle.cache_folder.specs.inside.Leaving.{AreClean, AreKnown, Sweeps}
use Rattle.cache_folder.specs.inside.Loading.{IsGood, SaysTable, IsRead, IsSwept, is_whole}
use Rattle.cache_folder.proofs.Apart.{journal-bkp, flip}
use Rattle.cache_folder.proofs.Folders.{gone_same, gone_other}
use Rattle.cache_folder.proofs.Lists.{all_append, weaken}
use Rattle.cache_folder.proofs.Mapped.{all_without, all_newest, found_has}
use Rattle.cache_folder.proofs.Settling.{gone_after, others_after}

-- ---- the table after some lines

applied_entries : (t : TableValue) (lines : List Line) → option_map (λ (u : TableValue). u.entries) (applied t lines) ≡ fold_from t.entries lines
applied_entries t [] = refl
applied_entries t (line ∷ lines) =
    elim (has_room_for line t) as (λ b. option_map (λ (u : TableValue). u.entries) (cond b (applied (after_line line t) lines) None) ≡ cond b (fold_from (replayed t.entries line) lines) None) [
      | true ↦ applied_entries (after_line line t) lines
      | false ↦ refl
    ]

count_more : (n m : ℕ) → min (min n m + 1) m ≡ min (n + 1) m
count_more n m = omega arith

applied_lines : (t u : TableValue) (lines : List Line) (n m : ℕ) → t.lines ≡ min n m → m ≡ 2 ^ 64 - 1 → applied t lines ≡ Some u → u.lines ≡ min (n + length lines) m
applied_lines t u [] n m is top e = ap (λ o. (unwrap_or o t).lines) (sym e) ∙ is ∙ ap (λ k. min k m) (omega arith)
applied_lines t u (line ∷ lines) n m is top e =
    elim (has_room_for line t) as (λ b. cond b (applied (after_line line t) lines) None ≡ Some u → u.lines ≡ min (n + length (line ∷ lines)) m) [
      | true ↦ λ k. applied_lines (after_line line t) u lines (n + 1) m ((λ i. min (is i + 1) (sym top i)) ∙ count_more n m) top k ∙ ap (λ l. min l m) (omega arith)
      | false ↦ λ k. cc
    ] e

-- keys and lengths as a line may have them
good_replayed : (es : Replayed) (line : Line) → IsLine line → AllByRecursion IsGood es → AllByRecursion IsGood (replayed es line)
good_replayed es (Dirty key) line good = all_newest IsGood IsGood key None (λ e ne h. h) (line, tt) es good
good_replayed es (Clean key n) line good = all_newest IsGood IsGood key (Some n) (λ e ne h. h) line es good
good_replayed es (Read key) line good = by (value_at key es) refl where
  by : (o : Option (Option ℕ)) → value_at key es ≡ o → AllByRecursion IsGood (renewed key o es)
  by None e = good
  by (Some len) e = all_newest IsGood IsGood key len (λ x ne h. h) (found_has IsGood key len es good e) es good
good_replayed es (Remove key) line good = all_without IsGood IsGood key (λ e ne h. h) es good

applied_good : (t u : TableValue) (lines : List Line) → AllByRecursion IsLine lines → AllByRecursion IsGood t.entries → applied t lines ≡ Some u → AllByRecursion IsGood u.entries
applied_good t u [] good start e = subst (λ (w : TableValue). AllByRecursion IsGood w.entries) (ap (λ o. unwrap_or o t) e) start
applied_good t u (line ∷ lines) good start e =
    elim (has_room_for line t) as (λ b. cond b (applied (after_line line t) lines) None ≡ Some u → AllByRecursion IsGood u.entries) [
      | true ↦ λ k. applied_good (after_line line t) u lines good.1 (good_replayed t.entries line good.0 start) k
      | false ↦ λ k. cc
    ] e

-- ---- the lines of a text

abbrev pub SpellingLaw : Type 0
SpellingLaw = (text : List ℕ) (line : Line) → line_of text ≡ Some line → IsLine line × (text ≡ spelled line)

abbrev pub WholeLaw : Type 0
WholeLaw = (text : List ℕ) (lines : List Line) → journal_of text ≡ Ok (lines, Whole) → AllByRecursion IsLine lines × (text ≡ header ++ text_of lines)

abbrev AreLines : Result Lines JournalFault → Type 0
AreLines (Ok lines) = AllByRecursion IsLine lines.0
AreLines (Err fault) = Unit {0}

module _ (spelling : SpellingLaw) where
  onto_lines : (n : ℕ) (part : List ℕ) (o : Option Line) (r : Result Lines JournalFault) → line_of part ≡ o → AreLines r → AreLines (onto_read n o r)
  onto_lines n part None r is good = tt
  onto_lines n part (Some line) (Ok lines) is good = ((spelling part line is).0, good)
  onto_lines n part (Some line) (Err fault) is good = tt

  parts_lines : (n : ℕ) (parts : List (List ℕ)) → AreLines (lines_of n parts)
  parts_lines n [] = tt
  parts_lines n (part ∷ []) = tt
  parts_lines n (part ∷ (next ∷ parts)) = onto_lines n part (line_of part) (lines_of (n + 1) (next ∷ parts)) refl (parts_lines (n + 1) (next ∷ parts))

  journal_lines : (text : List ℕ) → AreLines (journal_of text)
  journal_lines text = by (after_word header text) where
    by : (o : Option (List ℕ)) → AreLines (after_header o)
    by None = tt
    by (Some rest) = parts_lines 6 (slice_split (λ b. b == 10) rest)

  -- ---- the journal that a folder has

  whole_rest : (rest : Rest) → is_whole rest ≡ true → rest ≡ Whole
  whole_rest Whole h = refl
  whole_rest Cut h = cc

  module _ (law : WholeLaw) (f : Folder) (t : TableValue) (rest : Rest) (alone : get f journal_bkp ≡ None) where
    read_lines : (text : List ℕ) (lines : List Line) (end : Rest) → get f journal_name ≡ Some text → journal_of text ≡ Ok (lines, end) → AllByRecursion IsLine lines
        → with_rest end (applied no_entries lines) ≡ Some (t, rest) → IsRead f t (is_whole rest)
    read_lines text lines end there says good e = by (applied no_entries lines) refl e where
      by : (o : Option TableValue) → applied no_entries lines ≡ o → with_rest end o ≡ Some (t, rest) → IsRead f t (is_whole rest)
      by None is e' = cc
      by (Some u) is e' =
          let pair : (u, end) ≡ (t, rest) = ap (λ o. unwrap_or o (u, end)) e' in
          let table : u ≡ t = ap (λ p. p.0) pair in
          let ends : end ≡ rest = ap (λ p. p.1) pair in
          let folds : fold lines ≡ Some t.entries = sym (applied_entries no_entries lines) ∙ ap (option_map (λ (w : TableValue). w.entries)) (is ∙ ap (λ w. Some w) table) in
          record {
            alone = alone;
            entries = sym (ap (λ o. unwrap_or o []) ((λ i. replay_of (first_text (there i) (get f journal_bkp))) ∙ ap entries_of says ∙ folds));
            good = applied_good no_entries t lines good tt (is ∙ ap (λ w. Some w) table);
            says = λ w.
                let closed : journal_of text ≡ Ok (lines, Whole) = says ∙ ap (λ x. Ok (lines, x)) (ends ∙ whole_rest rest w) in
                record {
                  says = record { lines = lines; good = good; text = there ∙ ap (λ x. Some x) (law text lines closed).1; folds = folds };
                  lines = applied_lines no_entries t lines 0 (2 ^ 64 - 1) refl refl (is ∙ ap (λ w'. Some w') table)
                      ∙ ap kept_count (zero-add (length lines) ∙ sym (ap count_in there ∙ ap count_of says));
                };
          }

    pub read_is : table_of (get f journal_name) ≡ Some (t, rest) → IsRead f t (is_whole rest)
    read_is e = by (get f journal_name) refl e where
      parsed : (text : List ℕ) (r : Result Lines JournalFault) → get f journal_name ≡ Some text → journal_of text ≡ r → AreLines r → applied_all no_entries r ≡ Some (t, rest) → IsRead f t (is_whole rest)
      parsed text (Ok lines) there says good e' = read_lines text lines.0 lines.1 there says good e'
      parsed text (Err fault) there says good e' = cc

      by : (o : Option (List ℕ)) → get f journal_name ≡ o → table_of o ≡ Some (t, rest) → IsRead f t (is_whole rest)
      by None there e' = cc
      by (Some text) there e' = parsed text (journal_of text) there refl (journal_lines text) e'

-- ---- no journal, or a bad one

replay_none : (r : Result Lines JournalFault) → applied_all no_entries r ≡ None → entries_of r ≡ None
replay_none (Ok lines) e = sym (applied_entries no_entries lines.0) ∙ by (applied no_entries lines.0) e where
  by : (o : Option TableValue) → with_rest lines.1 o ≡ None → option_map (λ (u : TableValue). u.entries) o ≡ None
  by None h = refl
  by (Some u) h = cc
replay_none (Err fault) e = refl

pub bad_offers : (f : Folder) → get f journal_bkp ≡ None → table_of (get f journal_name) ≡ None → offered f ≡ []
bad_offers f alone bad = (λ i. offered_by f (replay_of (first_text (get f journal_name) (alone i)))) ∙ ap (offered_by f) (by (get f journal_name) bad) where
  by : (o : Option (List ℕ)) → table_of o ≡ None → replay_of (first_text o None) ≡ None
  by None h = refl
  by (Some text) h = replay_none (journal_of text) h

none_offers : (f : Folder) → get f journal_bkp ≡ None → get f journal_name ≡ None → offered f ≡ []
none_offers f alone none = λ i. offered_by f (replay_of (first_text (none i) (alone i)))

pub journal_deleted : (f : Folder) → get f journal_bkp ≡ None → offered f ≡ [] → AllByRecursion (OffersSame f) (deleted journal_name f)
journal_deleted f alone bad =
    elim (is_some (get f journal_name)) as (λ b. AllByRecursion (OffersSame f) (cond b (remove f journal_name ∷ []) [])) [
      | true ↦ (none_offers _ (gone_other f journal_name journal_bkp (flip _ _ journal-bkp) ∙ alone) (gone_same f journal_name) ∙ sym bad, tt)
      | false ↦ tt
    ]

pub read_none : (f : Folder) → get f journal_bkp ≡ None → IsRead (last_of f (deleted journal_name f)) no_entries false
read_none f alone =
    let g = last_of f (deleted journal_name f) in
    let alone' : get g journal_bkp ≡ None = others_after f journal_name journal_bkp (flip _ _ journal-bkp) ∙ alone in
    record {
      alone = alone';
      entries = λ i. unwrap_or (replay_of (first_text (sym (gone_after f journal_name) i) (sym alone' i))) [];
      good = tt;
      says = λ w. cc;
    }
