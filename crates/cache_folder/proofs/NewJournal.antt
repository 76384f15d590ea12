-- The steps of a rebuild on files, over a folder.
use Rattle.std.proofs.Common.{◌≡◌, ◌≢◌, ℕ, ◌+◌, ◌≤◌, true, false, cond, List, [], ◌∷◌, ◌++◌, length, Some, None, refl, sym, ap, subst, ◌∙◌, arith, inl, inr, nat_le, append_assoc, append-nil, take}
use Rattle.std.specs.declared.option.Option.{Option}
use Rattle.std.specs.List.{AllByRecursion}
use Rattle.std.specs.Str.{bytes_eq}
use Rattle.std.specs.FinMap.{get, insert, remove}
use Rattle.std.proofs.lemmas.Bool.{le-leb}
use Rattle.std.proofs.lemmas.Slice.Eq.{bytes_eq-Decides}
use Rattle.outside.specs.Files.{Folder, last_of, made, appended, renamed, deleted, moved, grown, appended_to}
use Rattle.cache_folder.proofs.Folders.{get_same, get_other, gone_same, gone_other, last_appended, put_put}
use Rattle.journal_lines.specs.Lines.{spelled, IsLine}
use Rattle.journal_lines.specs.Journal.{header, ended, text_of}
use Rattle.disk_table.specs.UseOrder.{IsOnce, without, newest}
use Rattle.disk_table.specs.Table.{replayed, fold_from}
use Rattle.journal_lines.specs.declared.lines.Line.{Line}
use Rattle.cache_folder.specs.Offered.{Replayed, journal_name, journal_tmp, journal_bkp, value_name, edit_name, first_text, journal_text, replay_of, offered_by, offered}
use Rattle.cache_folder.specs.Journals.{Says}
use Rattle.cache_folder.specs.Tables.{Kept, Table, mapped, hidden, in_journal, line_for, lines_for}
use Rattle.cache_folder.specs.Sound.{listed, Fits, IsKept, IsSound, SameEntries, RebuildWay}
use Rattle.cache_folder.proofs.Apart.{journal-value, journal-edit, value-tmp, value-bkp, edit-tmp, edit-bkp, journal-tmp, journal-bkp, tmp-bkp, flip}
use Rattle.cache_folder.proofs.Lists.{weaken}
use Rattle.cache_folder.proofs.Mapped.{mapped-append, length_mapped}
use Rattle.cache_folder.proofs.Journaled.{JournalLaws, offered_says, readable_same}
use Rattle.cache_folder.proofs.Openings.{offered_alike}
use Rattle.cache_folder.proofs.Calls.{offers-listed, valued, says_same, fits_same, listed_all, deleted_other}

module _ (laws : JournalLaws) where
  -- ---- a new journal leaves the table's entries

  replayed_for : (es : Replayed) (key : List ℕ) (o : Option ℕ) → replayed es (line_for key o) ≡ newest key o es
  replayed_for es key None = refl
  replayed_for es key (Some n) = refl

  without_apart : {V : Type 0} (key : List ℕ) (es : List (List ℕ × V)) → AllByRecursion (λ x. x.0 ≢ key) es → without key es ≡ es
  without_apart key [] a = refl
  without_apart key (e ∷ es) a =
      elim (bytes_eq key e.0) as (λ b. bytes_eq key e.0 ≡ b → cond b (without key es) (e ∷ without key es) ≡ e ∷ es) [
        | true ↦ λ yes'. absurd (a.0 (sym ((bytes_eq-Decides key e.0).0 yes')))
        | false ↦ λ no'. ap (λ l. e ∷ l) (without_apart key es a.1)
      ] refl

  -- the keys of a front differ from the next key
  apart_front : {V : Type 0} (xs : List (List ℕ × V)) (e : List ℕ × V) (ys : List (List ℕ × V)) → IsOnce (xs ++ e ∷ ys) → AllByRecursion (λ x. x.0 ≢ e.0) xs
  apart_front {V} [] e ys o = tt
  apart_front {V} (x ∷ xs) e ys o = (λ same. (at_middle xs o.0) (sym same), apart_front xs e ys o.1) where
    at_middle : (zs : List (List ℕ × V)) → AllByRecursion (λ z. z.0 ≢ x.0) (zs ++ e ∷ ys) → e.0 ≢ x.0
    at_middle [] a = a.0
    at_middle (z ∷ zs) a = at_middle zs a.1

  mapped_apart : (key : List ℕ) (t : Table) → AllByRecursion (λ x. x.0 ≢ key) t → AllByRecursion (λ x. x.0 ≢ key) (mapped in_journal t)
  mapped_apart key [] a = tt
  mapped_apart key (e ∷ t) a = (a.0, mapped_apart key t a.1)

  fold_table : (done rest : Table) → IsOnce (done ++ rest) → length (done ++ rest) ≤ 16400 → fold_from (mapped in_journal done) (lines_for rest) ≡ Some (mapped in_journal (done ++ rest))
  fold_table done [] once room = ap (λ l. Some (mapped in_journal l)) (sym (append-nil done))
  fold_table done (e ∷ rest) once room =
      let next : replayed (mapped in_journal done) (line_for e.0 (in_journal e.0 e.1)) ≡ mapped in_journal (done ++ e ∷ []) =
      replayed_for _ e.0 (in_journal e.0 e.1)
      ∙ ap (λ l. l ++ (e.0, in_journal e.0 e.1) ∷ []) (without_apart e.0 (mapped in_journal done) (mapped_apart e.0 done (apart_front done e rest once)))
      ∙ sym (mapped-append in_journal done (e ∷ [])) in
      let split : (done ++ e ∷ []) ++ rest ≡ done ++ e ∷ rest = append_assoc done (e ∷ []) rest in
      ap (λ r. cond (nat_le (length r) 16400) (fold_from r (lines_for rest)) None) next
      ∙ ap (λ b. cond b (fold_from (mapped in_journal (done ++ e ∷ [])) (lines_for rest)) None) (le-leb _ _ (omega (arith, length_mapped in_journal (done ++ e ∷ []), room, ap length split, longer (done ++ e ∷ []) rest)))
      ∙ fold_table (done ++ e ∷ []) rest (subst IsOnce (sym split) once) (omega (arith, room, ap length split))
      ∙ ap (λ l. Some (mapped in_journal l)) split
    where
      longer : (xs ys : Table) → length xs ≤ length (xs ++ ys)
      longer [] ys = omega arith
      longer (x ∷ xs) ys = omega (arith, longer xs ys)

  good_for : (key : List ℕ) (len edit : Option ℕ) (f : Folder) → Fits f (key, record { len = len; edit = edit }) → IsLine (line_for key (hidden len edit))
  good_for key None None f h = h.key
  good_for key None (Some w) f h = h.key
  good_for key (Some n) (Some w) f h = h.key
  good_for key (Some n) None f h = (h.key, h.value.0)

  pub good_lines : (f : Folder) (t : Table) → AllByRecursion (Fits f) t → AllByRecursion IsLine (lines_for t)
  good_lines f [] h = tt
  good_lines f (e ∷ t) h = (good_for e.0 e.1.len e.1.edit f h.0, good_lines f t h.1)

  -- ---- the calls

  pub entries_values : (f g : Folder) → SameEntries f g → (k : List ℕ) → get g (value_name k) ≡ get f (value_name k)
  entries_values f g same k = same (value_name k) (flip _ _ (journal-value k)) (value-tmp k) (value-bkp k)

  pub entries_edits : (f g : Folder) → SameEntries f g → (k : List ℕ) → get g (edit_name k) ≡ get f (edit_name k)
  entries_edits f g same k = same (edit_name k) (flip _ _ (journal-edit k)) (edit-tmp k) (edit-bkp k)

  pub kept_same : (f g : Folder) (t : Table) → SameEntries f g → IsKept f t → IsKept g t
  kept_same f g t same k = record { files = weaken (Fits f) (Fits g) (λ e h. fits_same laws f g e (entries_values f g same e.0) (entries_edits f g same e.0) h) t k.files; count = k.count; once = k.once }

  module _ (f : Folder) (t : Table) (k : IsKept f t) where
    abbrev pub new_text : List ℕ
    new_text = header ++ text_of (lines_for t)

    pub rebuild_here : RebuildWay f t f
    rebuild_here = (inl refl, λ name j tm b. refl)

    -- only `journal.tmp` differs
    tmp_way : (text : List ℕ) (g : Folder) → g ≡ insert f journal_tmp text → RebuildWay f t g
    tmp_way text g is = (
      inl (ap offered is ∙ offered_alike f _ (get_other f journal_tmp text journal_name journal-tmp) (get_other f journal_tmp text journal_bkp (flip _ _ tmp-bkp)) (λ key. get_other f journal_tmp text (value_name key) (value-tmp key))),
      λ name j tm b. ap (λ c. get c name) is ∙ get_other f journal_tmp text name tm,
    )

    pub tmp_made : AllByRecursion (RebuildWay f t) (made journal_tmp f)
    tmp_made = (tmp_way [] _ refl, tt)

    pub made_way : RebuildWay f t (last_of f (made journal_tmp f))
    made_way = tmp_way [] _ refl

    tmp_grows : (text bytes : List ℕ) → AllByRecursion (RebuildWay f t) (grown journal_tmp text bytes (insert f journal_tmp []))
    tmp_grows text [] = tt
    tmp_grows text (b ∷ bytes) = (tmp_way (text ++ b ∷ []) _ (put_put f journal_tmp [] (text ++ b ∷ [])), tmp_grows (text ++ b ∷ []) bytes)

    pub tmp_filled : AllByRecursion (RebuildWay f t) (appended journal_tmp new_text (last_of f (made journal_tmp f)))
    tmp_filled = subst (λ o. AllByRecursion (RebuildWay f t) (appended_to o journal_tmp new_text (insert f journal_tmp []))) (sym (get_same f journal_tmp [])) (tmp_grows [] new_text)

    pub filled_is : last_of (last_of f (made journal_tmp f)) (appended journal_tmp new_text (last_of f (made journal_tmp f))) ≡ insert f journal_tmp new_text
    filled_is = last_appended (insert f journal_tmp []) journal_tmp [] new_text (get_same f journal_tmp []) ∙ put_put f journal_tmp [] new_text

    -- the old journal steps back
    module _ (g : Folder) (is : g ≡ insert f journal_tmp new_text) where
      pub filled_way : RebuildWay f t g
      filled_way = tmp_way new_text g is

      g_tmp : get g journal_tmp ≡ Some new_text
      g_tmp = ap (λ c. get c journal_tmp) is ∙ get_same f journal_tmp new_text

      g_entries : SameEntries f g
      g_entries = filled_way.1

      offered_g : offered g ≡ offered f
      offered_g = ap offered is ∙ offered_alike f _ (get_other f journal_tmp new_text journal_name journal-tmp) (get_other f journal_tmp new_text journal_bkp (flip _ _ tmp-bkp)) (λ key. get_other f journal_tmp new_text (value_name key) (value-tmp key))

      back_of : (o : Option (List ℕ)) → get g journal_name ≡ o → (offered (last_of g (moved o journal_name journal_bkp g)) ≡ offered g) × (get (last_of g (moved o journal_name journal_bkp g)) journal_tmp ≡ get g journal_tmp) × SameEntries g (last_of g (moved o journal_name journal_bkp g))
      back_of None e = (refl, refl, λ name j tm b. refl)
      back_of (Some text) e = (
        (λ i. offered_by (insert (remove g journal_name) journal_bkp text) (replay_of (first_text (here i) (there i)))) ∙ ap (λ r. offered_by (insert (remove g journal_name) journal_bkp text) (replay_of r)) (sym (ap (λ o. first_text o (get g journal_bkp)) e)) ∙ by_replay (replay_of (journal_text g)),
        get_other _ journal_bkp text journal_tmp tmp-bkp ∙ gone_other g journal_name journal_tmp (flip _ _ journal-tmp),
        λ name j tm b. get_other _ journal_bkp text name b ∙ gone_other g journal_name name j,
      ) where
        here : get (insert (remove g journal_name) journal_bkp text) journal_name ≡ None
        here = get_other _ journal_bkp text journal_name journal-bkp ∙ gone_same g journal_name

        there : get (insert (remove g journal_name) journal_bkp text) journal_bkp ≡ Some text
        there = get_same _ journal_bkp text

        by_replay : (o : Option Replayed) → offered_by (insert (remove g journal_name) journal_bkp text) o ≡ offered_by g o
        by_replay None = refl
        by_replay (Some es) = readable_same g _ es (λ key. get_other _ journal_bkp text (value_name key) (value-bkp key) ∙ gone_other g journal_name (value_name key) (flip _ _ (journal-value key)))

      pub back_way : RebuildWay f t (last_of g (renamed journal_name journal_bkp g))
      back_way = (inl ((back_of _ refl).0 ∙ offered_g), λ name j tm b. (back_of _ refl).2 name j tm b ∙ g_entries name j tm b)

      back_each : (o : Option (List ℕ)) → RebuildWay f t (last_of g (moved o journal_name journal_bkp g)) → AllByRecursion (RebuildWay f t) (moved o journal_name journal_bkp g)
      back_each None h = tt
      back_each (Some text) h = (h, tt)

      pub back_images : AllByRecursion (RebuildWay f t) (renamed journal_name journal_bkp g)
      back_images = back_each (get g journal_name) back_way

      -- the new journal takes its place
      module _ (h : Folder) (is' : h ≡ last_of g (renamed journal_name journal_bkp g)) where
        h_tmp : get h journal_tmp ≡ Some new_text
        h_tmp = ap (λ c. get c journal_tmp) is' ∙ (back_of _ refl).1 ∙ g_tmp

        h_entries : SameEntries f h
        h_entries name j tm b = ap (λ c. get c name) is' ∙ back_way.1 name j tm b

        placed_is : last_of h (renamed journal_tmp journal_name h) ≡ insert (remove h journal_tmp) journal_name new_text
        placed_is = ap (λ o. last_of h (moved o journal_tmp journal_name h)) h_tmp

        n_entries : SameEntries f (insert (remove h journal_tmp) journal_name new_text)
        n_entries name j tm b = get_other _ journal_name new_text name j ∙ gone_other h journal_tmp name tm ∙ h_entries name j tm b

        n_says : Says (insert (remove h journal_tmp) journal_name new_text) (mapped in_journal t)
        n_says = record { lines = lines_for t; good = good_lines f t k.files; text = get_same _ journal_name new_text; folds = fold_table [] t k.once k.count }

        n_way : RebuildWay f t (insert (remove h journal_tmp) journal_name new_text)
        n_way = (inr (offered_says laws _ _ n_says ∙ readable_same f _ (mapped in_journal t) (entries_values f _ n_entries) ∙ sym (offers-listed laws f t (valued laws f t k.files))), n_entries)

        pub place_way : RebuildWay f t (last_of h (renamed journal_tmp journal_name h))
        place_way = subst (RebuildWay f t) (sym placed_is) n_way

        pub place_images : AllByRecursion (RebuildWay f t) (renamed journal_tmp journal_name h)
        place_images = subst (λ o. AllByRecursion (RebuildWay f t) (moved o journal_tmp journal_name h)) (sym h_tmp) (n_way, tt)

        -- the old journal goes
        module _ (n : Folder) (is'' : n ≡ last_of h (renamed journal_tmp journal_name h)) where
          abbrev end : Folder
          end = last_of n (deleted journal_bkp n)

          end_entries : SameEntries f end
          end_entries name j tm b = deleted_other laws n journal_bkp name b ∙ ap (λ c. get c name) (is'' ∙ placed_is) ∙ n_entries name j tm b

          pub end_text : get end journal_name ≡ Some new_text
          end_text = deleted_other laws n journal_bkp journal_name journal-bkp ∙ ap (λ c. get c journal_name) (is'' ∙ placed_is) ∙ get_same _ journal_name new_text

          end_says : Says end (mapped in_journal t)
          end_says = says_same laws _ end _ (deleted_other laws n journal_bkp journal_name journal-bkp ∙ ap (λ c. get c journal_name) (is'' ∙ placed_is)) n_says

          pub end_way : RebuildWay f t end
          end_way = (inr (offered_says laws _ _ end_says ∙ readable_same f _ (mapped in_journal t) (entries_values f _ end_entries) ∙ sym (offers-listed laws f t (valued laws f t k.files))), end_entries)

          pub end_sound : IsSound end t
          end_sound = let kept = kept_same f end t end_entries k in record { says = end_says; files = kept.files; count = kept.count; once = kept.once }

          pub end_list : listed end t ≡ listed f t
          end_list = listed_all laws f end t (entries_values f end end_entries)

  -- ---- the text of a new journal, entry by entry

  text_of-append : (xs ys : List Line) → text_of (xs ++ ys) ≡ text_of xs ++ text_of ys
  text_of-append [] ys = refl
  text_of-append (x ∷ xs) ys = ap (λ t. ended (spelled x) ++ t) (text_of-append xs ys) ∙ sym (append_assoc (ended (spelled x)) (text_of xs) (text_of ys))

  lines_for-append : (t u : Table) → lines_for (t ++ u) ≡ lines_for t ++ lines_for u
  lines_for-append [] u = refl
  lines_for-append (e ∷ t) u = ap (λ l. line_for e.0 (in_journal e.0 e.1) ∷ l) (lines_for-append t u)

  pub table_text_more : (t : Table) (i : ℕ) (e : List ℕ × Kept) → take (i + 1) t ≡ take i t ++ e ∷ [] → text_of (lines_for (take (i + 1) t)) ≡ text_of (lines_for (take i t)) ++ ended (spelled (line_for e.0 (in_journal e.0 e.1)))
  table_text_more t i e more = ap (λ l. text_of (lines_for l)) more ∙ ap text_of (lines_for-append (take i t) (e ∷ [])) ∙ text_of-append (lines_for (take i t)) (line_for e.0 (in_journal e.0 e.1) ∷ []) ∙ ap (λ l. text_of (lines_for (take i t)) ++ l) (append-nil (ended (spelled (line_for e.0 (in_journal e.0 e.1)))))
