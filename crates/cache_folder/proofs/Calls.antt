-- The steps on files of each call, over a folder.
use Rattle.std.proofs.Common.{◌≡◌, ◌≢◌, ℕ, ◌+◌, ◌<◌, ◌≤◌, ◌^◌, Bool, true, false, cond, List, [], ◌∷◌, ◌++◌, length, Some, None, refl, sym, ap, subst, ◌∙◌, arith, inl, inr, unwrap_or, is_some, option_and_then, IsSome}
use Rattle.std.specs.declared.option.Option.{Option}
use Rattle.std.specs.Option.{option_map}
use Rattle.std.specs.List.{AllByRecursion}
use Rattle.std.specs.FinMap.{get, insert, remove}
use Rattle.std.specs.Str.{bytes_eq}
use Rattle.std.proofs.lemmas.Slice.Eq.{bytes_eq-Decides}
use Rattle.std.proofs.lemmas.Bool.{eq-eqb}
use Rattle.std.proofs.lemmas.List.{length-append}
use Rattle.outside.specs.Files.{Folder, last_of, made, appended, renamed, deleted, moved, grown, appended_to}
use Rattle.cache_folder.proofs.Folders.{get_same, get_other, gone_same, gone_other, last_appended}
use Rattle.journal_lines.specs.Keys.{is_key}
use Rattle.journal_lines.specs.Lines.{spelled, IsLine}
use Rattle.journal_lines.specs.Journal.{ended}
use Rattle.disk_table.specs.UseOrder.{IsOnce, without, value_at, newest, renewed, used}
use Rattle.disk_table.specs.Table.{replayed}
use Rattle.journal_lines.specs.declared.lines.Line.{Line}
use Rattle.journal_lines.specs.declared.lines.Line.TheVariants.{Dirty, Clean, Read, Remove}
use Rattle.cache_folder.specs.Offered.{Replayed, journal_name, value_name, edit_name, clean_pair, pair_of, readable, offered}
use Rattle.cache_folder.specs.Steps.{Cached, Doubt, Commit, Restore, Use, Drop, values_at, stepped, offer_of, offers}
use Rattle.cache_folder.specs.Images.{OffersEither}
use Rattle.cache_folder.specs.Journals.{Says}
use Rattle.cache_folder.specs.Tables.{Kept, Table, mapped, hidden, in_journal, len_at, edit_at, begun, committed, restored, aborted, with_edit, grown_edit}
use Rattle.cache_folder.specs.Sound.{in_folder, listed, HasLength, MayHave, Fits, IsSound, SameBut, Way, text_at, abort_step}
use Rattle.cache_folder.proofs.Apart.{journal-value, journal-edit, value-edit, value-value, edit-edit, flip}
use Rattle.cache_folder.proofs.Lists.{weaken}
use Rattle.cache_folder.proofs.Mapped.{without-mapped, newest-mapped, value_at-mapped, used-mapped, all_without, all_newest, found_has, length_newest, length_mapped, length_without, length_without_known, mapped_without, once_newest, once_without, once_mapped}
use Rattle.cache_folder.proofs.Journaled.{JournalLaws, offered_says, readable_same, said_images, said_last, said_more, OneOf}

module _ (laws : JournalLaws) where
  -- ---- what the list offers is what the folder offers

  pair_is : (key : List ℕ) (n : ℕ) (o : Option (List ℕ)) → ((bytes : List ℕ) → o ≡ Some bytes → length bytes ≡ n) → offer_of key false o ≡ clean_pair key n o
  pair_is key n None h = refl
  pair_is key n (Some bytes) h = sym (ap (λ b. cond b ((key, bytes) ∷ []) []) (eq-eqb _ _ (h bytes refl)))

  offer_is : (f : Folder) (key : List ℕ) (len edit : Option ℕ) → MayHave (get f (value_name key)) len → offer_of key (is_some edit) (option_and_then (λ n. get f (value_name key)) len) ≡ pair_of f key (hidden len edit)
  offer_is f key None None h = refl
  offer_is f key None (Some w) h = refl
  offer_is f key (Some n) (Some w) h = refl
  offer_is f key (Some n) None h = pair_is key n (get f (value_name key)) h.1

  -- the file of what is readable has its length
  abbrev pub Valued : Folder → List ℕ × Kept → Type 0
  Valued f e = MayHave (get f (value_name e.0)) e.1.len

  pub offers-listed : (f : Folder) (t : Table) → AllByRecursion (Valued f) t → offers (listed f t) ≡ readable f (mapped in_journal t)
  offers-listed f [] h = refl
  offers-listed f (e ∷ t) h = (λ i. offer_is f e.0 e.1.len e.1.edit h.0 i ++ offers-listed f t h.1 i)

  pub valued : (f : Folder) (t : Table) → AllByRecursion (Fits f) t → AllByRecursion (Valued f) t
  valued f t h = weaken (Fits f) (Valued f) (λ e k. k.value) t h

  pub offered_sound : (f : Folder) (t : Table) → IsSound f t → offered f ≡ offers (listed f t)
  offered_sound f t s = offered_says laws f _ s.says ∙ sym (offers-listed f t (valued f t s.files))

  -- ---- changes that the journal does not see

  pub says_same : (f g : Folder) (es : Replayed) → get g journal_name ≡ get f journal_name → Says f es → Says g es
  says_same f g es same s = record { lines = s.lines; good = s.good; text = same ∙ s.text; folds = s.folds }

  -- an entry's files are as they were
  pub fits_same : (f g : Folder) (e : List ℕ × Kept) → get g (value_name e.0) ≡ get f (value_name e.0) → get g (edit_name e.0) ≡ get f (edit_name e.0) → Fits f e → Fits g e
  fits_same f g e value edit h = record {
    key = h.key;
    value = subst (λ o. MayHave o e.1.len) (sym value) h.value;
    edit = subst (λ o. HasLength o e.1.edit) (sym edit) h.edit;
  }

  -- the files of other keys
  pub fits_other : (f g : Folder) (key : List ℕ) → SameBut key f g → (e : List ℕ × Kept) → e.0 ≢ key → Fits f e → Fits g e
  fits_other f g key same e ne h = fits_same f g e
      (same (value_name e.0) (flip _ _ (journal-value e.0)) (value-value e.0 key ne) (value-edit e.0 key))
      (same (edit_name e.0) (flip _ _ (journal-edit e.0)) (flip _ _ (value-edit key e.0)) (edit-edit e.0 key ne)) h

  -- changes of the three files that a call on a key may change
  pub same_journal : (f : Folder) (key text : List ℕ) → SameBut key f (insert f journal_name text)
  same_journal f key text name j v e = get_other f journal_name text name j

  pub same_edit : (f : Folder) (key text : List ℕ) → SameBut key f (insert f (edit_name key) text)
  same_edit f key text name j v e = get_other f (edit_name key) text name e

  pub same_value : (f : Folder) (key text : List ℕ) → SameBut key f (insert f (value_name key) text)
  same_value f key text name j v e = get_other f (value_name key) text name v

  pub same_no_edit : (f : Folder) (key : List ℕ) → SameBut key f (remove f (edit_name key))
  same_no_edit f key name j v e = gone_other f (edit_name key) name e

  pub same_no_value : (f : Folder) (key : List ℕ) → SameBut key f (remove f (value_name key))
  same_no_value f key name j v e = gone_other f (value_name key) name v

  pub same_more : (f g h : Folder) (key : List ℕ) → SameBut key f g → SameBut key g h → SameBut key f h
  same_more f g h key x y name j v e = y name j v e ∙ x name j v e

  -- ---- a line, and the table that it leads to

  module _ (key : List ℕ) (f g : Folder) (t t' : Table) (es es' : Cached (List ℕ)) (line : Line)
      (s : Says g (mapped in_journal t)) (good : IsLine line) (leads : replayed (mapped in_journal t) line ≡ mapped in_journal t') (room : length t' ≤ 16400)
      (same : SameBut key f g) (now : readable g (mapped in_journal t) ≡ offers es) (then : readable g (mapped in_journal t') ≡ offers es') where
    room' : length (replayed (mapped in_journal t) line) ≤ 16400
    room' = omega (arith, ap length leads, length_mapped in_journal t', room)

    way_of : (c : Folder) → (text : List ℕ) × (c ≡ insert g journal_name text) × OneOf laws g (mapped in_journal t) s line good room' c → Way key f es es' c
    way_of c h = (
      elim h.2 as (λ _. OffersEither es es' c) [ inl e ↦ inl (e ∙ now) | inr e ↦ inr (e ∙ ap (readable g) leads ∙ then) ],
      subst (SameBut key f) (sym h.1) (same_more f g _ key same (same_journal g key h.0)),
    )

    pub line_images : AllByRecursion (Way key f es es') (appended journal_name (ended (spelled line)) g)
    line_images = weaken _ _ way_of _ (said_images laws g (mapped in_journal t) s line good room')

    pub line_says : Says (last_of g (appended journal_name (ended (spelled line)) g)) (mapped in_journal t')
    line_says = subst (λ r. Says (last_of g (appended journal_name (ended (spelled line)) g)) r) leads (said_more laws g (mapped in_journal t) s line good room')

    pub line_same : (name : List ℕ) → name ≢ journal_name → get (last_of g (appended journal_name (ended (spelled line)) g)) name ≡ get g name
    line_same name ne = ap (λ c. get c name) (said_last laws g (mapped in_journal t) s line good room') ∙ get_other g journal_name _ name ne

  -- ---- begin

  values_is : (f : Folder) (key : List ℕ) (o : Option Kept) → option_and_then (λ n. get f (value_name key)) (option_and_then (λ k. k.len) o) ≡ option_and_then (λ e. e.values) (option_map (in_folder f key) o)
  values_is f key None = refl
  values_is f key (Some kept) = refl

  pub listed_at : (f : Folder) (key : List ℕ) (t : Table) → option_and_then (λ n. get f (value_name key)) (len_at key t) ≡ values_at key (listed f t)
  listed_at f key t = values_is f key (value_at key t) ∙ sym (ap (option_and_then (λ e. e.values)) (value_at-mapped (in_folder f) key t))

  -- the list after a change of one key's entry and files
  pub listed_newest : (f g : Folder) (key : List ℕ) (kept : Kept) (t : Table) → ((k : List ℕ) → k ≢ key → get g (value_name k) ≡ get f (value_name k)) → listed g (newest key kept t) ≡ newest key (in_folder g key kept) (listed f t)
  listed_newest f g key kept t same =
      sym (newest-mapped (in_folder g) key kept t)
      ∙ ap (λ l. l ++ (key, in_folder g key kept) ∷ []) (without-mapped (in_folder g) key t ∙ mapped_without (in_folder f) (in_folder g) key t (λ k v ne i. record { values = option_and_then (λ n. same k ne i) v.len; marked = is_some v.edit }) ∙ sym (without-mapped (in_folder f) key t))

  pub listed_without : (f g : Folder) (key : List ℕ) (t : Table) → ((k : List ℕ) → k ≢ key → get g (value_name k) ≡ get f (value_name k)) → listed g (without key t) ≡ without key (listed f t)
  listed_without f g key t same = mapped_without (in_folder f) (in_folder g) key t (λ k v ne i. record { values = option_and_then (λ n. same k ne i) v.len; marked = is_some v.edit }) ∙ sym (without-mapped (in_folder f) key t)

  pub listed_all : (f g : Folder) (t : Table) → ((k : List ℕ) → get g (value_name k) ≡ get f (value_name k)) → listed g t ≡ listed f t
  listed_all f g [] same = refl
  listed_all f g (e ∷ t) same = λ i. (e.0, record { values = option_and_then (λ n. same e.0 i) e.1.len; marked = is_some e.1.edit }) ∷ listed_all f g t same i

  pub other_values : (f g : Folder) (key : List ℕ) → SameBut key f g → (k : List ℕ) → k ≢ key → get g (value_name k) ≡ get f (value_name k)
  other_values f g key same k ne = same (value_name k) (flip _ _ (journal-value k)) (value-value k key ne) (value-edit k key)

  -- the entry with its readable bytes as they were
  in_folder_is : (f g : Folder) (key : List ℕ) (t : Table) (edit : Option ℕ) → get g (value_name key) ≡ get f (value_name key) → in_folder g key record { len = len_at key t; edit = edit } ≡ record { values = values_at key (listed f t); marked = is_some edit }
  in_folder_is f g key t edit same i = record { values = (ap (λ o. option_and_then (λ (n : ℕ). o) (len_at key t)) same ∙ listed_at f key t) i; marked = is_some edit }

  found_fits : (f : Folder) (key : List ℕ) (t : Table) → AllByRecursion (Fits f) t → (o : Option Kept) → value_at key t ≡ o → MayHave (get f (value_name key)) (option_and_then (λ k. k.len) o)
  found_fits f key t h None e = tt
  found_fits f key t h (Some kept) e = (found_has (Fits f) key kept t h e).value

  pub value_fits : (f : Folder) (key : List ℕ) (t : Table) → AllByRecursion (Fits f) t → MayHave (get f (value_name key)) (len_at key t)
  value_fits f key t h = found_fits f key t h (value_at key t) refl

  -- ---- begin: the line, then the edit's file

  module _ (f : Folder) (t : Table) (key : List ℕ) (s : IsSound f t) (good : is_key key ≡ true) (room : length (begun key t) ≤ 16400) where
    abbrev pub BeginWay : Folder → Type 0
    BeginWay = Way key f (listed f t) (stepped (listed f t) (Doubt key))

    pub begin_here : BeginWay f
    begin_here = (inl (offered_sound f t s), λ name j v e. refl)

    begun_list : (g : Folder) → SameBut key f g → get g (value_name key) ≡ get f (value_name key) → listed g (begun key t) ≡ stepped (listed f t) (Doubt key)
    begun_list g same value = listed_newest f g key record { len = len_at key t; edit = Some 0 } t (other_values f g key same) ∙ ap (λ e. newest key e (listed f t)) (in_folder_is f g key t (Some 0) value)

    begun_valued : (g : Folder) → SameBut key f g → get g (value_name key) ≡ get f (value_name key) → AllByRecursion (Valued g) (begun key t)
    begun_valued g same value = all_newest (Valued f) (Valued g) key record { len = len_at key t; edit = Some 0 } (λ e ne h. subst (λ o. MayHave o e.1.len) (sym (other_values f g key same e.0 ne)) h) (subst (λ o. MayHave o (len_at key t)) (sym value) (value_fits f key t s.files)) t (valued f t s.files)

    begun_offers : (g : Folder) → SameBut key f g → get g (value_name key) ≡ get f (value_name key) → readable g (mapped in_journal (begun key t)) ≡ offers (stepped (listed f t) (Doubt key))
    begun_offers g same value = sym (offers-listed g (begun key t) (begun_valued g same value)) ∙ ap offers (begun_list g same value)

    begun_journal : replayed (mapped in_journal t) (Dirty key) ≡ mapped in_journal (begun key t)
    begun_journal = newest-mapped in_journal key record { len = len_at key t; edit = Some 0 } t

    pub begin_images : AllByRecursion BeginWay (appended journal_name (ended (spelled (Dirty key))) f)
    begin_images = line_images key f f t (begun key t) (listed f t) (stepped (listed f t) (Doubt key)) (Dirty key) s.says good begun_journal room (λ name j v e. refl) (sym (offers-listed f t (valued f t s.files))) (begun_offers f (λ name j v e. refl) refl)

    -- after the line
    module _ (g : Folder) (is : g ≡ last_of f (appended journal_name (ended (spelled (Dirty key))) f)) where
      g_same : (name : List ℕ) → name ≢ journal_name → get g name ≡ get f name
      g_same name ne = ap (λ c. get c name) is ∙ line_same key f f t (begun key t) (listed f t) (stepped (listed f t) (Doubt key)) (Dirty key) s.says good begun_journal room (λ name j v e. refl) (sym (offers-listed f t (valued f t s.files))) (begun_offers f (λ name j v e. refl) refl) name ne

      g_but : SameBut key f g
      g_but name j v e = g_same name j

      g_says : Says g (mapped in_journal (begun key t))
      g_says = subst (λ c. Says c (mapped in_journal (begun key t))) (sym is) (line_says key f f t (begun key t) (listed f t) (stepped (listed f t) (Doubt key)) (Dirty key) s.says good begun_journal room (λ name j v e. refl) (sym (offers-listed f t (valued f t s.files))) (begun_offers f (λ name j v e. refl) refl))

      pub begin_between : BeginWay g
      begin_between = (inr (offered_says laws g _ g_says ∙ begun_offers g g_but (g_same (value_name key) (flip _ _ (journal-value key)))), g_but)

      -- after the edit's file was made
      made_but : SameBut key f (insert g (edit_name key) [])
      made_but = same_more f g _ key g_but (same_edit g key [])

      made_value : get (insert g (edit_name key) []) (value_name key) ≡ get f (value_name key)
      made_value = get_other g (edit_name key) [] (value_name key) (value-edit key key) ∙ g_same (value_name key) (flip _ _ (journal-value key))

      made_says : Says (insert g (edit_name key) []) (mapped in_journal (begun key t))
      made_says = says_same g _ _ (get_other g (edit_name key) [] journal_name (journal-edit key)) g_says

      pub begin_made : AllByRecursion BeginWay (made (edit_name key) g)
      begin_made = ((inr (offered_says laws _ _ made_says ∙ begun_offers _ made_but made_value), made_but), tt)

      pub begin_sound : IsSound (last_of g (made (edit_name key) g)) (begun key t)
      begin_sound = record {
        says = made_says;
        files = all_newest (Fits f) (Fits (insert g (edit_name key) [])) key record { len = len_at key t; edit = Some 0 } (fits_other f _ key made_but) record {
          key = good;
          value = subst (λ o. MayHave o (len_at key t)) (sym made_value) (value_fits f key t s.files);
          edit = ([], get_same g (edit_name key) [], refl, omega arith);
        } t s.files;
        count = room;
        once = once_newest key record { len = len_at key t; edit = Some 0 } t s.once;
      }

      pub begin_text : text_at (last_of g (made (edit_name key) g)) (edit_name key) ≡ []
      begin_text = ap (λ o. unwrap_or o []) (get_same g (edit_name key) [])

      pub begin_list : listed (last_of g (made (edit_name key) g)) (begun key t) ≡ stepped (listed f t) (Doubt key)
      begin_list = begun_list _ made_but made_value

  -- ---- a line as the last change of a call

  -- after changes of the key's own files that led to g, a line leads from t to t', and nothing else changes
  module _ (key : List ℕ) (f g : Folder) (t t' : Table) (es es' : Cached (List ℕ)) (line : Line)
      (says : Says g (mapped in_journal t)) (good : IsLine line) (leads : replayed (mapped in_journal t) line ≡ mapped in_journal t')
      (same : SameBut key f g) (now : readable g (mapped in_journal t) ≡ offers es)
      (files : AllByRecursion (Fits g) t') (room : length t' ≤ 16400) (once : IsOnce t') (list : listed g t' ≡ es') where
    then_offers : readable g (mapped in_journal t') ≡ offers es'
    then_offers = sym (offers-listed g t' (valued g t' files)) ∙ ap offers list

    pub last_images : AllByRecursion (Way key f es es') (appended journal_name (ended (spelled line)) g)
    last_images = line_images key f g t t' es es' line says good leads room same now then_offers

    last_same : (name : List ℕ) → name ≢ journal_name → get (last_of g (appended journal_name (ended (spelled line)) g)) name ≡ get g name
    last_same = line_same key f g t t' es es' line says good leads room same now then_offers

    pub last_sound : IsSound (last_of g (appended journal_name (ended (spelled line)) g)) t'
    last_sound = record {
      says = line_says key f g t t' es es' line says good leads room same now then_offers;
      files = weaken (Fits g) (Fits (last_of g (appended journal_name (ended (spelled line)) g))) (λ e h. fits_same g _ e (last_same (value_name e.0) (flip _ _ (journal-value e.0))) (last_same (edit_name e.0) (flip _ _ (journal-edit e.0))) h) t' files;
      count = room;
      once = once;
    }

    pub last_list : listed (last_of g (appended journal_name (ended (spelled line)) g)) t' ≡ es'
    last_list = listed_all g _ t' (λ k. last_same (value_name k) (flip _ _ (journal-value k))) ∙ list

  -- ---- commit: the edit's file takes the name of the entry's, then the line

  edit_found : (f : Folder) (key : List ℕ) (t : Table) (n : ℕ) → AllByRecursion (Fits f) t → (o : Option Kept) → value_at key t ≡ o → option_and_then (λ k. k.edit) o ≡ Some n → HasLength (get f (edit_name key)) (Some n)
  edit_found f key t n h None e is = cc
  edit_found f key t n h (Some kept) e is = subst (HasLength (get f (edit_name key))) is (found_has (Fits f) key kept t h e).edit

  pub edit_fits : (f : Folder) (key : List ℕ) (t : Table) (n : ℕ) → AllByRecursion (Fits f) t → edit_at key t ≡ Some n → HasLength (get f (edit_name key)) (Some n)
  edit_fits f key t n h is = edit_found f key t n h (value_at key t) refl is

  key_found : (f : Folder) (key : List ℕ) (t : Table) (n : ℕ) → AllByRecursion (Fits f) t → (o : Option Kept) → value_at key t ≡ o → option_and_then (λ k. k.edit) o ≡ Some n → is_key key ≡ true
  key_found f key t n h None e is = cc
  key_found f key t n h (Some kept) e is = (found_has (Fits f) key kept t h e).key

  -- the entries of a key that is not there
  readable_apart : (f g : Folder) (key : List ℕ) (t : Table) → AllByRecursion (λ x. x.0 ≢ key) t → ((k : List ℕ) → k ≢ key → get g (value_name k) ≡ get f (value_name k)) → readable g (mapped in_journal t) ≡ readable f (mapped in_journal t)
  readable_apart f g key [] h same = refl
  readable_apart f g key (e ∷ t) h same = (λ i. pair_same e.0 (in_journal e.0 e.1) (same e.0 h.0) i ++ readable_apart f g key t h.1 same i) where
    pair_same : (k : List ℕ) (len : Option ℕ) → get g (value_name k) ≡ get f (value_name k) → pair_of g k len ≡ pair_of f k len
    pair_same k None e = refl
    pair_same k (Some n) e = ap (clean_pair k n) e

  -- a key under edit hides its file
  pub readable_hidden : (f g : Folder) (key : List ℕ) (t : Table) (n : ℕ) → IsOnce t → edit_at key t ≡ Some n → ((k : List ℕ) → k ≢ key → get g (value_name k) ≡ get f (value_name k)) → readable g (mapped in_journal t) ≡ readable f (mapped in_journal t)
  readable_hidden f g key [] n o is same = refl
  readable_hidden f g key (e ∷ t) n o is same =
      elim (bytes_eq key e.0) as (λ b. bytes_eq key e.0 ≡ b → option_and_then (λ (k : Kept). k.edit) (cond b (Some e.1) (value_at key t)) ≡ Some n → pair_of g e.0 (hidden e.1.len e.1.edit) ++ readable g (mapped in_journal t) ≡ pair_of f e.0 (hidden e.1.len e.1.edit) ++ readable f (mapped in_journal t)) [
        | true ↦ λ yes is'. (λ i. (ap (λ d. pair_of g e.0 (hidden e.1.len d)) is' ∙ sym (ap (λ d. pair_of f e.0 (hidden e.1.len d)) is')) i ++ readable_apart f g key t (weaken _ _ (λ x ne same'. ne (same' ∙ (bytes_eq-Decides key e.0).0 yes)) t o.0) same i)
        | false ↦ λ no' is'. (λ i. pair_same e.0 (hidden e.1.len e.1.edit) (same e.0 (λ eq. let yes' = (bytes_eq-Decides key e.0).1 (sym eq) in cc)) i ++ readable_hidden f g key t n o.1 is' same i)
      ] refl is
    where
      pair_same : (k : List ℕ) (len : Option ℕ) → get g (value_name k) ≡ get f (value_name k) → pair_of g k len ≡ pair_of f k len
      pair_same k None e = refl
      pair_same k (Some n) e = ap (clean_pair k n) e

  known_edit : (key : List ℕ) (t : Table) (n : ℕ) (o : Option Kept) → value_at key t ≡ o → option_and_then (λ k. k.edit) o ≡ Some n → length (without key t) + 1 ≤ length t
  known_edit key t n None e is = cc
  known_edit key t n (Some kept) e is = length_without_known key kept t e

  module _ (f : Folder) (t : Table) (key : List ℕ) (n : ℕ) (s : IsSound f t) (open' : edit_at key t ≡ Some n) where
    abbrev pub bytes_of_edit : HasLength (get f (edit_name key)) (Some n)
    bytes_of_edit = edit_fits f key t n s.files open'

    pub handed_is : bytes_of_edit.0 ≡ text_at f (edit_name key)
    handed_is = sym (ap (λ o. unwrap_or o []) bytes_of_edit.1)

    abbrev pub CommitWay : Folder → Type 0
    CommitWay = Way key f (listed f t) (stepped (listed f t) (Commit key bytes_of_edit.0))

    pub commit_here : CommitWay f
    commit_here = (inl (offered_sound f t s), λ name j v e. refl)

    module _ (g : Folder) (is : g ≡ last_of f (renamed (edit_name key) (value_name key) f)) where
      moved_is : g ≡ insert (remove f (edit_name key)) (value_name key) bytes_of_edit.0
      moved_is = is ∙ ap (λ o. last_of f (moved o (edit_name key) (value_name key) f)) bytes_of_edit.1

      moved_but : SameBut key f g
      moved_but name j v e = ap (λ c. get c name) moved_is ∙ get_other _ (value_name key) _ name v ∙ gone_other f (edit_name key) name e

      pub moved_journal : get g journal_name ≡ get f journal_name
      moved_journal = ap (λ c. get c journal_name) moved_is ∙ get_other _ (value_name key) _ journal_name (journal-value key) ∙ gone_other f (edit_name key) journal_name (journal-edit key)

      pub moved_says : Says g (mapped in_journal t)
      moved_says = says_same f g _ moved_journal s.says

      moved_now : readable g (mapped in_journal t) ≡ offers (listed f t)
      moved_now = readable_hidden f g key t n s.once open' (other_values f g key moved_but) ∙ sym (offers-listed f t (valued f t s.files))

      pub commit_between : CommitWay g
      commit_between = (inl (offered_says laws g _ moved_says ∙ moved_now), moved_but)

      moved_value : get g (value_name key) ≡ Some bytes_of_edit.0
      moved_value = ap (λ c. get c (value_name key)) moved_is ∙ get_same _ (value_name key) _

      same_bytes : (bytes : List ℕ) → Some bytes_of_edit.0 ≡ Some bytes → bytes ≡ bytes_of_edit.0
      same_bytes bytes e = sym (ap (λ o. unwrap_or o []) e)

      commit_files : AllByRecursion (Fits g) (committed key n t)
      commit_files = all_newest (Fits f) (Fits g) key record { len = Some n; edit = None } (fits_other f g key moved_but) record {
        key = key_found f key t n s.files (value_at key t) refl open';
        value = (bytes_of_edit.3, λ bytes e. ap length (same_bytes bytes (sym moved_value ∙ e)) ∙ bytes_of_edit.2);
        edit = tt;
      } t s.files

      commit_room : length (committed key n t) ≤ 16400
      commit_room = omega (arith, length_newest key record { len = Some n; edit = None } t, known_edit key t n (value_at key t) refl open', s.count)

      commit_listed : listed g (committed key n t) ≡ stepped (listed f t) (Commit key bytes_of_edit.0)
      commit_listed = listed_newest f g key record { len = Some n; edit = None } t (other_values f g key moved_but) ∙ ap (λ v. newest key record { values = v; marked = false } (listed f t)) moved_value

      pub commit_images : AllByRecursion CommitWay (appended journal_name (ended (spelled (Clean key n))) g)
      commit_images = last_images key f g t (committed key n t) (listed f t) (stepped (listed f t) (Commit key bytes_of_edit.0)) (Clean key n) moved_says (key_found f key t n s.files (value_at key t) refl open', bytes_of_edit.3)
          (newest-mapped in_journal key record { len = Some n; edit = None } t) moved_but moved_now commit_files commit_room (once_newest key record { len = Some n; edit = None } t s.once) commit_listed

      pub commit_sound : IsSound (last_of g (appended journal_name (ended (spelled (Clean key n))) g)) (committed key n t)
      commit_sound = last_sound key f g t (committed key n t) (listed f t) (stepped (listed f t) (Commit key bytes_of_edit.0)) (Clean key n) moved_says (key_found f key t n s.files (value_at key t) refl open', bytes_of_edit.3)
          (newest-mapped in_journal key record { len = Some n; edit = None } t) moved_but moved_now commit_files commit_room (once_newest key record { len = Some n; edit = None } t s.once) commit_listed

      pub commit_list : listed (last_of g (appended journal_name (ended (spelled (Clean key n))) g)) (committed key n t) ≡ stepped (listed f t) (Commit key bytes_of_edit.0)
      commit_list = last_list key f g t (committed key n t) (listed f t) (stepped (listed f t) (Commit key bytes_of_edit.0)) (Clean key n) moved_says (key_found f key t n s.files (value_at key t) refl open', bytes_of_edit.3)
          (newest-mapped in_journal key record { len = Some n; edit = None } t) moved_but moved_now commit_files commit_room (once_newest key record { len = Some n; edit = None } t s.once) commit_listed

    pub commit_moved : AllByRecursion CommitWay (renamed (edit_name key) (value_name key) f)
    commit_moved = subst (λ o. AllByRecursion CommitWay (moved o (edit_name key) (value_name key) f)) (sym bytes_of_edit.1) (commit_between (insert (remove f (edit_name key)) (value_name key) bytes_of_edit.0) (sym (ap (λ o. last_of f (moved o (edit_name key) (value_name key) f)) bytes_of_edit.1)), tt)

  -- ---- a file that is taken away

  deleted_by : (f : Folder) (name : List ℕ) (o : Option (List ℕ)) → get f name ≡ o → (get (last_of f (cond (is_some o) (remove f name ∷ []) [])) name ≡ None) × ((n : List ℕ) → n ≢ name → get (last_of f (cond (is_some o) (remove f name ∷ []) [])) n ≡ get f n)
  deleted_by f name None e = (e, λ n ne. refl)
  deleted_by f name (Some text) e = (gone_same f name, λ n ne. gone_other f name n ne)

  pub deleted_gone : (f : Folder) (name : List ℕ) → get (last_of f (deleted name f)) name ≡ None
  deleted_gone f name = (deleted_by f name (get f name) refl).0

  pub deleted_other : (f : Folder) (name n : List ℕ) → n ≢ name → get (last_of f (deleted name f)) n ≡ get f n
  deleted_other f name n ne = (deleted_by f name (get f name) refl).1 n ne

  -- what the file's absence has, the images have
  deleted_each : (P : Folder → Type 0) (f : Folder) (name : List ℕ) (b : Bool) → P (last_of f (cond b (remove f name ∷ []) [])) → AllByRecursion P (cond b (remove f name ∷ []) [])
  deleted_each P f name true h = (h, tt)
  deleted_each P f name false h = tt

  pub deleted_images : (P : Folder → Type 0) (f : Folder) (name : List ℕ) → P (last_of f (deleted name f)) → AllByRecursion P (deleted name f)
  deleted_images P f name h = deleted_each P f name (is_some (get f name)) h

  -- ---- abort: the edit's file goes, then the line

  module _ (f : Folder) (t : Table) (key : List ℕ) (old : Option ℕ) (s : IsSound f t) (good : is_key key ≡ true) (n : ℕ) (open' : edit_at key t ≡ Some n) (was : len_at key t ≡ old) where
    abbrev pub AbortWay : Folder → Type 0
    AbortWay = Way key f (listed f t) (stepped (listed f t) (abort_step old key))

    pub abort_here : AbortWay f
    abort_here = (inl (offered_sound f t s), λ name j v e. refl)

    module _ (g : Folder) (is : g ≡ last_of f (deleted (edit_name key) f)) where
      cut_same' : (name : List ℕ) → name ≢ edit_name key → get g name ≡ get f name
      cut_same' name ne = ap (λ c. get c name) is ∙ deleted_other f (edit_name key) name ne

      cut_but : SameBut key f g
      cut_but name j v e = cut_same' name e

      pub cut_journal : get g journal_name ≡ get f journal_name
      cut_journal = cut_same' journal_name (journal-edit key)

      pub cut_says : Says g (mapped in_journal t)
      cut_says = says_same f g _ (cut_same' journal_name (journal-edit key)) s.says

      cut_now : readable g (mapped in_journal t) ≡ offers (listed f t)
      cut_now = readable_same f g (mapped in_journal t) (λ k. cut_same' (value_name k) (value-edit k key)) ∙ sym (offers-listed f t (valued f t s.files))

      pub abort_between : AbortWay g
      abort_between = (inl (offered_says laws g _ cut_says ∙ cut_now), cut_but)

      restored_files : AllByRecursion (Fits g) (restored key t)
      restored_files = all_newest (Fits f) (Fits g) key record { len = len_at key t; edit = None } (fits_other f g key cut_but) record {
        key = good;
        value = subst (λ o. MayHave o (len_at key t)) (sym (cut_same' (value_name key) (value-edit key key))) (value_fits f key t s.files);
        edit = tt;
      } t s.files

      restored_room : length (restored key t) ≤ 16400
      restored_room = omega (arith, length_newest key record { len = len_at key t; edit = None } t, known_edit key t n (value_at key t) refl open', s.count)

      restored_list : listed g (restored key t) ≡ stepped (listed f t) (Restore key)
      restored_list = listed_newest f g key record { len = len_at key t; edit = None } t (other_values f g key cut_but) ∙ ap (λ e. newest key e (listed f t)) (in_folder_is f g key t None (cut_same' (value_name key) (value-edit key key)))

      dropped_files : AllByRecursion (Fits g) (without key t)
      dropped_files = all_without (Fits f) (Fits g) key (fits_other f g key cut_but) t s.files

      dropped_room : length (without key t) ≤ 16400
      dropped_room = omega (arith, length_without key t, s.count)

      abbrev restored_once : IsOnce (restored key t)
      restored_once = once_newest key record { len = len_at key t; edit = None } t s.once

      -- with a length that was readable
      module _ (m : ℕ) (some : old ≡ Some m) where
        small : MayHave (get f (value_name key)) (Some m)
        small = subst (MayHave (get f (value_name key))) (was ∙ some) (value_fits f key t s.files)

        clean_leads : replayed (mapped in_journal t) (Clean key m) ≡ mapped in_journal (restored key t)
        clean_leads = ap (λ l. newest key l (mapped in_journal t)) (sym (was ∙ some)) ∙ newest-mapped in_journal key record { len = len_at key t; edit = None } t

        abbrev to_restore : stepped (listed f t) (Restore key) ≡ stepped (listed f t) (abort_step old key)
        to_restore = ap (λ o. stepped (listed f t) (abort_step o key)) (sym some)

        pub restore_images : AllByRecursion AbortWay (appended journal_name (ended (spelled (Clean key m))) g)
        restore_images = last_images key f g t (restored key t) (listed f t) (stepped (listed f t) (abort_step old key)) (Clean key m) cut_says (good, small.0) clean_leads cut_but cut_now restored_files restored_room restored_once (restored_list ∙ to_restore)

        pub restore_sound : IsSound (last_of g (appended journal_name (ended (spelled (Clean key m))) g)) (aborted old key t)
        restore_sound = subst (λ o. IsSound (last_of g (appended journal_name (ended (spelled (Clean key m))) g)) (aborted o key t)) (sym some) (last_sound key f g t (restored key t) (listed f t) (stepped (listed f t) (abort_step old key)) (Clean key m) cut_says (good, small.0) clean_leads cut_but cut_now restored_files restored_room restored_once (restored_list ∙ to_restore))

        pub restore_list : listed (last_of g (appended journal_name (ended (spelled (Clean key m))) g)) (aborted old key t) ≡ stepped (listed f t) (abort_step old key)
        restore_list = ap (λ o. listed (last_of g (appended journal_name (ended (spelled (Clean key m))) g)) (aborted o key t)) some ∙ last_list key f g t (restored key t) (listed f t) (stepped (listed f t) (abort_step old key)) (Clean key m) cut_says (good, small.0) clean_leads cut_but cut_now restored_files restored_room restored_once (restored_list ∙ to_restore)

      -- with none
      module _ (none : old ≡ None) where
        abbrev to_drop : stepped (listed f t) (Drop key) ≡ stepped (listed f t) (abort_step old key)
        to_drop = ap (λ o. stepped (listed f t) (abort_step o key)) (sym none)

        pub drop_images : AllByRecursion AbortWay (appended journal_name (ended (spelled (Remove key))) g)
        drop_images = last_images key f g t (without key t) (listed f t) (stepped (listed f t) (abort_step old key)) (Remove key) cut_says good (without-mapped in_journal key t) cut_but cut_now dropped_files dropped_room (once_without key t s.once) (listed_without f g key t (other_values f g key cut_but) ∙ to_drop)

        pub drop_sound : IsSound (last_of g (appended journal_name (ended (spelled (Remove key))) g)) (aborted old key t)
        drop_sound = subst (λ o. IsSound (last_of g (appended journal_name (ended (spelled (Remove key))) g)) (aborted o key t)) (sym none) (last_sound key f g t (without key t) (listed f t) (stepped (listed f t) (abort_step old key)) (Remove key) cut_says good (without-mapped in_journal key t) cut_but cut_now dropped_files dropped_room (once_without key t s.once) (listed_without f g key t (other_values f g key cut_but) ∙ to_drop))

        pub drop_list : listed (last_of g (appended journal_name (ended (spelled (Remove key))) g)) (aborted old key t) ≡ stepped (listed f t) (abort_step old key)
        drop_list = ap (λ o. listed (last_of g (appended journal_name (ended (spelled (Remove key))) g)) (aborted o key t)) none ∙ last_list key f g t (without key t) (listed f t) (stepped (listed f t) (abort_step old key)) (Remove key) cut_says good (without-mapped in_journal key t) cut_but cut_now dropped_files dropped_room (once_without key t s.once) (listed_without f g key t (other_values f g key cut_but) ∙ to_drop)

    pub abort_cut : AllByRecursion AbortWay (deleted (edit_name key) f)
    abort_cut = deleted_images AbortWay f (edit_name key) (abort_between (last_of f (deleted (edit_name key) f)) refl)

  -- ---- get: the line alone

  module _ (f : Folder) (t : Table) (key : List ℕ) (kept : Kept) (s : IsSound f t) (good : is_key key ≡ true) (known : value_at key t ≡ Some kept) where
    abbrev pub UseWay : Folder → Type 0
    UseWay = Way key f (listed f t) (stepped (listed f t) (Use key))

    pub use_here : UseWay f
    use_here = (inl (offered_sound f t s), λ name j v e. refl)

    is_newest : newest key kept t ≡ used key t
    is_newest = sym (ap (λ o. renewed key o t) known)

    used_files : AllByRecursion (Fits f) (used key t)
    used_files = subst (AllByRecursion (Fits f)) is_newest (all_newest (Fits f) (Fits f) key kept (λ e ne h. h) (found_has (Fits f) key kept t s.files known) t s.files)

    used_room : length (used key t) ≤ 16400
    used_room = subst (λ (l : Table). length l ≤ 16400) is_newest (omega (arith, length_newest key kept t, length_without_known key kept t known, s.count))

    pub use_images : AllByRecursion UseWay (appended journal_name (ended (spelled (Read key))) f)
    use_images = last_images key f f t (used key t) (listed f t) (stepped (listed f t) (Use key)) (Read key) s.says good (used-mapped in_journal key t) (λ name j v e. refl) (sym (offers-listed f t (valued f t s.files))) used_files used_room (subst IsOnce is_newest (once_newest key kept t s.once)) (sym (used-mapped (in_folder f) key t))

    pub use_sound : IsSound (last_of f (appended journal_name (ended (spelled (Read key))) f)) (used key t)
    use_sound = last_sound key f f t (used key t) (listed f t) (stepped (listed f t) (Use key)) (Read key) s.says good (used-mapped in_journal key t) (λ name j v e. refl) (sym (offers-listed f t (valued f t s.files))) used_files used_room (subst IsOnce is_newest (once_newest key kept t s.once)) (sym (used-mapped (in_folder f) key t))

    pub use_list : listed (last_of f (appended journal_name (ended (spelled (Read key))) f)) (used key t) ≡ stepped (listed f t) (Use key)
    use_list = last_list key f f t (used key t) (listed f t) (stepped (listed f t) (Use key)) (Read key) s.says good (used-mapped in_journal key t) (λ name j v e. refl) (sym (offers-listed f t (valued f t s.files))) used_files used_room (subst IsOnce is_newest (once_newest key kept t s.once)) (sym (used-mapped (in_folder f) key t))

  -- ---- remove: the entry's file goes, then the line

  -- without its file a key offers nothing
  readable_gone : (f g : Folder) (key : List ℕ) (t : Table) → get g (value_name key) ≡ None → ((k : List ℕ) → k ≢ key → get g (value_name k) ≡ get f (value_name k)) → readable g (mapped in_journal t) ≡ readable f (mapped in_journal (without key t))
  readable_gone f g key [] gone same = refl
  readable_gone f g key (e ∷ t) gone same =
      elim (bytes_eq key e.0) as (λ b. bytes_eq key e.0 ≡ b → pair_of g e.0 (in_journal e.0 e.1) ++ readable g (mapped in_journal t) ≡ readable f (mapped in_journal (cond b (without key t) (e ∷ without key t)))) [
        | true ↦ λ yes'. ap (λ l. l ++ readable g (mapped in_journal t)) (pair_gone e.0 (in_journal e.0 e.1) (ap (λ k. get g (value_name k)) (sym ((bytes_eq-Decides key e.0).0 yes')) ∙ gone)) ∙ readable_gone f g key t gone same
        | false ↦ λ no' i. pair_same e.0 (in_journal e.0 e.1) (same e.0 (λ eq. let yes' = (bytes_eq-Decides key e.0).1 (sym eq) in cc)) i ++ readable_gone f g key t gone same i
      ] refl
    where
      pair_gone : (k : List ℕ) (len : Option ℕ) → get g (value_name k) ≡ None → pair_of g k len ≡ []
      pair_gone k None e = refl
      pair_gone k (Some n) e = ap (clean_pair k n) e

      pair_same : (k : List ℕ) (len : Option ℕ) → get g (value_name k) ≡ get f (value_name k) → pair_of g k len ≡ pair_of f k len
      pair_same k None e = refl
      pair_same k (Some n) e = ap (clean_pair k n) e

  module _ (f : Folder) (t : Table) (key : List ℕ) (s : IsSound f t) (good : is_key key ≡ true) where
    abbrev pub DropWay : Folder → Type 0
    DropWay = Way key f (listed f t) (stepped (listed f t) (Drop key))

    pub remove_here : DropWay f
    remove_here = (inl (offered_sound f t s), λ name j v e. refl)

    module _ (g : Folder) (is : g ≡ last_of f (deleted (value_name key) f)) where
      gone_same' : (name : List ℕ) → name ≢ value_name key → get g name ≡ get f name
      gone_same' name ne = ap (λ c. get c name) is ∙ deleted_other f (value_name key) name ne

      gone_but : SameBut key f g
      gone_but name j v e = gone_same' name v

      pub gone_journal : get g journal_name ≡ get f journal_name
      gone_journal = gone_same' journal_name (journal-value key)

      pub gone_says : Says g (mapped in_journal t)
      gone_says = says_same f g _ (gone_same' journal_name (journal-value key)) s.says

      gone_files : AllByRecursion (Fits g) (without key t)
      gone_files = all_without (Fits f) (Fits g) key (fits_other f g key gone_but) t s.files

      gone_list : listed g (without key t) ≡ stepped (listed f t) (Drop key)
      gone_list = listed_without f g key t (other_values f g key gone_but)

      f_list : listed f (without key t) ≡ stepped (listed f t) (Drop key)
      f_list = sym (without-mapped (in_folder f) key t)

      gone_now : readable g (mapped in_journal t) ≡ offers (stepped (listed f t) (Drop key))
      gone_now = readable_gone f g key t (ap (λ c. get c (value_name key)) is ∙ deleted_gone f (value_name key)) (other_values f g key gone_but)
          ∙ sym (offers-listed f (without key t) (all_without (Valued f) (Valued f) key (λ e ne h. h) t (valued f t s.files))) ∙ ap offers f_list

      pub remove_between : DropWay g
      remove_between = (inr (offered_says laws g _ gone_says ∙ gone_now), gone_but)

      late : (c : Folder) → Way key f (stepped (listed f t) (Drop key)) (stepped (listed f t) (Drop key)) c → DropWay c
      late c h = (elim h.0 as (λ _. OffersEither (listed f t) (stepped (listed f t) (Drop key)) c) [ inl e ↦ inr e | inr e ↦ inr e ], h.1)

      gone_room : length (without key t) ≤ 16400
      gone_room = omega (arith, length_without key t, s.count)

      pub remove_images : AllByRecursion DropWay (appended journal_name (ended (spelled (Remove key))) g)
      remove_images = weaken _ _ late (appended journal_name (ended (spelled (Remove key))) g) (last_images key f g t (without key t) (stepped (listed f t) (Drop key)) (stepped (listed f t) (Drop key)) (Remove key) gone_says good (without-mapped in_journal key t) gone_but gone_now gone_files gone_room (once_without key t s.once) gone_list)

      pub remove_sound : IsSound (last_of g (appended journal_name (ended (spelled (Remove key))) g)) (without key t)
      remove_sound = last_sound key f g t (without key t) (stepped (listed f t) (Drop key)) (stepped (listed f t) (Drop key)) (Remove key) gone_says good (without-mapped in_journal key t) gone_but gone_now gone_files gone_room (once_without key t s.once) gone_list

      pub remove_list : listed (last_of g (appended journal_name (ended (spelled (Remove key))) g)) (without key t) ≡ stepped (listed f t) (Drop key)
      remove_list = last_list key f g t (without key t) (stepped (listed f t) (Drop key)) (stepped (listed f t) (Drop key)) (Remove key) gone_says good (without-mapped in_journal key t) gone_but gone_now gone_files gone_room (once_without key t s.once) gone_list

    pub remove_gone : AllByRecursion DropWay (deleted (value_name key) f)
    remove_gone = deleted_images DropWay f (value_name key) (remove_between (last_of f (deleted (value_name key) f)) refl)

  -- ---- write: the edit's file grows

  -- entries of other keys stay
  grown_apart : (key : List ℕ) (n : ℕ) (t : Table) → AllByRecursion (λ x. x.0 ≢ key) t → grown_edit key n t ≡ t
  grown_apart key n [] a = refl
  grown_apart key n (e ∷ t) a = (λ i. (e.0, other (bytes_eq key e.0) refl i) ∷ grown_apart key n t a.1 i) where
    other : (b : Bool) → bytes_eq key e.0 ≡ b → with_edit key n e.0 e.1 ≡ e.1
    other true yes' = absurd (a.0 (sym ((bytes_eq-Decides key e.0).0 yes')))
    other false no' = ap (λ b. cond b (let k : Kept = record { len = e.1.len; edit = Some n } in k) e.1) no'

  -- what sees of an edit only that it is there sees no growth
  module _ {W : Type 0} (h : List ℕ → Kept → W) (blind : (k : List ℕ) (len : Option ℕ) (a b : ℕ) → h k record { len = len; edit = Some a } ≡ h k record { len = len; edit = Some b }) where
    under : (k : List ℕ) (kept : Kept) (m n : ℕ) → kept.edit ≡ Some m → h k record { len = kept.len; edit = Some n } ≡ h k kept
    under k kept m n e = blind k kept.len n m ∙ ap (λ d. h k record { len = kept.len; edit = d }) (sym e)

    pub mapped_grown : (key : List ℕ) (m n : ℕ) (t : Table) → IsOnce t → edit_at key t ≡ Some m → mapped h (grown_edit key n t) ≡ mapped h t
    mapped_grown key m n [] o is = refl
    mapped_grown key m n (e ∷ t) o is =
        elim (bytes_eq key e.0) as (λ b. bytes_eq key e.0 ≡ b → option_and_then (λ (k : Kept). k.edit) (cond b (Some e.1) (value_at key t)) ≡ Some m → (e.0, h e.0 (cond b (let k : Kept = record { len = e.1.len; edit = Some n } in k) e.1)) ∷ mapped h (grown_edit key n t) ≡ (e.0, h e.0 e.1) ∷ mapped h t) [
          | true ↦ λ yes' is'. (λ i. (e.0, under e.0 e.1 m n is' i) ∷ mapped h (grown_apart key n t (weaken _ _ (λ x ne same'. ne (same' ∙ (bytes_eq-Decides key e.0).0 yes')) t o.0) i))
          | false ↦ λ no' is'. (λ i. (e.0, h e.0 e.1) ∷ mapped_grown key m n t o.1 is' i)
        ] refl is

  module _ (f : Folder) (t : Table) (key : List ℕ) (n : ℕ) (s : IsSound f t) (open' : edit_at key t ≡ Some n) where
    abbrev pub StayWay : Folder → Type 0
    StayWay = Way key f (listed f t) (listed f t)

    pub write_here : StayWay f
    write_here = (inl (offered_sound f t s), λ name j v e. refl)

    pub edit_there : IsSome (get f (edit_name key))
    edit_there = ap is_some (edit_fits f key t n s.files open').1

    edited_says : (text : List ℕ) → Says (insert f (edit_name key) text) (mapped in_journal t)
    edited_says text = says_same f _ _ (get_other f (edit_name key) text journal_name (journal-edit key)) s.says

    edited_way : (text : List ℕ) → StayWay (insert f (edit_name key) text)
    edited_way text = (inl (offered_says laws _ _ (edited_says text) ∙ readable_same f _ (mapped in_journal t) (λ k. get_other f (edit_name key) text (value_name k) (value-edit k key)) ∙ sym (offers-listed f t (valued f t s.files))), same_edit f key text)

    grown_images : (text bytes : List ℕ) → AllByRecursion StayWay (grown (edit_name key) text bytes f)
    grown_images text [] = tt
    grown_images text (b ∷ bytes) = (edited_way (text ++ b ∷ []), grown_images (text ++ b ∷ []) bytes)

    pub write_images : (bytes : List ℕ) → AllByRecursion StayWay (appended (edit_name key) bytes f)
    write_images bytes = grown_by (get f (edit_name key)) where
      grown_by : (o : Option (List ℕ)) → AllByRecursion StayWay (appended_to o (edit_name key) bytes f)
      grown_by None = tt
      grown_by (Some text) = grown_images text bytes

    module _ (bytes : List ℕ) (small : n + length bytes < 2 ^ 40) where
      abbrev old : HasLength (get f (edit_name key)) (Some n)
      old = edit_fits f key t n s.files open'

      left : last_of f (appended (edit_name key) bytes f) ≡ insert f (edit_name key) (old.0 ++ bytes)
      left = last_appended f (edit_name key) old.0 bytes old.1

      fits_grown : (e : List ℕ × Kept) → Fits f e → Fits (insert f (edit_name key) (old.0 ++ bytes)) (e.0, with_edit key (n + length bytes) e.0 e.1)
      fits_grown e h =
          elim (bytes_eq key e.0) as (λ b. bytes_eq key e.0 ≡ b → Fits (insert f (edit_name key) (old.0 ++ bytes)) (e.0, cond b (let k : Kept = record { len = e.1.len; edit = Some (n + length bytes) } in k) e.1)) [
            | true ↦ λ yes'. record {
              key = h.key;
              value = subst (λ o. MayHave o e.1.len) (sym (get_other f (edit_name key) _ (value_name e.0) (value-edit e.0 key))) h.value;
              edit = (old.0 ++ bytes, ap (λ k. get (insert f (edit_name key) (old.0 ++ bytes)) (edit_name k)) (sym ((bytes_eq-Decides key e.0).0 yes')) ∙ get_same f (edit_name key) _, omega (arith, length-append old.0 bytes, old.2), small);
            }
            | false ↦ λ no'. fits_same f _ e (get_other f (edit_name key) _ (value_name e.0) (value-edit e.0 key)) (get_other f (edit_name key) _ (edit_name e.0) (edit-edit e.0 key (λ eq. let yes' = (bytes_eq-Decides key e.0).1 (sym eq) in cc))) h
          ] refl

      all_grown : (u : Table) → AllByRecursion (Fits f) u → AllByRecursion (Fits (insert f (edit_name key) (old.0 ++ bytes))) (grown_edit key (n + length bytes) u)
      all_grown [] h = tt
      all_grown (e ∷ u) h = (fits_grown e h.0, all_grown u h.1)

      there : IsSound (insert f (edit_name key) (old.0 ++ bytes)) (grown_edit key (n + length bytes) t)
      there = record {
        says = subst (Says (insert f (edit_name key) (old.0 ++ bytes))) (sym (mapped_grown in_journal (λ k len a b. refl) key n (n + length bytes) t s.once open')) (edited_says (old.0 ++ bytes));
        files = all_grown t s.files;
        count = omega (arith, length_mapped (with_edit key (n + length bytes)) t, s.count);
        once = once_mapped (with_edit key (n + length bytes)) t s.once;
      }

      pub write_text : text_at (last_of f (appended (edit_name key) bytes f)) (edit_name key) ≡ text_at f (edit_name key) ++ bytes
      write_text = ap (λ c. text_at c (edit_name key)) left ∙ ap (λ o. unwrap_or o []) (get_same f (edit_name key) _) ∙ ap (λ l. l ++ bytes) (sym (ap (λ o. unwrap_or o []) old.1))

      pub write_sound : IsSound (last_of f (appended (edit_name key) bytes f)) (grown_edit key (n + length bytes) t)
      write_sound = subst (λ c. IsSound c (grown_edit key (n + length bytes) t)) (sym left) there

      pub write_list : listed (last_of f (appended (edit_name key) bytes f)) (grown_edit key (n + length bytes) t) ≡ listed f t
      write_list = ap (λ c. listed c (grown_edit key (n + length bytes) t)) left
          ∙ listed_all f _ (grown_edit key (n + length bytes) t) (λ k. get_other f (edit_name key) _ (value_name k) (value-edit k key))
          ∙ mapped_grown (in_folder f) (λ k len a b. refl) key n (n + length bytes) t s.once open'
