-- What a table keeps of each key, and after each change.
use Rattle.std.proofs.Common.{◌≡◌, ◌≢◌, ℕ, ◌<◌, ◌≤◌, Bool, true, false, cond, List, [], ◌∷◌, ◌++◌, length, Some, None, refl, subst, sym, ap, ◌∙◌, IsSome, is_some, option_and_then}
use Rattle.std.specs.Prelude.{set, get_or}
use Rattle.std.specs.declared.option.Option.{Option}
use Rattle.std.specs.Option.{option_map, option_flatten}
use Rattle.std.specs.Str.{bytes_eq}
use Rattle.std.proofs.lemmas.List.{get_or-set_same, get_or-set_other}
use Rattle.std.proofs.lemmas.Slice.Eq.{bytes_eq-Decides}
use Rattle.disk_table.specs.UseOrder.{Entries, without, value_at, newest, renewed, used, is_known}
use Rattle.disk_table.specs.Table.{TableValue, edit_of, free_edit, key_of_edit, is_under_edit, clean_length, ended_with, closed, touched, forgotten, counted}
use Rattle.cache_folder.specs.Tables.{Table, Kept, CacheTableValue, mapped, kept_by, kept, len_at, edit_at, begun, committed, aborted, grown_edit}
use Rattle.cache_folder.proofs.Mapped.{length_mapped, value_at-mapped, newest-mapped, without-mapped, used-mapped, mapped_without}
use Rattle.cache_folder.proofs.Edits.{Edits, key_at_number, opened_other, opened_own, closed_other, numbers_differ, free_differs}

-- ---- what a key has

pub len_kept : (edits : Edits) (written : List ℕ) (key : List ℕ) (es : Entries (Option ℕ)) → len_at key (mapped (kept_by edits written) es) ≡ clean_length key es
len_kept edits written key es = ap (option_and_then (λ (k : Kept). k.len)) (value_at-mapped (kept_by edits written) key es) ∙ by (value_at key es) where
  by : (o : Option (Option ℕ)) → option_and_then (λ (k : Kept). k.len) (option_map (kept_by edits written key) o) ≡ option_flatten o
  by None = refl
  by (Some len) = refl

pub edit_none : (edits : Edits) (written : List ℕ) (key : List ℕ) (es : Entries (Option ℕ)) → edit_of key edits ≡ None → edit_at key (mapped (kept_by edits written) es) ≡ None
edit_none edits written key es none = ap (option_and_then (λ (k : Kept). k.edit)) (value_at-mapped (kept_by edits written) key es) ∙ by (value_at key es) where
  by : (o : Option (Option ℕ)) → option_and_then (λ (k : Kept). k.edit) (option_map (kept_by edits written key) o) ≡ None
  by None = refl
  by (Some len) = ap (option_map (λ number. get_or written number 0)) none

pub edit_some : (edits : Edits) (written : List ℕ) (key : List ℕ) (es : Entries (Option ℕ)) (n : ℕ) → edit_of key edits ≡ Some n → is_known key es ≡ true → edit_at key (mapped (kept_by edits written) es) ≡ Some (get_or written n 0)
edit_some edits written key es n some known = ap (option_and_then (λ (k : Kept). k.edit)) (value_at-mapped (kept_by edits written) key es) ∙ by (value_at key es) known where
  by : (o : Option (Option ℕ)) → is_some o ≡ true → option_and_then (λ (k : Kept). k.edit) (option_map (kept_by edits written key) o) ≡ Some (get_or written n 0)
  by None h = cc
  by (Some len) h = ap (option_map (λ number. get_or written number 0)) some

-- ---- two tables that keep the same of all other keys

abbrev AlikeBut : List ℕ → (List ℕ → Option ℕ → Kept) → (List ℕ → Option ℕ → Kept) → Type 0
AlikeBut key f g = (k : List ℕ) (v : Option ℕ) → k ≢ key → g k v ≡ f k v

pub newest_kept : (f g : List ℕ → Option ℕ → Kept) (key : List ℕ) (v : Option ℕ) (es : Entries (Option ℕ)) → AlikeBut key f g → mapped g (newest key v es) ≡ newest key (g key v) (mapped f es)
newest_kept f g key v es same = sym (newest-mapped g key v es) ∙ ap (λ l. l ++ (key, g key v) ∷ []) (without-mapped g key es ∙ mapped_without f g key es same ∙ sym (without-mapped f key es))

pub without_kept : (f g : List ℕ → Option ℕ → Kept) (key : List ℕ) (es : Entries (Option ℕ)) → AlikeBut key f g → mapped g (without key es) ≡ without key (mapped f es)
without_kept f g key es same = mapped_without f g key es same ∙ sym (without-mapped f key es)

-- an edit of another key has the bytes that it had
alike_by : (edits edits' : Edits) (written written' : List ℕ) (k : List ℕ) (v : Option ℕ) → edit_of k edits' ≡ edit_of k edits → ((m : ℕ) → edit_of k edits ≡ Some m → get_or written' m 0 ≡ get_or written m 0)
    → kept_by edits' written' k v ≡ kept_by edits written k v
alike_by edits edits' written written' k v same bytes = λ i. record { len = v; edit = (ap (option_map (λ number. get_or written' number 0)) same ∙ look (edit_of k edits) refl) i } where
  look : (o : Option ℕ) → edit_of k edits ≡ o → option_map (λ number. get_or written' number 0) o ≡ option_map (λ number. get_or written number 0) o
  look None e = refl
  look (Some m) e = ap (λ n. Some n) (bytes m e)

-- ---- begin

pub begun_kept : (es : Entries (Option ℕ)) (edits : Edits) (written : List ℕ) (key : List ℕ) (n : ℕ) → edit_of key edits ≡ None → free_edit edits ≡ Some n → n < length written
    → mapped (kept_by (set edits n (Some key)) (set written n 0)) (newest key (clean_length key es) es) ≡ begun key (mapped (kept_by edits written) es)
begun_kept es edits written key n none free within =
    newest_kept (kept_by edits written) (kept_by (set edits n (Some key)) (set written n 0)) key (clean_length key es) es
    (λ k v ne. alike_by edits (set edits n (Some key)) written (set written n 0) k v (opened_other key k edits n ne free) (λ m is. get_or-set_other written n m 0 0 (free_differs k edits n m free is)))
    ∙ (λ i. newest key record {
      len = sym (len_kept edits written key es) i;
      edit = (ap (option_map (λ number. get_or (set written n 0) number 0)) (opened_own key edits n none free) ∙ ap (λ m. Some m) (get_or-set_same written n 0 0 within)) i;
    } (mapped (kept_by edits written) es))

-- ---- the end of an edit

closed_alike : (edits : Edits) (written : List ℕ) (key : List ℕ) (n : ℕ) → edit_of key edits ≡ Some n → AlikeBut key (kept_by edits written) (kept_by (set edits n None) written)
closed_alike edits written key n is k v ne = alike_by edits (set edits n None) written written k v (closed_other key k edits n ne is) (λ m at. refl)

pub committed_kept : (es : Entries (Option ℕ)) (edits : Edits) (written : List ℕ) (key : List ℕ) (n length : ℕ) → edit_of key edits ≡ Some n → edit_of key (set edits n None) ≡ None
    → mapped (kept_by (set edits n None) written) (newest key (Some length) es) ≡ committed key length (mapped (kept_by edits written) es)
committed_kept es edits written key n length is free =
    newest_kept (kept_by edits written) (kept_by (set edits n None) written) key (Some length) es (closed_alike edits written key n is)
    ∙ (λ i. newest key record { len = Some length; edit = ap (option_map (λ number. get_or written number 0)) free i } (mapped (kept_by edits written) es))

pub dropped_kept : (es : Entries (Option ℕ)) (edits : Edits) (written : List ℕ) (key : List ℕ) (n : ℕ) → edit_of key edits ≡ Some n
    → mapped (kept_by (set edits n None) written) (without key es) ≡ without key (mapped (kept_by edits written) es)
dropped_kept es edits written key n is = without_kept (kept_by edits written) (kept_by (set edits n None) written) key es (closed_alike edits written key n is)

pub aborted_kept : (es : Entries (Option ℕ)) (edits : Edits) (written : List ℕ) (key : List ℕ) (n : ℕ) (old : Option ℕ) → edit_of key edits ≡ Some n → edit_of key (set edits n None) ≡ None → old ≡ clean_length key es
    → mapped (kept_by (set edits n None) written) (ended_with key old es) ≡ aborted old key (mapped (kept_by edits written) es)
aborted_kept es edits written key n None is free was = dropped_kept es edits written key n is
aborted_kept es edits written key n (Some m) is free was =
    committed_kept es edits written key n m is free
    ∙ (λ i. newest key record { len = (was ∙ sym (len_kept edits written key es)) i; edit = None } (mapped (kept_by edits written) es))

-- ---- write

pub grown_kept : (es : Entries (Option ℕ)) (edits : Edits) (written : List ℕ) (key : List ℕ) (n more : ℕ) → edit_of key edits ≡ Some n → n < length written
    → mapped (kept_by edits (set written n more)) es ≡ grown_edit key more (mapped (kept_by edits written) es)
grown_kept [] edits written key n more is within = refl
grown_kept (e ∷ es) edits written key n more is within = λ i. (e.0, here (bytes_eq key e.0) refl i) ∷ grown_kept es edits written key n more is within i where
  here : (b : Bool) → bytes_eq key e.0 ≡ b → kept_by edits (set written n more) e.0 e.1 ≡ cond b (let k : Kept = record { len = e.1; edit = Some more } in k) (kept_by edits written e.0 e.1)
  here true t = λ i. record {
    len = e.1;
    edit = (ap (option_map (λ number. get_or (set written n more) number 0)) (ap (λ k. edit_of k edits) (sym ((bytes_eq-Decides key e.0).0 t)) ∙ is) ∙ ap (λ m. Some m) (get_or-set_same written n more 0 within)) i;
  }
  here false t = alike_by edits edits written (set written n more) e.0 e.1 refl (λ m at. get_or-set_other written n m more 0 (numbers_differ key e.0 edits n m (λ same. let yes' = (bytes_eq-Decides key e.0).1 (sym same) in cc) is at))

-- ---- an edit that is closed, as `close_edit` says it

pub is_none : (o : Option ℕ) → is_some o ≡ false → o ≡ None
is_none None h = refl
is_none (Some n) h = cc

pub open_number : (t : TableValue) (written : List ℕ) (u : CacheTableValue) (key : List ℕ) (n : ℕ) → record { table = t; written = written } ≡ u → edit_of key u.table.edits ≡ Some n → IsSome (key_of_edit n t.edits)
open_number t written u key n same open' = ap is_some (key_at_number key t.edits n (ap (λ (v : CacheTableValue). edit_of key v.table.edits) same ∙ open'))

module _ (t : TableValue) (written : List ℕ) (u : CacheTableValue) (new : TableValue) (key : List ℕ) (n : ℕ) (len : Option ℕ)
    (same : record { table = t; written = written } ≡ u) (open' : edit_of key u.table.edits ≡ Some n)
    (closes : (k : List ℕ) → key_of_edit n t.edits ≡ Some k → new ≡ closed k n len t)
    (frees : (k : List ℕ) → key_of_edit n t.edits ≡ Some k → is_under_edit k new.edits ≡ false) where
  pub was_open : edit_of key t.edits ≡ Some n
  was_open = ap (λ (v : CacheTableValue). edit_of key v.table.edits) same ∙ open'

  at_its_number : key_of_edit n t.edits ≡ Some key
  at_its_number = key_at_number key t.edits n was_open

  closes_key : new ≡ closed key n len t
  closes_key = closes key at_its_number

  pub none_after : edit_of key new.edits ≡ None
  none_after = is_none (edit_of key new.edits) (frees key at_its_number)

  free_after : edit_of key (set t.edits n None) ≡ None
  free_after = sym (ap (λ (v : TableValue). edit_of key v.edits) closes_key) ∙ none_after

  pub edits_after : new.edits ≡ set u.table.edits n None
  edits_after = ap (λ (v : TableValue). v.edits) closes_key ∙ ap (λ (v : CacheTableValue). set v.table.edits n None) same

  pub others_after : (k : List ℕ) → k ≢ key → edit_of k new.edits ≡ edit_of k u.table.edits
  others_after k ne = ap (λ (v : TableValue). edit_of k v.edits) closes_key ∙ closed_other key k t.edits n ne was_open ∙ ap (λ (v : CacheTableValue). edit_of k v.table.edits) same

  pub lines_after : new.lines ≡ counted u.table.lines
  lines_after = ap (λ (v : TableValue). v.lines) closes_key ∙ ap (λ (v : CacheTableValue). counted v.table.lines) same

  abbrev after : kept (record { table = new; written = written }) ≡ mapped (kept_by (set t.edits n None) written) (ended_with key len t.entries)
  after = ap (λ (v : TableValue). kept (record { table = v; written = written })) closes_key

  pub aborted_after : len ≡ len_at key (kept u) → kept (record { table = new; written = written }) ≡ aborted len key (kept u)
  aborted_after was = after ∙ aborted_kept t.entries t.edits written key n len was_open free_after
      (was ∙ ap (λ (v : CacheTableValue). len_at key (kept v)) (sym same) ∙ len_kept t.edits written key t.entries) ∙ ap (λ (v : CacheTableValue). aborted len key (kept v)) same

pub committed_after : (t : TableValue) (written : List ℕ) (u : CacheTableValue) (new : TableValue) (key : List ℕ) (n m : ℕ)
    → record { table = t; written = written } ≡ u → edit_of key u.table.edits ≡ Some n
    → ((k : List ℕ) → key_of_edit n t.edits ≡ Some k → new ≡ closed k n (Some m) t)
    → ((k : List ℕ) → key_of_edit n t.edits ≡ Some k → is_under_edit k new.edits ≡ false)
    → kept (record { table = new; written = written }) ≡ committed key m (kept u)
committed_after t written u new key n m same open' closes frees =
    after t written u new key n (Some m) same open' closes frees
    ∙ committed_kept t.entries t.edits written key n m (was_open t written u new key n (Some m) same open' closes frees) (free_after t written u new key n (Some m) same open' closes frees)
    ∙ ap (λ (v : CacheTableValue). committed key m (kept v)) same

pub dropped_after : (t : TableValue) (written : List ℕ) (u : CacheTableValue) (new : TableValue) (key : List ℕ) (n : ℕ)
    → record { table = t; written = written } ≡ u → edit_of key u.table.edits ≡ Some n
    → ((k : List ℕ) → key_of_edit n t.edits ≡ Some k → new ≡ closed k n None t)
    → ((k : List ℕ) → key_of_edit n t.edits ≡ Some k → is_under_edit k new.edits ≡ false)
    → kept (record { table = new; written = written }) ≡ without key (kept u)
dropped_after t written u new key n same open' closes frees =
    after t written u new key n None same open' closes frees
    ∙ dropped_kept t.entries t.edits written key n (was_open t written u new key n None same open' closes frees)
    ∙ ap (λ (v : CacheTableValue). without key (kept v)) same

-- ---- known or not

pub touched_after : (t : TableValue) (written : List ℕ) (key : List ℕ) → kept (record { table = touched key t; written = written }) ≡ used key (kept (record { table = t; written = written }))
touched_after t written key = by (is_known key t.entries) refl where
  unknown : (o : Option (Option ℕ)) → is_some o ≡ false → o ≡ None
  unknown None h = refl
  unknown (Some n) h = cc

  by : (b : Bool) → is_known key t.entries ≡ b → kept (record { table = cond b (let now : TableValue = record t { entries = used key t.entries; lines = counted t.lines } in now) t; written = written }) ≡ used key (kept (record { table = t; written = written }))
  by true e = sym (used-mapped (kept_by t.edits written) key t.entries)
  by false e = sym (ap (λ o. renewed key o (kept (record { table = t; written = written }))) (value_at-mapped (kept_by t.edits written) key t.entries ∙ ap (option_map (kept_by t.edits written key)) (unknown (value_at key t.entries) e)))

pub without_none : {V : Type 0} (key : List ℕ) (es : Entries V) → value_at key es ≡ None → without key es ≡ es
without_none key [] h = refl
without_none key (e ∷ es) h =
    elim (bytes_eq key e.0) as (λ b. cond b (Some e.1) (value_at key es) ≡ None → cond b (without key es) (e ∷ without key es) ≡ e ∷ es) [
      | true ↦ λ k. cc
      | false ↦ λ k. ap (λ l. e ∷ l) (without_none key es k)
    ] h

pub forgotten_after : (t : TableValue) (written : List ℕ) (key : List ℕ) → kept (record { table = forgotten key t; written = written }) ≡ without key (kept (record { table = t; written = written }))
forgotten_after t written key = by (is_known key t.entries) refl where
  unknown : (o : Option (Option ℕ)) → is_some o ≡ false → o ≡ None
  unknown None h = refl
  unknown (Some n) h = cc

  by : (b : Bool) → is_known key t.entries ≡ b → kept (record { table = cond b (let now : TableValue = record t { entries = without key t.entries; lines = counted t.lines } in now) t; written = written }) ≡ without key (kept (record { table = t; written = written }))
  by true e = sym (without-mapped (kept_by t.edits written) key t.entries)
  by false e = sym (without_none key (kept (record { table = t; written = written })) (value_at-mapped (kept_by t.edits written) key t.entries ∙ ap (option_map (kept_by t.edits written key)) (unknown (value_at key t.entries) e)))

pub few_kept : (t : CacheTableValue) (u : Table) → kept t ≡ u → length t.table.entries ≤ 16400 → length u ≤ 16400
few_kept t u same few = subst (λ (l : Table). length l ≤ 16400) same (subst (λ n. n ≤ 16400) (sym (length_mapped (kept_by t.table.edits t.written) t.table.entries)) few)

-- ---- what is known, and the lines of those

pub known_kept : (t : CacheTableValue) (key : List ℕ) → is_known key (kept t) ≡ is_known key t.table.entries
known_kept t key = ap is_some (value_at-mapped (kept_by t.table.edits t.written) key t.table.entries) ∙ by (value_at key t.table.entries) where
  by : (o : Option (Option ℕ)) → is_some (option_map (kept_by t.table.edits t.written key) o) ≡ is_some o
  by None = refl
  by (Some len) = refl

pub touched_lines : (t : TableValue) (key : List ℕ) → is_known key t.entries ≡ true → (touched key t).lines ≡ counted t.lines
touched_lines t key known = ap (λ b. let u : TableValue = cond b (let now : TableValue = record t { entries = used key t.entries; lines = counted t.lines } in now) t in u.lines) known

pub forgotten_lines : (t : TableValue) (key : List ℕ) → is_known key t.entries ≡ true → (forgotten key t).lines ≡ counted t.lines
forgotten_lines t key known = ap (λ b. let u : TableValue = cond b (let now : TableValue = record t { entries = without key t.entries; lines = counted t.lines } in now) t in u.lines) known

-- a key that has no edit is taken out with none
pub forgotten_edits : (t : TableValue) (key : List ℕ) → (forgotten key t).edits ≡ t.edits
forgotten_edits t key = elim (is_known key t.entries) as (λ b. (let u : TableValue = cond b (let now : TableValue = record t { entries = without key t.entries; lines = counted t.lines } in now) t in u.edits) ≡ t.edits) [ true ↦ refl | false ↦ refl ]
