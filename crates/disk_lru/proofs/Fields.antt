-- What holds of a cache after a call on its files.
use Rattle.std.proofs.Common.{◌≡◌, ◌≢◌, ◌⊎◌, ℕ, ◌+◌, ◌≤◌, Bool, true, false, List, [], ◌∷◌, Some, None, refl, sym, ap, subst, ◌∙◌, inl, arith}
use Rattle.std.specs.declared.option.Option.{Option}
use Rattle.std.specs.FinMap.{get}
use Rattle.outside.specs.Causes.{HasCause}
use Rattle.outside.specs.Files.{Folder, FolderHistory}
use Rattle.disk_table.specs.UseOrder.{without}
use Rattle.disk_table.specs.Table.{edit_of, is_full_for, counted}
use Rattle.cache_folder.specs.Offered.{value_name}
use Rattle.cache_folder.specs.Journals.{line_count, HasOneJournal}
use Rattle.cache_folder.specs.Steps.{Cached, Drop, all_stepped}
use Rattle.cache_folder.specs.Images.{IfKnown, WasKnown, Runs}
use Rattle.cache_folder.specs.Tables.{Table, CacheTableValue, kept, closed_at}
use Rattle.cache_folder.specs.Sound.{IsKept, IsSound, SameLength, SameBut, MayLose, RebuildWay, Done}
use Rattle.cache_folder.specs.Laws.{CacheLaws}
use Rattle.disk_lru.specs.State.{CacheState, entries, edits, list_of}
use Rattle.disk_lru.specs.Calls.{Steps, drop_steps, CallOn, ClosesEdit, Forgets, Fails, Stays}
use Rattle.disk_lru.specs.Trims.{HasNoOther, AddsNoOther}
use Rattle.disk_lru.specs.inside.Kept.{IsCounted, Keeps}
use Rattle.disk_lru.specs.inside.Rebuilds.{Rebuilds, Took}
use Rattle.disk_lru.proofs.Runs.{run_has, run_none, same_some}
use Rattle.disk_lru.proofs.Tidy.{no_other_rebuilt, no_other_trimmed}
use Rattle.disk_lru.proofs.Composed.{MeantWays, answers_forgot, call_done, call_failed, call_unready, Lost, stays_now}

-- ---- the count of lines

pub counted_more : (f g : Folder) (lines lines' : ℕ) → IsCounted f lines → line_count g ≡ line_count f + 1 → lines' ≡ counted lines → IsCounted g lines'
counted_more f g lines lines' was more is = omega (arith, was, more, is)

pub counted_same : (f g : Folder) (lines lines' : ℕ) → IsCounted f lines → line_count g ≡ line_count f + 0 → lines' ≡ lines → IsCounted g lines'
counted_same f g lines lines' was more is = omega (arith, was, more, is)

-- ---- what the type keeps

pub kept_of_sound : (f : Folder) (t : Table) → IsSound f t → IsKept f t
kept_of_sound f t s = record { files = s.files; count = s.count; once = s.once }

pub sound_done : (after : Option FolderHistory) (t : Table) (es : Cached (List ℕ)) (k : FolderHistory) → Done after t es → after ≡ Some k → IsSound k.held t
sound_done after t es k d e = subst (λ (m : FolderHistory). IsSound m.held t) (same_some _ _ (sym d.holds ∙ e)) d.sound

-- after a call that succeeded
pub keeps_sound : (before after : Option FolderHistory) (t : Table) (table : CacheTableValue) (due : Bool) → WasKnown before after → IfKnown before (λ h. IfKnown after (λ k. IsSound k.held t)) → kept table ≡ t
    → IfKnown before (λ h. IfKnown after (λ k. IsCounted k.held table.table.lines)) → Keeps after table due
keeps_sound before after t table due known sound is count =
    let s : IfKnown after (λ k. IsSound k.held (kept table)) = λ k e. let was = known k e in subst (IsSound k.held) (sym is) (sound was.0 was.1 k e) in
    record {
      files = λ k e. kept_of_sound k.held (kept table) (s k e);
      sound = λ ready. s;
      counted = λ ready k e. let was = known k e in count was.0 was.1 k e;
    }

-- after one that failed: a rebuild is due
pub keeps_due : (after : Option FolderHistory) (table : CacheTableValue) → IfKnown after (λ k. IsKept k.held (kept table)) → Keeps after table true
keeps_due after table files = record { files = files; sound = λ no'. cc; counted = λ no'. cc }

pub keeps_failed : (laws : CacheLaws) (key : List ℕ) (before after : Option FolderHistory) (t : Table) (table : CacheTableValue) → WasKnown before after → IfKnown before (λ h. IsKept h.held t)
    → IfKnown before (λ h. IfKnown after (λ k. SameBut key h.held k.held)) → kept table ≡ without key t → Keeps after table true
keeps_failed laws key before after t table known files same is = keeps_due after table (λ k e.
    let was = known k e in
    subst (IsKept k.held) (sym is) (laws.others_kept key was.0.held k.held t (same was.0 was.1 k e) (files was.0 was.1)))

-- after a rebuild that failed
pub keeps_unbuilt : (laws : CacheLaws) (before after : Option FolderHistory) (table : CacheTableValue) → WasKnown before after → IfKnown before (λ h. IsKept h.held (kept table))
    → IfKnown before (λ h. Runs (RebuildWay h.held (kept table)) h after) → Keeps after table true
keeps_unbuilt laws before after table known files ways = keeps_due after table (λ k e.
    let was = known k e in
    laws.entries_kept was.0.held k.held (kept table) (run_has _ was.0 k after (ways was.0 was.1) e).1 (files was.0 was.1))

-- the key is forgotten
pub keeps_forgotten : (laws : CacheLaws) (key : List ℕ) (history : Option FolderHistory) (t : Table) (table : CacheTableValue) → IfKnown history (λ h. IsKept h.held t) → kept table ≡ without key t → Keeps history table true
keeps_forgotten laws key history t table files is = keeps_due history table (λ k e. subst (IsKept k.held) (sym is) (laws.others_kept key k.held k.held t (λ name j v x. refl) (files k e)))

-- ---- from the fields of a cache to what contracts see of it

pub rebuilds_by : (s old new : CacheState) → s ≡ old → entries new ≡ entries s → edits new ≡ edits s → new.table.table.entries ≡ s.table.table.entries → new.maximum ≡ s.maximum → WasKnown s.history new.history
    → IfKnown s.history (λ h. Runs (RebuildWay h.held (entries s)) h new.history) → IfKnown new.history (λ k. (new.due ≡ true) ⊎ HasOneJournal k.held) → s.faults ≤ new.faults → Rebuilds old new
rebuilds_by s old new same entries_are edits_are keys_are maximum_is known moments alone later = subst (λ x. Rebuilds x new) same record {
  entries_are = entries_are;
  edits_are = edits_are;
  keys_are = keys_are;
  maximum_is = maximum_is;
  known = known;
  moments = moments;
  files = no_other_rebuilt s new keys_are (λ h e k e'. (run_has _ h k new.history (moments h e) e').1) alone;
  later = later;
}

pub forgets_by : (s old new : CacheState) (key : List ℕ) → s ≡ old → entries new ≡ without key (entries s) → edits new ≡ closed_at (edit_of key (edits s)) (edits s) → edit_of key (edits new) ≡ None
    → ((other : List ℕ) → other ≢ key → edit_of other (edits new) ≡ edit_of other (edits s)) → new.due ≡ true → Forgets key old new
forgets_by s old new key same entries_are edits_are own others due = subst (λ x. Forgets key x new) same record { entries_are = entries_are; edit = record { edits_are = edits_are; own = own; others = others }; due = due }

pub took_by : (laws : CacheLaws) (s old new : CacheState) (key : List ℕ) (meant : Steps) → s ≡ old → WasKnown s.history new.history → MeantWays laws key meant s new
    → (t : Table) → entries new ≡ t → IfKnown s.history (λ h. (any : List ℕ) → SameLength any (entries s) (list_of h.held s) → SameLength any t (all_stepped (list_of h.held s) (meant h.held)))
    → IfKnown s.history (λ h. Done new.history t (all_stepped (list_of h.held s) (meant h.held))) → Took key meant old new
took_by laws s old new key meant same known ways t is lengths does = subst (λ x. Took key meant x new) same record {
  call = called;
  answers = λ any h e k e' one. subst (λ t'. SameLength any t' (list_of k.held new)) (sym is) (subst (SameLength any t) (sym (called.list h e k e')) (lengths h e any one));
  offers_now = λ k e. let m = known k e in laws.sound_offers k.held (entries new) (subst (IsSound k.held) (sym is) (sound_done new.history t _ k (does m.0 m.1) e));
} where
  called : CallOn key meant meant s new
  called = call_done laws key meant s new known ways (subst (λ t'. IfKnown s.history (λ h. Done new.history t' (all_stepped (list_of h.held s) (meant h.held)))) (sym is) does)

-- a key was forgotten by a call that dropped it
pub fails_is : (laws : CacheLaws) (key : List ℕ) (meant : Steps) (old new : CacheState) → Forgets key old new → CallOn key meant (λ f. Drop key ∷ []) old new → Fails key meant old new
fails_is laws key meant old new forgets call = record { forgets = forgets; call = call; answers = λ any. answers_forgot laws key any old new forgets.entries_are call.list }

pub fails_by : (laws : CacheLaws) (s old new : CacheState) (key : List ℕ) (meant : Steps) → s ≡ old → WasKnown s.history new.history → MeantWays laws key meant s new
    → entries new ≡ without key (entries s) → edits new ≡ closed_at (edit_of key (edits s)) (edits s) → edit_of key (edits new) ≡ None
    → ((other : List ℕ) → other ≢ key → edit_of other (edits new) ≡ edit_of other (edits s)) → new.due ≡ true → Fails key meant old new
fails_by laws s old new key meant same known ways is edits_are own others due =
    fails_is laws key meant old new (forgets_by s old new key same is edits_are own others due) (subst (λ x. CallOn key meant (λ f. Drop key ∷ []) x new) same (call_failed laws key meant s new known ways is))

pub closes_by : (s old new : CacheState) (key : List ℕ) → s ≡ old → edits new ≡ closed_at (edit_of key (edits s)) (edits s) → edit_of key (edits new) ≡ None
    → ((other : List ℕ) → other ≢ key → edit_of other (edits new) ≡ edit_of other (edits s)) → ClosesEdit key old new
closes_by s old new key same edits_are own others = subst (λ x. ClosesEdit key x new) same record { edits_are = edits_are; own = own; others = others }

-- the edit at its number was closed
pub closed_open : (o : Option ℕ) (number : ℕ) (all now : List (Option (List ℕ))) → now ≡ closed_at (Some number) all → o ≡ Some number → now ≡ closed_at o all
closed_open o number all now is open' = is ∙ sym (ap (λ x. closed_at x all) open')

-- a rebuild, and then the key forgotten
pub forgets_after : (key : List ℕ) (old mid new : CacheState) → Rebuilds old mid → Forgets key mid new → Forgets key old new
forgets_after key old mid new r f = record {
  entries_are = f.entries_are ∙ ap (without key) r.entries_are;
  edit = record {
    edits_are = f.edit.edits_are ∙ ap (λ l. closed_at (edit_of key l) l) r.edits_are;
    own = f.edit.own;
    others = λ other ne. f.edit.others other ne ∙ ap (edit_of other) r.edits_are;
  };
  due = f.due;
}

-- the same steps
pub took_as : (key : List ℕ) (m n : Steps) (old new : CacheState) → m ≡ n → Took key m old new → Took key n old new
took_as key m n old new same x = subst (λ s. Took key s old new) same x

pub fails_as : (key : List ℕ) (m n : Steps) (old new : CacheState) → m ≡ n → Fails key m old new → Fails key n old new
fails_as key m n old new same x = subst (λ s. Fails key s old new) same x

-- an edit that is closed, with a rebuild before it and one after it
pub closes_after : (key : List ℕ) (old mid new : CacheState) → Rebuilds old mid → ClosesEdit key mid new → ClosesEdit key old new
closes_after key old mid new r x = record {
  edits_are = x.edits_are ∙ ap (λ l. closed_at (edit_of key l) l) r.edits_are;
  own = x.own;
  others = λ other ne. x.others other ne ∙ ap (edit_of other) r.edits_are;
}

pub closes_before : (key : List ℕ) (old mid new : CacheState) → ClosesEdit key old mid → Rebuilds mid new → ClosesEdit key old new
closes_before key old mid new x r = record { edits_are = r.edits_are ∙ x.edits_are; own = ap (edit_of key) r.edits_are ∙ x.own; others = λ other ne. ap (edit_of other) r.edits_are ∙ x.others other ne }

-- the causes of a call that succeeded after another
pub later_by : {A : Type 0} (a b c : ℕ) → a ≤ b → b ≤ c → (A → ⊥) → HasCause a c A
later_by a b c x y no' = record { later = omega (arith, x, y); rose = λ fault. absurd (no' fault) }

-- no rebuild at all
pub rebuilds_none : (s : CacheState) → Rebuilds s s
rebuilds_none s = record {
  entries_are = refl;
  edits_are = refl;
  keys_are = refl;
  maximum_is = refl;
  known = λ k e. (k, e);
  moments = λ h e. run_none (RebuildWay h.held (entries s)) h s.history e (inl refl, λ name j t b. refl);
  files = record { none = λ h e k e' none. subst (λ (m : FolderHistory). HasNoOther m.held s) (same_some h k (sym e ∙ e')) none };
  later = omega arith;
}

-- a call that failed before its first change of a file
pub fails_early : (laws : CacheLaws) (s old new : CacheState) (key : List ℕ) (meant : Steps) → s ≡ old → new.history ≡ s.history → entries new ≡ without key (entries s) → edits new ≡ closed_at (edit_of key (edits s)) (edits s) → edit_of key (edits new) ≡ None
    → ((other : List ℕ) → other ≢ key → edit_of other (edits new) ≡ edit_of other (edits s)) → new.due ≡ true → Fails key meant old new
fails_early laws s old new key meant same files is edits_are own others due =
    fails_is laws key meant old new (forgets_by s old new key same is edits_are own others due) (subst (λ x. CallOn key meant (λ f. Drop key ∷ []) x new) same (call_unready laws key meant s s new (rebuilds_none s) files is))

-- an eviction that failed
pub stays_by : (laws : CacheLaws) (s old new : CacheState) (key : List ℕ) → s ≡ old → WasKnown s.history new.history → MeantWays laws key (drop_steps key) s new → Lost laws key s new
    → entries new ≡ entries s → edits new ≡ edits s → Stays key old new
stays_by laws s old new key same known ways lost entries_are edits_are = subst (λ x. Stays key x new) same (stays_now laws key s new known ways lost entries_are edits_are)

-- an eviction leaves no file that does not belong there
pub no_other_by : (laws : CacheLaws) (s old new : CacheState) (key : List ℕ) → s ≡ old → s.due ≡ false → entries new ≡ without key (entries s)
    → IfKnown s.history (λ h. IfKnown new.history (λ k. MayLose key h.held k.held)) → IfKnown new.history (λ k. get k.held (value_name key) ≡ None) → AddsNoOther old new
no_other_by laws s old new key same ready is lost gone = subst (λ x. AddsNoOther x new) same (no_other_trimmed s new laws key ready is lost gone)

-- whether there is room for an edit is as it was
pub full_same : (key : List ℕ) (old new : CacheState) → Rebuilds old new → is_full_for key new.table.table ≡ is_full_for key old.table.table
full_same key old new r = λ i. is_full_for key (record { entries = r.keys_are i; edits = r.edits_are i; lines = 0 })
