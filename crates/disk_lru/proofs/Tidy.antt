-- The files beside the journal and those of the entries, after a rebuild and after an eviction.
use Rattle.std.proofs.Common.{◌≡◌, ◌≢◌, ◌⊎◌, ℕ, true, false, List, None, refl, sym, ap, subst, ◌∙◌, inl, inr, IsSome, is_some}
use Rattle.std.specs.declared.option.Option.{Option}
use Rattle.std.specs.FinMap.{get}
use Rattle.std.specs.Str.{bytes_eq}
use Rattle.std.proofs.lemmas.Slice.Eq.{bytes_eq-Decides}
use Rattle.outside.specs.Files.{FolderHistory}
use Rattle.disk_table.specs.UseOrder.{without, is_known}
use Rattle.cache_folder.specs.Offered.{journal_name, journal_tmp, journal_bkp, value_name}
use Rattle.cache_folder.specs.Journals.{HasOneJournal}
use Rattle.cache_folder.specs.Images.{IfKnown}
use Rattle.cache_folder.specs.Sound.{SameEntries, MayLose}
use Rattle.cache_folder.specs.Starts.{Belongs}
use Rattle.cache_folder.specs.Laws.{CacheLaws}
use Rattle.disk_lru.specs.State.{CacheState, entries}
use Rattle.disk_lru.specs.Trims.{IsLeftOver, HasNoOther, AddsNoOther}

-- a name is this one or not
is_or_not : (name this : List ℕ) → (name ≡ this) ⊎ (name ≢ this)
is_or_not name this = elim (bytes_eq name this) as (λ b. bytes_eq name this ≡ b → (name ≡ this) ⊎ (name ≢ this)) [
  | true ↦ λ e. inl ((bytes_eq-Decides name this).0 e)
  | false ↦ λ e. inr (λ same. let yes = (bytes_eq-Decides name this).1 same in cc)
] refl

no_file : {A : Type 0} (o : Option (List ℕ)) → o ≡ None → IsSome o → A
no_file o none there = absurd (none_is (ap is_some none) there) where
  none_is : is_some o ≡ false → IsSome o → ⊥
  none_is f t = let bad : true ≡ false = sym t ∙ f in cc

-- a rebuild: one that ended has left the journal alone
module _ (old new : CacheState) (h k : FolderHistory) (name : List ℕ) (keys : new.table.table.entries ≡ old.table.table.entries) (same : SameEntries h.held k.held)
    (alone : (new.due ≡ true) ⊎ HasOneJournal k.held) (none : HasNoOther h.held old) (there : IsSome (get k.held name)) where
  left : (journal : List ℕ) → name ≡ journal → ((name ≡ journal_tmp) ⊎ (name ≡ journal_bkp)) → (HasOneJournal k.held → get k.held journal ≡ None) → Belongs name new.table.table.entries ⊎ IsLeftOver name new
  left journal is which gone = elim alone as (λ _. Belongs name new.table.table.entries ⊎ IsLeftOver name new) [
    | inl due ↦ inr (due, which)
    | inr one ↦ no_file (get k.held name) (ap (get k.held) is ∙ gone one) there
  ]

  rebuilt_file : (name ≡ journal_name) ⊎ (name ≢ journal_name) → (name ≡ journal_tmp) ⊎ (name ≢ journal_tmp) → (name ≡ journal_bkp) ⊎ (name ≢ journal_bkp) → Belongs name new.table.table.entries ⊎ IsLeftOver name new
  rebuilt_file (inl j) t b = inl (inl j)
  rebuilt_file (inr j) (inl t) b = left journal_tmp t (inl t) (λ one. one.no_new)
  rebuilt_file (inr j) (inr t) (inl b) = left journal_bkp b (inr b) (λ one. one.no_old)
  rebuilt_file (inr j) (inr t) (inr b) = elim (none.each name (subst IsSome (same name j t b) there)) as (λ _. Belongs name new.table.table.entries ⊎ IsLeftOver name new) [
    | inl own ↦ inl (subst (Belongs name) (sym keys) own)
    | inr over ↦ elim over.1 as (λ _. Belongs name new.table.table.entries ⊎ IsLeftOver name new) [ inl is ↦ absurd (t is) | inr is ↦ absurd (b is) ]
  ]

pub no_other_rebuilt : (old new : CacheState) → new.table.table.entries ≡ old.table.table.entries → IfKnown old.history (λ h. IfKnown new.history (λ k. SameEntries h.held k.held))
    → IfKnown new.history (λ k. (new.due ≡ true) ⊎ HasOneJournal k.held) → AddsNoOther old new
no_other_rebuilt old new keys same alone = record {
  none = λ h e k e' none. record {
    each = λ name there. rebuilt_file old new h k name keys (same h e k e') (alone k e') none there (is_or_not name journal_name) (is_or_not name journal_tmp) (is_or_not name journal_bkp);
  };
}

-- an eviction, where no rebuild was due: the file of the key is gone
module _ (laws : CacheLaws) (old new : CacheState) (h k : FolderHistory) (key name : List ℕ) (ready : old.due ≡ false) (is : entries new ≡ without key (entries old))
    (lost : MayLose key h.held k.held) (gone : get k.held (value_name key) ≡ None) (none : HasNoOther h.held old) (there : IsSome (get k.held name)) where
  still_known : (other : List ℕ) → other ≢ key → is_known other old.table.table.entries ≡ true → is_known other new.table.table.entries ≡ true
  still_known other ne was = sym (laws.known_kept other new.table) ∙ ap (is_known other) is ∙ laws.known_left key other (entries old) ne ∙ laws.known_kept other old.table ∙ was

  trimmed_file : (name ≡ journal_name) ⊎ (name ≢ journal_name) → (name ≡ value_name key) ⊎ (name ≢ value_name key) → Belongs name new.table.table.entries ⊎ IsLeftOver name new
  trimmed_file (inl j) v = inl (inl j)
  trimmed_file (inr j) (inl v) = no_file (get k.held name) (ap (get k.held) v ∙ gone) there
  trimmed_file (inr j) (inr v) = elim (none.each name (subst IsSome (lost.others name j v) there)) as (λ _. Belongs name new.table.table.entries ⊎ IsLeftOver name new) [
    | inl own ↦ elim own as (λ _. Belongs name new.table.table.entries ⊎ IsLeftOver name new) [
      | inl journal ↦ absurd (j journal)
      | inr file ↦ inl (inr record { key = file.key; name_is = file.name_is; known = still_known file.key (λ same. v (file.name_is ∙ ap value_name same)) file.known })
    ]
    | inr over ↦ let bad : true ≡ false = sym over.0 ∙ ready in cc
  ]

pub no_other_trimmed : (old new : CacheState) (laws : CacheLaws) (key : List ℕ) → old.due ≡ false → entries new ≡ without key (entries old)
    → IfKnown old.history (λ h. IfKnown new.history (λ k. MayLose key h.held k.held)) → IfKnown new.history (λ k. get k.held (value_name key) ≡ None) → AddsNoOther old new
no_other_trimmed old new laws key ready is lost gone = record {
  none = λ h e k e' none. record {
    each = λ name there. trimmed_file laws old new h k key name ready is (lost h e k e') (gone k e') none there (is_or_not name journal_name) (is_or_not name (value_name key));
  };
}
