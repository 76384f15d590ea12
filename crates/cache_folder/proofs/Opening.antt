-- What a start keeps of the entries that a journal leaves.
use Rattle.std.proofs.Common.{◌≡◌, ◌≢◌, ℕ, ◌+◌, ◌<◌, ◌≤◌, ◌^◌, Bool, true, false, cond, List, [], ◌∷◌, ◌++◌, length, Some, None, refl, sym, ap, subst, ◌∙◌, arith, is_some, IsSome, ◌==◌, ◌&&◌, not, nat_le, ◌-◌, unwrap_or, min, inl, inr}
use Rattle.std.specs.declared.option.Option.{Option}
use Rattle.std.specs.List.{AllByRecursion}
use Rattle.std.specs.Str.{bytes_eq}
use Rattle.std.specs.FinMap.{get}
use Rattle.std.proofs.lemmas.Bool.{eqb-true, lt-leb}
use Rattle.std.proofs.lemmas.Slice.Eq.{bytes_eq-Decides}
use Rattle.outside.specs.Files.{Folder}
use Rattle.journal_lines.specs.Keys.{is_key}
use Rattle.disk_table.specs.UseOrder.{Entries, IsOnce, IsShort, value_at, is_known}
use Rattle.disk_table.specs.Table.{TableValue, is_due}
use Rattle.cache_folder.specs.Offered.{Replayed, journal_name, journal_tmp, journal_bkp, value_name, first_text, journal_text, replay_of, clean_pair, pair_of, readable, offered_by, offered}
use Rattle.cache_folder.specs.Journals.{Says, count_in, line_count}
use lib.ListN.{replicate}
use Rattle.cache_folder.specs.Steps.{offers}
use Rattle.cache_folder.specs.Tables.{Kept, CacheTableValue, mapped, kept_by, kept, in_journal}
use Rattle.cache_folder.specs.Sound.{in_folder, listed, MayHave, Fits, IsKept, IsSound, SameEntries, RebuildWay}
use Rattle.cache_folder.specs.Starts.{HasNoEdits, OffersSame, Belongs, entries_found, has_length, has_value, entries_staying, IsTidy, kept_count, lengths_in, list_of_pairs, list_offered, IsOpen}
use Rattle.cache_folder.specs.inside.Leaving.{AreClean, AreKnown, Sweeps}
use Rattle.cache_folder.specs.inside.Loading.{IsGood, SaysTable, IsRead, IsSwept, IsReady}
use Rattle.cache_folder.proofs.Lists.{all_append, weaken}
use Rattle.cache_folder.proofs.Mapped.{length_mapped, once_mapped}

-- ---- the entries that stay

-- what a folder offers is what it has of the entries that its journal leaves
pub offered_found : (f : Folder) → offered f ≡ readable f (entries_found f)
offered_found f = by (replay_of (journal_text f)) where
  by : (o : Option Replayed) → offered_by f o ≡ readable f (unwrap_or o [])
  by None = refl
  by (Some es) = refl

pair_none : (f : Folder) (key : List ℕ) (v : Option ℕ) → has_value f key v ≡ false → pair_of f key v ≡ []
pair_none f key None h = refl
pair_none f key (Some n) h = by (get f (value_name key)) h where
  by : (o : Option (List ℕ)) → has_length n o ≡ false → clean_pair key n o ≡ []
  by None k = refl
  by (Some bytes) k = ap (λ b. cond {A = List (List ℕ × List ℕ)} b ((key, bytes) ∷ []) []) k

readable_staying : (f : Folder) (es : Replayed) → readable f (entries_staying f es) ≡ readable f es
readable_staying f [] = refl
readable_staying f (e ∷ es) =
    elim (has_value f e.0 e.1) as (λ b. has_value f e.0 e.1 ≡ b → readable f (cond b (e ∷ entries_staying f es) (entries_staying f es)) ≡ pair_of f e.0 e.1 ++ readable f es) [
      | true ↦ λ h. ap (λ l. pair_of f e.0 e.1 ++ l) (readable_staying f es)
      | false ↦ λ h. readable_staying f es ∙ ap (λ l. l ++ readable f es) (sym (pair_none f e.0 e.1 h))
    ] refl

all_staying : (P : List ℕ × Option ℕ → Type 0) (f : Folder) (es : Replayed) → AllByRecursion P es → AllByRecursion P (entries_staying f es)
all_staying P f [] h = tt
all_staying P f (e ∷ es) h =
    elim (has_value f e.0 e.1) as (λ b. AllByRecursion P (cond b (e ∷ entries_staying f es) (entries_staying f es))) [
      | true ↦ (h.0, all_staying P f es h.1)
      | false ↦ all_staying P f es h.1
    ]

abbrev HasValue : Folder → List ℕ × Option ℕ → Type 0
HasValue f e = has_value f e.0 e.1 ≡ true

staying_values : (f : Folder) (es : Replayed) → AllByRecursion (HasValue f) (entries_staying f es)
staying_values f [] = tt
staying_values f (e ∷ es) =
    elim (has_value f e.0 e.1) as (λ b. has_value f e.0 e.1 ≡ b → AllByRecursion (HasValue f) (cond b (e ∷ entries_staying f es) (entries_staying f es))) [
      | true ↦ λ h. (h, staying_values f es)
      | false ↦ λ h. staying_values f es
    ] refl

value_clean : (f : Folder) (e : List ℕ × Option ℕ) → HasValue f e → IsSome e.1
value_clean f e h = by e.1 h where
  by : (v : Option ℕ) → has_value f e.0 v ≡ true → IsSome v
  by None k = cc
  by (Some n) k = refl

-- ---- each key is known

known_more : {V : Type 0} (key : List ℕ) (e : List ℕ × V) (es : Entries V) → is_known key es ≡ true → is_known key (e ∷ es) ≡ true
known_more key e es h = elim (bytes_eq key e.0) as (λ b. is_some (cond b (Some e.1) (value_at key es)) ≡ true) [ true ↦ refl | false ↦ h ]

known_here : {V : Type 0} (e : List ℕ × V) (es : Entries V) → is_known e.0 (e ∷ es) ≡ true
known_here e es = ap (λ b. is_some (cond b (Some e.1) (value_at e.0 es))) ((bytes_eq-Decides e.0 e.0).1 refl)

known_self : {V : Type 0} (es : Entries V) → AllByRecursion (λ e. is_known e.0 es ≡ true) es
known_self [] = tt
known_self (e ∷ es) = (known_here e es, weaken (λ x. is_known x.0 es ≡ true) (λ x. is_known x.0 (e ∷ es) ≡ true) (λ x h. known_more x.0 e es h) es (known_self es))

both : {X : Type 0} (P Q : X → Type 0) (xs : List X) → AllByRecursion P xs → AllByRecursion Q xs → AllByRecursion (λ x. P x × Q x) xs
both P Q [] p q = tt
both P Q (x ∷ xs) p q = ((p.0, q.0), both P Q xs p.1 q.1)

-- the pairs of entries have their keys
pairs_have : (Q : List ℕ → Type 0) (f : Folder) (es : Replayed) → AllByRecursion (λ e. Q e.0) es → AllByRecursion (λ p. Q p.0) (readable f es)
pairs_have Q f [] h = tt
pairs_have Q f (e ∷ es) h = all_append (λ p. Q p.0) (pair_of f e.0 e.1) (readable f es) (of_entry e.1) (pairs_have Q f es h.1) where
  of_file : (n : ℕ) (o : Option (List ℕ)) → AllByRecursion (λ p. Q p.0) (clean_pair e.0 n o)
  of_file n None = tt
  of_file n (Some bytes) = elim (length bytes == n) as (λ b. AllByRecursion (λ (p : List ℕ × List ℕ). Q p.0) (cond {A = List (List ℕ × List ℕ)} b ((e.0, bytes) ∷ []) [])) [ true ↦ (h.0, tt) | false ↦ tt ]

  of_entry : (v : Option ℕ) → AllByRecursion (λ p. Q p.0) (pair_of f e.0 v)
  of_entry None = tt
  of_entry (Some n) = of_file n (get f (value_name e.0))

-- ---- before the sweep

module _ (f : Folder) (t u : TableValue) (whole : Bool) (r : IsRead f t whole) (stay : u.entries ≡ entries_staying f t.entries) where
  pub stay_clean : AreClean u.entries
  stay_clean = subst AreClean (sym stay) (weaken (HasValue f) (λ e. IsSome e.1) (value_clean f) (entries_staying f t.entries) (staying_values f t.entries))

  stay_good : AllByRecursion IsGood u.entries
  stay_good = subst (AllByRecursion IsGood) (sym stay) (all_staying IsGood f t.entries r.good)

  stay_values : AllByRecursion (HasValue f) u.entries
  stay_values = subst (AllByRecursion (HasValue f)) (sym stay) (staying_values f t.entries)

  stay_offers : offered f ≡ readable f u.entries
  stay_offers = offered_found f ∙ ap (readable f) (sym r.entries) ∙ sym (readable_staying f t.entries) ∙ ap (readable f) (sym stay)

  stay_keys : AllByRecursion (λ e. (is_key e.0 ≡ true) × (is_known e.0 u.entries ≡ true)) u.entries
  stay_keys = both _ _ u.entries (weaken IsGood (λ e. is_key e.0 ≡ true) (λ e h. h.0) u.entries stay_good) (known_self u.entries)

  pub stay_known : AreKnown (offered f) u.entries
  stay_known = subst (λ ps. AreKnown ps u.entries) (sym stay_offers) (pairs_have (λ k. (is_key k ≡ true) × (is_known k u.entries ≡ true)) f u.entries stay_keys)

  -- ---- and after it

  module _ (g : Folder) (s : Sweeps u.entries f g) (tidy : IsTidy g u.entries) where
    same_values : AllByRecursion (λ e. get g (value_name e.0) ≡ get f (value_name e.0)) u.entries
    same_values = weaken _ _ (λ e k. s.values e.0 k.0 k.1) u.entries stay_keys

    value_same : (key : List ℕ) (v : Option ℕ) → get g (value_name key) ≡ get f (value_name key) → has_value g key v ≡ has_value f key v
    value_same key None e = refl
    value_same key (Some n) e = ap (has_length n) e

    readable_on : (es : Replayed) → AllByRecursion (λ e. get g (value_name e.0) ≡ get f (value_name e.0)) es → readable g es ≡ readable f es
    readable_on [] h = refl
    readable_on (e ∷ es) h = λ i. pairs e.0 e.1 h.0 i ++ readable_on es h.1 i where
      pairs : (key : List ℕ) (v : Option ℕ) → get g (value_name key) ≡ get f (value_name key) → pair_of g key v ≡ pair_of f key v
      pairs key None e' = refl
      pairs key (Some n) e' = ap (clean_pair key n) e'

    says_on : SaysTable f t → u ≡ t → SaysTable g u
    says_on says same = record {
      says = record {
        lines = says.says.lines;
        good = says.says.good;
        text = s.journal ∙ says.says.text;
        folds = says.says.folds ∙ ap (λ (w : TableValue). Some w.entries) (sym same);
      };
      lines = ap (λ (w : TableValue). w.lines) same ∙ says.lines ∙ ap (λ o. kept_count (count_in o)) (sym s.journal);
    }

    both_parts : (a b : Bool) → (a && not b) ≡ true → (a ≡ true) × (b ≡ false)
    both_parts true true h = cc
    both_parts true false h = (refl, refl)
    both_parts false b h = cc

    pub swept_is : (dropped : Bool) → (dropped ≡ false → u ≡ t) → IsSwept g u (whole && not dropped)
    swept_is dropped none = record {
      offers = s.offers ∙ stay_offers ∙ sym (readable_on u.entries same_values);
      values = weaken _ (HasValue g) (λ e k. value_same e.0 e.1 k.0 ∙ k.1) u.entries (both _ (HasValue f) u.entries same_values stay_values);
      good = stay_good;
      tidy = tidy;
      says = λ h. let parts = both_parts whole dropped h in says_on (r.says parts.0) (none parts.1);
    }

-- ---- what a cache keeps of it

abbrev plain : List ℕ → Option ℕ → Kept
plain key len = record { len = len; edit = None }

plain_kept : (written : List ℕ) (es : Replayed) → mapped (kept_by (replicate 16 None) written) es ≡ mapped plain es
plain_kept written [] = refl
plain_kept written (e ∷ es) = ap (λ l. (e.0, plain e.0 e.1) ∷ l) (plain_kept written es)

pub kept_plain : (t : CacheTableValue) → HasNoEdits t → kept t ≡ mapped plain t.table.entries
kept_plain t free = ap (λ edits. mapped (kept_by edits t.written) t.table.entries) free ∙ plain_kept t.written t.table.entries

pub in_journal_plain : (es : Replayed) → mapped in_journal (mapped plain es) ≡ es
in_journal_plain [] = refl
in_journal_plain (e ∷ es) = ap (λ l. e ∷ l) (in_journal_plain es)

may_have : (f : Folder) (key : List ℕ) (v : Option ℕ) → IsShort v → has_value f key v ≡ true → MayHave (get f (value_name key)) v
may_have f key None short h = tt
may_have f key (Some n) short h = (short, λ bytes is. eqb-true (length bytes) n (sym (ap (has_length n) is) ∙ h))

fits_plain : (f : Folder) (es : Replayed) → AllByRecursion IsGood es → AllByRecursion (HasValue f) es → AllByRecursion (Fits f) (mapped plain es)
fits_plain f [] good values = tt
fits_plain f (e ∷ es) good values = (record { key = good.0.0; value = may_have f e.0 e.1 good.0.1 values.0; edit = tt }, fits_plain f es good.1 values.1)

one_pair : (f : Folder) (key : List ℕ) (v : Option ℕ) → has_value f key v ≡ true
    → (bytes : List ℕ) × (v ≡ Some (length bytes)) × (get f (value_name key) ≡ Some bytes) × (pair_of f key v ≡ (key, bytes) ∷ [])
one_pair f key None h = cc
one_pair f key (Some n) h = by (get f (value_name key)) refl h where
  by : (o : Option (List ℕ)) → get f (value_name key) ≡ o → has_length n o ≡ true
      → (bytes : List ℕ) × (Some n ≡ Some (length bytes)) × (get f (value_name key) ≡ Some bytes) × (clean_pair key n (get f (value_name key)) ≡ (key, bytes) ∷ [])
  by None e k = cc
  by (Some bytes) e k = (bytes, ap (λ m. Some m) (sym (eqb-true (length bytes) n k)), e, ap (clean_pair key n) e ∙ ap (λ b. cond {A = List (List ℕ × List ℕ)} b ((key, bytes) ∷ []) []) k)

listed_plain : (f : Folder) (es : Replayed) → AllByRecursion (HasValue f) es → listed f (mapped plain es) ≡ list_of_pairs (readable f es)
listed_plain f [] h = refl
listed_plain f (e ∷ es) h =
    let p = one_pair f e.0 e.1 h.0 in
    (λ i. (e.0, in_folder f e.0 (plain e.0 (p.1 i))) ∷ listed_plain f es h.1 i)
    ∙ ap (λ o. (e.0, record { values = o; marked = false }) ∷ list_of_pairs (readable f es)) p.2
    ∙ ap (λ l. list_of_pairs (l ++ readable f es)) (sym p.3)

lengths_plain : (f : Folder) (es : Replayed) → AllByRecursion (HasValue f) es → es ≡ lengths_in (readable f es)
lengths_plain f [] h = refl
lengths_plain f (e ∷ es) h =
    let p = one_pair f e.0 e.1 h.0 in
    (λ i. (e.0, p.1 i) ∷ lengths_plain f es h.1 i) ∙ ap (λ l. lengths_in (l ++ readable f es)) (sym p.3)

pub ready_of : (f : Folder) (t : CacheTableValue) (whole : Bool) → HasNoEdits t → IsSwept f t.table whole → IsOnce t.table.entries → length t.table.entries ≤ 16400 → IsReady f t
ready_of f t whole free s once few = record {
  entries = lengths_plain f t.table.entries s.values ∙ ap lengths_in (sym s.offers);
  keeps = subst (IsKept f) (sym (kept_plain t free)) record {
    files = fits_plain f t.table.entries s.good s.values;
    count = omega (arith, few, length_mapped plain t.table.entries);
    once = once_mapped plain t.table.entries once;
  };
  list = ap (listed f) (kept_plain t free) ∙ listed_plain f t.table.entries s.values ∙ ap list_of_pairs (sym s.offers);
  tidy = s.tidy;
}

pub open_of : (f : Folder) (t : CacheTableValue) → HasNoEdits t → IsReady f t → SaysTable f t.table → IsOpen f t
open_of f t free r s = record {
  entries = r.entries;
  sound = record {
    says = subst (Says f) (sym (ap (mapped in_journal) (kept_plain t free) ∙ in_journal_plain t.table.entries)) s.says;
    files = r.keeps.files;
    count = r.keeps.count;
    once = r.keeps.once;
  };
  list = r.list;
  tidy = r.tidy;
  lines = s.lines;
}

-- ---- after a new journal

pub offers_pairs : (ps : List (List ℕ × List ℕ)) → offers (list_of_pairs ps) ≡ ps
offers_pairs [] = refl
offers_pairs (p ∷ ps) = ap (λ l. p ∷ l) (offers_pairs ps)

pub rebuild_same : (f c : Folder) (t : CacheTableValue) → IsReady f t → RebuildWay f (kept t) c → OffersSame f c
rebuild_same f c t r w = elim w.0 as (λ _. offered c ≡ offered f) [ inl e ↦ e | inr e ↦ e ∙ ap offers r.list ∙ offers_pairs (offered f) ]

named : (name other : List ℕ) (X : Type 0) → (name ≡ other → X) → (name ≢ other → X) → X
named name other X same differs =
    elim (bytes_eq name other) as (λ b. bytes_eq name other ≡ b → X) [
      | true ↦ λ t. same ((bytes_eq-Decides name other).0 t)
      | false ↦ λ t. differs (λ e. let yes' = (bytes_eq-Decides name other).1 e in cc)
    ] refl

gone_there : (g : Folder) (name other : List ℕ) (X : Type 0) → name ≡ other → get g other ≡ None → IsSome (get g name) → X
gone_there g name other X same gone there = let no' : false ≡ true = ap is_some (sym gone ∙ ap (get g) (sym same)) ∙ there in absurd (cc)

tidy_after : (f g : Folder) (es : Replayed) → IsTidy f es → SameEntries f g → get g journal_tmp ≡ None → get g journal_bkp ≡ None → IsTidy g es
tidy_after f g es tidy same tmp bkp name there =
    named name journal_name (Belongs name es) (λ e. inl e) (λ nj.
    named name journal_tmp (Belongs name es) (λ e. gone_there g name journal_tmp (Belongs name es) e tmp there) (λ nt.
    named name journal_bkp (Belongs name es) (λ e. gone_there g name journal_bkp (Belongs name es) e bkp there) (λ nb.
    tidy name (subst IsSome (same name nj nt nb) there))))

capped : (n : ℕ) → n ≤ 16400 → n ≡ kept_count n
capped n few = omega (arith, few)

pub open_after : (f g : Folder) (t u : CacheTableValue) → IsReady f t → SameEntries f g → get g journal_tmp ≡ None → get g journal_bkp ≡ None → OffersSame f g
    → IsSound g (kept t) → listed g (kept t) ≡ listed f (kept t) → line_count g ≡ length (kept t) → length t.table.entries ≤ 16400
    → kept u ≡ kept t → u.table ≡ record t.table { lines = length t.table.entries } → IsOpen g u
open_after f g t u r same tmp bkp offers' sound list lines few keeps table =
    let entries : u.table.entries ≡ t.table.entries = ap (λ (w : TableValue). w.entries) table in
    record {
      entries = entries ∙ r.entries ∙ ap lengths_in (sym offers');
      sound = subst (IsSound g) (sym keeps) sound;
      list = ap (listed g) keeps ∙ list ∙ r.list ∙ ap list_of_pairs (sym offers');
      tidy = subst (IsTidy g) (sym entries) (tidy_after f g t.table.entries r.tidy same tmp bkp);
      lines = ap (λ (w : TableValue). w.lines) table ∙ capped (length t.table.entries) few ∙ ap kept_count (sym (length_mapped (kept_by t.table.edits t.written) t.table.entries) ∙ sym lines);
    }

-- ---- a journal of too many lines

pub ready_open : (f : Folder) (t : CacheTableValue) → IsOpen f t → IsReady f t
ready_open f t o = record {
  entries = o.entries;
  keeps = record { files = o.sound.files; count = o.sound.count; once = o.sound.once };
  list = o.list;
  tidy = o.tidy;
}

nothing_saved : (n m : ℕ) → m ≡ n → nat_le 2000 (m - n) ≡ false
nothing_saved n m e = lt-leb 2000 (m - n) (omega (arith, e))

pub not_due : (t u : TableValue) → u.entries ≡ t.entries → u.lines ≡ length t.entries → is_due u ≡ false
not_due t u entries lines = ap (λ b. b && nat_le (length u.entries) (u.lines - length u.entries)) (nothing_saved (length u.entries) u.lines (lines ∙ ap length (sym entries)))
