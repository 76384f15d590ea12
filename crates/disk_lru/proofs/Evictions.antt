-- Evictions at a start, one after the other.
use Rattle.std.proofs.Common.{◌≡◌, ◌≢◌, ℕ, ◌+◌, ◌<◌, ◌≤◌, Bool, true, false, cond, List, [], ◌∷◌, ◌++◌, length, Some, None, Ok, refl, sym, ap, subst, ◌∙◌, append_assoc, append-nil, arith, is_some, option_and_then, inl, ◌||◌}
use Rattle.std.specs.Prelude.{nat_lt, sum_by}
use Rattle.std.specs.declared.option.Option.{Option}
use Rattle.std.specs.Option.{option_map}
use Rattle.std.specs.List.{AllByRecursion}
use Rattle.std.specs.Str.{bytes_eq}
use lib.ListN.{replicate}
use Rattle.std.proofs.lemmas.List.Sums.{sum_by-cons}
use Rattle.std.proofs.lemmas.Slice.Eq.{bytes_eq-Decides}
use Rattle.outside.specs.Files.{Folder, FolderHistory, passed_through}
use Rattle.disk_table.specs.UseOrder.{Entries, IsOnce, without, value_at, is_known, length_in, size_of}
use Rattle.disk_table.specs.Table.{edit_of, is_under_edit, is_over, keys_in, eldest_closed, eldest_over}
use Rattle.cache_folder.specs.Offered.{Replayed, offered}
use Rattle.cache_folder.specs.Sound.{listed, SameLength}
use Rattle.cache_folder.specs.Allowed.{handed_by}
use Rattle.cache_folder.specs.Steps.{Entry, CacheStep, Drop}
use Rattle.cache_folder.specs.Tables.{Kept, Table, CacheTableValue, mapped, kept_by, kept}
use Rattle.cache_folder.specs.Starts.{HasNoEdits, IsOpen, Belongs, list_of_pairs, lengths_in, are_over, evictions, staying}
use Rattle.disk_lru.specs.State.{list_of}
use Rattle.disk_lru.specs.Calls.{drop_steps}
use Rattle.disk_lru.specs.Past.{DiskState, steps_at}
use Rattle.disk_lru.specs.Started.{one_by_one, kept_of, IsStarted}
use Rattle.disk_lru.specs.Trims.{Trims, HasNoOther}
use Rattle.disk_lru.specs.inside.Evicting.{IsEvicting}
use Rattle.disk_lru.proofs.Runs.{same_some}

abbrev pub Pairs : Type 0
Pairs = List (List ℕ × List ℕ)

-- ---- what the table has

kept_unedited : (written : List ℕ) (ps : Pairs) → mapped (kept_by (replicate 16 None) written) (lengths_in ps) ≡ kept_of ps
kept_unedited written [] = refl
kept_unedited written (p ∷ ps) = ap (λ l. (p.0, record { len = Some (length p.1); edit = None }) ∷ l) (kept_unedited written ps)

pub kept_is : (t : CacheTableValue) (ps : Pairs) → HasNoEdits t → t.table.entries ≡ lengths_in ps → kept t ≡ kept_of ps
kept_is t ps free is = (λ i. mapped (kept_by (free i) t.written) (is i)) ∙ kept_unedited t.written ps

abbrev len_of : List ℕ → Kept → Option ℕ
len_of key k = k.len

lens_back : (edits : List (Option (List ℕ))) (written : List ℕ) (es : Replayed) → mapped len_of (mapped (kept_by edits written) es) ≡ es
lens_back edits written [] = refl
lens_back edits written (e ∷ es) = ap (λ l. e ∷ l) (lens_back edits written es)

lens_of : (ps : Pairs) → mapped len_of (kept_of ps) ≡ lengths_in ps
lens_of [] = refl
lens_of (p ∷ ps) = ap (λ l. (p.0, Some (length p.1)) ∷ l) (lens_of ps)

entries_are : (t : CacheTableValue) (ps : Pairs) → kept t ≡ kept_of ps → t.table.entries ≡ lengths_in ps
entries_are t ps is = sym (lens_back t.table.edits t.written t.table.entries) ∙ ap (mapped len_of) is ∙ lens_of ps

abbrev first_edit : Table → Option ℕ
first_edit [] = None
first_edit (e ∷ es) = e.1.edit

no_number : (o : Option ℕ) (f : ℕ → ℕ) → option_map f o ≡ None → is_some o ≡ false
no_number None f h = refl
no_number (Some n) f h = cc

first_free : (edits : List (Option (List ℕ))) (written : List ℕ) (es : Replayed) (p : List ℕ × List ℕ) (ps : Pairs) → es ≡ lengths_in (p ∷ ps) → mapped (kept_by edits written) es ≡ kept_of (p ∷ ps) → is_under_edit p.0 edits ≡ false
first_free edits written es p ps are is = no_number (edit_of p.0 edits) _ (ap first_edit (ap (mapped (kept_by edits written)) (sym are) ∙ is))

-- ---- whether there is too much

size_is : (ps : Pairs) → size_of (lengths_in ps) ≡ sum_by (λ (p : List ℕ × List ℕ). length p.1) ps
size_is [] = refl
size_is (p ∷ ps) = sum_by-cons length_in (p.0, Some (length p.1)) (lengths_in ps) ∙ ap (λ n. length p.1 + n) (size_is ps) ∙ sym (sum_by-cons (λ (q : List ℕ × List ℕ). length q.1) p ps)

count_is : (ps : Pairs) → length (lengths_in ps) ≡ length ps
count_is [] = refl
count_is (p ∷ ps) = omega (arith, count_is ps)

over_is : (maximum : ℕ) (ps : Pairs) → is_over maximum (lengths_in ps) ≡ are_over maximum ps
over_is maximum ps i = nat_lt maximum (size_is ps i) || nat_lt 16384 (count_is ps i)

-- the eldest goes where there is too much
eldest_is : (maximum : ℕ) (t : CacheTableValue) (p : List ℕ × List ℕ) (ps : Pairs) → kept t ≡ kept_of (p ∷ ps) → eldest_over maximum t.table ≡ cond (are_over maximum (p ∷ ps)) (Some p.0) None
eldest_is maximum t p ps is =
    let are : t.table.entries ≡ lengths_in (p ∷ ps) = entries_are t (p ∷ ps) is in
    let free : is_under_edit p.0 t.table.edits ≡ false = first_free t.table.edits t.written t.table.entries p ps are is in
    (λ i. cond (is_over maximum (are i)) (eldest_closed t.table.edits (keys_in (are i))) None)
    ∙ (λ i. cond (over_is maximum (p ∷ ps) i) (cond (free i) (eldest_closed t.table.edits (keys_in (lengths_in ps))) (Some p.0)) None)

eldest_none : (maximum : ℕ) (t : CacheTableValue) → kept t ≡ [] → eldest_over maximum t.table ≡ None
eldest_none maximum t is = (λ i. cond (is_over maximum (entries_are t [] is i)) (eldest_closed t.table.edits (keys_in (entries_are t [] is i))) None) ∙ by (is_over maximum []) where
  by : (b : Bool) → cond b (eldest_closed t.table.edits []) None ≡ None
  by true = refl
  by false = refl

-- ---- one key less

first_gone : {V : Type 0} (key : List ℕ) (v : V) (es : Entries V) → AllByRecursion (λ x. x.0 ≢ key) es → without key ((key, v) ∷ es) ≡ es
first_gone {V} key v es apart = ap (λ b. cond b (without key es) ((key, v) ∷ without key es)) ((bytes_eq-Decides key key).1 refl) ∙ others es apart where
  others : (xs : Entries V) → AllByRecursion (λ x. x.0 ≢ key) xs → without key xs ≡ xs
  others [] a = refl
  others (x ∷ xs) a =
      elim (bytes_eq key x.0) as (λ b. bytes_eq key x.0 ≡ b → cond b (without key xs) (x ∷ without key xs) ≡ x ∷ xs) [
        | true ↦ λ t. absurd (a.0 (sym ((bytes_eq-Decides key x.0).0 t)))
        | false ↦ λ t. ap (λ l. x ∷ l) (others xs a.1)
      ] refl

apart_kept : (key : List ℕ) (ps : Pairs) → AllByRecursion (λ x. x.0 ≢ key) (lengths_in ps) → AllByRecursion (λ x. x.0 ≢ key) (kept_of ps)
apart_kept key [] a = tt
apart_kept key (p ∷ ps) a = (a.0, apart_kept key ps a.1)

apart_list : (key : List ℕ) (ps : Pairs) → AllByRecursion (λ x. x.0 ≢ key) (lengths_in ps) → AllByRecursion (λ x. x.0 ≢ key) (list_of_pairs ps)
apart_list key [] a = tt
apart_list key (p ∷ ps) a = (a.0, apart_list key ps a.1)

one_more : (xs : List (CacheStep (List ℕ))) (x : CacheStep (List ℕ)) → one_by_one (xs ++ x ∷ []) ≡ one_by_one xs ++ (x ∷ []) ∷ []
one_more [] x = refl
one_more (y ∷ xs) x = ap (λ l. (y ∷ []) ∷ l) (one_more xs x)

-- ---- a step of the loop

module _ (maximum : ℕ) (all : Pairs) (old new : DiskState) (key : List ℕ) (trims : Trims key (Ok true) old new) where
  evict_first : (p : List ℕ × List ℕ) (ps : Pairs) (o : IsEvicting maximum all old) → o.left ≡ p ∷ ps → are_over maximum (p ∷ ps) ≡ true → key ≡ p.0 → IsEvicting maximum all new
  evict_first p ps o is over same =
      let made = trims.makes refl in
      let run = made.call.passage.moments o.history o.known in
      let once : IsOnce (lengths_in (p ∷ ps)) = subst (λ l. IsOnce (lengths_in l)) is o.once in
      record {
        left = ps;
        done = o.done ++ Drop p.0 ∷ [];
        history = passed_through run.contents o.history;
        known = run.after_is;
        calls = ap (λ q. q.calls) trims.past
            ∙ (λ i. o.calls i ++ steps_at (o.known i) (drop_steps (same i)) ∷ [])
            ∙ ap (λ l. [] ∷ l) (sym (one_more o.done (Drop p.0)));
        keeps = trims.gone refl ∙ (λ i. without (same i) ((o.keeps ∙ ap kept_of is) i)) ∙ first_gone p.0 _ (kept_of ps) (apart_kept p.0 ps once.0);
        once = once.1;
        steps = o.steps ∙ ap (λ l. o.done ++ evictions maximum l) is ∙ ap (λ b. o.done ++ cond b (Drop p.0 ∷ evictions maximum ps) []) over ∙ sym (append_assoc o.done (Drop p.0 ∷ []) (evictions maximum ps));
        stays = o.stays ∙ ap (staying maximum) is ∙ ap (λ b. cond b (staying maximum ps) (p ∷ ps)) over;
        list = made.call.list o.history o.known (passed_through run.contents o.history) run.after_is
            ∙ (λ i. without (same i) ((o.list ∙ ap list_of_pairs is) i)) ∙ first_gone p.0 _ (list_of_pairs ps) (apart_list p.0 ps once.0);
        files = (trims.files refl).none o.history o.known (passed_through run.contents o.history) run.after_is o.files;
      }

  pub evict_more : IsEvicting maximum all old → eldest_over maximum old.cache.table.table ≡ Some key → IsEvicting maximum all new
  evict_more o found = by o.left refl where
    by : (l : Pairs) → o.left ≡ l → IsEvicting maximum all new
    by [] is = let none : Some key ≡ None = sym found ∙ eldest_none maximum old.cache.table (o.keeps ∙ ap kept_of is) in cc
    by (p ∷ ps) is = over_by (are_over maximum (p ∷ ps)) refl where
      over_by : (b : Bool) → are_over maximum (p ∷ ps) ≡ b → IsEvicting maximum all new
      over_by true over =
          let eldest : Some key ≡ Some p.0 = sym found ∙ eldest_is maximum old.cache.table p ps (o.keeps ∙ ap kept_of is) ∙ ap (λ b. cond b (Some p.0) None) over in
          evict_first p ps o is over (same_some key p.0 eldest)
      over_by false over = let none : Some key ≡ None = sym found ∙ eldest_is maximum old.cache.table p ps (o.keeps ∙ ap kept_of is) ∙ ap (λ b. cond b (Some p.0) None) over in cc

-- ---- and its end

pub all_left : (maximum : ℕ) (t : CacheTableValue) (ps : Pairs) → kept t ≡ kept_of ps → eldest_over maximum t.table ≡ None → (evictions maximum ps ≡ []) × (staying maximum ps ≡ ps)
all_left maximum t [] is none = (refl, refl)
all_left maximum t (p ∷ ps) is none = by (are_over maximum (p ∷ ps)) refl where
  by : (b : Bool) → are_over maximum (p ∷ ps) ≡ b → (evictions maximum (p ∷ ps) ≡ []) × (staying maximum (p ∷ ps) ≡ p ∷ ps)
  by true over = let some : Some p.0 ≡ None = ap (λ b. cond b (Some p.0) None) (sym over) ∙ sym (eldest_is maximum t p ps is) ∙ none in cc
  by false over = (ap (λ b. cond b (Drop p.0 ∷ evictions maximum ps) []) over, ap (λ b. cond b (staying maximum ps) (p ∷ ps)) over)

-- ---- before the first

-- the lengths of such a table are those of its list
lengths_of_pairs : (key : List ℕ) (ps : Pairs) → SameLength key (kept_of ps) (list_of_pairs ps)
lengths_of_pairs key [] = refl
lengths_of_pairs key (p ∷ ps) =
    elim (bytes_eq key p.0) as (λ b. option_and_then (λ (k : Kept). k.len) (cond b (Some (let k : Kept = record { len = Some (length p.1); edit = None } in k)) (value_at key (kept_of ps))) ≡ option_map length (option_and_then (λ (e : Entry (List ℕ)). e.values) (cond b (Some (let e : Entry (List ℕ) = record { values = Some p.1; marked = false } in e)) (value_at key (list_of_pairs ps))))) [
      | true ↦ refl
      | false ↦ lengths_of_pairs key ps
    ]

pub answers_opened : (f : Folder) (t : CacheTableValue) → HasNoEdits t → IsOpen f t → (key : List ℕ) → SameLength key (kept t) (listed f (kept t))
answers_opened f t free o key = subst (λ k. SameLength key k (listed f (kept t))) (sym (kept_is t (offered f) free o.entries)) (subst (SameLength key (kept_of (offered f))) (sym o.list) (lengths_of_pairs key (offered f)))

once_lengths : (ps : Pairs) → IsOnce (kept_of ps) → IsOnce (lengths_in ps)
once_lengths [] o = tt
once_lengths (p ∷ ps) o = (apart p.0 ps o.0, once_lengths ps o.1) where
  apart : (key : List ℕ) (qs : Pairs) → AllByRecursion (λ x. x.0 ≢ key) (kept_of qs) → AllByRecursion (λ x. x.0 ≢ key) (lengths_in qs)
  apart key [] a = tt
  apart key (q ∷ qs) a = (a.0, apart key qs a.1)

pub evicting_first : (maximum : ℕ) (disk : DiskState) (before k : FolderHistory) (t : CacheTableValue) → disk.cache.table ≡ t → disk.cache.history ≡ Some k → disk.past.calls ≡ [] ∷ []
    → HasNoEdits t → IsOpen k.held t → offered k.held ≡ offered before.held → IsEvicting maximum (offered before.held) disk
evicting_first maximum disk before k t table known calls free o same =
    let keeps : kept t ≡ kept_of (offered before.held) = kept_is t (offered before.held) free (o.entries ∙ ap lengths_in same) in
    record {
      left = offered before.held;
      done = [];
      history = k;
      known = known;
      calls = calls;
      keeps = ap kept table ∙ keeps;
      once = once_lengths (offered before.held) (subst IsOnce keeps o.sound.once);
      steps = refl;
      stays = refl;
      list = ap (λ (u : CacheTableValue). listed k.held (kept u)) table ∙ o.list ∙ ap list_of_pairs same;
      files = record { each = λ name there. inl (subst (λ (u : CacheTableValue). Belongs name u.table.entries) (sym table) (o.tidy name there)) };
    }

-- ---- after the last

pub evicting_last : (maximum : ℕ) (disk : DiskState) (before : FolderHistory) → IsEvicting maximum (offered before.held) disk → eldest_over maximum disk.cache.table.table ≡ None → IsStarted maximum before disk
evicting_last maximum disk before o none =
    let ends = all_left maximum disk.cache.table o.left o.keeps none in
    let left : o.left ≡ staying maximum (offered before.held) = sym (o.stays ∙ ends.1) in
    record {
      calls = o.calls ∙ ap (λ l. [] ∷ one_by_one l) (sym (o.steps ∙ ap (λ l. o.done ++ l) ends.0 ∙ append-nil o.done));
      list = λ k e. ap (λ (h : FolderHistory). list_of h.held disk.cache) (same_some _ _ (sym e ∙ o.known)) ∙ o.list ∙ ap list_of_pairs left;
      keeps = o.keeps ∙ ap kept_of left;
      files = λ k e. subst (λ (h : FolderHistory). HasNoOther h.held disk.cache) (same_some o.history k (sym o.known ∙ e)) o.files;
    }

-- ---- what an eviction adds to the past

nothing_handed : (o : Option FolderHistory) (key : List ℕ) → handed_by (steps_at o (drop_steps key)) ≡ []
nothing_handed None key = refl
nothing_handed (Some h) key = refl

pub handed_same : (o : Option FolderHistory) (key : List ℕ) (handed : Pairs) → handed ++ handed_by (steps_at o (drop_steps key)) ≡ handed
handed_same o key handed = ap (λ l. handed ++ l) (nothing_handed o key) ∙ append-nil handed

pub not_failed : (b : Bool) → (b || false) ≡ b
not_failed true = refl
not_failed false = refl

pub some_key : (o : Option (List ℕ)) → is_some o ≡ true → (key : List ℕ) × (o ≡ Some key)
some_key None h = cc
some_key (Some key) h = (key, refl)

pub no_key : (o : Option (List ℕ)) → is_some o ≡ false → o ≡ None
no_key None h = refl
no_key (Some key) h = cc

-- a known key is one entry at least
less : {V : Type 0} (key : List ℕ) (es : Entries V) → length (without key es) ≤ length es
less key [] = omega arith
less key (e ∷ es) = let rest = less key es in elim (bytes_eq key e.0) as (λ b. length (cond b (without key es) (e ∷ without key es)) ≤ length (e ∷ es)) [ true ↦ omega (arith, rest) | false ↦ omega (arith, rest) ]

pub one_less : {V : Type 0} (key : List ℕ) (es : Entries V) → is_known key es ≡ true → length (without key es) < length es
one_less key [] h = cc
one_less key (e ∷ es) h =
    elim (bytes_eq key e.0) as (λ b. is_some (cond b (Some e.1) (value_at key es)) ≡ true → length (cond b (without key es) (e ∷ without key es)) < length (e ∷ es)) [
      | true ↦ λ k. omega (arith, less key es)
      | false ↦ λ k. omega (arith, one_less key es k)
    ] h
