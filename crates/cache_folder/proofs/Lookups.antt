-- What is found of a key after a change, and what a list answers for it.
use Rattle.std.proofs.Common.{◌≡◌, ◌≢◌, ℕ, Bool, true, false, cond, not, ◌&&◌, List, [], ◌∷◌, ◌++◌, length, Some, None, refl, sym, ap, subst, ◌∙◌, is_some, option_and_then}
use Rattle.std.specs.declared.option.Option.{Option}
use Rattle.std.specs.Option.{option_map}
use Rattle.std.specs.List.{AllByRecursion}
use Rattle.std.specs.FinMap.{get}
use Rattle.std.specs.Str.{bytes_eq}
use Rattle.std.proofs.lemmas.Slice.Eq.{bytes_eq-Decides}
use Rattle.outside.specs.Files.{Folder}
use Rattle.disk_table.specs.UseOrder.{Entries, without, value_at, is_known, newest, renewed, used}
use Rattle.cache_folder.specs.Offered.{value_name}
use Rattle.cache_folder.specs.Steps.{Entry, Cached, CacheStep, Doubt, Commit, Restore, Use, Drop, values_at, stepped, all_stepped, unmarked, answer_at, Leaves}
use Rattle.cache_folder.specs.Tables.{Kept, Table, len_at, edit_at, is_offered, begun, committed, aborted, with_edit, grown_edit}
use Rattle.cache_folder.specs.Sound.{in_folder, listed, SameLength, abort_step}
use Rattle.cache_folder.proofs.Mapped.{value_at-mapped}

-- ---- entries

different : (a b : List ℕ) → a ≢ b → bytes_eq a b ≡ false
different a b ne = elim (bytes_eq a b) as (λ t. bytes_eq a b ≡ t → t ≡ false) [
  | true ↦ λ e. absurd (ne ((bytes_eq-Decides a b).0 e))
  | false ↦ λ e. refl
] refl

-- one choice in another with the same test
chosen : {A : Type 0} (b : Bool) (x y z : A) → cond b x (cond b y z) ≡ cond b x z
chosen true x y z = refl
chosen false x y z = refl

found_without : {V : Type 0} (any key : List ℕ) (es : Entries V) → value_at any (without key es) ≡ cond (bytes_eq any key) None (value_at any es)
found_without {V} any key [] = nothing (bytes_eq any key) where
  nothing : (b : Bool) → None ≡ cond {A = Option V} b None None
  nothing true = refl
  nothing false = refl
found_without {V} any key (e ∷ es) =
    elim (bytes_eq key e.0) as (λ b. bytes_eq key e.0 ≡ b → value_at any (cond b (without key es) (e ∷ without key es)) ≡ cond (bytes_eq any key) None (cond (bytes_eq any e.0) (Some e.1) (value_at any es))) [
      | true ↦ λ same. found_without any key es ∙ sym (chosen (bytes_eq any key) None (Some e.1) (value_at any es))
          ∙ ap (λ k. cond (bytes_eq any key) None (cond (bytes_eq any k) (Some e.1) (value_at any es))) ((bytes_eq-Decides key e.0).0 same)
      | false ↦ λ other. elim (bytes_eq any e.0) as (λ b. bytes_eq any e.0 ≡ b → cond b (Some e.1) (value_at any (without key es)) ≡ cond (bytes_eq any key) None (cond b (Some e.1) (value_at any es))) [
        | true ↦ λ here. sym (ap (λ b. cond b None (Some e.1)) (different any key (λ is. let yes = (bytes_eq-Decides key e.0).1 (sym is ∙ (bytes_eq-Decides any e.0).0 here) in cc)))
        | false ↦ λ there. found_without any key es
      ] refl
    ] refl

found_last : {V : Type 0} (any key : List ℕ) (v : V) (es : Entries V) (o : Option V) → value_at any es ≡ cond (bytes_eq any key) None o → value_at any (es ++ (key, v) ∷ []) ≡ cond (bytes_eq any key) (Some v) o
found_last {V} any key v [] o is = elim (bytes_eq any key) as (λ b. None ≡ cond b None o → cond b (Some v) None ≡ cond b (Some v) o) [ true ↦ λ h. refl | false ↦ λ h. h ] is
found_last {V} any key v (e ∷ es) o is =
    elim (bytes_eq any e.0) as (λ b. cond b (Some e.1) (value_at any es) ≡ cond (bytes_eq any key) None o → cond b (Some e.1) (value_at any (es ++ (key, v) ∷ [])) ≡ cond (bytes_eq any key) (Some v) o) [
      | true ↦ λ h. elim (bytes_eq any key) as (λ b. Some e.1 ≡ cond b None o → Some e.1 ≡ cond b (Some v) o) [ true ↦ λ k. cc | false ↦ λ k. k ] h
      | false ↦ λ h. found_last any key v es o h
    ] is

found_newest : {V : Type 0} (any key : List ℕ) (v : V) (es : Entries V) → value_at any (newest key v es) ≡ cond (bytes_eq any key) (Some v) (value_at any es)
found_newest any key v es = found_last any key v (without key es) (value_at any es) (found_without any key es)

found_used : {V : Type 0} (any key : List ℕ) (es : Entries V) → value_at any (used key es) ≡ value_at any es
found_used {V} any key es = by (value_at key es) refl where
  by : (o : Option V) → value_at key es ≡ o → value_at any (renewed key o es) ≡ value_at any es
  by None is = refl
  by (Some v) is = found_newest any key v es ∙ (elim (bytes_eq any key) as (λ b. bytes_eq any key ≡ b → cond b (Some v) (value_at any es) ≡ value_at any es) [
    | true ↦ λ same. sym (ap (λ k. value_at k es) ((bytes_eq-Decides any key).0 same) ∙ is)
    | false ↦ λ other. refl
  ] refl)

other_newest : {V : Type 0} (any key : List ℕ) (v : V) (es : Entries V) → any ≢ key → value_at any (newest key v es) ≡ value_at any es
other_newest any key v es ne = found_newest any key v es ∙ ap (λ b. cond b (Some v) (value_at any es)) (different any key ne)

other_without : {V : Type 0} (any key : List ℕ) (es : Entries V) → any ≢ key → value_at any (without key es) ≡ value_at any es
other_without any key es ne = found_without any key es ∙ ap (λ b. cond b None (value_at any es)) (different any key ne)

pub known_left : {V : Type 0} (key other : List ℕ) (es : Entries V) → other ≢ key → is_known other (without key es) ≡ is_known other es
known_left key other es ne = ap is_some (other_without other key es ne)

-- ---- what the list answers

abbrev answer_of : Option (Entry (List ℕ)) → Option (List ℕ)
answer_of o = option_and_then (λ e. unmarked e.marked e.values) o

pub other_answer : (key other : List ℕ) (es : Cached (List ℕ)) → other ≢ key → answer_at other (without key es) ≡ answer_at other es
other_answer key other es ne = ap answer_of (other_without other key es ne)

answer_stepped : (key : List ℕ) (es : Cached (List ℕ)) (step : CacheStep (List ℕ)) → Leaves key step → answer_at key (stepped es step) ≡ answer_at key es
answer_stepped key es (Doubt k) ne = ap answer_of (other_newest key k record { values = values_at k es; marked = true } es ne)
answer_stepped key es (Commit k values) ne = ap answer_of (other_newest key k record { values = Some values; marked = false } es ne)
answer_stepped key es (Restore k) ne = ap answer_of (other_newest key k record { values = values_at k es; marked = false } es ne)
answer_stepped key es (Use k) h = ap answer_of (found_used key k es)
answer_stepped key es (Drop k) ne = other_answer k key es ne

pub answer_left : (key : List ℕ) (es : Cached (List ℕ)) (steps : List (CacheStep (List ℕ))) → AllByRecursion (Leaves key) steps → answer_at key (all_stepped es steps) ≡ answer_at key es
answer_left key es [] h = refl
answer_left key es (step ∷ steps) h = answer_left key (stepped es step) steps h.1 ∙ answer_stepped key es step h.0

pub edit_begun : (key : List ℕ) (t : Table) → edit_at key (begun key t) ≡ Some 0
edit_begun key t =
    let k : Kept = record { len = len_at key t; edit = Some 0 } in
    ap (option_and_then (λ (o : Kept). o.edit)) (found_newest key key k t ∙ ap (λ b. cond b (Some k) (value_at key t)) ((bytes_eq-Decides key key).1 refl))

pub answer_committed : (key values : List ℕ) (es : Cached (List ℕ)) → answer_at key (stepped es (Commit key values)) ≡ Some values
answer_committed key values es =
    let e : Entry (List ℕ) = record { values = Some values; marked = false } in
    ap answer_of (found_newest key key e es ∙ ap (λ b. cond b (Some e) (value_at key es)) ((bytes_eq-Decides key key).1 refl))

pub list_answers : (key : List ℕ) (f : Folder) (t : Table) → answer_at key (listed f t) ≡ cond (is_offered key t) (get f (value_name key)) None
list_answers key f t = ap answer_of (value_at-mapped (in_folder f) key t) ∙ by (value_at key t) where
  kept : (len edit : Option ℕ) → unmarked (is_some edit) (option_and_then (λ n. get f (value_name key)) len) ≡ cond (is_some len && not (is_some edit)) (get f (value_name key)) None
  kept None None = refl
  kept None (Some n) = refl
  kept (Some n) None = refl
  kept (Some n) (Some m) = refl

  by : (o : Option Kept) → answer_of (option_map (in_folder f key) o) ≡ cond (is_some (option_and_then (λ k. k.len) o) && not (is_some (option_and_then (λ k. k.edit) o))) (get f (value_name key)) None
  by None = refl
  by (Some k) = kept k.len k.edit

pub answers_offered : (key : List ℕ) (f : Folder) (t : Table) → SameLength key t (listed f t) → is_offered key t ≡ is_some (answer_at key (listed f t))
answers_offered key f t same = by (len_at key t) (edit_at key t) (same ∙ ap (λ o. option_map length (option_and_then (λ e. e.values) o)) (value_at-mapped (in_folder f) key t) ∙ listed_length (value_at key t))
    ∙ sym (ap is_some (list_answers key f t)) where
      listed_length : (o : Option Kept) → option_map length (option_and_then (λ e. e.values) (option_map (in_folder f key) o)) ≡ option_map length (option_and_then (λ n. get f (value_name key)) (option_and_then (λ k. k.len) o))
      listed_length None = refl
      listed_length (Some k) = refl

      there : (n : ℕ) (o : Option (List ℕ)) → Some n ≡ option_map length o → true ≡ is_some o
      there n None h = cc
      there n (Some bytes) h = refl

      by : (len edit : Option ℕ) → len ≡ option_map length (option_and_then (λ n. get f (value_name key)) len)
          → (is_some len && not (is_some edit)) ≡ is_some (cond (is_some len && not (is_some edit)) (get f (value_name key)) None)
      by None edit h = refl
      by (Some n) (Some m) h = refl
      by (Some n) None h = there n (get f (value_name key)) h

-- ---- the lengths in a table and in a list

length_newest : (any key : List ℕ) (k : Kept) (e : Entry (List ℕ)) (t : Table) (es : Cached (List ℕ)) → (any ≡ key → k.len ≡ option_map length e.values) → SameLength any t es → SameLength any (newest key k t) (newest key e es)
length_newest any key k e t es own same =
    ap (option_and_then (λ (x : Kept). x.len)) (found_newest any key k t)
    ∙ (elim (bytes_eq any key) as (λ b. bytes_eq any key ≡ b → option_and_then (λ (x : Kept). x.len) (cond b (Some k) (value_at any t)) ≡ option_map length (option_and_then (λ (x : Entry (List ℕ)). x.values) (cond b (Some e) (value_at any es)))) [
      | true ↦ λ is. own ((bytes_eq-Decides any key).0 is)
      | false ↦ λ is. same
    ] refl)
    ∙ sym (ap (λ o. option_map length (option_and_then (λ (x : Entry (List ℕ)). x.values) o)) (found_newest any key e es))

pub length_begun : (any key : List ℕ) (t : Table) (es : Cached (List ℕ)) → SameLength any t es → SameLength any (begun key t) (stepped es (Doubt key))
length_begun any key t es same = length_newest any key record { len = len_at key t; edit = Some 0 } record { values = values_at key es; marked = true } t es (λ is. subst (λ k. SameLength k t es) is same) same

pub length_committed : (any key values : List ℕ) (n : ℕ) (t : Table) (es : Cached (List ℕ)) → length values ≡ n → SameLength any t es → SameLength any (committed key n t) (stepped es (Commit key values))
length_committed any key values n t es is same = length_newest any key record { len = Some n; edit = None } record { values = Some values; marked = false } t es (λ own. ap (λ m. Some m) (sym is)) same

pub length_dropped : (any key : List ℕ) (t : Table) (es : Cached (List ℕ)) → SameLength any t es → SameLength any (without key t) (stepped es (Drop key))
length_dropped any key t es same =
    ap (option_and_then (λ (x : Kept). x.len)) (found_without any key t)
    ∙ (elim (bytes_eq any key) as (λ b. option_and_then (λ (x : Kept). x.len) (cond b None (value_at any t)) ≡ option_map length (option_and_then (λ (x : Entry (List ℕ)). x.values) (cond b None (value_at any es)))) [
      | true ↦ refl
      | false ↦ same
    ])
    ∙ sym (ap (λ o. option_map length (option_and_then (λ (x : Entry (List ℕ)). x.values) o)) (found_without any key es))

pub length_aborted : (any key : List ℕ) (t : Table) (es : Cached (List ℕ)) → SameLength any t es → SameLength any (aborted (len_at key t) key t) (stepped es (abort_step (len_at key t) key))
length_aborted any key t es same = by (len_at key t) where
  by : (o : Option ℕ) → SameLength any (aborted o key t) (stepped es (abort_step o key))
  by None = length_dropped any key t es same
  by (Some n) = length_newest any key record { len = len_at key t; edit = None } record { values = values_at key es; marked = false } t es (λ is. subst (λ k. SameLength k t es) is same) same

pub length_used : (any key : List ℕ) (t : Table) (es : Cached (List ℕ)) → SameLength any t es → SameLength any (used key t) (stepped es (Use key))
length_used any key t es same =
    ap (option_and_then (λ (x : Kept). x.len)) (found_used any key t) ∙ same
    ∙ sym (ap (λ o. option_map length (option_and_then (λ (x : Entry (List ℕ)). x.values) o)) (found_used any key es))

pub length_written : (any key : List ℕ) (n : ℕ) (t : Table) (es : Cached (List ℕ)) → SameLength any t es → SameLength any (grown_edit key n t) es
length_written any key n t es same = ap (option_and_then (λ (x : Kept). x.len)) (value_at-mapped (with_edit key n) any t) ∙ by (value_at any t) ∙ same where
  by : (o : Option Kept) → option_and_then (λ (x : Kept). x.len) (option_map (with_edit key n any) o) ≡ option_and_then (λ (x : Kept). x.len) o
  by None = refl
  by (Some k) = elim (bytes_eq key any) as (λ b. (let x : Kept = cond b (let y : Kept = record { len = k.len; edit = Some n } in y) k in x.len) ≡ k.len) [ true ↦ refl | false ↦ refl ]

pub length_others : (key other : List ℕ) (t : Table) (es gs : Cached (List ℕ)) → other ≢ key → without key gs ≡ without key es → SameLength other t es → SameLength other t gs
length_others key other t es gs ne others same = same ∙ ap (λ o. option_map length (option_and_then (λ (x : Entry (List ℕ)). x.values) o)) (sym (other_without other key es ne) ∙ sym (ap (value_at other) others) ∙ other_without other key gs ne)
