-- The edits of a table under the changes that calls make.
use Rattle.std.proofs.Common.{◌≡◌, ◌≢◌, ℕ, ◌+◌, true, false, cond, List, [], ◌∷◌, ◌++◌, Some, None, refl, sym, ap, subst, ◌∙◌, arith}
use Rattle.std.specs.Prelude.{is_some, option_and_then}
use Rattle.std.specs.declared.option.Option.{Option}
use Rattle.std.specs.List.{AllByRecursion}
use Rattle.std.specs.Str.{bytes_eq}
use Rattle.std.proofs.lemmas.Slice.Eq.{bytes_eq-Decides}
use Rattle.disk_table.specs.UseOrder.{IsOnce, without, value_at, newest, renewed, used}
use Rattle.cache_folder.specs.Tables.{Kept, Table, with_edit, aborted, grown_edit, len_at, edit_at}
use Rattle.store_world.specs.Sound.{one_if, keys_under_edit}

pub same_if : (a b : List ℕ) → bytes_eq b a ≡ true → a ≡ b
same_if a b t = sym ((bytes_eq-Decides b a).0 t)

pub true_if : (a b : List ℕ) → a ≡ b → bytes_eq b a ≡ true
true_if a b e = (bytes_eq-Decides b a).1 (sym e)

pub false_if : (a b : List ℕ) → a ≢ b → bytes_eq b a ≡ false
false_if a b ne = elim (bytes_eq b a) as (λ t. bytes_eq b a ≡ t → t ≡ false) [ true ↦ λ t. absurd (ne (same_if a b t)) | false ↦ λ t. refl ] refl

pub ne_if : (a b : List ℕ) → bytes_eq b a ≡ false → a ≢ b
ne_if a b f e = let t = true_if a b e in cc

-- ---- values

pub at_without : {V : Type 0} (key : List ℕ) (t : List (List ℕ × V)) → value_at key (without key t) ≡ None
at_without key [] = refl
at_without key (e ∷ t) = elim (bytes_eq key e.0) as (λ b. bytes_eq key e.0 ≡ b → value_at key (cond b (without key t) (e ∷ without key t)) ≡ None) [
  | true ↦ λ is. at_without key t
  | false ↦ λ is. ap (λ b. cond b (Some e.1) (value_at key (without key t))) is ∙ at_without key t
] refl

pub at_without_other : {V : Type 0} (key other : List ℕ) (t : List (List ℕ × V)) → other ≢ key → value_at other (without key t) ≡ value_at other t
at_without_other key other [] ne = refl
at_without_other key other (e ∷ t) ne = elim (bytes_eq key e.0) as (λ b. bytes_eq key e.0 ≡ b → value_at other (cond b (without key t) (e ∷ without key t)) ≡ value_at other (e ∷ t)) [
  | true ↦ λ is. at_without_other key other t ne ∙ sym (ap (λ b. cond b (Some e.1) (value_at other t)) (false_if e.0 other (λ same. ne (sym same ∙ same_if e.0 key is))))
  | false ↦ λ is. ap (λ v. cond (bytes_eq other e.0) (Some e.1) v) (at_without_other key other t ne)
] refl

at_last : {V : Type 0} (key other : List ℕ) (v : V) (t : List (List ℕ × V)) → value_at other t ≡ None → value_at other (t ++ (key, v) ∷ []) ≡ cond (bytes_eq other key) (Some v) None
at_last key other v [] none = refl
at_last key other v (e ∷ t) none = elim (bytes_eq other e.0) as (λ b. cond b (Some e.1) (value_at other t) ≡ None → cond b (Some e.1) (value_at other (t ++ (key, v) ∷ [])) ≡ cond (bytes_eq other key) (Some v) None) [
  | true ↦ λ h. cc
  | false ↦ λ h. at_last key other v t h
] none

at_last_other : {V : Type 0} (key other : List ℕ) (v : V) (t : List (List ℕ × V)) → other ≢ key → value_at other (t ++ (key, v) ∷ []) ≡ value_at other t
at_last_other key other v [] ne = ap (λ b. cond b (Some v) None) (false_if key other (λ same. ne (sym same)))
at_last_other key other v (e ∷ t) ne = ap (λ o. cond (bytes_eq other e.0) (Some e.1) o) (at_last_other key other v t ne)

pub at_newest : {V : Type 0} (key : List ℕ) (v : V) (t : List (List ℕ × V)) → value_at key (newest key v t) ≡ Some v
at_newest key v t = at_last key key v (without key t) (at_without key t) ∙ ap (λ b. cond b (Some v) None) (true_if key key refl)

pub at_newest_other : {V : Type 0} (key other : List ℕ) (v : V) (t : List (List ℕ × V)) → other ≢ key → value_at other (newest key v t) ≡ value_at other t
at_newest_other key other v t ne = at_last_other key other v (without key t) ne ∙ at_without_other key other t ne

-- ---- once

all_without : {V : Type 0} (P : List ℕ × V → Type 0) (key : List ℕ) (t : List (List ℕ × V)) → AllByRecursion P t → AllByRecursion P (without key t)
all_without P key [] h = tt
all_without P key (e ∷ t) h = elim (bytes_eq key e.0) as (λ b. AllByRecursion P (cond b (without key t) (e ∷ without key t))) [ true ↦ all_without P key t h.1 | false ↦ (h.0, all_without P key t h.1) ]

all_last : {V : Type 0} (P : V → Type 0) (t : List V) (x : V) → AllByRecursion P t → P x → AllByRecursion P (t ++ x ∷ [])
all_last P [] x h p = (p, tt)
all_last P (e ∷ t) x h p = (h.0, all_last P t x h.1 p)

apart_without : {V : Type 0} (key : List ℕ) (t : List (List ℕ × V)) → AllByRecursion (λ x. x.0 ≢ key) (without key t)
apart_without key [] = tt
apart_without key (e ∷ t) = elim (bytes_eq key e.0) as (λ b. bytes_eq key e.0 ≡ b → AllByRecursion (λ x. x.0 ≢ key) (cond b (without key t) (e ∷ without key t))) [
  | true ↦ λ is. apart_without key t
  | false ↦ λ is. (ne_if e.0 key is, apart_without key t)
] refl

pub once_without : {V : Type 0} (key : List ℕ) (t : List (List ℕ × V)) → IsOnce t → IsOnce (without key t)
once_without key [] o = tt
once_without key (e ∷ t) o = elim (bytes_eq key e.0) as (λ b. IsOnce (cond b (without key t) (e ∷ without key t))) [ true ↦ once_without key t o.1 | false ↦ (all_without (λ x. x.0 ≢ e.0) key t o.0, once_without key t o.1) ]

once_last : {V : Type 0} (key : List ℕ) (v : V) (t : List (List ℕ × V)) → AllByRecursion (λ x. x.0 ≢ key) t → IsOnce t → IsOnce (t ++ (key, v) ∷ [])
once_last key v [] h o = (tt, tt)
once_last key v (e ∷ t) h o = (all_last (λ x. x.0 ≢ e.0) t (key, v) o.0 (λ same. h.0 (sym same)), once_last key v t h.1 o.1)

-- ---- counts

pub none_of : {V : Type 0} (key : List ℕ) (t : List (List ℕ × V)) → AllByRecursion (λ x. x.0 ≢ key) t → value_at key t ≡ None
none_of key [] h = refl
none_of {V} key (e ∷ t) h = ap (λ b. cond b (Some e.1) (value_at key t)) (false_if e.0 key h.0) ∙ none_of key t h.1

edit_of : Option Kept → Option ℕ
edit_of o = option_and_then (λ k. k.edit) o

unkept_without : (key : List ℕ) (t : Table) → AllByRecursion (λ x. x.0 ≢ key) t → keys_under_edit (without key t) ≡ keys_under_edit t
unkept_without key [] h = refl
unkept_without key (e ∷ t) h = ap (λ b. keys_under_edit (cond b (without key t) (e ∷ without key t))) (false_if e.0 key h.0) ∙ ap (λ n. one_if (is_some e.1.edit) + n) (unkept_without key t h.1)

count_without : (key : List ℕ) (t : Table) → IsOnce t → keys_under_edit (without key t) + one_if (is_some (edit_at key t)) ≡ keys_under_edit t
count_without key [] o = refl
count_without key (e ∷ t) o = elim (bytes_eq key e.0) as (λ b. bytes_eq key e.0 ≡ b → keys_under_edit (cond b (without key t) (e ∷ without key t)) + one_if (is_some (option_and_then (λ (k : Kept). k.edit) (cond b (Some e.1) (value_at key t)))) ≡ one_if (is_some e.1.edit) + keys_under_edit t) [
  | true ↦ λ is. let same = unkept_without key t (subst (λ k. AllByRecursion (λ (x : List ℕ × Kept). x.0 ≢ k) t) (same_if e.0 key is) o.0) in omega (arith, same)
  | false ↦ λ is. omega (arith, count_without key t o.1)
] refl

count_last : (t : Table) (key : List ℕ) (v : Kept) → keys_under_edit (t ++ (key, v) ∷ []) ≡ keys_under_edit t + one_if (is_some v.edit)
count_last [] key v = omega arith
count_last (e ∷ t) key v = omega (arith, count_last t key v)

-- ---- a table in which one key has another edit, or none

pub record Moved (key : List ℕ) (edit : Option ℕ) (t t' : Table) : Type 0 where
  pub here : edit_at key t' ≡ edit
  pub others : (other : List ℕ) → other ≢ key → edit_at other t' ≡ edit_at other t
  pub once : IsOnce t'
  pub count : keys_under_edit t' + one_if (is_some (edit_at key t)) ≡ keys_under_edit t + one_if (is_some edit)

pub moved_without : (key : List ℕ) (t : Table) → IsOnce t → Moved key None t (without key t)
moved_without key t o = record {
  here = ap (option_and_then (λ (k : Kept). k.edit)) (at_without key t);
  others = λ other ne. ap (option_and_then (λ (k : Kept). k.edit)) (at_without_other key other t ne);
  once = once_without key t o;
  count = omega (arith, count_without key t o);
}

pub moved_newest : (key : List ℕ) (v : Kept) (t : Table) → IsOnce t → Moved key v.edit t (newest key v t)
moved_newest key v t o = record {
  here = ap (option_and_then (λ (k : Kept). k.edit)) (at_newest key v t);
  others = λ other ne. ap (option_and_then (λ (k : Kept). k.edit)) (at_newest_other key other v t ne);
  once = once_last key v (without key t) (apart_without key t) (once_without key t o);
  count = omega (arith, count_without key t o, count_last (without key t) key v);
}

pub moved_same : (key : List ℕ) (t : Table) → IsOnce t → Moved key (edit_at key t) t t
moved_same key t o = record { here = refl; others = λ other ne. refl; once = o; count = refl }

pub moved_used : (key : List ℕ) (t : Table) → IsOnce t → Moved key (edit_at key t) t (used key t)
moved_used key t o = elim (value_at key t) as (λ v. value_at key t ≡ v → Moved key (option_and_then (λ (k : Kept). k.edit) v) t (renewed key v t)) [
  | None ↦ λ is. subst (λ e. Moved key e t t) (ap (option_and_then (λ (k : Kept). k.edit)) is) (moved_same key t o)
  | Some v ↦ λ is. moved_newest key v t o
] refl

pub moved_aborted : (key : List ℕ) (len : Option ℕ) (t : Table) → IsOnce t → Moved key None t (aborted len key t)
moved_aborted key None t o = moved_without key t o
moved_aborted key (Some n) t o = moved_newest key record { len = len_at key t; edit = None } t o

pub some_path : (a b : List ℕ) → Some a ≡ Some b → a ≡ b
some_path a b e = cc

pub unsome : (o : Option ℕ) → is_some o ≡ false → o ≡ None
unsome None e = refl
unsome (Some n) e = cc

-- ---- an edit that has another length

grown_at : (key : List ℕ) (n : ℕ) (other : List ℕ) (t : Table) → edit_at other (grown_edit key n t) ≡ option_and_then (λ (k : Kept). (with_edit key n other k).edit) (value_at other t)
grown_at key n other [] = refl
grown_at key n other (e ∷ t) = elim (bytes_eq other e.0) as (λ b. bytes_eq other e.0 ≡ b → option_and_then (λ (k : Kept). k.edit) (cond b (Some (with_edit key n e.0 e.1)) (value_at other (grown_edit key n t))) ≡ option_and_then (λ (k : Kept). (with_edit key n other k).edit) (cond b (Some e.1) (value_at other t))) [
  | true ↦ λ is. ap (λ q. (with_edit key n q e.1).edit) (same_if e.0 other is)
  | false ↦ λ is. grown_at key n other t
] refl

grown_all : (P : List ℕ → Type 0) (key : List ℕ) (n : ℕ) (t : Table) → AllByRecursion (λ (x : List ℕ × Kept). P x.0) t → AllByRecursion (λ (x : List ℕ × Kept). P x.0) (grown_edit key n t)
grown_all P key n [] h = tt
grown_all P key n (e ∷ t) h = (h.0, grown_all P key n t h.1)

grown_once : (key : List ℕ) (n : ℕ) (t : Table) → IsOnce t → IsOnce (grown_edit key n t)
grown_once key n [] o = tt
grown_once key n (e ∷ t) o = (grown_all (λ q. q ≢ e.0) key n t o.0, grown_once key n t o.1)

grown_apart : (key : List ℕ) (n : ℕ) (t : Table) → AllByRecursion (λ (x : List ℕ × Kept). x.0 ≢ key) t → keys_under_edit (grown_edit key n t) ≡ keys_under_edit t
grown_apart key n [] h = refl
grown_apart key n (e ∷ t) h = omega (arith, ap (λ b. one_if (is_some (cond b record { len = e.1.len; edit = Some n } e.1).edit)) (false_if e.0 key h.0), grown_apart key n t h.1)

grown_count : (key : List ℕ) (n m : ℕ) (t : Table) → IsOnce t → edit_at key t ≡ Some m → keys_under_edit (grown_edit key n t) ≡ keys_under_edit t
grown_count key n m [] o is = refl
grown_count key n m (e ∷ t) o is = elim (bytes_eq key e.0) as (λ b. bytes_eq key e.0 ≡ b → option_and_then (λ (k : Kept). k.edit) (cond b (Some e.1) (value_at key t)) ≡ Some m → one_if (is_some (cond b record { len = e.1.len; edit = Some n } e.1).edit) + keys_under_edit (grown_edit key n t) ≡ one_if (is_some e.1.edit) + keys_under_edit t) [
  | true ↦ λ same at. let rest = grown_apart key n t (subst (λ q. AllByRecursion (λ (x : List ℕ × Kept). x.0 ≢ q) t) (same_if e.0 key same) o.0) in omega (arith, rest, ap (λ x. one_if (is_some x)) at)
  | false ↦ λ same at. omega (arith, grown_count key n m t o.1 at)
] refl is

grown_here : (key : List ℕ) (n m : ℕ) (v : Option Kept) → option_and_then (λ (k : Kept). k.edit) v ≡ Some m → option_and_then (λ (k : Kept). (with_edit key n key k).edit) v ≡ Some n
grown_here key n m None is = cc
grown_here key n m (Some v) is = ap (λ b. (cond b record { len = v.len; edit = Some n } v).edit) (true_if key key refl)

grown_other : (key other : List ℕ) (n : ℕ) (v : Option Kept) → other ≢ key → option_and_then (λ (k : Kept). (with_edit key n other k).edit) v ≡ option_and_then (λ (k : Kept). k.edit) v
grown_other key other n None ne = refl
grown_other key other n (Some v) ne = ap (λ b. (cond b record { len = v.len; edit = Some n } v).edit) (false_if other key ne)

pub moved_grown : (key : List ℕ) (n m : ℕ) (t : Table) → IsOnce t → edit_at key t ≡ Some m → Moved key (Some n) t (grown_edit key n t)
moved_grown key n m t o is = record {
  here = grown_at key n key t ∙ grown_here key n m (value_at key t) is;
  others = λ other ne. grown_at key n other t ∙ grown_other key other n (value_at other t) ne;
  once = grown_once key n t o;
  count = omega (arith, grown_count key n m t o is, ap (λ x. one_if (is_some x)) is);
}
