-- The finite map that the vector's entries stand for.
use Rattle.std.proofs.Common.{◌≡◌, ◌≢◌, ℕ, ◌+◌, ◌<◌, ◌≤◌, Bool, true, false, cond, List, [], ◌∷◌, ◌++◌, length, map, take, drop, get_or, Some, None, Option, refl, ap, sym, subst, ◌∙◌, arith, zero, suc}
use Rattle.std.specs.Prelude.{IsSome, is_some, slice_get}
use Rattle.std.specs.Ordering.{nat_cmp, eq_by_cmp}
use Rattle.std.specs.FinMap.{nat_cmp-IsAntisymmetric, empty, get, insert, remove, len, find, from_entries, get-from_entries, from_entries_push, len-empty, len-insert, same_map, get-remove}
use Rattle.std.proofs.lemmas.Cmp.{nat_cmp_total}
use Rattle.std.proofs.lemmas.List.{at_drop_more, at_drop_all}
use Rattle.std.proofs.lemmas.Option.{slice_get_past}
use Rattle.finite_maps.specs.MapLaws.{not_Some, same_Some, key_itself, key_same, key_other}
use Rattle.engine_resource.specs.Resource.{ResourceValue}
use Rattle.resource_table.specs.Resources.{Resources}
use Rattle.resource_table.specs.ResourceTableView.{entry_of, resources_of, AreApart}

both_none : {A : Type 0} (b : Bool) → cond {A = Option A} b None None ≡ None
both_none true = refl
both_none false = refl

-- what is found among the entries is found in the map
pub found_is : (es : List ResourceValue) (q : ℕ) → find nat_cmp q (map entry_of es) ≡ get (resources_of es) q
unfolding resources_of
found_is es q = sym (get-from_entries nat_cmp_total (map entry_of es) q)

none_there : (e : ResourceValue) (es : List ResourceValue) → find nat_cmp e.bitmap.number (map entry_of es) ≡ None → get (resources_of es) e.bitmap.number ≡ None
none_there e es none = sym (found_is es e.bitmap.number) ∙ none

resources_of_more : (e : ResourceValue) (es : List ResourceValue) → resources_of (e ∷ es) ≡ insert (resources_of es) e.bitmap.number e
unfolding resources_of
resources_of_more e es = refl

pub resources_of_none : resources_of [] ≡ empty
unfolding resources_of
resources_of_none = refl

-- as many as the map has
pub length_is : (es : List ResourceValue) → AreApart es → len (resources_of es) ≡ length es
length_is [] apart = ap len resources_of_none ∙ len-empty nat_cmp ResourceValue
length_is (e ∷ es) apart =
    let rest : len (resources_of es) ≡ length es = length_is es apart.1 in
    ap len (resources_of_more e es) ∙ len-insert nat_cmp_total (resources_of es) e.bitmap.number e
    ∙ ap (λ o. cond (Rattle.std.specs.Option.is_some o) (len (resources_of es)) (len (resources_of es) + 1)) (none_there e es apart.0) ∙ (omega (arith, rest))

-- an entry more
pub pushed_is : (es : List ResourceValue) (e : ResourceValue) → get (resources_of es) e.bitmap.number ≡ None → resources_of (es ++ e ∷ []) ≡ insert (resources_of es) e.bitmap.number e
unfolding resources_of
pushed_is es e none =
    ap from_entries (Rattle.std.proofs.lemmas.List.map_push entry_of es e)
    ∙ from_entries_push nat_cmp_total nat_cmp-IsAntisymmetric (map entry_of es) e.bitmap.number e (found_is es e.bitmap.number ∙ none)

find_push : (es : List ResourceValue) (e : ResourceValue) (q : ℕ) → find nat_cmp q (map entry_of es) ≡ None → eq_by_cmp nat_cmp q e.bitmap.number ≡ false → find nat_cmp q (map entry_of (es ++ e ∷ [])) ≡ None
find_push [] e q none other = ap (λ t. cond t (Some e) None) other
find_push (x ∷ es) e q none other = elim (eq_by_cmp nat_cmp q x.bitmap.number) as (λ t. cond t (Some x) (find nat_cmp q (map entry_of es)) ≡ None → cond t (Some x) (find nat_cmp q (map entry_of (es ++ e ∷ []))) ≡ None) [
  | true ↦ λ h. h
  | false ↦ λ h. find_push es e q h other
] none

apart_other : (x e : ResourceValue) (es : List ResourceValue) → find nat_cmp e.bitmap.number (map entry_of (x ∷ es)) ≡ None → (eq_by_cmp nat_cmp x.bitmap.number e.bitmap.number ≡ false) × (find nat_cmp e.bitmap.number (map entry_of es) ≡ None)
apart_other x e es none = elim (eq_by_cmp nat_cmp e.bitmap.number x.bitmap.number) as (λ t. eq_by_cmp nat_cmp e.bitmap.number x.bitmap.number ≡ t → cond t (Some x) (find nat_cmp e.bitmap.number (map entry_of es)) ≡ None → (eq_by_cmp nat_cmp x.bitmap.number e.bitmap.number ≡ false) × (find nat_cmp e.bitmap.number (map entry_of es) ≡ None)) [
  | true ↦ λ t h. absurd (not_Some (sym h))
  | false ↦ λ t h. (key_other nat_cmp_total nat_cmp-IsAntisymmetric x.bitmap.number e.bitmap.number (λ is. let no : true ≡ false = sym (ap (λ k. eq_by_cmp nat_cmp e.bitmap.number k) is ∙ key_itself nat_cmp_total nat_cmp-IsAntisymmetric e.bitmap.number) ∙ t in cc), h)
] refl none

pub apart_push : (es : List ResourceValue) (e : ResourceValue) → AreApart es → find nat_cmp e.bitmap.number (map entry_of es) ≡ None → AreApart (es ++ e ∷ [])
apart_push [] e apart none = (refl, tt)
apart_push (x ∷ es) e apart none =
    let other = apart_other x e es none in
    (find_push es e x.bitmap.number apart.0 other.0, apart_push es e apart.1 other.1)

-- ---- a walk over the entries

begins : (q : ℕ) (es : List ResourceValue) (i : ℕ) (e : ResourceValue) → i < length es → e ≡ get_or es i e → find nat_cmp q (map entry_of (drop i es)) ≡ find nat_cmp q (map entry_of (e ∷ drop (i + 1) es))
begins q es i e within at = at_drop_more (λ l. find nat_cmp q (map entry_of l)) es i e within ∙ ap (λ x. find nat_cmp q (map entry_of (x ∷ drop (i + 1) es))) (sym at)

-- the entry has the number
pub found_here : (q : ℕ) (es : List ResourceValue) (i : ℕ) (e : ResourceValue) → i < length es → e ≡ get_or es i e → e.bitmap.number ≡ q → find nat_cmp q (map entry_of (drop i es)) ≡ Some e
found_here q es i e within at is = begins q es i e within at ∙ ap (λ b. cond b (Some e) (find nat_cmp q (map entry_of (drop (i + 1) es)))) (ap (λ n. eq_by_cmp nat_cmp q n) is ∙ key_itself nat_cmp_total nat_cmp-IsAntisymmetric q)

-- the entry has another
pub found_later : (q : ℕ) (es : List ResourceValue) (i : ℕ) (e : ResourceValue) → i < length es → e ≡ get_or es i e → q ≢ e.bitmap.number → find nat_cmp q (map entry_of (drop (i + 1) es)) ≡ find nat_cmp q (map entry_of (drop i es))
found_later q es i e within at other = sym (begins q es i e within at ∙ ap (λ b. cond b (Some e) (find nat_cmp q (map entry_of (drop (i + 1) es)))) (key_other nat_cmp_total nat_cmp-IsAntisymmetric q (e.bitmap.number) other))

-- no entry is left
pub found_end : (q : ℕ) (es : List ResourceValue) (i : ℕ) → length es ≤ i → find nat_cmp q (map entry_of (drop i es)) ≡ None
found_end q es i past = at_drop_all (λ l. find nat_cmp q (map entry_of l)) es i past

-- what is found of a number has this number
found_number : (es : List ResourceValue) (q : ℕ) (x : ResourceValue) → find nat_cmp q (map entry_of es) ≡ Some x → x.bitmap.number ≡ q
found_number [] q x is = absurd (not_Some is)
found_number (e ∷ es) q x is =
    elim (eq_by_cmp nat_cmp q e.bitmap.number) as (λ t. eq_by_cmp nat_cmp q e.bitmap.number ≡ t → cond t (Some e) (find nat_cmp q (map entry_of es)) ≡ Some x → x.bitmap.number ≡ q) [
      | true ↦ λ t h. ap (λ (r : ResourceValue). r.bitmap.number) (sym (same_Some e x h)) ∙ sym (key_same nat_cmp_total nat_cmp-IsAntisymmetric q e.bitmap.number t)
      | false ↦ λ t h. found_number es q x h
    ] refl is

some_there : (o : Option ResourceValue) → is_some o ≡ true → (x : ResourceValue) × (o ≡ Some x)
some_there None is = cc
some_there (Some x) is = (x, refl)

-- a resource that is there stands at the place that was found
pub placed : (ds es : List ResourceValue) (m : Resources) (q : ℕ) (place : ℕ) → ds ≡ es → resources_of es ≡ m → slice_get ds place ≡ find nat_cmp q (map entry_of ds) → IsSome (get m q)
    → (x : ResourceValue) × (slice_get es place ≡ Some x) × (x.bitmap.number ≡ q) × (get m q ≡ Some x)
placed ds es m q place same seen at live =
    let x = some_there (get m q) live in
    let found : find nat_cmp q (map entry_of es) ≡ Some x.0 = found_is es q ∙ ap (λ n. get n q) seen ∙ x.1 in
    (x.0, subst (λ l. slice_get l place ≡ find nat_cmp q (map entry_of l)) same at ∙ found, found_number es q x.0 found, x.1)

-- ---- an entry less

-- an entry is found by its number
pub find_at : (es : List ResourceValue) (i : ℕ) (x : ResourceValue) → AreApart es → slice_get es i ≡ Some x → find nat_cmp (x.bitmap.number) (map entry_of es) ≡ Some x
find_at [] i x apart is = absurd (not_Some is)
find_at (e ∷ es) zero x apart is =
    let here : e ≡ x = same_Some e x is in
    ap (λ (y : ResourceValue). cond (eq_by_cmp nat_cmp (x.bitmap.number) (y.bitmap.number)) (Some y) (find nat_cmp (x.bitmap.number) (map entry_of es))) here
    ∙ ap (λ b. cond b (Some x) (find nat_cmp (x.bitmap.number) (map entry_of es))) (key_itself nat_cmp_total nat_cmp-IsAntisymmetric (x.bitmap.number))
find_at (e ∷ es) (suc i) x apart is =
    let rest : find nat_cmp (x.bitmap.number) (map entry_of es) ≡ Some x = find_at es i x apart.1 is in
    elim (eq_by_cmp nat_cmp (x.bitmap.number) (e.bitmap.number)) as (λ t. eq_by_cmp nat_cmp (x.bitmap.number) (e.bitmap.number) ≡ t → cond t (Some e) (find nat_cmp (x.bitmap.number) (map entry_of es)) ≡ Some x) [
      | true ↦ λ t. absurd (not_Some (sym apart.0 ∙ ap (λ q. find nat_cmp q (map entry_of es)) (sym (key_same nat_cmp_total nat_cmp-IsAntisymmetric (x.bitmap.number) (e.bitmap.number) t)) ∙ rest))
      | false ↦ λ t. rest
    ] refl

-- what is found without the entry at a place
find_without : (es : List ResourceValue) (i : ℕ) (x : ResourceValue) (k : ℕ) → AreApart es → slice_get es i ≡ Some x
    → find nat_cmp k (map entry_of (take i es ++ drop (suc i) es)) ≡ cond (eq_by_cmp nat_cmp k (x.bitmap.number)) None (find nat_cmp k (map entry_of es))
find_without [] i x k apart is = absurd (not_Some is)
find_without (e ∷ es) zero x k apart is =
    let here : e ≡ x = same_Some e x is in
    elim (eq_by_cmp nat_cmp k (e.bitmap.number)) as (λ t. eq_by_cmp nat_cmp k (e.bitmap.number) ≡ t → find nat_cmp k (map entry_of es) ≡ cond t None (cond t (Some e) (find nat_cmp k (map entry_of es)))) [
      | true ↦ λ t. ap (λ q. find nat_cmp q (map entry_of es)) (key_same nat_cmp_total nat_cmp-IsAntisymmetric k (e.bitmap.number) t) ∙ apart.0
      | false ↦ λ t. refl
    ] refl
    ∙ ap (λ (y : ResourceValue). cond (eq_by_cmp nat_cmp k (y.bitmap.number)) None (find nat_cmp k (map entry_of (e ∷ es)))) here
find_without (e ∷ es) (suc i) x k apart is =
    let rest = find_without es i x k apart.1 is in
    let there : find nat_cmp (x.bitmap.number) (map entry_of es) ≡ Some x = find_at es i x apart.1 is in
    elim (eq_by_cmp nat_cmp k (e.bitmap.number)) as (λ t. eq_by_cmp nat_cmp k (e.bitmap.number) ≡ t → cond t (Some e) (find nat_cmp k (map entry_of (take i es ++ drop (suc i) es))) ≡ cond (eq_by_cmp nat_cmp k (x.bitmap.number)) None (cond t (Some e) (find nat_cmp k (map entry_of es)))) [
      | true ↦ λ t. sym (ap (λ b. cond b None (Some e)) (key_other nat_cmp_total nat_cmp-IsAntisymmetric k (x.bitmap.number) (λ at. not_Some (sym apart.0 ∙ ap (λ q. find nat_cmp q (map entry_of es)) (sym (key_same nat_cmp_total nat_cmp-IsAntisymmetric k (e.bitmap.number) t) ∙ at) ∙ there))))
      | false ↦ λ t. rest
    ] refl

pub apart_without : (es : List ResourceValue) (i : ℕ) (x : ResourceValue) → AreApart es → slice_get es i ≡ Some x → AreApart (take i es ++ drop (suc i) es)
apart_without [] i x apart is = absurd (not_Some is)
apart_without (e ∷ es) zero x apart is = apart.1
apart_without (e ∷ es) (suc i) x apart is =
    (find_without es i x (e.bitmap.number) apart.1 is ∙ ap (λ o. cond (eq_by_cmp nat_cmp (e.bitmap.number) (x.bitmap.number)) None o) apart.0 ∙ both_none (eq_by_cmp nat_cmp (e.bitmap.number) (x.bitmap.number)), apart_without es i x apart.1 is)

-- the map without the resource
pub without_is : (es : List ResourceValue) (i : ℕ) (x : ResourceValue) → AreApart es → slice_get es i ≡ Some x → resources_of (take i es ++ drop (suc i) es) ≡ remove (resources_of es) (x.bitmap.number)
without_is es i x apart is = same_map nat_cmp_total nat_cmp-IsAntisymmetric _ _ (λ k.
    sym (found_is (take i es ++ drop (suc i) es) k)
    ∙ find_without es i x k apart is
    ∙ ap (λ o. cond (eq_by_cmp nat_cmp k (x.bitmap.number)) None o) (found_is es k)
    ∙ sym (get-remove nat_cmp_total (resources_of es) (x.bitmap.number) k))

slice_get_some : (es : List ResourceValue) (i : ℕ) → i < length es → is_some (slice_get es i) ≡ true
slice_get_some [] i within = absurd (omega (arith, within))
slice_get_some (e ∷ es) zero within = refl
slice_get_some (e ∷ es) (suc i) within = slice_get_some es i (omega (arith, within))

-- a number whose place is one of the entries is there, and one whose place is past them is not
pub there : (ds es : List ResourceValue) (m : Resources) (q : ℕ) (place : ℕ) → ds ≡ es → resources_of es ≡ m → slice_get ds place ≡ find nat_cmp q (map entry_of ds) → place < length es → IsSome (get m q)
there ds es m q place same seen at within =
    let found : slice_get es place ≡ get m q = subst (λ l. slice_get l place ≡ find nat_cmp q (map entry_of l)) same at ∙ found_is es q ∙ ap (λ n. get n q) seen in
    ap is_some (sym found) ∙ slice_get_some es place within

pub absent : (ds es : List ResourceValue) (m : Resources) (q : ℕ) (place : ℕ) → ds ≡ es → resources_of es ≡ m → slice_get ds place ≡ find nat_cmp q (map entry_of ds) → length es ≤ place → get m q ≡ None
absent ds es m q place same seen at past =
    let found : slice_get es place ≡ get m q = subst (λ l. slice_get l place ≡ find nat_cmp q (map entry_of l)) same at ∙ found_is es q ∙ ap (λ n. get n q) seen in
    sym found ∙ slice_get_past es place past
