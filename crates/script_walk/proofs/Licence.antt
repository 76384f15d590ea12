-- The marks of a run, and how many fetches must have failed for them.
use Rattle.std.proofs.Common.{◌≡◌, ◌≢◌, ℕ, ◌+◌, ◌<◌, ◌≤◌, Bool, true, false, cond, eqb, List, [], ◌∷◌, length, Some, None, Option, Ok, Err, Result, refl, ap, sym, ◌∙◌, inl, inr, arith}
use Rattle.std.specs.Prelude.{◌&&◌, not, filter, count_by}
use Rattle.std.specs.List.{list_any}
use Rattle.std.proofs.lemmas.Bool.{eqb-true, eqb-false, eq-eqb}
use Rattle.std.proofs.lemmas.List.Sums.{sum_by-cons}
use Rattle.outside.specs.Content.{Address}
use Rattle.bitmap_kind.specs.Picture.{Picture}
use Rattle.cache_key.specs.KeyBytes.{address_of}
use Rattle.load_cause.specs.declared.causes.Cause.{Cause}
use Rattle.load_cause.specs.declared.causes.Cause.TheVariants as causes
use Rattle.script_walk.specs.Starts.{one_if}
use Rattle.script_walk.specs.Walk.{Begin, TraceEvent, Dropped, Begun, Ended, Trimmed, Printed}
use Rattle.script_walk.specs.Marks.{Marks, Mark, Source, Memory, Uncached, begins_in, is_source, source_marked, same_address, same_fetch, distinct, begins_at, failed_fetches}
use Rattle.script_walk.specs.Orderly.{In, without_begin, IsOrderly}
use Rattle.script_walk.specs.Laws.{source_failures}
use Rattle.script_walk.proofs.Live.{times, some_times, no_times}

abbrev pub mark_of : Result Picture Cause → Option Mark
mark_of (Ok picture) = None
mark_of (Err causes.Missing) = None
mark_of (Err (causes.Refused refusal)) = None
mark_of (Err causes.Source) = Some Source
mark_of (Err causes.Memory) = Some Memory
mark_of (Err causes.Uncached) = Some (Uncached None)

abbrev pub marks_in : List TraceEvent → Marks
marks_in [] n = None
marks_in (Ended b result ∷ es) n = cond (eqb b.number n) (mark_of result) (marks_in es n)
marks_in (Dropped b ∷ es) n = marks_in es n
marks_in (Begun b others ∷ es) n = marks_in es n
marks_in (Trimmed level ∷ es) n = marks_in es n
marks_in (Printed line ∷ es) n = marks_in es n

-- ---- sums over begins

abbrev pub total : (Begin → ℕ) → List Begin → ℕ
total f [] = 0
total f (b ∷ bs) = f b + total f bs

total_same : (f g : Begin → ℕ) (bs : List Begin) → ((b : Begin) → In b bs → f b ≡ g b) → total f bs ≡ total g bs
total_same f g [] same = refl
total_same f g (b ∷ bs) same = omega (arith, same b (inl refl), total_same f g bs (λ o is. same o (inr is)))

-- where two differ at one number alone
total_change : (f g : Begin → ℕ) (b : Begin) (bs : List Begin) → times b.number bs ≤ 1 → In b bs → ((o : Begin) → o.number ≢ b.number → f o ≡ g o) → total f bs ≤ total g bs + f b
total_change f g b [] once b_in same = absurd b_in
total_change f g b (x ∷ bs) once b_in same = elim (eqb x.number b.number) as (λ t. eqb x.number b.number ≡ t → total f (x ∷ bs) ≤ total g (x ∷ bs) + f b) [
  | true ↦ λ e. elim b_in [
    | inl is ↦
        let rest : total f bs ≡ total g bs = total_same f g bs (λ o o_in. same o (λ h. absurd (omega (arith, once, ap one_if e, ap (λ n. times n bs) h, some_times o bs o_in)))) in
        omega (arith, rest, ap f is)
    | inr is ↦ absurd (omega (arith, once, ap one_if e, some_times b bs is))
  ]
  | false ↦ λ e.
      let ne : x.number ≢ b.number = eqb-false _ _ e in
      elim b_in [
        | inl is ↦ absurd (ne (ap (λ (y : Begin). y.number) (sym is)))
        | inr is ↦ omega (arith, same x ne, total_change f g b bs (omega (arith, once)) is same)
      ]
] refl

-- ---- marks and numbers

-- Where no begin of a number is live, and none will get it, it gets no mark.
unmarked : (n k : ℕ) (live : List Begin) (es : List TraceEvent) → IsOrderly k live es → times n live ≡ 0 → n ≤ k → marks_in es n ≡ None
unmarked n k live [] order none old = refl
unmarked n k live (Dropped b ∷ es) order none old = unmarked n k (without_begin b.number live) es order.2 (dropped live none) old where
  dropped : (bs : List Begin) → times n bs ≡ 0 → times n (without_begin b.number bs) ≡ 0
  dropped [] h = h
  dropped (x ∷ bs) h = elim (eqb x.number b.number) as (λ t. times n (cond (not t) (x ∷ without_begin b.number bs) (without_begin b.number bs)) ≡ 0) [
    | true ↦ dropped bs (omega (arith, h))
    | false ↦ omega (arith, h, dropped bs (omega (arith, h)))
  ]
unmarked n k live (Begun b others ∷ es) order none old =
    unmarked n (k + 1) (b ∷ live) es order.3
    (elim (eqb b.number n) as (λ t. eqb b.number n ≡ t → one_if t + times n live ≡ 0) [
      | true ↦ λ e. let same : b.number ≡ n = eqb-true _ _ e in absurd (omega (arith, same, order.0, old))
      | false ↦ λ e. omega (arith, none)
    ] refl) (omega (arith, old))
unmarked n k live (Ended b result ∷ es) order none old = elim (eqb b.number n) as (λ t. eqb b.number n ≡ t → cond t (mark_of result) (marks_in es n) ≡ None) [
  | true ↦ λ e. absurd (omega (arith, none, ap (λ m. times m live) (eqb-true _ _ e), some_times b live order.0))
  | false ↦ λ e. unmarked n k live es order.1 none old
] refl
unmarked n k live (Trimmed level ∷ es) order none old = unmarked n k live es order none old
unmarked n k live (Printed line ∷ es) order none old = unmarked n k live es order none old

module _ (address : Address) where
  -- 1 for a begin at this address that these moments mark
  abbrev pub counts : List TraceEvent → Begin → ℕ
  counts es b = one_if (same_address (address_of b.spec.key) address && is_source (marks_in es b.number))

  -- how many fetches of it failed
  abbrev pub add : Begin → Result Picture Cause → ℕ
  add b (Err causes.Source) = one_if (same_address (address_of b.spec.key) address)
  add b result = 0

  abbrev pub failed_at : List TraceEvent → ℕ
  failed_at [] = 0
  failed_at (Ended b result ∷ es) = add b result + failed_at es
  failed_at (Dropped b ∷ es) = failed_at es
  failed_at (Begun b others ∷ es) = failed_at es
  failed_at (Trimmed level ∷ es) = failed_at es
  failed_at (Printed line ∷ es) = failed_at es

  count_first : (a : Address) (more : List Address) → count_by (λ x. same_address x address) (a ∷ more) ≡ one_if (same_address a address) + count_by (λ x. same_address x address) more
  count_first a more = sum_by-cons (λ x. cond (same_address x address) 1 0) a more

  failures_are : (es : List TraceEvent) → count_by (λ x. same_address x address) (source_failures es) ≡ failed_at es
  failures_are [] = refl
  failures_are (Ended b (Ok picture) ∷ es) = omega (arith, failures_are es)
  failures_are (Ended b (Err causes.Missing) ∷ es) = omega (arith, failures_are es)
  failures_are (Ended b (Err (causes.Refused refusal)) ∷ es) = omega (arith, failures_are es)
  failures_are (Ended b (Err causes.Source) ∷ es) = omega (arith, failures_are es, count_first (address_of b.spec.key) (source_failures es))
  failures_are (Ended b (Err causes.Memory) ∷ es) = omega (arith, failures_are es)
  failures_are (Ended b (Err causes.Uncached) ∷ es) = omega (arith, failures_are es)
  failures_are (Dropped b ∷ es) = failures_are es
  failures_are (Begun b others ∷ es) = failures_are es
  failures_are (Trimmed level ∷ es) = failures_are es
  failures_are (Printed line ∷ es) = failures_are es

  no_count : (t : Bool) → one_if (t && false) ≡ 0
  no_count true = refl
  no_count false = refl

  uncounted : (es : List TraceEvent) (b : Begin) → marks_in es b.number ≡ None → counts es b ≡ 0
  uncounted es b e = ap (λ m. one_if (same_address (address_of b.spec.key) address && is_source m)) e ∙ no_count (same_address (address_of b.spec.key) address)

  came_counts : (b : Begin) (result : Result Picture Cause) (es : List TraceEvent) → counts (Ended b result ∷ es) b ≤ add b result
  came_counts b result es =
      let here : counts (Ended b result ∷ es) b ≡ one_if (same_address (address_of b.spec.key) address && is_source (mark_of result)) =
      ap (λ t. one_if (same_address (address_of b.spec.key) address && is_source (cond t (mark_of result) (marks_in es b.number)))) (eq-eqb b.number b.number refl) in
      omega (arith, here, at_end result) where
        at_end : (result : Result Picture Cause) → one_if (same_address (address_of b.spec.key) address && is_source (mark_of result)) ≤ add b result
        at_end (Ok picture) = omega (arith, no_count (same_address (address_of b.spec.key) address))
        at_end (Err causes.Missing) = omega (arith, no_count (same_address (address_of b.spec.key) address))
        at_end (Err (causes.Refused refusal)) = omega (arith, no_count (same_address (address_of b.spec.key) address))
        at_end (Err causes.Source) = elim (same_address (address_of b.spec.key) address) as (λ t. one_if (t && true) ≤ one_if t) [ true ↦ omega arith | false ↦ omega arith ]
        at_end (Err causes.Memory) = omega (arith, no_count (same_address (address_of b.spec.key) address))
        at_end (Err causes.Uncached) = omega (arith, no_count (same_address (address_of b.spec.key) address))

  came_others : (b : Begin) (result : Result Picture Cause) (es : List TraceEvent) (o : Begin) → o.number ≢ b.number → counts (Ended b result ∷ es) o ≡ counts es o
  came_others b result es o ne = ap (λ t. one_if (same_address (address_of o.spec.key) address && is_source (cond t (mark_of result) (marks_in es o.number))))
      (elim (eqb b.number o.number) as (λ t. eqb b.number o.number ≡ t → t ≡ false) [ true ↦ λ e. absurd (ne (sym (eqb-true _ _ e))) | false ↦ λ e. refl ] refl)

  total_without : (f : Begin → ℕ) (n : ℕ) (bs : List Begin) → ((o : Begin) → In o bs → o.number ≡ n → f o ≡ 0) → total f bs ≡ total f (without_begin n bs)
  total_without f n [] zero = refl
  total_without f n (x ∷ bs) zero = elim (eqb x.number n) as (λ t. eqb x.number n ≡ t → total f (x ∷ bs) ≡ total f (cond (not t) (x ∷ without_begin n bs) (without_begin n bs))) [
    | true ↦ λ e. omega (arith, zero x (inl refl) (eqb-true _ _ e), total_without f n bs (λ o is. zero o (inr is)))
    | false ↦ λ e. omega (arith, total_without f n bs (λ o is. zero o (inr is)))
  ] refl

  times_without : (n m : ℕ) (bs : List Begin) → times n (without_begin m bs) ≤ times n bs
  times_without n m [] = omega arith
  times_without n m (x ∷ bs) = elim (eqb x.number m) as (λ t. times n (cond (not t) (x ∷ without_begin m bs) (without_begin m bs)) ≤ times n (x ∷ bs)) [
    | true ↦ omega (arith, times_without n m bs)
    | false ↦ omega (arith, times_without n m bs)
  ]

  none_left : (n : ℕ) (bs : List Begin) → times n (without_begin n bs) ≡ 0
  none_left n [] = refl
  none_left n (x ∷ bs) = elim (eqb x.number n) as (λ t. eqb x.number n ≡ t → times n (cond (not t) (x ∷ without_begin n bs) (without_begin n bs)) ≡ 0) [
    | true ↦ λ e. none_left n bs
    | false ↦ λ e. omega (arith, ap one_if e, none_left n bs)
  ] refl

  in_was : (m : ℕ) (o : Begin) (bs : List Begin) → In o (without_begin m bs) → In o bs
  in_was m o [] h = h
  in_was m o (x ∷ bs) h = elim (eqb x.number m) as (λ t. In o (cond (not t) (x ∷ without_begin m bs) (without_begin m bs)) → In o (x ∷ bs)) [
    | true ↦ λ h. inr (in_was m o bs h)
    | false ↦ λ h. elim h [ inl is ↦ inl is | inr is ↦ inr (in_was m o bs is) ]
  ] h

  begins_above : (es : List TraceEvent) (k : ℕ) (live : List Begin) → IsOrderly k live es → (o : Begin) → In o (begins_in es) → k < o.number
  begins_above [] k live order o h = absurd h
  begins_above (Dropped b ∷ es) k live order o h = begins_above es k (without_begin b.number live) order.2 o h
  begins_above (Begun b others ∷ es) k live order o h = elim h [
    | inl is ↦ omega (arith, order.0, ap (λ (y : Begin). y.number) is)
    | inr is ↦ omega (arith, begins_above es (k + 1) (b ∷ live) order.3 o is)
  ]
  begins_above (Ended b result ∷ es) k live order o h = begins_above es k live order.1 o h
  begins_above (Trimmed level ∷ es) k live order o h = begins_above es k live order o h
  begins_above (Printed line ∷ es) k live order o h = begins_above es k live order o h

  no_total : (f : Begin → ℕ) (bs : List Begin) → ((o : Begin) → f o ≡ 0) → total f bs ≡ 0
  no_total f [] zero = refl
  no_total f (b ∷ bs) zero = omega (arith, zero b, no_total f bs zero)

  licence_from : (es : List TraceEvent) (k : ℕ) (live : List Begin) → IsOrderly k live es → ((n : ℕ) → times n live ≤ 1) → ((o : Begin) → In o live → o.number ≤ k)
      → total (counts es) (begins_in es) + total (counts es) live ≤ failed_at es
  licence_from [] k live order once below = omega (arith, no_total (counts []) live (λ o. uncounted [] o refl))
  licence_from (Dropped b ∷ es) k live order once below =
      let left = without_begin b.number live in
      let same : total (counts es) live ≡ total (counts es) left = total_without (counts es) b.number live (λ o o_in is.
      uncounted es o (unmarked o.number k left es order.2 (ap (λ n. times n left) is ∙ none_left b.number live) (below o o_in))) in
      omega (arith, same, licence_from es k left order.2 (λ n. omega (arith, once n, times_without n b.number live)) (λ o o_in. below o (in_was b.number o live o_in)))
  licence_from (Begun b others ∷ es) k live order once below =
      omega (
        arith,
        licence_from es (k + 1) (b ∷ live) order.3
            (λ n. elim (eqb b.number n) as (λ t. eqb b.number n ≡ t → one_if t + times n live ≤ 1) [
              | true ↦ λ e. let same : b.number ≡ n = eqb-true _ _ e in
                  let none : times n live ≡ 0 = no_times n k live below (omega (arith, same, order.0)) in omega (arith, none)
              | false ↦ λ e. omega (arith, once n)
            ] refl)
            (λ o o_in. elim o_in [ inl is ↦ omega (arith, ap (λ (y : Begin). y.number) is, order.0) | inr is ↦ omega (arith, below o is) ]),
      )
  licence_from (Ended b result ∷ es) k live order once below =
      let old : b.number ≤ k = below b order.0 in
      let first : total (counts (Ended b result ∷ es)) (begins_in es) ≡ total (counts es) (begins_in es) = total_same (counts (Ended b result ∷ es)) (counts es) (begins_in es)
      (λ o o_in. came_others b result es o (λ is. absurd (omega (arith, begins_above es k live order.1 o o_in, old, is)))) in
      let second : total (counts (Ended b result ∷ es)) live ≤ total (counts es) live + counts (Ended b result ∷ es) b = total_change (counts (Ended b result ∷ es)) (counts es) b live (once b.number) order.0 (came_others b result es) in
      omega (arith, first, second, came_counts b result es, licence_from es k live order.1 once below)
  licence_from (Trimmed level ∷ es) k live order once below = licence_from es k live order once below
  licence_from (Printed line ∷ es) k live order once below = licence_from es k live order once below

  -- ---- the licence

  distinct_at : (t : Bool) (x : Begin) (xs ys : List Begin) → length ys ≤ length xs → length (cond t ys (x ∷ ys)) ≤ length (x ∷ xs)
  distinct_at true x xs ys le = omega (arith, le)
  distinct_at false x xs ys le = omega (arith, le)

  distinct_fewer : (xs : List Begin) → length (distinct same_fetch xs) ≤ length xs
  distinct_fewer [] = omega arith
  distinct_fewer (x ∷ xs) = distinct_at (list_any (same_fetch x) xs) x xs (distinct same_fetch xs) (distinct_fewer xs)

  filtered : (es : List TraceEvent) (bs : List Begin) → length (filter (λ (b : Begin). same_address (address_of b.spec.key) address) (source_marked (marks_in es) bs)) ≡ total (counts es) bs
  filtered es [] = refl
  filtered es (b ∷ bs) = elim (is_source (marks_in es b.number)) as (λ t. length (filter (λ (b : Begin). same_address (address_of b.spec.key) address) (cond t (b ∷ source_marked (marks_in es) bs) (source_marked (marks_in es) bs)))
      ≡ one_if (same_address (address_of b.spec.key) address && t) + total (counts es) bs) [
        | true ↦ elim (same_address (address_of b.spec.key) address) as (λ u. length (cond u (b ∷ filter (λ (b : Begin). same_address (address_of b.spec.key) address) (source_marked (marks_in es) bs)) (filter (λ (b : Begin). same_address (address_of b.spec.key) address) (source_marked (marks_in es) bs)))
            ≡ one_if (u && true) + total (counts es) bs) [
              | true ↦ omega (arith, filtered es bs)
              | false ↦ omega (arith, filtered es bs)
            ]
        | false ↦ omega (arith, filtered es bs, no_count (same_address (address_of b.spec.key) address))
      ]

  pub licensed : (es : List TraceEvent) → IsOrderly 0 [] es → failed_fetches (marks_in es) (begins_in es) address ≤ count_by (λ a. same_address a address) (source_failures es)
  licensed es order =
      let marked = begins_at address (source_marked (marks_in es) (begins_in es)) in
      let few : length (distinct same_fetch marked) ≤ length marked = distinct_fewer marked in
      let all : total (counts es) (begins_in es) + 0 ≤ failed_at es = licence_from es 0 [] order (λ n. omega arith) (λ o o_in. absurd o_in) in
      omega (arith, few, filtered es (begins_in es), all, failures_are es)
