-- Begins that are live and begins that are held: what a drop and a begin leave of them.
use Rattle.std.proofs.Common.{◌≡◌, ◌≢◌, ℕ, ◌+◌, ◌<◌, ◌≤◌, true, false, cond, eqb, List, [], ◌∷◌, ◌++◌, length, refl, ap, sym, ◌∙◌, inl, inr, arith, true≢false}
use Rattle.std.specs.Prelude.{◌⊎◌, not}
use Rattle.std.proofs.lemmas.List.{length-append}
use Rattle.std.proofs.lemmas.Bool.{eqb-true, eq-eqb}
use Rattle.script_walk.specs.Starts.{one_if}
use Rattle.script_walk.specs.Walk.{Begin}
use Rattle.script_walk.specs.Orderly.{In, AllIn, without_begin}

-- how often a number is among those of begins
abbrev pub times : ℕ → List Begin → ℕ
times n [] = 0
times n (b ∷ bs) = one_if (eqb b.number n) + times n bs

pub times-append : (n : ℕ) (xs ys : List Begin) → times n (xs ++ ys) ≡ times n xs + times n ys
times-append n [] ys = omega arith
times-append n (x ∷ xs) ys = omega (arith, times-append n xs ys)

pub in_left : (b : Begin) (xs ys : List Begin) → In b xs → In b (xs ++ ys)
in_left b [] ys h = absurd h
in_left b (x ∷ xs) ys h = elim h [ inl is ↦ inl is | inr is ↦ inr (in_left b xs ys is) ]

pub in_right : (b : Begin) (xs ys : List Begin) → In b ys → In b (xs ++ ys)
in_right b [] ys h = h
in_right b (x ∷ xs) ys h = inr (in_right b xs ys h)

pub in_parts : (b : Begin) (xs ys : List Begin) → In b (xs ++ ys) → In b xs ⊎ In b ys
in_parts b [] ys h = inr h
in_parts b (x ∷ xs) ys h = elim h [ inl is ↦ inl (inl is) | inr is ↦ elim (in_parts b xs ys is) [ inl l ↦ inl (inr l) | inr r ↦ inr r ] ]

pub some_times : (b : Begin) (xs : List Begin) → In b xs → 0 < times b.number xs
some_times b [] h = absurd h
some_times b (x ∷ xs) h = elim h [
  | inl is ↦ omega (arith, ap one_if (eq-eqb x.number b.number (ap (λ (y : Begin). y.number) (sym is))))
  | inr is ↦ omega (arith, some_times b xs is)
]

pub no_times : (n k : ℕ) (xs : List Begin) → ((b : Begin) → In b xs → b.number ≤ k) → k < n → times n xs ≡ 0
no_times n k [] below more = refl
no_times n k (x ∷ xs) below more =
    let small : x.number ≤ k = below x (inl refl) in
    let rest : times n xs ≡ 0 = no_times n k xs (λ b h. below b (inr h)) more in
    elim (eqb x.number n) as (λ t. eqb x.number n ≡ t → one_if t + times n xs ≡ 0) [
      | true ↦ λ e. let same : x.number ≡ n = eqb-true _ _ e in absurd (omega (arith, small, more, same))
      | false ↦ λ e. omega (arith, rest)
    ] refl

pub in_kept : (number : ℕ) (b : Begin) (xs : List Begin) → b.number ≢ number → In b xs → In b (without_begin number xs)
in_kept number b [] ne h = h
in_kept number b (x ∷ xs) ne h = elim (eqb x.number number) as (λ t. eqb x.number number ≡ t → In b (cond (not t) (x ∷ without_begin number xs) (without_begin number xs))) [
  | true ↦ λ e. elim h [ inl is ↦ absurd (ne (ap (λ (y : Begin). y.number) is ∙ eqb-true _ _ e)) | inr is ↦ in_kept number b xs ne is ]
  | false ↦ λ e. elim h [ inl is ↦ inl is | inr is ↦ inr (in_kept number b xs ne is) ]
] refl

-- What is held has begun, was not dropped, and is held once.
pub record Holds (k : ℕ) (live hs : List Begin) : Type 0 where
  pub inside : AllIn hs live
  pub once : (n : ℕ) → times n hs ≤ 1
  pub below : (b : Begin) → In b hs → b.number ≤ k
  pub same : (n : ℕ) → times n live ≡ times n hs
  pub count : length live ≡ length hs

none_left : (n : ℕ) (bs : List Begin) → times n (without_begin n bs) ≡ 0
none_left n [] = refl
none_left n (x ∷ bs) = elim (eqb x.number n) as (λ t. eqb x.number n ≡ t → times n (cond (not t) (x ∷ without_begin n bs) (without_begin n bs)) ≡ 0) [
  | true ↦ λ e. none_left n bs
  | false ↦ λ e. omega (arith, ap one_if e, none_left n bs)
] refl

others_left : (n m : ℕ) (bs : List Begin) → n ≢ m → times n (without_begin m bs) ≡ times n bs
others_left n m [] ne = refl
others_left n m (x ∷ bs) ne = elim (eqb x.number m) as (λ t. eqb x.number m ≡ t → times n (cond (not t) (x ∷ without_begin m bs) (without_begin m bs)) ≡ times n (x ∷ bs)) [
  | true ↦ λ e.
      let other : one_if (eqb x.number n) ≡ 0 = elim (eqb x.number n) as (λ t. eqb x.number n ≡ t → one_if t ≡ 0) [ true ↦ λ h. absurd (ne (sym (eqb-true _ _ h) ∙ eqb-true _ _ e)) | false ↦ λ h. refl ] refl in
      omega (arith, other, others_left n m bs ne)
  | false ↦ λ e. omega (arith, others_left n m bs ne)
] refl

fewer_left : (m : ℕ) (bs : List Begin) → length (without_begin m bs) + times m bs ≡ length bs
fewer_left m [] = refl
fewer_left m (x ∷ bs) = elim (eqb x.number m) as (λ t. length (cond (not t) (x ∷ without_begin m bs) (without_begin m bs)) + (one_if t + times m bs) ≡ length (x ∷ bs)) [
  | true ↦ omega (arith, fewer_left m bs)
  | false ↦ omega (arith, fewer_left m bs)
]

-- one of them is dropped
pub holds_less : (k : ℕ) (live xs ys : List Begin) (b : Begin) → Holds k live (xs ++ (b ∷ ys)) → Holds k (without_begin b.number live) (xs ++ ys)
holds_less k live xs ys b h =
    let here : one_if (eqb b.number b.number) ≡ 1 = ap one_if (eq-eqb b.number b.number refl) in
    let was : (o : Begin) → In o (xs ++ ys) → In o (xs ++ (b ∷ ys)) = λ o is. elim (in_parts o xs ys is) [ inl l ↦ in_left o xs (b ∷ ys) l | inr r ↦ in_right o xs (b ∷ ys) (inr r) ] in
    record {
      inside = λ o is. in_kept b.number o live
          (λ same. absurd (omega (arith, some_times o (xs ++ ys) is, ap (λ n. times n (xs ++ ys)) same, times-append b.number xs ys, times-append b.number xs (b ∷ ys), h.once b.number, here)))
          (h.inside o (was o is));
      once = λ n. omega (arith, h.once n, times-append n xs ys, times-append n xs (b ∷ ys));
      below = λ o is. h.below o (was o is);
      same = λ n. elim (eqb b.number n) as (λ t. eqb b.number n ≡ t → times n (without_begin b.number live) ≡ times n (xs ++ ys)) [
        | true ↦ λ e.
            let is : b.number ≡ n = eqb-true _ _ e in
            let none : times n (without_begin b.number live) ≡ 0 = ap (λ m. times n (without_begin m live)) is ∙ none_left n live in
            omega (arith, none, h.once n, times-append n xs ys, times-append n xs (b ∷ ys), ap one_if e)
        | false ↦ λ e. omega (arith, others_left n b.number live (λ is. true≢false (sym (eq-eqb b.number n (sym is)) ∙ e)), h.same n, times-append n xs ys, times-append n xs (b ∷ ys), ap one_if e)
      ] refl;
      count = omega (arith, fewer_left b.number live, h.same b.number, h.once b.number, times-append b.number xs (b ∷ ys), here, h.count, length-append xs (b ∷ ys), length-append xs ys);
    }

pub one_fewer : (k : ℕ) (live xs ys : List Begin) (b : Begin) → Holds k live (xs ++ (b ∷ ys)) → length (without_begin b.number live) + 1 ≡ length live
one_fewer k live xs ys b h = omega (arith, (holds_less k live xs ys b h).count, h.count, length-append xs (b ∷ ys), length-append xs ys)

-- one more begins
pub holds_more : (k : ℕ) (live xs ys : List Begin) (b : Begin) → b.number ≡ k + 1 → Holds k live (xs ++ ys) → Holds (k + 1) (b ∷ live) (xs ++ (b ∷ ys))
holds_more k live xs ys b is h =
    let none : times (k + 1) (xs ++ ys) ≡ 0 = no_times (k + 1) k (xs ++ ys) h.below (omega arith) in
    let which : (o : Begin) → In o (xs ++ (b ∷ ys)) → (o ≡ b) ⊎ In o (xs ++ ys) = λ o o_in. elim (in_parts o xs (b ∷ ys) o_in) [
      | inl l ↦ inr (in_left o xs ys l)
      | inr r ↦ elim r [ inl same ↦ inl same | inr more ↦ inr (in_right o xs ys more) ]
    ] in
    record {
      inside = λ o o_in. elim (which o o_in) [ inl same ↦ inl same | inr old ↦ inr (h.inside o old) ];
      once = λ n. elim (eqb b.number n) as (λ t. eqb b.number n ≡ t → times n (xs ++ (b ∷ ys)) ≤ 1) [
        | true ↦ λ e. let same : b.number ≡ n = eqb-true _ _ e in omega (arith, times-append n xs (b ∷ ys), times-append n xs ys, ap one_if e, none, ap (λ m. times m (xs ++ ys)) (sym is ∙ same))
        | false ↦ λ e. omega (arith, times-append n xs (b ∷ ys), times-append n xs ys, ap one_if e, h.once n)
      ] refl;
      below = λ o o_in. elim (which o o_in) [
        | inl same ↦ omega (arith, ap (λ (y : Begin). y.number) same, is)
        | inr old ↦ omega (arith, h.below o old)
      ];
      same = λ n. omega (arith, h.same n, times-append n xs ys, times-append n xs (b ∷ ys));
      count = omega (arith, h.count, length-append xs (b ∷ ys), length-append xs ys);
    }
