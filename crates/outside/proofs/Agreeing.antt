-- What sources agree on, one after the other, is what all of them tell.
use Rattle.std.proofs.Common.{◌≡◌, ◌≢◌, ℕ, Bool, true, false, List, [], ◌∷◌, Option, Some, None, refl, ap, sym, subst, ◌∙◌}
use Rattle.std.specs.Prelude.{◌&&◌, nat_eq, if◌then◌else◌}
use Rattle.std.specs.FinMap.{entries, same_entries_map}
use Rattle.std.specs.Cmp.Lexicographic.{pointwise, pointwise_decides, bytes_decides}
use Rattle.outside.specs.Content.{Address, Contents}
use Rattle.outside.specs.Told.{EachTells, AllTell, IsToldBy}
use Rattle.outside.specs.inside.Agreeing.{same_entry, same_content, agreed, agreed_from, told_by}

-- ---- the test of two contents

abbrev Answers : Bool → Type 0 → Type 0
Answers test P = (test ≡ true → P) × (P → test ≡ true)

both : (x y : Bool) → (x && y) ≡ true → (x ≡ true) × (y ≡ true)
both true y e = (refl, e)
both false y e = cc

texts : (xs ys : List ℕ) → Answers (pointwise nat_eq xs ys) (xs ≡ ys)
texts xs ys = bytes_decides xs ys

entries_alike : (a b : Address × List ℕ) → Answers (same_entry a b) (a ≡ b)
entries_alike a b = (
  λ e.
      let one = both (pointwise nat_eq a.0.0 b.0.0) (pointwise nat_eq a.0.1 b.0.1 && pointwise nat_eq a.1 b.1) e in
      let two = both (pointwise nat_eq a.0.1 b.0.1) (pointwise nat_eq a.1 b.1) one.1 in
      λ i. (((texts a.0.0 b.0.0).0 one.0 i, (texts a.0.1 b.0.1).0 two.0 i), (texts a.1 b.1).0 two.1 i),
  λ e. subst (λ c. same_entry a c ≡ true) e (
      λ i. (texts a.0.0 a.0.0).1 refl i && ((texts a.0.1 a.0.1).1 refl i && (texts a.1 a.1).1 refl i)),
)

alike : (a b : Contents) → Answers (same_content a b) (a ≡ b)
alike a b = (
  λ e. same_entries_map a b ((pointwise_decides entries_alike (entries a) (entries b)).0 e),
  λ e. (pointwise_decides entries_alike (entries a) (entries b)).1 (ap entries e),
)

-- ---- what they agree on

abbrev content_in : Contents → Option Contents → Contents
content_in other None = other
content_in other (Some content) = content

some_is : {a b : Contents} → Some a ≡ Some b → a ≡ b
some_is {a} {b} e = ap (content_in a) e

none_stays : (others : List (Option Contents)) → agreed_from None others ≡ None
none_stays [] = refl
none_stays (said ∷ others) = none_stays others

none_tells_nothing : (others : List (Option Contents)) (content : Contents) → agreed_from None others ≡ Some content → ⊥
none_tells_nothing others content e = is_none (sym (none_stays others) ∙ e)
  where
    is_none : None ≡ Some content → ⊥
    is_none e = cc

-- one more tells the same, where something is told afterwards
one_more : (told : Contents) (said : Option Contents) (others : List (Option Contents)) (content : Contents)
    → agreed_from (agreed (Some told) said) others ≡ Some content
    → (said ≡ Some told) × (agreed_from (Some told) others ≡ Some content)
one_more told None others content e = absurd (none_tells_nothing others content e)
one_more told (Some said) others content e = by_test (same_content told said) refl e
  where
    by_test : (test : Bool) → same_content told said ≡ test
        → agreed_from (if test then Some told else None) others ≡ Some content
        → (Some said ≡ Some told) × (agreed_from (Some told) others ≡ Some content)
    by_test true is e = (ap Some (sym ((alike told said).0 is)), e)
    by_test false is e = absurd (none_tells_nothing others content e)

pub agreed_tell : (told : Contents) (others : List (Option Contents)) (content : Contents)
    → agreed_from (Some told) others ≡ Some content → (told ≡ content) × EachTells content others
agreed_tell told [] content e = (some_is e, tt)
agreed_tell told (said ∷ others) content e =
    let more = one_more told said others content e in
    let rest = agreed_tell told others content more.1 in
    (rest.0, (more.0 ∙ ap Some rest.0, rest.1))

pub tell_agreed : (content : Contents) (others : List (Option Contents))
    → EachTells content others → agreed_from (Some content) others ≡ Some content
tell_agreed content [] each = refl
tell_agreed content (said ∷ others) each =
    ap (λ s. agreed_from (agreed (Some content) s) others) each.0
    ∙ ap (λ test. agreed_from (if test then Some content else None) others) ((alike content content).1 refl)
    ∙ tell_agreed content others each.1

has_first : (said : Option Contents) (others : List (Option Contents)) → (said ∷ others) ≢ []
has_first said others e = cc

pub told_is : (said : List (Option Contents)) → IsToldBy said (told_by said)
told_is [] content = (λ e. cc, λ all. absurd (all.some refl))
told_is (first ∷ others) content = (by_first first, from_all)
  where
    by_first : (first : Option Contents) → agreed_from first others ≡ Some content → AllTell content (first ∷ others)
    by_first None e = absurd (none_tells_nothing others content e)
    by_first (Some told) e =
        let all = agreed_tell told others content e in
        record { some = has_first (Some told) others; each = (ap Some all.0, all.1) }

    from_all : AllTell content (first ∷ others) → agreed_from first others ≡ Some content
    from_all all = ap (λ f. agreed_from f others) all.each.0 ∙ tell_agreed content others all.each.1
