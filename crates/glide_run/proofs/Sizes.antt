-- Words that spell sizes.
use Rattle.std.proofs.Common.{◌≡◌, ℕ, ◌<◌, ◌≤◌, Bool, true, false, not, cond, ◌&&◌, ◌||◌, List, [], ◌∷◌, length, get_or, eqb, Some, None, Option, Ok, Result, refl, ap, sym, ◌∙◌, arith, rules, tests}
use Rattle.std.specs.Prelude.{nat_le}
use Rattle.std.specs.Char.{is_ascii_digit, digit_value}
use Rattle.std.specs.Int.{IsInRange}
use Rattle.std.specs.List.{list_all}
use Rattle.std.specs.Str.Parse.{AllDigits, digits_value, ParsesUnsigned}
use Rattle.std.proofs.lemmas.Bool.{leb-true}
use Rattle.std.proofs.lemmas.Str.{digit_value_digit}
use Rattle.std.proofs.lemmas.Str.Parse.{IsNumeralModel, parse_gives}
use Rattle.script_lines.specs.Words.{is_whole}
use Rattle.glide_run.specs.Settings.{size_limit, size}

in_range : (c : ℕ) → is_ascii_digit c ≡ true → IsInRange 48 57 c
in_range c e = search (rules, tests)

digit_value_of : (c : ℕ) → is_ascii_digit c ≡ true → digit_value c < 10
digit_value_of c e = let range = in_range c e in omega (arith, digit_value_digit c range)

both : (a b : Bool) → (a && b) ≡ true → (a ≡ true) × (b ≡ true)
both true b e = (refl, e)
both false b e = cc

all_digits : (word : List ℕ) → list_all is_ascii_digit word ≡ true → AllDigits 10 word
all_digits [] e = tt
all_digits (c ∷ cs) e = let each = both (is_ascii_digit c) (list_all is_ascii_digit cs) e in (digit_value_of c each.0, all_digits cs each.1)

some_digits : (word : List ℕ) → not (eqb (length word) 0) ≡ true → 0 < length word
some_digits [] e = cc
some_digits (c ∷ cs) e = omega arith

own : IsNumeralModel (AllDigits 10) (digits_value 10)
own = record { to = λ ds all. all; from = λ ds all. all; same = λ ds all. refl }

none_last : (a b : Bool) (v : ℕ) → cond (a && b && false) (Some v) None ≡ None
none_last true true v = refl
none_last true false v = refl
none_last false b v = refl

-- A whole number that does not fit 64 bits is no size.
pub too_large : {E : Type 0} (word : List ℕ) (r : Result ℕ E) → is_whole word ≡ true → ParsesUnsigned 64 10 word r → ((n : ℕ) → r ≡ Ok n → ⊥) → None ≡ size word
too_large word r whole parsed none =
    let first = both (not (eqb (length word) 0) && list_all is_ascii_digit word) (eqb (length word) 1 || not (eqb (get_or word 0 48) 48)) whole in
    let digits = both (not (eqb (length word) 0)) (list_all is_ascii_digit word) first.0 in
    let value = digits_value 10 word in
    elim (nat_le value size_limit) as (λ b. nat_le value size_limit ≡ b → None ≡ cond (is_whole word && nat_le 0 value && b) (Some value) None) [
      | true ↦ λ le. absurd (none value (parse_gives own 64 word r parsed (all_digits word digits.1) (some_digits word digits.0) (omega (arith, leb-true value size_limit le))))
      | false ↦ λ gt. sym (none_last (is_whole word) (nat_le 0 value) value)
    ] refl
