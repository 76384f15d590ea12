-- Words that spell numbers.
use Rattle.std.proofs.Common.{◌≡◌, ℕ, ◌<◌, Bool, true, false, not, ◌&&◌, ◌||◌, List, [], ◌∷◌, length, get_or, eqb, refl, arith, rules, tests}
use Rattle.std.specs.Char.{is_ascii_digit, digit_value}
use Rattle.std.specs.Int.{IsInRange}
use Rattle.std.specs.List.{list_all}
use Rattle.std.specs.Str.Parse.{AllDigits}
use Rattle.std.proofs.lemmas.Str.{digit_value_digit}
use Rattle.script_lines.specs.Words.{is_whole}

in_range : (c : ℕ) → is_ascii_digit c ≡ true → IsInRange 48 57 c
in_range c e = search (rules, tests)

digit_value_of : (c : ℕ) → is_ascii_digit c ≡ true → digit_value c < 10
digit_value_of c e = let range = in_range c e in omega (arith, digit_value_digit c range)

both : (a b : Bool) → (a && b) ≡ true → (a ≡ true) × (b ≡ true)
both true b e = (refl, e)
both false b e = cc

all_digits : (word : List ℕ) → list_all is_ascii_digit word ≡ true → AllDigits 10 word
all_digits [] e = tt
all_digits (c ∷ cs) e = let each = both (is_ascii_digit c) (list_all is_ascii_digit cs) e in (digit_value_of c each.0, all_digits cs each.1)

-- a whole number has digits alone
pub whole_digits : (word : List ℕ) → is_whole word ≡ true → AllDigits 10 word
whole_digits word e =
    let first = both (not (eqb (length word) 0) && list_all is_ascii_digit word) (eqb (length word) 1 || not (eqb (get_or word 0 48) 48)) e in
    all_digits word (both (not (eqb (length word) 0)) (list_all is_ascii_digit word) first.0).1
