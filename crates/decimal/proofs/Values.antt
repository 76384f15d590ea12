-- Digits and their number, which stands still at 2 to the 32nd.
use Rattle.std.proofs.Common.{◌≡◌, ◌⊎◌, inl, inr, ℕ, zero, suc, ◌+◌, ◌-◌, ◌*◌, ◌<◌, ◌≤◌, ◌^◌, true, false, cond, List, [], ◌∷◌, length, take, get_or, min, take-take, sym, ap, ◌∙◌, arith, rules, tests}
use Rattle.std.specs.Char.{is_ascii_digit}
use Rattle.std.specs.Int.{IsInRange}
use Rattle.std.specs.List.{prefix_len, take_while}
use Rattle.std.specs.Str.Parse.{AllDigits, digits_value}
use Rattle.std.proofs.lemmas.Bool.Decides.{nat_tests}
use Rattle.std.proofs.lemmas.List.{take_all}
use Rattle.std.proofs.lemmas.Str.Parse.{digit_at, digits_value-take-le}
use Rattle.std.proofs.Math.Nat.{eq-or-lt_of_le}
use Rattle.std.proofs.lemmas.Int.Digits.{digits_value_more}
use Rattle.std.proofs.lemmas.List.Sums.{prefix_len_is}
use Rattle.std.proofs.lemmas.Str.{digit_value_digit}

pub in_range : (c : ℕ) → is_ascii_digit c ≡ true → IsInRange 48 57 c
in_range c e = search (rules, tests)

pub one_more : (text : List ℕ) (at value digit : ℕ) → at < length text → is_ascii_digit (get_or text at 0) ≡ true → value ≡ digits_value 10 (take at text) → digit ≡ get_or text at 0 - 48
    → 10 * value + digit ≡ digits_value 10 (take (at + 1) text)
one_more text at value digit lt is e f =
    let range = in_range (get_or text at 0) is in
    omega (arith, e, f, digits_value_more 10 text at lt, digit_value_digit (get_or text at 0) range)

-- the digits end here
pub ends : (text : List ℕ) (at : ℕ) → at ≤ length text → ((k : ℕ) → k < at → is_ascii_digit (get_or text k 0) ≡ true) → (at < length text → is_ascii_digit (get_or text at 0) ≡ false)
    → prefix_len is_ascii_digit text ≡ at
ends text at le digits stop = prefix_len_is is_ascii_digit text at 0 le digits stop

pub value_ends : (text : List ℕ) (at value : ℕ) → prefix_len is_ascii_digit text ≡ at → value < 2 ^ 32 → value ≡ digits_value 10 (take at text)
    → value ≡ min (digits_value 10 (take_while is_ascii_digit text)) (2 ^ 32)
value_ends text at value count small e =
    let whole : value ≡ digits_value 10 (take_while is_ascii_digit text) = e ∙ ap (λ n. digits_value 10 (take n text)) (sym count) in
    omega (arith, whole)

-- so many digits come
at_least : (text : List ℕ) (n : ℕ) → n ≤ length text → ((k : ℕ) → k < n → is_ascii_digit (get_or text k 0) ≡ true) → n ≤ prefix_len is_ascii_digit text
at_least text zero le digits = omega arith
at_least [] (suc n) le digits = absurd (omega arith)
at_least (c ∷ rest) (suc n) le digits =
    let first : prefix_len is_ascii_digit (c ∷ rest) ≡ 1 + prefix_len is_ascii_digit rest = ap (λ b. cond b (1 + prefix_len is_ascii_digit rest) 0) (digits 0 (omega arith)) in
    omega (arith, first, at_least rest n (omega arith) (λ k lt. digits (suc k) (omega arith)))

-- a value that 32 bits do not hold grows with each digit
pub value_above : (text : List ℕ) (at value : ℕ) → at ≤ length text → ((k : ℕ) → k < at → is_ascii_digit (get_or text k 0) ≡ true) → value ≡ digits_value 10 (take at text) → 2 ^ 32 ≤ value
    → 2 ^ 32 ≡ min (digits_value 10 (take_while is_ascii_digit text)) (2 ^ 32)
value_above text at value le digits e large =
    let n : ℕ = prefix_len is_ascii_digit text in
    let front : take at (take n text) ≡ take at text = take-take at n text (at_least text at le digits) in
    omega (arith, e, large, ap (digits_value 10) front, digits_value-take-le 10 (take n text) at (omega arith))

-- digits are those that a text of digits begins with
is_digit : (c : ℕ) → IsInRange 48 57 c → is_ascii_digit c ≡ true
is_digit c range = grind (arith, nat_tests, range)

pub all_lead : (digits : List ℕ) → AllDigits 10 digits → digits_value 10 (take_while is_ascii_digit digits) ≡ digits_value 10 digits
all_lead digits all =
    let whole = ends digits (length digits) (omega arith) (λ k lt. is_digit (get_or digits k 0) (digit_at digits k all lt)) (λ lt. absurd (omega arith)) in
    ap (λ n. digits_value 10 (take n digits)) whole ∙ ap (digits_value 10) (take_all (length digits) digits (omega arith))

-- one digit more
on_at : (text : List ℕ) (at k : ℕ) → ((k : ℕ) → k < at → is_ascii_digit (get_or text k 0) ≡ true) → is_ascii_digit (get_or text at 0) ≡ true → (k ≡ at) ⊎ (k < at) → is_ascii_digit (get_or text k 0) ≡ true
on_at text at k digits digit (inr lt) = digits k lt
on_at text at k digits digit (inl e) = ap (λ k. is_ascii_digit (get_or text k 0)) e ∙ digit

pub digits_on : (text : List ℕ) (at : ℕ) → ((k : ℕ) → k < at → is_ascii_digit (get_or text k 0) ≡ true) → is_ascii_digit (get_or text at 0) ≡ true
    → (k : ℕ) → k < at + 1 → is_ascii_digit (get_or text k 0) ≡ true
digits_on text at digits digit k lt = on_at text at k digits digit (eq-or-lt_of_le (omega arith))
