-- What the parts of a line are read as.
use Rattle.std.proofs.Common.{◌≡◌, ℕ, ◌+◌, ◌^◌, ◌<◌, ◌≤◌, Bool, true, false, cond, not, ◌&&◌, ◌==◌, nat_lt, nat_eq, List, [], ◌∷◌, length, take, drop, get_or, Some, None, Bor, refl, sym, ap, ◌∙◌, arith, lt-ltb, ltb-true, MatchOption, zero, suc}
use Rattle.std.specs.declared.option.Option.{Option}
use Rattle.std.specs.Option.{option_map}
use Rattle.std.specs.List.{list_all, position, position_or_len}
use Rattle.std.specs.Cmp.Lexicographic.{pointwise}
use Rattle.std.specs.Char.{digit_value}
use Rattle.std.specs.Str.Parse.{digits_value}
use Rattle.std.proofs.lemmas.Bool.{le-ltb, ltb-false, and_parts}
use Rattle.std.proofs.lemmas.Str.Parse.{digits_value-take-le}
use Rattle.journal_lines.specs.Lines.{after_word, at_space, onto_parts}

-- ---- words

-- a text begins with a word where its front is the word
pub after_word-cut : (word text : List ℕ) → after_word word text ≡ cond (pointwise nat_eq (take (length word) text) word) (Some (drop (length word) text)) None
after_word-cut [] text = refl
after_word-cut (c ∷ word) [] = refl
after_word-cut (c ∷ word) (b ∷ text) =
    elim (b == c) as (λ t. cond t (after_word word text) None ≡ cond (t && pointwise nat_eq (take (length word) text) word) (Some (drop (length word) text)) None) [
      | true ↦ after_word-cut word text
      | false ↦ refl
    ]

pub stripped : (word text : List ℕ) (o : Option (Bor (List ℕ))) → MatchOption o (pointwise nat_eq (take (length word) text) word ≡ false) (λ rest. (pointwise nat_eq (take (length word) text) word ≡ true) × (rest.now ≡ drop (length word) text) × (length rest.now + length word ≡ length text))
    → option_map (λ rest. rest.now) o ≡ after_word word text
stripped word text None h = sym (after_word-cut word text ∙ ap (λ b. cond b (Some (drop (length word) text)) None) h)
stripped word text (Some rest) h = ap (λ l. Some l) h.1 ∙ sym (after_word-cut word text ∙ ap (λ b. cond b (Some (drop (length word) text)) None) h.0)

-- ---- the first space

abbrev is_space : ℕ → Bool
is_space b = b == 32

abbrev parts_at : ℕ → List ℕ → List ℕ × List ℕ
parts_at i text = (take i text, drop (i + 1) text)

shifted : (b m : ℕ) (text : List ℕ) (t : Bool) → nat_lt m (length text) ≡ t
    → onto_parts b (cond t (Some (parts_at m text)) None) ≡ cond (nat_lt (1 + m) (length (b ∷ text))) (Some (parts_at (1 + m) (b ∷ text))) None
shifted b m text true e =
    let below = ltb-true m (length text) e in
    let next : suc m ≡ 1 + m = omega arith in
    let behind : suc m + 1 ≡ suc (m + 1) = omega arith in
    sym (ap (λ t. cond t (Some (parts_at (1 + m) (b ∷ text))) None) (lt-ltb (1 + m) (length (b ∷ text)) (omega (arith, below)))
    ∙ ap (λ n. Some (take n (b ∷ text), drop (n + 1) (b ∷ text))) (sym next)
    ∙ ap (λ n. Some (b ∷ take m text, drop n (b ∷ text))) behind)
shifted b m text false e =
    let above = ltb-false m (length text) e in
    sym (ap (λ t. cond t (Some (parts_at (1 + m) (b ∷ text))) None) (le-ltb (1 + m) (length (b ∷ text)) (omega (arith, above))))

pub at_space-cut : (text : List ℕ) → at_space text ≡ cond (nat_lt (position_or_len is_space text) (length text)) (Some (parts_at (position_or_len is_space text) text)) None
at_space-cut [] = refl
at_space-cut (b ∷ text) =
    elim (b == 32) as (λ t. cond t (Some ([], text)) (onto_parts b (at_space text)) ≡ cond (nat_lt (cond (not t) (1 + position_or_len is_space text) 0) (length (b ∷ text))) (Some (parts_at (cond (not t) (1 + position_or_len is_space text) 0) (b ∷ text))) None) [
      | true ↦ ap (λ t. cond t (Some ([], text)) None) (sym (lt-ltb 0 (length (b ∷ text)) (omega arith)))
      | false ↦ ap (onto_parts b) (at_space-cut text) ∙ shifted b (position_or_len is_space text) text _ refl
    ]

pub at_space-position : (text : List ℕ) → option_map (λ i. parts_at i text) (position is_space text) ≡ at_space text
at_space-position text = by (nat_lt (position_or_len is_space text) (length text)) ∙ sym (at_space-cut text) where
  by : (t : Bool) → option_map (λ i. parts_at i text) (cond t (Some (position_or_len is_space text)) None) ≡ cond t (Some (parts_at (position_or_len is_space text) text)) None
  by true = refl
  by false = refl

-- ---- lengths

pub digit_at : (digits : List ℕ) (i : ℕ) → i < length digits → list_all (λ b. nat_lt (digit_value b) 10) digits ≡ true → digit_value (get_or digits i 0) < 10
digit_at [] i below e = absurd (omega (arith, below))
digit_at (d ∷ digits) zero below e = ltb-true (digit_value d) 10 (and_parts _ (list_all (λ b. nat_lt (digit_value b) 10) digits) e).0
digit_at (d ∷ digits) (suc i) below e = digit_at digits i (omega (arith, below)) (and_parts (nat_lt (digit_value d) 10) _ e).1

-- digits of which a prefix is too large already are too large
pub too_large : (digits : List ℕ) (i n : ℕ) → n ≡ digits_value 10 (take i digits) → 2 ^ 40 ≤ n → ◌≡◌ {A = Option ℕ} None (cond (nat_lt (digits_value 10 digits) (2 ^ 40)) (Some (digits_value 10 digits)) None)
too_large digits i n is large =
    let more = digits_value-take-le 10 digits i (omega arith) in
    sym (ap (λ t. cond t (Some (digits_value 10 digits)) None) (le-ltb (digits_value 10 digits) (2 ^ 40) (omega (arith, is, large, more))))

pub small_enough : (digits : List ℕ) (n : ℕ) → n ≡ digits_value 10 digits → n < 2 ^ 40 → Some n ≡ cond (nat_lt (digits_value 10 digits) (2 ^ 40)) (Some (digits_value 10 digits)) None
small_enough digits n is small =
    ap (λ m. Some m) is ∙ sym (ap (λ t. cond t (Some (digits_value 10 digits)) None) (lt-ltb (digits_value 10 digits) (2 ^ 40) (omega (arith, is, small))))
