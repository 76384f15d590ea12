-- What the text of some lines says as a journal.
use Rattle.std.proofs.Common.{◌≡◌, ℕ, ◌+◌, ◌^◌, ◌<◌, Bool, true, false, cond, ◌&&◌, ◌||◌, ◌==◌, nat_lt, List, [], ◌∷◌, ◌++◌, length, get_or, Some, None, Ok, refl, sym, ap, subst, ◌∙◌, append_assoc, arith, option_and_then}
use Rattle.std.specs.List.{All, AllByRecursion, list_all, slice_split, onto_first}
use Rattle.std.specs.Option.{option_map}
use Rattle.std.specs.Fmt.{decimal}
use Rattle.std.specs.Str.Parse.{digits_value, AllDigits}
use Rattle.std.specs.Char.{digit_value}
use Rattle.std.proofs.lemmas.Bool.{eqb-true, eq-eqb, lt-ltb, ltb-true, ltb-false, and_parts, or_right}
use Rattle.std.proofs.lemmas.Fmt.{decimal_is_IsNumeral, decimal_digit, first_decimal}
use Rattle.std.proofs.lemmas.List.Elements.{All-from_recursion}
use Rattle.std.proofs.lemmas.List.Splits.{slice_split_none, slice_split_at}
use Rattle.journal_lines.specs.Keys.{is_key, is_key_byte, key_of}
use Rattle.journal_lines.specs.Lines.{spelled, IsLine, is_number, after_word, at_space, onto_parts, length_of, clean_of, line_of}
use Rattle.journal_lines.specs.Journal.{Lacks, header, ended, text_of, rest_of, onto, onto_read, lines_of, after_header, journal_of}
use Rattle.journal_lines.specs.declared.lines.Line.{Line}
use Rattle.journal_lines.specs.declared.lines.Line.TheVariants.{Dirty, Clean, Read, Remove}

-- ---- words

pub after_word-append : (word text : List ℕ) → after_word word (word ++ text) ≡ Some text
after_word-append [] text = refl
after_word-append (c ∷ word) text = ap (λ b. cond b (after_word word (word ++ text)) None) (eq-eqb c c refl) ∙ after_word-append word text

differ : (b c : ℕ) (p : ℕ → Bool) → p b ≡ true → p c ≡ false → (t : Bool) → (b == c) ≡ t → t ≡ false
differ b c p is isnt true e = let same = eqb-true b c e in let h : p c ≡ true = ap p (sym same) ∙ is in cc
differ b c p is isnt false e = refl

pub lacks : (c : ℕ) (p : ℕ → Bool) → p c ≡ false → (bytes : List ℕ) → list_all p bytes ≡ true → Lacks c bytes
lacks c p isnt [] e = tt
lacks c p isnt (b ∷ bytes) e = let h = and_parts (p b) (list_all p bytes) e in (differ b c p h.0 isnt _ refl, lacks c p isnt bytes h.1)

pub key_bytes : (key : List ℕ) → is_key key ≡ true → list_all is_key_byte key ≡ true
key_bytes key e = (and_parts _ (list_all is_key_byte key) e).1

pub lacks-append : (c : ℕ) (xs ys : List ℕ) → Lacks c xs → Lacks c ys → Lacks c (xs ++ ys)
lacks-append c [] ys h k = k
lacks-append c (x ∷ xs) ys h k = (h.0, lacks-append c xs ys h.1 k)

no_digit : (b : ℕ) → digit_value b < 10 → (t : Bool) → (b == 10) ≡ t → t ≡ false
no_digit b lt true e = let same = eqb-true b 10 e in let h : digit_value 10 < 10 = subst (λ (x : ℕ). digit_value x < 10) same lt in absurd (omega (arith, h))
no_digit b lt false e = refl

digits_lack : (ds : List ℕ) → AllDigits 10 ds → Lacks 10 ds
digits_lack [] h = tt
digits_lack (d ∷ ds) h = (no_digit d h.0 _ refl, digits_lack ds h.1)

-- ---- a line is read as it is written

at_space-append : (key rest : List ℕ) → Lacks 32 key → at_space (key ++ 32 ∷ rest) ≡ Some (key, rest)
at_space-append [] rest h = refl
at_space-append (b ∷ key) rest h = ap (λ t. cond t (Some ([], key ++ 32 ∷ rest)) (onto_parts b (at_space (key ++ 32 ∷ rest)))) h.0 ∙ ap (onto_parts b) (at_space-append key rest h.1)

key_of-key : (key : List ℕ) → is_key key ≡ true → key_of key ≡ Some key
key_of-key key e = ap (λ t. cond t (Some key) None) e

all_digits : (ds : List ℕ) → AllDigits 10 ds → list_all (λ b. nat_lt (digit_value b) 10) ds ≡ true
all_digits [] h = refl
all_digits (d ∷ ds) h = (λ i. lt-ltb (digit_value d) 10 h.0 i && all_digits ds h.1 i)

first_digit : (n : ℕ) → n < 2 ^ 64 → (t : Bool) → nat_lt n 10 ≡ t → (length (decimal n) == 1 || nat_lt 48 (get_or (decimal n) 0 0)) ≡ true
first_digit n lt true e = ap (λ ds. length ds == 1 || nat_lt 48 (get_or ds 0 0)) (decimal_digit n (ltb-true n 10 e))
first_digit n lt false e = or_right _ _ (lt-ltb 48 _ (first_decimal n (omega (arith, ltb-false n 10 e)) lt))

is_number-decimal : (n : ℕ) → n < 2 ^ 64 → is_number (decimal n) ≡ true
is_number-decimal n lt = (λ i. all_digits (decimal n) (decimal_is_IsNumeral n lt).0.1 i && lt-ltb 0 (length (decimal n)) (decimal_is_IsNumeral n lt).0.0 i && first_digit n lt _ refl i)

length_of-decimal : (n : ℕ) → n < 2 ^ 40 → length_of (decimal n) ≡ Some n
length_of-decimal n lt =
    let back : digits_value 10 (decimal n) ≡ n = (decimal_is_IsNumeral n (omega (arith, lt))).1 in
    let small : nat_lt (digits_value 10 (decimal n)) (2 ^ 40) ≡ true = ap (λ m. nat_lt m (2 ^ 40)) back ∙ lt-ltb n (2 ^ 40) lt in
    (λ i. cond (is_number-decimal n (omega (arith, lt)) i && small i) (Some (back i)) None)

clean_back : (key : List ℕ) (n : ℕ) → is_key key ≡ true → n < 2 ^ 40 → clean_of (at_space (key ++ 32 ∷ decimal n)) ≡ Some (Clean key n)
clean_back key n good lt =
    ap clean_of (at_space-append key (decimal n) (lacks 32 is_key_byte refl key (key_bytes key good)))
    ∙ ap (option_and_then (λ k. option_map (Clean k) (length_of (decimal n)))) (key_of-key key good)
    ∙ ap (option_map (Clean key)) (length_of-decimal n lt)

pub line_of-spelled : (line : Line) → IsLine line → line_of (spelled line) ≡ Some line
line_of-spelled (Dirty key) h = ap (option_map Dirty) (key_of-key key h)
line_of-spelled (Clean key n) h = clean_back key n h.0 h.1
line_of-spelled (Read key) h = ap (option_map Read) (key_of-key key h)
line_of-spelled (Remove key) h = ap (option_map Remove) (key_of-key key h)

-- ---- no newline within a line

pub spelled_lacks : (line : Line) → IsLine line → Lacks 10 (spelled line)
spelled_lacks (Dirty key) h = (refl, (refl, (refl, (refl, (refl, (refl, lacks 10 is_key_byte refl key (key_bytes key h)))))))
spelled_lacks (Clean key n) h = (refl, (refl, (refl, (refl, (refl, (refl, lacks-append 10 key (32 ∷ decimal n) (lacks 10 is_key_byte refl key (key_bytes key h.0)) (refl, digits_lack (decimal n) (decimal_is_IsNumeral n (omega (arith, h.1))).0.1)))))))
spelled_lacks (Read key) h = (refl, (refl, (refl, (refl, (refl, lacks 10 is_key_byte refl key (key_bytes key h))))))
spelled_lacks (Remove key) h = (refl, (refl, (refl, (refl, (refl, (refl, (refl, lacks 10 is_key_byte refl key (key_bytes key h))))))))

-- ---- whole texts

pub all_of : (c : ℕ) (xs : List ℕ) → Lacks c xs → All (λ b. (b == c) ≡ false) xs
all_of c xs h = All-from_recursion (λ b. (b == c) ≡ false) xs h

-- a list that is not empty begins with something
pub parts_some : (xs : List ℕ) → (p : List ℕ) × (ps : List (List ℕ)) × (slice_split (λ b. b == 10) xs ≡ p ∷ ps)
parts_some [] = ([], [], refl)
parts_some (x ∷ xs) =
    elim (x == 10) as (λ t. (p : List ℕ) × (ps : List (List ℕ)) × (cond t ([] ∷ slice_split (λ b. b == 10) xs) (onto_first x (slice_split (λ b. b == 10) xs)) ≡ p ∷ ps)) [
      | true ↦ ([], slice_split (λ b. b == 10) xs, refl)
      | false ↦ let h = parts_some xs in (x ∷ h.0, h.1, ap (onto_first x) h.2)
    ]

one_line : (n : ℕ) (line : Line) (parts : List (List ℕ)) → IsLine line → (h : (p : List ℕ) × (ps : List (List ℕ)) × (parts ≡ p ∷ ps)) → lines_of n (spelled line ∷ parts) ≡ onto line (lines_of (n + 1) parts)
one_line n line parts good h =
    ap (λ ps. lines_of n (spelled line ∷ ps)) h.2
    ∙ ap (λ l. onto_read n l (lines_of (n + 1) (h.0 ∷ h.1))) (line_of-spelled line good)
    ∙ ap (λ ps. onto line (lines_of (n + 1) ps)) (sym h.2)

split_line : (line : Line) (rest : List ℕ) → IsLine line → slice_split (λ b. b == 10) (ended (spelled line) ++ rest) ≡ spelled line ∷ slice_split (λ b. b == 10) rest
split_line line rest good =
    ap (slice_split (λ b. b == 10)) (append_assoc (spelled line) (10 ∷ []) rest)
    ∙ slice_split_at (λ b. b == 10) (spelled line) 10 rest (all_of 10 (spelled line) (spelled_lacks line good)) refl

lines_of-text : (n : ℕ) (lines : List Line) (tail : List ℕ) → AllByRecursion IsLine lines → Lacks 10 tail → lines_of n (slice_split (λ b. b == 10) (text_of lines ++ tail)) ≡ Ok (lines, rest_of tail)
lines_of-text n [] tail good lack = ap (lines_of n) (slice_split_none (λ b. b == 10) tail (all_of 10 tail lack))
lines_of-text n (line ∷ lines) tail good lack =
    ap (λ t. lines_of n (slice_split (λ b. b == 10) t)) (append_assoc (ended (spelled line)) (text_of lines) tail)
    ∙ ap (lines_of n) (split_line line (text_of lines ++ tail) good.0)
    ∙ one_line n line (slice_split (λ b. b == 10) (text_of lines ++ tail)) good.0 (parts_some (text_of lines ++ tail))
    ∙ ap (onto line) (lines_of-text (n + 1) lines tail good.1 lack)

pub journal_of-text : (lines : List Line) (tail : List ℕ) → AllByRecursion IsLine lines → Lacks 10 tail → journal_of (header ++ (text_of lines ++ tail)) ≡ Ok (lines, rest_of tail)
journal_of-text lines tail good lack = ap after_header (after_word-append header (text_of lines ++ tail)) ∙ lines_of-text 6 lines tail good lack
