-- What is read as a line is that line's spelling, and what is read as whole lines is their text.
use Rattle.std.proofs.Common.{◌≡◌, ℕ, ◌+◌, ◌^◌, ◌<◌, Bool, true, false, cond, ◌&&◌, ◌||◌, ◌==◌, nat_lt, List, [], ◌∷◌, ◌++◌, length, get_or, Some, None, Ok, Err, Result, refl, sym, ap, subst, ◌∙◌, append_assoc, arith, option_and_then, unwrap_or, codes}
use Rattle.std.specs.declared.option.Option.{Option}
use Rattle.std.specs.List.{AllByRecursion, list_all, slice_split, join_with_byte}
use Rattle.std.specs.Option.{option_map}
use Rattle.std.specs.Fmt.{decimal}
use Rattle.std.specs.Char.{digit_value}
use Rattle.std.specs.Str.Parse.{digits_value, AllDigits}
use Rattle.std.proofs.lemmas.Bool.{eqb-true, ltb-true, and_parts}
use Rattle.std.proofs.lemmas.Fmt.{decimal-digits_value}
use Rattle.std.proofs.lemmas.Str.Parse.{IsNumeralModel}
use Rattle.std.proofs.lemmas.List.Splits.{join_with_byte-slice_split}
use Rattle.journal_lines.specs.Keys.{is_key, key_of}
use Rattle.journal_lines.specs.Lines.{spelled, IsLine, after_word, at_space, onto_parts, is_number, length_of, read_after, clean_of, line_of}
use Rattle.journal_lines.specs.Journal.{Lines, rest_of, onto, onto_read, lines_of, text_of, header, journal_of, after_header}
use Rattle.journal_lines.specs.declared.lines.Rest.{Rest}
use Rattle.journal_lines.specs.declared.lines.Rest.TheVariants.{Whole, Cut}
use Rattle.journal_lines.specs.declared.lines.JournalFault.{JournalFault}
use Rattle.journal_lines.specs.declared.lines.Line.{Line}
use Rattle.journal_lines.specs.declared.lines.Line.TheVariants.{Dirty, Clean, Read, Remove}

-- this text is that line's spelling, and the line is one that is written
abbrev pub Spells : List ℕ → Line → Type 0
Spells text line = IsLine line × (text ≡ spelled line)

same_some : {A : Type 0} (x y : A) → Some x ≡ Some y → x ≡ y
same_some x y e = ap (λ o. unwrap_or o x) e

after_word-is : (word text rest : List ℕ) → after_word word text ≡ Some rest → text ≡ word ++ rest
after_word-is [] text rest e = same_some text rest e
after_word-is (c ∷ word) [] rest e = cc
after_word-is (c ∷ word) (b ∷ text) rest e =
    elim (b == c) as (λ t. (b == c) ≡ t → cond t (after_word word text) None ≡ Some rest → b ∷ text ≡ c ∷ (word ++ rest)) [
      | true ↦ λ t k. (λ i. eqb-true b c t i ∷ after_word-is word text rest k i)
      | false ↦ λ t k. cc
    ] refl e

key_of-is : (bytes key : List ℕ) → key_of bytes ≡ Some key → (is_key key ≡ true) × (bytes ≡ key)
key_of-is bytes key e =
    elim (is_key bytes) as (λ t. is_key bytes ≡ t → cond t (Some bytes) None ≡ Some key → (is_key key ≡ true) × (bytes ≡ key)) [
      | true ↦ λ t k. (ap is_key (sym (same_some bytes key k)) ∙ t, same_some bytes key k)
      | false ↦ λ t k. cc
    ] refl e

at_space-is : (text : List ℕ) (cut : List ℕ × List ℕ) → at_space text ≡ Some cut → text ≡ cut.0 ++ 32 ∷ cut.1
at_space-is [] cut e = cc
at_space-is (b ∷ text) cut e =
    elim (b == 32) as (λ t. (b == 32) ≡ t → cond t (Some ([], text)) (onto_parts b (at_space text)) ≡ Some cut → b ∷ text ≡ cut.0 ++ 32 ∷ cut.1) [
      | true ↦ λ t k. (λ i. eqb-true b 32 t i ∷ text) ∙ ap (λ (c : List ℕ × List ℕ). c.0 ++ 32 ∷ c.1) (same_some ([], text) cut k)
      | false ↦ λ t k. later (at_space text) (λ c f. at_space-is text c f) k
    ] refl e
  where
    later : (o : Option (List ℕ × List ℕ)) → ((c : List ℕ × List ℕ) → o ≡ Some c → text ≡ c.0 ++ 32 ∷ c.1) → onto_parts b o ≡ Some cut → b ∷ text ≡ cut.0 ++ 32 ∷ cut.1
    later None f k = cc
    later (Some c) f k = ap (λ l. b ∷ l) (f c refl) ∙ ap (λ (d : List ℕ × List ℕ). d.0 ++ 32 ∷ d.1) (same_some (b ∷ c.0, c.1) cut k)

own_digits : IsNumeralModel (AllDigits 10) (digits_value 10)
own_digits = record { to = λ ds h. h; from = λ ds h. h; same = λ ds h. refl }

all_digits : (ds : List ℕ) → list_all (λ b. nat_lt (digit_value b) 10) ds ≡ true → AllDigits 10 ds
all_digits [] e = tt
all_digits (d ∷ ds) e = let h = and_parts (nat_lt (digit_value d) 10) (list_all (λ b. nat_lt (digit_value b) 10) ds) e in (ltb-true (digit_value d) 10 h.0, all_digits ds h.1)

no_zero : (n : ℕ) (ds : List ℕ) → (length ds == 1 || nat_lt 48 (get_or ds 0 0)) ≡ true → get_or ds 0 0 ≡ 48 → length ds ≡ 1
no_zero n ds e first = by_length (length ds == 1) refl e where
  by_length : (t : Bool) → (length ds == 1) ≡ t → (t || nat_lt 48 (get_or ds 0 0)) ≡ true → length ds ≡ 1
  by_length true f k = eqb-true (length ds) 1 f
  by_length false f k = absurd (omega (arith, ltb-true 48 (get_or ds 0 0) k, first))

length_of-is : (bytes : List ℕ) (n : ℕ) → length_of bytes ≡ Some n → (n < 2 ^ 40) × (bytes ≡ decimal n)
length_of-is bytes n e =
    elim (is_number bytes && nat_lt (digits_value 10 bytes) (2 ^ 40)) as (λ t. (is_number bytes && nat_lt (digits_value 10 bytes) (2 ^ 40)) ≡ t → cond t (Some (digits_value 10 bytes)) None ≡ Some n → (n < 2 ^ 40) × (bytes ≡ decimal n)) [
      | true ↦ λ t k.
          let h = and_parts (is_number bytes) (nat_lt (digits_value 10 bytes) (2 ^ 40)) t in
          let p = and_parts (list_all (λ b. nat_lt (digit_value b) 10) bytes && nat_lt 0 (length bytes)) (length bytes == 1 || nat_lt 48 (get_or bytes 0 0)) h.0 in
          let q = and_parts (list_all (λ b. nat_lt (digit_value b) 10) bytes) (nat_lt 0 (length bytes)) p.0 in
          let is = same_some (digits_value 10 bytes) n k in
          let small : digits_value 10 bytes < 2 ^ 40 = ltb-true (digits_value 10 bytes) (2 ^ 40) h.1 in
          (omega (arith, small, is), sym (decimal-digits_value own_digits bytes (all_digits bytes q.0) (ltb-true 0 (length bytes) q.1) (no_zero 0 bytes p.1) (omega (arith, small))) ∙ ap decimal is)
      | false ↦ λ t k. cc
    ] refl e

-- after a word that is there
keyed : (make : List ℕ → Line) (word text rest : List ℕ) (line : Line) → ((key : List ℕ) → is_key key ≡ true → IsLine (make key)) → ((key : List ℕ) → spelled (make key) ≡ word ++ key)
    → after_word word text ≡ Some rest → (o : Option (List ℕ)) → key_of rest ≡ o → option_map make o ≡ Some line → Spells text line
keyed make word text rest line good spell e None f j = cc
keyed make word text rest line good spell e (Some key) f j =
    let h = key_of-is rest key f in
    let is = same_some (make key) line j in
    (subst IsLine is (good key h.0), after_word-is word text rest e ∙ ap (λ r. word ++ r) h.1 ∙ sym (spell key) ∙ ap spelled is)

cleaned : (text rest : List ℕ) (line : Line) → after_word (codes "CLEAN ") text ≡ Some rest → clean_of (at_space rest) ≡ Some line → Spells text line
cleaned text rest line e k = by_space (at_space rest) refl k where
  by_number : (cut : List ℕ × List ℕ) (key : List ℕ) (o : Option ℕ) → at_space rest ≡ Some cut → key_of cut.0 ≡ Some key → length_of cut.1 ≡ o → option_map (Clean key) o ≡ Some line → Spells text line
  by_number cut key None s f l j = cc
  by_number cut key (Some n) s f l j =
      let h = key_of-is cut.0 key f in
      let m = length_of-is cut.1 n l in
      let is = same_some (Clean key n) line j in
      (subst IsLine is (h.0, m.0), after_word-is (codes "CLEAN ") text rest e ∙ ap (λ r. codes "CLEAN " ++ r) (at_space-is rest cut s ∙ (λ i. h.1 i ++ 32 ∷ m.1 i)) ∙ ap spelled is)

  by_key : (cut : List ℕ × List ℕ) (o : Option (List ℕ)) → at_space rest ≡ Some cut → key_of cut.0 ≡ o → option_and_then (λ key. option_map (Clean key) (length_of cut.1)) o ≡ Some line → Spells text line
  by_key cut None s f j = cc
  by_key cut (Some key) s f j = by_number cut key (length_of cut.1) s f refl j

  by_space : (o : Option (List ℕ × List ℕ)) → at_space rest ≡ o → clean_of o ≡ Some line → Spells text line
  by_space None s j = cc
  by_space (Some cut) s j = by_key cut (key_of cut.0) s refl j

-- after a word or not
parted : (text : List ℕ) (line : Line) (word : List ℕ) (read : List ℕ → Option Line) (other : Option Line) (o : Option (List ℕ)) → after_word word text ≡ o
    → ((rest : List ℕ) → after_word word text ≡ Some rest → read rest ≡ Some line → Spells text line) → (other ≡ Some line → Spells text line) → read_after o read other ≡ Some line → Spells text line
parted text line word read other None e here there k = there k
parted text line word read other (Some rest) e here there k = here rest e k

pub line_of-is : (text : List ℕ) (line : Line) → line_of text ≡ Some line → Spells text line
line_of-is text line e =
    parted text line (codes "DIRTY ") _ _ _ refl (λ rest w k. keyed Dirty (codes "DIRTY ") text rest line (λ key h. h) (λ key. refl) w (key_of rest) refl k)
    (parted text line (codes "CLEAN ") _ _ _ refl (λ rest w k. cleaned text rest line w k)
    (parted text line (codes "READ ") _ _ _ refl (λ rest w k. keyed Read (codes "READ ") text rest line (λ key h. h) (λ key. refl) w (key_of rest) refl k)
    (parted text line (codes "REMOVE ") _ _ _ refl (λ rest w k. keyed Remove (codes "REMOVE ") text rest line (λ key h. h) (λ key. refl) w (key_of rest) refl k)
    (λ k. cc)))) e

-- ---- whole lines

abbrev result_end : Result Lines JournalFault → Rest
result_end (Ok x) = x.1
result_end (Err x) = Whole

abbrev result_lines : Result Lines JournalFault → List Line
result_lines (Ok x) = x.0
result_lines (Err x) = []

ok_of : (r : Result Lines JournalFault) (l : Line) (lines : List Line) (end : Rest) → onto l r ≡ Ok (lines, end) → (ls : List Line) × (r ≡ Ok (ls, end)) × (l ∷ ls ≡ lines)
ok_of (Err x) l lines end e = cc
ok_of (Ok ls) l lines end e = (ls.0, ap (λ r. Ok (ls.0, result_end r)) e, ap result_lines e)

abbrev IsWhole : List (List ℕ) → List Line → Type 0
IsWhole parts lines = AllByRecursion IsLine lines × (join_with_byte 10 parts ≡ text_of lines)

last_part : (part : List ℕ) (lines : List Line) → ◌≡◌ {A = Result Lines JournalFault} (Ok ([], rest_of part)) (Ok (lines, Whole)) → IsWhole (part ∷ []) lines
last_part [] lines e = subst (IsWhole ([] ∷ [])) (ap result_lines e) (tt, refl)
last_part (b ∷ part) lines e = let bad : Cut ≡ Whole = ap result_end e in cc

more_parts : (n : ℕ) (part next : List ℕ) (parts : List (List ℕ)) (lines : List Line) → ((ls : List Line) → lines_of (n + 1) (next ∷ parts) ≡ Ok (ls, Whole) → IsWhole (next ∷ parts) ls)
    → (o : Option Line) → line_of part ≡ o → onto_read n o (lines_of (n + 1) (next ∷ parts)) ≡ Ok (lines, Whole) → IsWhole (part ∷ (next ∷ parts)) lines
more_parts n part next parts lines rest None f e = cc
more_parts n part next parts lines rest (Some l) f e =
    let h = ok_of (lines_of (n + 1) (next ∷ parts)) l lines Whole e in
    let behind = rest h.0 h.1 in
    let here = line_of-is part l f in
    subst (IsWhole (part ∷ (next ∷ parts))) h.2 ((here.0, behind.0), (λ i. here.1 i ++ 10 ∷ behind.1 i) ∙ sym (append_assoc (spelled l) (10 ∷ []) (text_of h.0)))

lines_whole : (n : ℕ) (parts : List (List ℕ)) (lines : List Line) → lines_of n parts ≡ Ok (lines, Whole) → IsWhole parts lines
lines_whole n [] lines e = subst (IsWhole []) (ap result_lines e) (tt, refl)
lines_whole n (part ∷ []) lines e = last_part part lines e
lines_whole n (part ∷ (next ∷ parts)) lines e = more_parts n part next parts lines (λ ls k. lines_whole (n + 1) (next ∷ parts) ls k) (line_of part) refl e

-- a whole journal is the header and the text of its lines
pub journal_whole : (text : List ℕ) (lines : List Line) → journal_of text ≡ Ok (lines, Whole) → AllByRecursion IsLine lines × (text ≡ header ++ text_of lines)
journal_whole text lines e = behind (after_word header text) refl e where
  behind : (o : Option (List ℕ)) → after_word header text ≡ o → after_header o ≡ Ok (lines, Whole) → AllByRecursion IsLine lines × (text ≡ header ++ text_of lines)
  behind None f k = cc
  behind (Some rest) f k =
      let h = lines_whole 6 (slice_split (λ b. b == 10) rest) lines k in
      (h.0, after_word-is header text rest f ∙ ap (λ r. header ++ r) (sym (join_with_byte-slice_split 10 rest) ∙ h.1))
