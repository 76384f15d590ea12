-- Gaps and numbers, as they are spelled and as they are read.
use Rattle.std.proofs.Common.{◌≡◌, ℕ, suc, ◌+◌, ◌<◌, ◌≤◌, ◌^◌, ◌&&◌, ◌||◌, Bool, true, false, not, cond, eqb, ltb, List, [], ◌∷◌, ◌++◌, length, take, drop, Result, Ok, Err, refl, sym, ap, subst, ◌∙◌, arith, append_assoc, append-nil}
use Rattle.std.proofs.lemmas.Bool.{and_parts, and_from}
use borrow.Author.Tests.{ltb-true, lt-ltb}
use Rattle.std.proofs.lemmas.Bool.Decides.{nat_tests}
use Rattle.std.proofs.lemmas.List.{take-append-drop, length-append}
use Rattle.std.proofs.lemmas.List.Sums.{take_while-cons}
use Rattle.std.specs.List.{list_all, flat_map, take_while, prefix_len}
use Rattle.std.specs.Str.Parse.{digits_value}
use Rattle.ppm_read.specs.declared.fault.PpmFault.{PpmFault}
use Rattle.ppm_read.specs.declared.fault.PpmFault.TheVariants.{BadNumber, Truncated}
use Rattle.picture_rows.specs.Reading.{◌>>=◌}
use Rattle.ppm_read.specs.Number.{is_white, is_line_end, begins_comment, is_digit, rest_after, after_gap, after_comment, missing_at, begins_with, gap_at, is_cut, number_at}
use Rattle.ppm_read.specs.Header.{part_at}
use Rattle.ppm_read.proofs.Chains.{bind_ok, cond_ok, inside}
use Rattle.ppm_read.proofs.Numbers.{in_range}
use Rattle.ppm_read.specs.Spelling.{GapPart, White, Comment, gap_bytes, is_gap_part, IsNumber, IsPart}

-- gap parts at the front of a text, where more follows them
pub record GapFront (text : List ℕ) : Type 0 where
  pub parts : List GapPart
  pub fit : list_all is_gap_part parts ≡ true
  pub spelled : text ≡ flat_map gap_bytes parts ++ after_gap text

pub record CommentFront (text : List ℕ) : Type 0 where
  pub bytes : List ℕ
  pub end : ℕ
  pub parts : List GapPart
  pub inside : list_all (λ c. not (is_line_end c)) bytes ≡ true
  pub stops : is_line_end end ≡ true
  pub fit : list_all is_gap_part parts ≡ true
  pub spelled : text ≡ bytes ++ end ∷ (flat_map gap_bytes parts ++ after_comment text)

abbrev pub Fronts : List ℕ → Type 0
Fronts text = (0 < length (after_gap text) → GapFront text) × (0 < length (after_comment text) → CommentFront text)

pub gap_white : (c : ℕ) (rest : List ℕ) → is_white c ≡ true → after_gap (c ∷ rest) ≡ after_gap rest
gap_white c rest e = ap (λ v. cond v (after_gap rest) (cond (begins_comment c) (after_comment rest) (c ∷ rest))) e

pub gap_comment : (c : ℕ) (rest : List ℕ) → is_white c ≡ false → begins_comment c ≡ true → after_gap (c ∷ rest) ≡ after_comment rest
gap_comment c rest e f = ap (λ v. cond v (after_gap rest) (cond (begins_comment c) (after_comment rest) (c ∷ rest))) e ∙ ap (λ v. cond v (after_comment rest) (c ∷ rest)) f

pub gap_none : (c : ℕ) (rest : List ℕ) → is_white c ≡ false → begins_comment c ≡ false → after_gap (c ∷ rest) ≡ c ∷ rest
gap_none c rest e f = ap (λ v. cond v (after_gap rest) (cond (begins_comment c) (after_comment rest) (c ∷ rest))) e ∙ ap (λ v. cond v (after_comment rest) (c ∷ rest)) f

pub comment_stops : (c : ℕ) (rest : List ℕ) → is_line_end c ≡ true → after_comment (c ∷ rest) ≡ after_gap rest
comment_stops c rest e = ap (λ v. cond v (after_gap rest) (after_comment rest)) e

pub comment_goes : (c : ℕ) (rest : List ℕ) → is_line_end c ≡ false → after_comment (c ∷ rest) ≡ after_comment rest
comment_goes c rest e = ap (λ v. cond v (after_gap rest) (after_comment rest)) e

-- no white byte is a comment's first
pub hash : (c : ℕ) → begins_comment c ≡ true → c ≡ 35
hash c e = Rattle.std.proofs.Common.eqb-true c 35 e

front_gap : (c : ℕ) (rest : List ℕ) (w h : Bool) → is_white c ≡ w → begins_comment c ≡ h → Fronts rest → 0 < length (after_gap (c ∷ rest)) → GapFront (c ∷ rest)
front_gap c rest true h e f fronts lt =
    let is = gap_white c rest e in
    let more = fronts.0 (subst (λ l. 0 < length l) is lt) in
    record {
      parts = White c ∷ more.parts;
      fit = and_from (is_white c) _ e more.fit;
      spelled = ap (λ l. c ∷ l) (more.spelled ∙ ap (λ l. flat_map gap_bytes more.parts ++ l) (sym is));
    }
front_gap c rest false true e f fronts lt =
    let is = gap_comment c rest e f in
    let more = fronts.1 (subst (λ l. 0 < length l) is lt) in
    record {
      parts = Comment more.bytes more.end ∷ more.parts;
      fit = and_from _ _ (and_from _ _ more.inside more.stops) more.fit;
      spelled = ap (λ v. v ∷ rest) (hash c f) ∙ ap (λ l. 35 ∷ l) (more.spelled ∙ ap (λ l. more.bytes ++ more.end ∷ (flat_map gap_bytes more.parts ++ l)) (sym is) ∙ sym (append_assoc (more.bytes ++ more.end ∷ []) (flat_map gap_bytes more.parts) (after_gap (c ∷ rest)) ∙ append_assoc more.bytes (more.end ∷ []) (flat_map gap_bytes more.parts ++ after_gap (c ∷ rest))));
    }
front_gap c rest false false e f fronts lt = record { parts = []; fit = refl; spelled = sym (gap_none c rest e f) }

front_comment : (c : ℕ) (rest : List ℕ) (s : Bool) → is_line_end c ≡ s → Fronts rest → 0 < length (after_comment (c ∷ rest)) → CommentFront (c ∷ rest)
front_comment c rest true e fronts lt =
    let is = comment_stops c rest e in
    let more = fronts.0 (subst (λ l. 0 < length l) is lt) in
    record {
      bytes = [];
      end = c;
      parts = more.parts;
      inside = refl;
      stops = e;
      fit = more.fit;
      spelled = ap (λ l. c ∷ l) (more.spelled ∙ ap (λ l. flat_map gap_bytes more.parts ++ l) (sym is));
    }
front_comment c rest false e fronts lt =
    let is = comment_goes c rest e in
    let more = fronts.1 (subst (λ l. 0 < length l) is lt) in
    record {
      bytes = c ∷ more.bytes;
      end = more.end;
      parts = more.parts;
      inside = and_from (not (is_line_end c)) _ (ap not e) more.inside;
      stops = more.stops;
      fit = more.fit;
      spelled = ap (λ l. c ∷ l) (more.spelled ∙ ap (λ l. more.bytes ++ more.end ∷ (flat_map gap_bytes more.parts ++ l)) (sym is));
    }

pub fronts_of : (text : List ℕ) → Fronts text
fronts_of [] = (λ lt. absurd (omega arith), λ lt. absurd (omega arith))
fronts_of (c ∷ rest) = (front_gap c rest (is_white c) (begins_comment c) refl refl (fronts_of rest), front_comment c rest (is_line_end c) refl (fronts_of rest))

-- what is spelled as a gap is passed
pub not_true : (b : Bool) → not b ≡ true → b ≡ false
not_true true e = cc
not_true false e = refl

pub comment_behind : (bytes : List ℕ) (end : ℕ) (tail : List ℕ) → list_all (λ c. not (is_line_end c)) bytes ≡ true → is_line_end end ≡ true → after_comment (bytes ++ end ∷ tail) ≡ after_gap tail
comment_behind [] end tail e f = comment_stops end tail f
comment_behind (c ∷ bytes) end tail e f =
    let both = and_parts (not (is_line_end c)) _ e in
    comment_goes c (bytes ++ end ∷ tail) (not_true (is_line_end c) both.0) ∙ comment_behind bytes end tail both.1 f

gap_stops : (rest : List ℕ) → begins_with (λ c. is_white c || begins_comment c) rest ≡ false → after_gap rest ≡ rest
gap_stops [] e = refl
gap_stops (c ∷ rest) e = let parts = neither (is_white c) (begins_comment c) e in gap_none c rest parts.0 parts.1 where
  neither : (a b : Bool) → (a || b) ≡ false → (a ≡ false) × (b ≡ false)
  neither true b e = cc
  neither false b e = (refl, e)

pub gap_behind : (parts : List GapPart) (rest : List ℕ) → list_all is_gap_part parts ≡ true → begins_with (λ c. is_white c || begins_comment c) rest ≡ false → after_gap (flat_map gap_bytes parts ++ rest) ≡ rest
gap_behind [] rest e stop = gap_stops rest stop
gap_behind (White c ∷ parts) rest e stop = let both = and_parts (is_white c) _ e in gap_white c (flat_map gap_bytes parts ++ rest) both.0 ∙ gap_behind parts rest both.1 stop
gap_behind (Comment bytes end ∷ parts) rest e stop =
    let both = and_parts _ (list_all is_gap_part parts) e in
    let inner = and_parts (list_all (λ c. not (is_line_end c)) bytes) (is_line_end end) both.0 in
    ap after_comment (append_assoc (bytes ++ end ∷ []) (flat_map gap_bytes parts) rest ∙ append_assoc bytes (end ∷ []) (flat_map gap_bytes parts ++ rest))
    ∙ comment_behind bytes end (flat_map gap_bytes parts ++ rest) inner.0 inner.1
    ∙ gap_behind parts rest both.1 stop

-- all bytes at the front that pass a test
behind-cons : (p : ℕ → Bool) (c : ℕ) (rest : List ℕ) (b : Bool) → p c ≡ b → rest_after p (c ∷ rest) ≡ cond b (rest_after p rest) (c ∷ rest)
behind-cons p c rest true e = let one : 1 + prefix_len p rest ≡ suc (prefix_len p rest) = omega arith in ap (λ v. drop (cond v (1 + prefix_len p rest) 0) (c ∷ rest)) e ∙ ap (λ k. drop k (c ∷ rest)) one
behind-cons p c rest false e = ap (λ v. drop (cond v (1 + prefix_len p rest) 0) (c ∷ rest)) e

stops_by : (p : ℕ → Bool) (c : ℕ) (rest : List ℕ) (b : Bool) → p c ≡ b → begins_with p (rest_after p rest) ≡ false → begins_with p (rest_after p (c ∷ rest)) ≡ false
stops_by p c rest true e more = ap (begins_with p) (behind-cons p c rest true e) ∙ more
stops_by p c rest false e more = ap (begins_with p) (behind-cons p c rest false e) ∙ e

pub behind_stops : (p : ℕ → Bool) (text : List ℕ) → begins_with p (rest_after p text) ≡ false
behind_stops p [] = refl
behind_stops p (c ∷ rest) = stops_by p c rest (p c) refl (behind_stops p rest)

front_by : (p : ℕ → Bool) (c : ℕ) (rest : List ℕ) (b : Bool) → p c ≡ b → list_all p (take_while p rest) ≡ true → list_all p (cond b (c ∷ take_while p rest) []) ≡ true
front_by p c rest true e more = and_from (p c) _ e more
front_by p c rest false e more = refl

pub front_passes : (p : ℕ → Bool) (text : List ℕ) → list_all p (take_while p text) ≡ true
front_passes p [] = refl
front_passes p (c ∷ rest) = ap (list_all p) (take_while-cons p c rest) ∙ front_by p c rest (p c) refl (front_passes p rest)

pub front_is : (p : ℕ → Bool) (xs rest : List ℕ) → list_all p xs ≡ true → begins_with p rest ≡ false → (take_while p (xs ++ rest) ≡ xs) × (rest_after p (xs ++ rest) ≡ rest)
front_is p [] [] e stop = (refl, refl)
front_is p [] (c ∷ rest) e stop = (take_while-cons p c rest ∙ ap (λ b. cond b (c ∷ take_while p rest) []) stop, behind-cons p c rest false stop)
front_is p (c ∷ xs) rest e stop =
    let both = and_parts (p c) (list_all p xs) e in
    let more = front_is p xs rest both.1 stop in
    (take_while-cons p c (xs ++ rest) ∙ ap (λ b. cond b (c ∷ take_while p (xs ++ rest)) []) both.0 ∙ ap (λ l. c ∷ l) more.0, behind-cons p c (xs ++ rest) true both.0 ∙ more.1)

-- a number that is read, and one that is spelled
pub record NumberFront (may_end : Bool) (text : List ℕ) (n : ℕ) (rest : List ℕ) : Type 0 where
  pub digits : List ℕ
  pub is_number : IsNumber n digits
  pub spelled : text ≡ digits ++ rest
  pub stops : begins_with is_digit rest ≡ false
  pub whole : is_cut may_end rest ≡ false

pub cond_err : {A : Type 0} (b : Bool) (d : PpmFault) (r : Result A PpmFault) (y : A) → cond b (Err d) r ≡ Ok y → (b ≡ false) × (r ≡ Ok y)
cond_err true d r y e = cc
cond_err false d r y e = (refl, e)

pub positive : (n : ℕ) → eqb n 0 ≡ false → 0 < n
positive n e = grind (arith, nat_tests)

pub number_front : (may_end : Bool) (text : List ℕ) (n : ℕ) (rest : List ℕ) → number_at may_end text ≡ Ok (n, rest) → NumberFront may_end text n rest
unfolding number_at
number_front may_end text n rest e =
    let digits : List ℕ = take_while is_digit text in
    let some = cond_err (eqb (length digits) 0) _ _ (n, rest) e in
    let whole = cond_err (is_cut may_end (rest_after is_digit text)) _ _ (n, rest) some.1 in
    let small = cond_ok (ltb (digits_value 10 digits) (2 ^ 32)) (Ok (digits_value 10 digits, rest_after is_digit text)) _ (n, rest) whole.1 in
    let same = inside _ (n, rest) small.1 in
    let value : digits_value 10 digits ≡ n = ap (λ (x : ℕ × List ℕ). x.0) same in
    let back : rest_after is_digit text ≡ rest = ap (λ (x : ℕ × List ℕ). x.1) same in
    record {
      digits = digits;
      is_number = record { some = positive (length digits) some.0; fit = front_passes is_digit text; value = value; small = subst (λ k. k < 2 ^ 32) value (ltb-true (digits_value 10 digits) (2 ^ 32) small.0) };
      spelled = sym (take-append-drop (prefix_len is_digit text) text) ∙ ap (λ l. digits ++ l) back;
      stops = ap (begins_with is_digit) (sym back) ∙ behind_stops is_digit text;
      whole = ap (is_cut may_end) (sym back) ∙ whole.0;
    }

pub not_zero : (n : ℕ) → 0 < n → eqb n 0 ≡ false
not_zero n lt = grind (arith, nat_tests)

pub number_spelled : (may_end : Bool) (n : ℕ) (digits rest : List ℕ) → IsNumber n digits → begins_with is_digit rest ≡ false → is_cut may_end rest ≡ false → number_at may_end (digits ++ rest) ≡ Ok (n, rest)
unfolding number_at
number_spelled may_end n digits rest number stops whole =
    let is = front_is is_digit digits rest number.fit stops in
    let text : List ℕ = digits ++ rest in
    let small : ltb (digits_value 10 digits) (2 ^ 32) ≡ true = lt-ltb (digits_value 10 digits) (2 ^ 32) (subst (λ k. k < 2 ^ 32) (sym number.value) number.small) in
    let read : List ℕ → List ℕ → Result (ℕ × List ℕ) PpmFault = λ ds back. cond (eqb (length ds) 0) (Err (missing_at text)) (cond (is_cut may_end back) (Err Truncated) (cond (ltb (digits_value 10 ds) (2 ^ 32)) (Ok (digits_value 10 ds, back)) (Err BadNumber))) in
    (λ i. read (is.0 i) (is.1 i))
    ∙ ap (λ b. cond b (Err (missing_at text)) (cond (is_cut may_end rest) (Err Truncated) (cond (ltb (digits_value 10 digits) (2 ^ 32)) (Ok (digits_value 10 digits, rest)) (Err BadNumber)))) (not_zero (length digits) number.some)
    ∙ ap (λ b. cond b (Err Truncated) (cond (ltb (digits_value 10 digits) (2 ^ 32)) (Ok (digits_value 10 digits, rest)) (Err BadNumber))) whole
    ∙ ap (λ b. cond b (Ok (digits_value 10 digits, rest)) (Err BadNumber)) small
    ∙ ap (λ k. Ok (k, rest)) number.value

-- a part that is read, and one that is spelled
pub record PartFront (text : List ℕ) (n : ℕ) (rest : List ℕ) : Type 0 where
  pub part : List ℕ
  pub is_part : IsPart n part
  pub spelled : text ≡ part ++ rest
  pub stops : begins_with is_digit rest ≡ false
  pub whole : is_cut false rest ≡ false

abbrev pub begins_gap : ℕ → Bool
begins_gap c = is_white c || begins_comment c

no_gap : (c : ℕ) → is_digit c ≡ true → begins_gap c ≡ false
no_gap c e = let range = in_range c e in grind (arith, nat_tests)

pub digit_first : (digits rest : List ℕ) → 0 < length digits → list_all is_digit digits ≡ true → begins_with begins_gap (digits ++ rest) ≡ false
digit_first [] rest lt e = absurd (omega arith)
digit_first (d ∷ ds) rest lt e = no_gap d (and_parts (is_digit d) _ e).0

pub some_parts : (parts : List GapPart) (text back : List ℕ) → text ≡ flat_map gap_bytes parts ++ back → begins_with begins_gap text ≡ true → begins_with begins_gap back ≡ false → 0 < length parts
some_parts [] text back e first none = let same : begins_with begins_gap back ≡ true = ap (begins_with begins_gap) (sym e) ∙ first in cc
some_parts (p ∷ parts) text back e first none = omega arith

pub gap_first : (parts : List GapPart) (rest : List ℕ) → 0 < length parts → list_all is_gap_part parts ≡ true → begins_with begins_gap (flat_map gap_bytes parts ++ rest) ≡ true
gap_first [] rest lt e = absurd (omega arith)
gap_first (White c ∷ parts) rest lt e = ap (λ v. v || begins_comment c) (and_parts (is_white c) _ e).0
gap_first (Comment bytes end ∷ parts) rest lt e = refl

pub part_front : (text : List ℕ) (n : ℕ) (rest : List ℕ) → part_at text ≡ Ok (n, rest) → PartFront text n rest
part_front text n rest e =
    let gap = bind_ok (gap_at text) (number_at false) (n, rest) e in
    let first = cond_ok (begins_with begins_gap text) (Ok (after_gap text)) _ gap.0 gap.1 in
    let back : after_gap text ≡ gap.0 = inside _ gap.0 first.1 in
    let number = number_front false gap.0 n rest gap.2 in
    let text_is : after_gap text ≡ number.digits ++ rest = back ∙ number.spelled in
    let front = (fronts_of text).0 (subst (λ l. 0 < length l) (sym text_is) (omega (arith, number.is_number.some, length-append number.digits rest))) in
    let spelled : text ≡ flat_map gap_bytes front.parts ++ (number.digits ++ rest) = front.spelled ∙ ap (λ l. flat_map gap_bytes front.parts ++ l) text_is in
    record {
      part = flat_map gap_bytes front.parts ++ number.digits;
      is_part = record {
        gap = flat_map gap_bytes front.parts;
        digits = number.digits;
        is_gap = record { parts = front.parts; some = some_parts front.parts text (number.digits ++ rest) spelled first.0 (digit_first number.digits rest number.is_number.some number.is_number.fit); fit = front.fit; spelled = refl };
        is_number = number.is_number;
        spelled = refl;
      };
      spelled = spelled ∙ sym (append_assoc (flat_map gap_bytes front.parts) number.digits rest);
      stops = number.stops;
      whole = number.whole;
    }

pub part_spelled : (n : ℕ) (part rest : List ℕ) → IsPart n part → begins_with is_digit rest ≡ false → is_cut false rest ≡ false → part_at (part ++ rest) ≡ Ok (n, rest)
part_spelled n part rest is stops whole =
    let parts : List GapPart = is.is_gap.parts in
    let back : List ℕ = is.digits ++ rest in
    let text_is : part ++ rest ≡ flat_map gap_bytes parts ++ back = ap (λ l. l ++ rest) (is.spelled ∙ ap (λ l. l ++ is.digits) is.is_gap.spelled) ∙ append_assoc (flat_map gap_bytes parts) is.digits rest in
    ap part_at text_is
    ∙ ap (λ b. cond b (Ok (after_gap (flat_map gap_bytes parts ++ back))) (Err (missing_at (flat_map gap_bytes parts ++ back))) >>= number_at false) (gap_first parts back is.is_gap.some is.is_gap.fit)
    ∙ ap (number_at false) (gap_behind parts back is.is_gap.fit (digit_first is.digits rest is.is_number.some is.is_number.fit))
    ∙ number_spelled false n is.digits rest is.is_number stops whole

pub part_first : (n : ℕ) (part rest : List ℕ) → IsPart n part → begins_with begins_gap (part ++ rest) ≡ true
part_first n part rest is =
    let parts : List GapPart = is.is_gap.parts in
    let text_is : part ++ rest ≡ flat_map gap_bytes parts ++ (is.digits ++ rest) = ap (λ l. l ++ rest) (is.spelled ∙ ap (λ l. l ++ is.digits) is.is_gap.spelled) ∙ append_assoc (flat_map gap_bytes parts) is.digits rest in
    ap (begins_with begins_gap) text_is ∙ gap_first parts (is.digits ++ rest) is.is_gap.some is.is_gap.fit
