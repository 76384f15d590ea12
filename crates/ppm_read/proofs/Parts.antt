-- What is wrong where a gap and a number are due.
use Rattle.std.proofs.Common.{◌≡◌, ◌⊎◌, inl, inr, ℕ, suc, ◌<◌, ◌≤◌, ◌^◌, ◌&&◌, ◌||◌, Bool, true, false, not, cond, eqb, ltb, List, [], ◌∷◌, ◌++◌, length, Result, Ok, Err, refl, sym, ap, subst, ◌∙◌, arith, append_assoc, append-nil}
use Rattle.std.proofs.lemmas.Bool.{and_parts, and_from}
use borrow.Author.Tests.{ltb-false, le-ltb}
use Rattle.std.proofs.Math.Dec.{eqb-suc-zero}
use Rattle.std.proofs.lemmas.List.Sums.{take_while-cons}
use Rattle.std.proofs.lemmas.List.{take-append-drop, length-append}
use Rattle.std.specs.List.{list_all, flat_map, take_while, prefix_len}
use Rattle.std.specs.Str.Parse.{digits_value}
use Rattle.ppm_read.specs.declared.fault.PpmFault.{PpmFault}
use Rattle.ppm_read.specs.declared.fault.PpmFault.TheVariants.{BadNumber, Truncated}
use Rattle.picture_rows.specs.Reading.{◌>>=◌}
use Rattle.ppm_read.specs.Number.{is_white, is_line_end, begins_comment, is_digit, rest_after, after_gap, after_comment, missing_at, begins_with, is_cut, number_at}
use Rattle.ppm_read.specs.Header.{part_at}
use Rattle.ppm_read.specs.Spelling.{GapPart, White, Comment, gap_bytes, is_gap_part, IsGap}
use Rattle.ppm_read.specs.Breaking.{goes_on, AreDigits, IsOpenEnd, IsOpenGap, PartBreaks, ends_in_gap, ends_in_number, no_gap, no_number, too_large}
use Rattle.ppm_read.proofs.Gaps.{begins_gap, gap_behind, gap_first, digit_first, front_is, front_passes, behind_stops, gap_white, gap_comment, gap_none, comment_stops, comment_goes, hash, fronts_of, some_parts, not_zero, positive, not_true, comment_behind}

-- behind a gap no gap begins
abbrev NoGap : List ℕ → Type 0
NoGap text = (begins_with begins_gap (after_gap text) ≡ false) × (begins_with begins_gap (after_comment text) ≡ false)

gap_next : (c : ℕ) (rest : List ℕ) (w h : Bool) → is_white c ≡ w → begins_comment c ≡ h → NoGap rest → begins_with begins_gap (after_gap (c ∷ rest)) ≡ false
gap_next c rest true h e f more = ap (begins_with begins_gap) (gap_white c rest e) ∙ more.0
gap_next c rest false true e f more = ap (begins_with begins_gap) (gap_comment c rest e f) ∙ more.1
gap_next c rest false false e f more = ap (begins_with begins_gap) (gap_none c rest e f) ∙ (λ i. e i || f i)

comment_next : (c : ℕ) (rest : List ℕ) (s : Bool) → is_line_end c ≡ s → NoGap rest → begins_with begins_gap (after_comment (c ∷ rest)) ≡ false
comment_next c rest true e more = ap (begins_with begins_gap) (comment_stops c rest e) ∙ more.0
comment_next c rest false e more = ap (begins_with begins_gap) (comment_goes c rest e) ∙ more.1

none_behind : (text : List ℕ) → NoGap text
none_behind [] = (refl, refl)
none_behind (c ∷ rest) = (gap_next c rest (is_white c) (begins_comment c) refl refl (none_behind rest), comment_next c rest (is_line_end c) refl (none_behind rest))

-- a text that ends within a gap
record OpenComment (text : List ℕ) : Type 0 where
  comment : (list_all (λ c. not (is_line_end c)) text ≡ true) ⊎ ((bytes : List ℕ) × (end : ℕ) × (rest : List ℕ) × (list_all (λ c. not (is_line_end c)) bytes ≡ true) × (is_line_end end ≡ true) × IsOpenGap rest × (text ≡ bytes ++ end ∷ rest))

abbrev Opens : List ℕ → Type 0
Opens text = (after_gap text ≡ [] → IsOpenGap text) × (after_comment text ≡ [] → OpenComment text)

add_comment : (rest : List ℕ) → OpenComment rest → IsOpenGap (35 ∷ rest)
add_comment rest opened = by opened.comment where
  by : (list_all (λ c. not (is_line_end c)) rest ≡ true) ⊎ ((bytes : List ℕ) × (end : ℕ) × (back : List ℕ) × (list_all (λ c. not (is_line_end c)) bytes ≡ true) × (is_line_end end ≡ true) × IsOpenGap back × (rest ≡ bytes ++ end ∷ back)) → IsOpenGap (35 ∷ rest)
  by (inl fit) = record { parts = []; end = 35 ∷ rest; fit = refl; opened = inr (rest, refl, fit); spelled = refl }
  by (inr (bytes, end, back, fit, stop, more, spelled)) = record {
    parts = Comment bytes end ∷ more.parts;
    end = more.end;
    fit = and_from _ _ (and_from _ _ fit stop) more.fit;
    opened = more.opened;
    spelled = ap (λ l. 35 ∷ l) (spelled ∙ ap (λ l. bytes ++ end ∷ l) more.spelled ∙ sym (append_assoc (bytes ++ end ∷ []) (flat_map gap_bytes more.parts) more.end ∙ append_assoc bytes (end ∷ []) (flat_map gap_bytes more.parts ++ more.end)));
  }

open_gap : (c : ℕ) (rest : List ℕ) (w h : Bool) → is_white c ≡ w → begins_comment c ≡ h → Opens rest → after_gap (c ∷ rest) ≡ [] → IsOpenGap (c ∷ rest)
open_gap c rest true h e f opens none =
    let more = opens.0 (sym (gap_white c rest e) ∙ none) in
    record { parts = White c ∷ more.parts; end = more.end; fit = and_from (is_white c) _ e more.fit; opened = more.opened; spelled = ap (λ l. c ∷ l) more.spelled }
open_gap c rest false true e f opens none = subst (λ v. IsOpenGap (v ∷ rest)) (sym (hash c f)) (add_comment rest (opens.1 (sym (gap_comment c rest e f) ∙ none)))
open_gap c rest false false e f opens none = let same : c ∷ rest ≡ [] = sym (gap_none c rest e f) ∙ none in cc

open_comment : (c : ℕ) (rest : List ℕ) (s : Bool) → is_line_end c ≡ s → Opens rest → after_comment (c ∷ rest) ≡ [] → OpenComment (c ∷ rest)
open_comment c rest true e opens none = record { comment = inr ([], c, rest, refl, e, opens.0 (sym (comment_stops c rest e) ∙ none), refl) }
open_comment c rest false e opens none = add (opens.1 (sym (comment_goes c rest e) ∙ none)).comment where
  add : (list_all (λ c. not (is_line_end c)) rest ≡ true) ⊎ ((bytes : List ℕ) × (end : ℕ) × (back : List ℕ) × (list_all (λ c. not (is_line_end c)) bytes ≡ true) × (is_line_end end ≡ true) × IsOpenGap back × (rest ≡ bytes ++ end ∷ back)) → OpenComment (c ∷ rest)
  add (inl fit) = record { comment = inl (and_from (not (is_line_end c)) _ (ap not e) fit) }
  add (inr (bytes, end, back, fit, stop, more, spelled)) = record { comment = inr (c ∷ bytes, end, back, and_from (not (is_line_end c)) _ (ap not e) fit, stop, more, ap (λ l. c ∷ l) spelled) }

opens_of : (text : List ℕ) → Opens text
opens_of [] = (λ e. record { parts = []; end = []; fit = refl; opened = inl refl; spelled = refl }, λ e. record { comment = inl refl })
opens_of (c ∷ rest) = (open_gap c rest (is_white c) (begins_comment c) refl refl (opens_of rest), open_comment c rest (is_line_end c) refl (opens_of rest))

-- and the other way round
comment_open : (bytes : List ℕ) → list_all (λ c. not (is_line_end c)) bytes ≡ true → after_comment bytes ≡ []
comment_open [] e = refl
comment_open (c ∷ bytes) e = let both = and_parts (not (is_line_end c)) _ e in comment_goes c bytes (not_true (is_line_end c) both.0) ∙ comment_open bytes both.1

end_behind : (end : List ℕ) → IsOpenEnd end → after_gap end ≡ []
end_behind end (inl e) = ap after_gap e
end_behind end (inr (bytes, e, fit)) = ap after_gap e ∙ comment_open bytes fit

parts_behind : (parts : List GapPart) (end : List ℕ) → list_all is_gap_part parts ≡ true → after_gap (flat_map gap_bytes parts ++ end) ≡ after_gap end
parts_behind [] end e = refl
parts_behind (White c ∷ parts) end e = let both = and_parts (is_white c) _ e in gap_white c (flat_map gap_bytes parts ++ end) both.0 ∙ parts_behind parts end both.1
parts_behind (Comment bytes stop ∷ parts) end e =
    let both = and_parts _ (list_all is_gap_part parts) e in
    let inner = and_parts (list_all (λ c. not (is_line_end c)) bytes) (is_line_end stop) both.0 in
    ap after_comment (append_assoc (bytes ++ stop ∷ []) (flat_map gap_bytes parts) end ∙ append_assoc bytes (stop ∷ []) (flat_map gap_bytes parts ++ end))
    ∙ comment_behind bytes stop (flat_map gap_bytes parts ++ end) inner.0 inner.1
    ∙ parts_behind parts end both.1

open_behind : (text : List ℕ) → IsOpenGap text → after_gap text ≡ []
open_behind text opened = ap after_gap opened.spelled ∙ parts_behind opened.parts opened.end opened.fit ∙ end_behind opened.end opened.opened

-- numbers that are none
pub number_none : (may_end : Bool) (text : List ℕ) → begins_with is_digit text ≡ false → number_at may_end text ≡ Err (missing_at text)
unfolding number_at
number_none may_end text none =
    let is = front_is is_digit [] text refl none in
    (λ i. cond (eqb (length (is.0 i)) 0) (Err (missing_at text)) (cond (is_cut may_end (is.1 i)) (Err Truncated) (cond (ltb (digits_value 10 (is.0 i)) (2 ^ 32)) (Ok (digits_value 10 (is.0 i), is.1 i)) (Err BadNumber))))

number_by : (may_end : Bool) (digits rest : List ℕ) → AreDigits digits → begins_with is_digit rest ≡ false
    → number_at may_end (digits ++ rest) ≡ cond (is_cut may_end rest) (Err Truncated) (cond (ltb (digits_value 10 digits) (2 ^ 32)) (Ok (digits_value 10 digits, rest)) (Err BadNumber))
unfolding number_at
number_by may_end digits rest are stops =
    let is = front_is is_digit digits rest are.fit stops in
    let text : List ℕ = digits ++ rest in
    (λ i. cond (eqb (length (is.0 i)) 0) (Err (missing_at text)) (cond (is_cut may_end (is.1 i)) (Err Truncated) (cond (ltb (digits_value 10 (is.0 i)) (2 ^ 32)) (Ok (digits_value 10 (is.0 i), is.1 i)) (Err BadNumber))))
    ∙ ap (λ b. cond b (Err (missing_at text)) (cond (is_cut may_end rest) (Err Truncated) (cond (ltb (digits_value 10 digits) (2 ^ 32)) (Ok (digits_value 10 digits, rest)) (Err BadNumber)))) (not_zero (length digits) are.some)

pub number_cut : (digits : List ℕ) → AreDigits digits → number_at false digits ≡ Err Truncated
number_cut digits are = ap (number_at false) (sym (append-nil digits)) ∙ number_by false digits [] are refl

pub number_large : (may_end : Bool) (digits rest : List ℕ) → AreDigits digits → begins_with is_digit rest ≡ false → is_cut may_end rest ≡ false → 2 ^ 32 ≤ digits_value 10 digits → number_at may_end (digits ++ rest) ≡ Err BadNumber
number_large may_end digits rest are stops whole large =
    number_by may_end digits rest are stops
    ∙ ap (λ b. cond b (Err Truncated) (cond (ltb (digits_value 10 digits) (2 ^ 32)) (Ok (digits_value 10 digits, rest)) (Err BadNumber))) whole
    ∙ ap (λ b. cond b (Ok (digits_value 10 digits, rest)) (Err BadNumber)) (le-ltb (digits_value 10 digits) (2 ^ 32) large)

-- more text, and no digit first
pub goes_stops : (rest : List ℕ) → goes_on rest ≡ true → (begins_with is_digit rest ≡ false) × (is_cut false rest ≡ false)
goes_stops [] e = cc
goes_stops (c ∷ rest) e = (not_true (is_digit c) e, ap (λ b. b && true) (eqb-suc-zero (length rest)))

pub stops_goes : (rest : List ℕ) → begins_with is_digit rest ≡ false → is_cut false rest ≡ false → goes_on rest ≡ true
stops_goes [] e f = cc
stops_goes (c ∷ rest) e f = ap not e

-- what is wrong where a number is due
pub data NumberBreaks (may_end : Bool) (text : List ℕ) : PpmFault → Type 0 where
  is_none : begins_with is_digit text ≡ false → NumberBreaks may_end text (missing_at text)
  is_cut_off : (digits rest : List ℕ) → AreDigits digits → text ≡ digits ++ rest → is_cut may_end rest ≡ true → NumberBreaks may_end text Truncated
  is_large : (digits rest : List ℕ) → AreDigits digits → text ≡ digits ++ rest → begins_with is_digit rest ≡ false → is_cut may_end rest ≡ false → 2 ^ 32 ≤ digits_value 10 digits → NumberBreaks may_end text BadNumber

err_inside : {A : Type 0} (d f : PpmFault) → ◌≡◌ {A = Result A PpmFault} (Err d) (Err f) → d ≡ f
err_inside d f e = cc

value_err : (may_end : Bool) (text digits rest : List ℕ) (f : PpmFault) (cut small : Bool) → AreDigits digits → text ≡ digits ++ rest → begins_with is_digit rest ≡ false → is_cut may_end rest ≡ cut → ltb (digits_value 10 digits) (2 ^ 32) ≡ small
    → ◌≡◌ {A = Result (ℕ × List ℕ) PpmFault} (cond cut (Err Truncated) (cond small (Ok (digits_value 10 digits, rest)) (Err BadNumber))) (Err f) → NumberBreaks may_end text f
value_err may_end text digits rest f true small are spelled stops c s e = subst (NumberBreaks may_end text) (err_inside Truncated f e) (is_cut_off digits rest are spelled c)
value_err may_end text digits rest f false true are spelled stops c s e = cc
value_err may_end text digits rest f false false are spelled stops c s e = subst (NumberBreaks may_end text) (err_inside BadNumber f e) (is_large digits rest are spelled stops c (ltb-false (digits_value 10 digits) (2 ^ 32) s))

no_digits : (text : List ℕ) → eqb (length (take_while is_digit text)) 0 ≡ true → begins_with is_digit text ≡ false
no_digits [] e = refl
no_digits (c ∷ rest) e = by (is_digit c) refl where
  by : (b : Bool) → is_digit c ≡ b → is_digit c ≡ false
  by true is = let some : take_while is_digit (c ∷ rest) ≡ c ∷ take_while is_digit rest = take_while-cons is_digit c rest ∙ ap (λ b. cond b (c ∷ take_while is_digit rest) []) is in
      let wrong : eqb (suc (length (take_while is_digit rest))) 0 ≡ true = ap (λ l. eqb (length l) 0) (sym some) ∙ e in
      let right = eqb-suc-zero (length (take_while is_digit rest)) in cc
  by false is = is

digits_by : (may_end : Bool) (text : List ℕ) (f : PpmFault) (b : Bool) → eqb (length (take_while is_digit text)) 0 ≡ b → number_at may_end text ≡ Err f → NumberBreaks may_end text f
digits_by may_end text f true e read = let none = no_digits text e in subst (NumberBreaks may_end text) (err_inside (missing_at text) f (sym (number_none may_end text none) ∙ read)) (is_none none)
digits_by may_end text f false e read =
    let digits : List ℕ = take_while is_digit text in
    let rest : List ℕ = rest_after is_digit text in
    let are : AreDigits digits = record { some = positive (length digits) e; fit = front_passes is_digit text } in
    let spelled : text ≡ digits ++ rest = sym (take-append-drop (prefix_len is_digit text) text) in
    let stops = behind_stops is_digit text in
    value_err may_end text digits rest f (is_cut may_end rest) (ltb (digits_value 10 digits) (2 ^ 32)) are spelled stops refl refl (sym (number_by may_end digits rest are stops) ∙ ap (number_at may_end) (sym spelled) ∙ read)

pub number_err : (may_end : Bool) (text : List ℕ) (f : PpmFault) → number_at may_end text ≡ Err f → NumberBreaks may_end text f
number_err may_end text f read = digits_by may_end text f (eqb (length (take_while is_digit text)) 0) refl read

pub cut_end : (may_end : Bool) (rest : List ℕ) → is_cut may_end rest ≡ true → (rest ≡ []) × (may_end ≡ false)
cut_end true rest e = let both = and_parts (eqb (length rest) 0) false e in cc
cut_end false [] e = (refl, refl)
cut_end false (c ∷ rest) e = let wrong = eqb-suc-zero (length rest) in let both = and_parts (eqb (suc (length rest)) 0) true e in cc

or_false : (a b : Bool) → (a || b) ≡ false → (a ≡ false) × (b ≡ false)
or_false true b e = cc
or_false false b e = (refl, e)

-- the gap that a text begins with
record GapOf (text behind : List ℕ) : Type 0 where
  gap : List ℕ
  is_gap : IsGap gap
  spelled : text ≡ gap ++ behind

gap_of : (text behind : List ℕ) → after_gap text ≡ behind → 0 < length behind → begins_with begins_gap text ≡ true → begins_with begins_gap behind ≡ false → GapOf text behind
gap_of text behind e some first none =
    let front = (fronts_of text).0 (subst (λ l. 0 < length l) (sym e) some) in
    let spelled : text ≡ flat_map gap_bytes front.parts ++ behind = front.spelled ∙ ap (λ l. flat_map gap_bytes front.parts ++ l) e in
    record { gap = flat_map gap_bytes front.parts; is_gap = record { parts = front.parts; some = some_parts front.parts text behind spelled first none; fit = front.fit; spelled = refl }; spelled = spelled }

-- a number behind a gap
after_gap_by : (text behind : List ℕ) (f : PpmFault) → after_gap text ≡ behind → begins_with begins_gap text ≡ true → NumberBreaks false behind f → PartBreaks text f
after_gap_by text [] f e first (is_none none) = ends_in_gap ((opens_of text).0 e)
after_gap_by text (c ∷ back) f e first (is_none none) =
    let not_gap = sym (ap (begins_with begins_gap) e) ∙ (none_behind text).0 in
    let parts = or_false (is_white c) (begins_comment c) not_gap in
    let front = gap_of text (c ∷ back) e (omega arith) first not_gap in
    no_number front.gap c back front.is_gap parts.0 parts.1 none front.spelled
after_gap_by text behind f e first (is_cut_off digits rest are spelled cut) =
    let end = cut_end false rest cut in
    let whole : behind ≡ digits = spelled ∙ ap (λ l. digits ++ l) end.0 ∙ append-nil digits in
    let not_gap = sym (ap (begins_with begins_gap) e) ∙ (none_behind text).0 in
    let front = gap_of text behind e (omega (arith, are.some, ap length whole)) first not_gap in
    ends_in_number front.gap digits front.is_gap are (front.spelled ∙ ap (λ l. front.gap ++ l) whole)
after_gap_by text behind f e first (is_large digits rest are spelled stops whole large) =
    let not_gap = sym (ap (begins_with begins_gap) e) ∙ (none_behind text).0 in
    let front = gap_of text behind e (omega (arith, are.some, ap length spelled, length-append digits rest)) first not_gap in
    too_large front.gap digits rest front.is_gap are large (stops_goes rest stops whole) (front.spelled ∙ ap (λ l. front.gap ++ l) spelled)

gap_by : (text : List ℕ) (f : PpmFault) (b : Bool) → begins_with begins_gap text ≡ b → part_at text ≡ Err f → PartBreaks text f
gap_by text f true first e =
    let read : number_at false (after_gap text) ≡ Err f = sym (ap (λ b. cond b (Ok (after_gap text)) (Err (missing_at text)) >>= number_at false) first) ∙ e in
    after_gap_by text (after_gap text) f refl first (number_err false (after_gap text) f read)
gap_by [] f false first e = subst (PartBreaks []) (err_inside Truncated f e) (ends_in_gap record { parts = []; end = []; fit = refl; opened = inl refl; spelled = refl })
gap_by (c ∷ rest) f false first e =
    let parts = or_false (is_white c) (begins_comment c) first in
    let read : ◌≡◌ {A = Result (ℕ × List ℕ) PpmFault} (Err BadNumber) (Err f) = sym (ap (λ b. cond b (Ok (after_gap (c ∷ rest))) (Err (missing_at (c ∷ rest))) >>= number_at false) first) ∙ e in
    subst (PartBreaks (c ∷ rest)) (err_inside BadNumber f read) (no_gap c rest parts.0 parts.1 refl)

-- what is wrong with a part
pub part_err : (text : List ℕ) (f : PpmFault) → part_at text ≡ Err f → PartBreaks text f
part_err text f e = gap_by text f (begins_with begins_gap text) refl e

-- and so it is read
open_by : (text : List ℕ) (b : Bool) → begins_with begins_gap text ≡ b → after_gap text ≡ [] → part_at text ≡ Err Truncated
open_by text true first e = ap (λ b. cond b (Ok (after_gap text)) (Err (missing_at text)) >>= number_at false) first ∙ ap (number_at false) e ∙ number_none false [] refl
open_by [] false first e = refl
open_by (c ∷ rest) false first e =
    let parts = or_false (is_white c) (begins_comment c) first in
    let same : c ∷ rest ≡ [] = sym (gap_none c rest parts.0 parts.1) ∙ e in cc

behind_part : (text gap back : List ℕ) → IsGap gap → begins_with begins_gap back ≡ false → text ≡ gap ++ back → part_at text ≡ number_at false back
behind_part text gap back is none spelled =
    let text_is : text ≡ flat_map gap_bytes is.parts ++ back = spelled ∙ ap (λ l. l ++ back) is.spelled in
    ap part_at text_is
    ∙ ap (λ b. cond b (Ok (after_gap (flat_map gap_bytes is.parts ++ back))) (Err (missing_at (flat_map gap_bytes is.parts ++ back))) >>= number_at false) (gap_first is.parts back is.some is.fit)
    ∙ ap (number_at false) (gap_behind is.parts back is.fit none)

pub part_breaks : (text : List ℕ) (f : PpmFault) → PartBreaks text f → part_at text ≡ Err f
part_breaks text f (ends_in_gap opened) = open_by text (begins_with begins_gap text) refl (open_behind text opened)
part_breaks text f (ends_in_number gap digits is are spelled) =
    behind_part text gap digits is (ap (begins_with begins_gap) (sym (append-nil digits)) ∙ digit_first digits [] are.some are.fit) spelled ∙ number_cut digits are
part_breaks text f (no_gap c rest w h spelled) = ap part_at spelled ∙ ap (λ b. cond b (Ok (after_gap (c ∷ rest))) (Err (missing_at (c ∷ rest))) >>= number_at false) (λ i. w i || h i)
part_breaks text f (no_number gap c rest is w h d spelled) = behind_part text gap (c ∷ rest) is (λ i. w i || h i) spelled ∙ number_none false (c ∷ rest) d
part_breaks text f (too_large gap digits rest is are large goes spelled) =
    let stops = goes_stops rest goes in
    behind_part text gap (digits ++ rest) is (digit_first digits rest are.some are.fit) spelled ∙ number_large false digits rest are stops.0 stops.1 large
