-- What is wrong with a raster, as it is spelled and as it is read.
use Rattle.std.proofs.Common.{◌≡◌, ◌⊎◌, inl, inr, ℕ, zero, suc, ◌+◌, ◌*◌, ◌<◌, ◌&&◌, Bool, true, false, cond, eqb, ltb, List, [], ◌∷◌, ◌++◌, length, map, Result, Ok, Err, Some, None, refl, sym, ap, subst, ◌∙◌, arith, append_assoc, append-nil, mul-suc, mul-zero}
use borrow.Author.Tests.{ltb-true, lt-ltb}
use Rattle.std.proofs.Math.Dec.{eqb-suc-zero}
use Rattle.std.proofs.lemmas.Bool.Decides.{nat_tests}
use Rattle.std.proofs.lemmas.List.{take-append-drop}
use Rattle.std.specs.List.{list_all, take_while, prefix_len}
use Rattle.std.specs.declared.option.Option.{Option}
use Rattle.ppm_read.specs.declared.fault.PpmFault.{PpmFault}
use Rattle.ppm_read.specs.declared.fault.PpmFault.TheVariants.{BadNumber, SampleAbove, Truncated}
use Rattle.ppm_read.specs.declared.header.Format.{Format}
use Rattle.ppm_read.specs.declared.header.Format.TheVariants.{Plain, Raw}
use Rattle.ppm_read.specs.declared.header.Head.{Head}
use Rattle.picture_rows.specs.Reading.{◌>>=◌}
use Rattle.ppm_read.specs.Number.{is_white, rest_after, missing_at, begins_with, number_at}
use Rattle.picture_rows.specs.PixelBytes.{scaled}
use Rattle.picture_rows.specs.RowsLeft.{RowsLeft}
use Rattle.ppm_read.specs.Raster.{byte_at, word_at, plain_at, spelled_at, at_most, sample_at, samples_at, rgba, pixels_at, row_then, rows_of}
use Rattle.ppm_read.specs.Spelling.{AreSamples}
use Rattle.ppm_read.specs.Breaking.{AreDigits, AreWhite, MayStand, SampleBreaks, bytes_end, white_ends, digits_end, no_white, no_sample, large_sample, above}
use Rattle.ppm_read.proofs.Chains.{bind_err, err_inside}
use Rattle.ppm_read.proofs.Gaps.{front_passes, front_is, behind_stops, digit_first}
use Rattle.ppm_read.proofs.Parts.{NumberBreaks, is_none, is_cut_off, is_large, number_err, number_none, number_cut, number_large, cut_end}
use Rattle.ppm_read.proofs.PlainRows.{after, samples_at-add}
use Rattle.ppm_read.proofs.Rasters.{Ends, row_count, some_product, white_some, white_first, no_digit_white, sample_front, spelled_front, spelled_spelled, sample_spelled, ends_next}

-- what may stand behind a sample
stand_ends : (f : Format) (last : Bool) (rest : List ℕ) → MayStand f last rest → Ends f last rest
stand_ends Plain last rest may = may
stand_ends Raw last rest may = tt

ends_stand : (f : Format) (last : Bool) (rest : List ℕ) → Ends f last rest → MayStand f last rest
ends_stand Plain last rest ends = ends
ends_stand Raw last rest ends = tt

-- a raw sample that is cut
raw_err : (b : Bool) (text : List ℕ) (f : PpmFault) → cond b (byte_at text) (word_at text) ≡ Err f → (length text < cond b 1 2) × (Truncated ≡ f)
raw_err true [] f e = (omega arith, err_inside Truncated f e)
raw_err true (c ∷ rest) f e = cc
raw_err false [] f e = (omega arith, err_inside Truncated f e)
raw_err false (h ∷ []) f e = (omega arith, err_inside Truncated f e)
raw_err false (h ∷ l ∷ rest) f e = cc

raw_cut : (b : Bool) (text : List ℕ) → length text < cond b 1 2 → cond b (byte_at text) (word_at text) ≡ Err Truncated
raw_cut true [] lt = refl
raw_cut true (c ∷ rest) lt = absurd (omega arith)
raw_cut false [] lt = refl
raw_cut false (h ∷ []) lt = refl
raw_cut false (h ∷ l ∷ rest) lt = absurd (omega arith)

-- a plain sample that is none
number_by : (m : ℕ) (last : Bool) (text white back : List ℕ) (f : PpmFault) → AreWhite white → text ≡ white ++ back → begins_with is_white back ≡ false → NumberBreaks last back f → SampleBreaks m last text Plain f
number_by m last text white [] f are spelled stops (is_none none) = white_ends (ap (list_all is_white) (spelled ∙ append-nil white) ∙ are.fit)
number_by m last text white (c ∷ rest) f are spelled stops (is_none none) = no_sample white c rest are stops none spelled
number_by m last text white back f are spelled stops (is_cut_off digits rest some whole cut) =
    let end = cut_end last rest cut in digits_end white digits are some end.1 (spelled ∙ ap (λ l. white ++ l) (whole ∙ ap (λ l. digits ++ l) end.0 ∙ append-nil digits))
number_by m last text white back f are spelled stops (is_large digits rest some whole ends not_cut large) = large_sample white digits rest are some large (ends, not_cut) (spelled ∙ ap (λ l. white ++ l) whole)

plain_by : (m : ℕ) (last : Bool) (text : List ℕ) (f : PpmFault) (b : Bool) → begins_with is_white text ≡ b → plain_at last text ≡ Err f → SampleBreaks m last text Plain f
plain_by m last text f true first e =
    let read : number_at last (rest_after is_white text) ≡ Err f = sym (ap (λ b. cond b (number_at last (rest_after is_white text)) (Err (missing_at text))) first) ∙ e in
    number_by m last text (take_while is_white text) (rest_after is_white text) f record { some = white_some is_white text first; fit = front_passes is_white text } (sym (take-append-drop (prefix_len is_white text) text)) (behind_stops is_white text) (number_err last (rest_after is_white text) f read)
plain_by m last [] f false first e = subst (SampleBreaks m last [] Plain) (err_inside Truncated f e) (white_ends refl)
plain_by m last (c ∷ rest) f false first e =
    let read : ◌≡◌ {A = Result (ℕ × List ℕ) PpmFault} (Err BadNumber) (Err f) = sym (ap (λ b. cond b (number_at last (rest_after is_white (c ∷ rest))) (Err (missing_at (c ∷ rest)))) first) ∙ e in
    subst (SampleBreaks m last (c ∷ rest) Plain) (err_inside BadNumber f read) (no_white c rest first refl)

-- a sample that is not read
spelled_err : (f : Format) (m : ℕ) (last : Bool) (text : List ℕ) (d : PpmFault) → spelled_at f m last text ≡ Err d → SampleBreaks m last text f d
spelled_err Plain m last text d e = plain_by m last text d (begins_with is_white text) refl e
spelled_err Raw m last text d e = let cut = raw_err (ltb m 256) text d e in subst (SampleBreaks m last text Raw) cut.1 (bytes_end cut.0)

most_err : (m : ℕ) (x : ℕ × List ℕ) (d : PpmFault) (b : Bool) → ltb m x.0 ≡ b → at_most m x ≡ Err d → (m < x.0) × (SampleAbove ≡ d)
most_err m x d true is e = (ltb-true m x.0 is, err_inside SampleAbove d (sym (ap (λ b. cond b (Err SampleAbove) (Ok x)) is) ∙ e))
most_err m x d false is e = let read : ◌≡◌ {A = Result (ℕ × List ℕ) PpmFault} (Ok x) (Err d) = sym (ap (λ b. cond b (Err SampleAbove) (Ok x)) is) ∙ e in cc

sample_err : (f : Format) (m : ℕ) (last : Bool) (text : List ℕ) (d : PpmFault) → sample_at f m last text ≡ Err d → SampleBreaks m last text f d
sample_err f m last text d e = by (bind_err (spelled_at f m last text) (at_most m) d e) where
  by : (spelled_at f m last text ≡ Err d) ⊎ ((x : ℕ × List ℕ) × (spelled_at f m last text ≡ Ok x) × (at_most m x ≡ Err d)) → SampleBreaks m last text f d
  by (inl e) = spelled_err f m last text d e
  by (inr (x, is, e)) =
      let front = spelled_front f m last text x is in
      let over = most_err m x d (ltb m x.0) refl e in
      subst (SampleBreaks m last text f) over.1 (above f x.0 front.one x.1 front.is over.0 (ends_stand f last x.1 front.ends) front.spelled)

-- and so it is read
white_read : (last : Bool) (text white back : List ℕ) → AreWhite white → begins_with is_white back ≡ false → text ≡ white ++ back → plain_at last text ≡ number_at last back
white_read last text white back are stops spelled =
    ap (plain_at last) spelled
    ∙ ap (λ b. cond b (number_at last (rest_after is_white (white ++ back))) (Err (missing_at (white ++ back)))) (white_first white back are.some are.fit)
    ∙ ap (number_at last) (front_is is_white white back are.fit stops).1

all_white : (last : Bool) (text : List ℕ) → list_all is_white text ≡ true → plain_at last text ≡ Err Truncated
all_white last [] e = refl
all_white last (c ∷ rest) e =
    white_read last (c ∷ rest) (c ∷ rest) [] record { some = omega arith; fit = e } refl (sym (append-nil (c ∷ rest))) ∙ number_none last [] refl

cut_digits : (last : Bool) (digits : List ℕ) → last ≡ false → AreDigits digits → number_at last digits ≡ Err Truncated
cut_digits last digits e are = ap (λ b. number_at b digits) e ∙ number_cut digits are

sample_breaks : (f : Format) (m : ℕ) (last : Bool) (text : List ℕ) (d : PpmFault) → SampleBreaks m last text f d → sample_at f m last text ≡ Err d
sample_breaks f m last text d (bytes_end lt) = ap (λ r. r >>= at_most m) (raw_cut (ltb m 256) text lt)
sample_breaks f m last text d (white_ends e) = ap (λ r. r >>= at_most m) (all_white last text e)
sample_breaks f m last text d (digits_end white digits are some end spelled) =
    ap (λ r. r >>= at_most m) (white_read last text white digits are (ap (begins_with is_white) (sym (append-nil digits)) ∙ no_digit_white digits [] some.some some.fit) spelled ∙ cut_digits last digits end some)
sample_breaks f m last text d (no_white c rest e spelled) =
    ap (λ t. plain_at last t >>= at_most m) spelled ∙ ap (λ b. cond b (number_at last (rest_after is_white (c ∷ rest))) (Err BadNumber) >>= at_most m) e
sample_breaks f m last text d (no_sample white c rest are w e spelled) = ap (λ r. r >>= at_most m) (white_read last text white (c ∷ rest) are w spelled ∙ number_none last (c ∷ rest) e)
sample_breaks f m last text d (large_sample white digits rest are some large may spelled) =
    ap (λ r. r >>= at_most m) (white_read last text white (digits ++ rest) are (no_digit_white digits rest some.some some.fit) spelled ∙ number_large last digits rest some may.0 may.1 large)
sample_breaks f m last text d (above g v one rest is over may spelled) =
    ap (λ t. sample_at g m last t) spelled
    ∙ ap (λ r. r >>= at_most m) (spelled_spelled g m last v one rest is (stand_ends g last rest may))
    ∙ ap (λ b. cond b (Err SampleAbove) (Ok (v, rest))) (lt-ltb m v over)

-- samples of which one is not read
pub record SamplesBreak (f : Format) (m : ℕ) (last : Bool) (n : ℕ) (text : List ℕ) (d : PpmFault) : Type 0 where
  pub samples : List ℕ
  pub bytes : List ℕ
  pub rest : List ℕ
  pub are : AreSamples f m samples bytes
  pub few : length samples < n
  pub may : 0 < length samples → MayStand f false rest
  pub spelled : text ≡ bytes ++ rest
  pub breaks : SampleBreaks m (last && eqb (length samples + 1) n) rest f d

flag_first : (n : ℕ) → eqb n 0 ≡ eqb (0 + 1) (suc n)
flag_first n = grind (arith, nat_tests)

flag_next : (k n : ℕ) → eqb (k + 1) n ≡ eqb (suc k + 1) (suc n)
flag_next k n = grind (arith, nat_tests)

flag_more : (last : Bool) (n : ℕ) → 0 < n → (last && eqb n 0) ≡ false
flag_more true n lt = grind (arith, nat_tests)
flag_more false n lt = refl

first_may : (f : Format) (last : Bool) (k n : ℕ) (mid rest : List ℕ) → k < n → Ends f (last && eqb n 0) mid → (k ≡ 0 → mid ≡ rest) → (0 < k → MayStand f false rest) → MayStand f false rest
first_may f last zero n mid rest lt ends same later = subst (MayStand f false) (same refl) (ends_stand f false mid (subst (λ b. Ends f b mid) (flag_more last n (omega arith)) ends))
first_may f last (suc k) n mid rest lt ends same later = later (omega arith)

no_bytes : (f : Format) (m : ℕ) (s bytes rest : List ℕ) → AreSamples f m s bytes → length s ≡ 0 → bytes ++ rest ≡ rest
no_bytes f m [] bytes rest are e = ap (λ l. l ++ rest) are
no_bytes f m (v ∷ s) bytes rest are e = absurd (omega arith)

abbrev Below : Format → ℕ → Bool → ℕ → PpmFault → Type 0
Below f m last n d = (t : List ℕ) → samples_at f m last n t ≡ Err d → SamplesBreak f m last n t d

abbrev others_at : Format → ℕ → Bool → ℕ → ℕ × List ℕ → Result (List ℕ × List ℕ) PpmFault
others_at f m last n sample = samples_at f m last n sample.1 >>= (λ others. Ok (sample.0 ∷ others.0, others.1))

later_break : (f : Format) (m : ℕ) (last : Bool) (n : ℕ) (text : List ℕ) (d : PpmFault) (x : ℕ × List ℕ) → sample_at f m (last && eqb n 0) text ≡ Ok x → SamplesBreak f m last n x.1 d → SamplesBreak f m last (suc n) text d
later_break f m last n text d x is back =
    let front = sample_front f m (last && eqb n 0) text x is in
    record {
      samples = x.0 ∷ back.samples;
      bytes = front.0.one ++ back.bytes;
      rest = back.rest;
      are = (front.0.one, back.bytes, front.0.is, front.1, back.are, refl);
      few = omega (arith, back.few);
      may = λ some. first_may f last (length back.samples) n x.1 back.rest back.few front.0.ends (λ z. back.spelled ∙ no_bytes f m back.samples back.bytes back.rest back.are z) back.may;
      spelled = front.0.spelled ∙ ap (λ l. front.0.one ++ l) back.spelled ∙ sym (append_assoc front.0.one back.bytes back.rest);
      breaks = subst (λ b. SampleBreaks m (last && b) back.rest f d) (flag_next (length back.samples) n) back.breaks;
    }

rest_break : (f : Format) (m : ℕ) (last : Bool) (n : ℕ) (text : List ℕ) (d : PpmFault) (x : ℕ × List ℕ) → Below f m last n d → sample_at f m (last && eqb n 0) text ≡ Ok x
    → (samples_at f m last n x.1 ≡ Err d) ⊎ ((o : List ℕ × List ℕ) × (samples_at f m last n x.1 ≡ Ok o) × (◌≡◌ {A = Result (List ℕ × List ℕ) PpmFault} (Ok (x.0 ∷ o.0, o.1)) (Err d))) → SamplesBreak f m last (suc n) text d
rest_break f m last n text d x below is (inl e) = later_break f m last n text d x is (below x.1 e)
rest_break f m last n text d x below is (inr (o, there, e)) = cc

first_break : (f : Format) (m : ℕ) (last : Bool) (n : ℕ) (text : List ℕ) (d : PpmFault) → Below f m last n d → (sample_at f m (last && eqb n 0) text ≡ Err d) ⊎ ((x : ℕ × List ℕ) × (sample_at f m (last && eqb n 0) text ≡ Ok x) × (others_at f m last n x ≡ Err d))
    → SamplesBreak f m last (suc n) text d
first_break f m last n text d below (inl e) = record {
  samples = [];
  bytes = [];
  rest = text;
  are = refl;
  few = omega arith;
  may = λ some. absurd (omega arith);
  spelled = refl;
  breaks = subst (λ b. SampleBreaks m (last && b) text f d) (flag_first n) (sample_err f m (last && eqb n 0) text d e);
}
first_break f m last n text d below (inr (x, is, e)) = rest_break f m last n text d x below is (bind_err (samples_at f m last n x.1) (λ others. Ok (x.0 ∷ others.0, others.1)) d e)

pub samples_err : (f : Format) (m : ℕ) (last : Bool) (n : ℕ) (text : List ℕ) (d : PpmFault) → samples_at f m last n text ≡ Err d → SamplesBreak f m last n text d
samples_err f m last zero text d e = cc
samples_err f m last (suc n) text d e = first_break f m last n text d (λ t. samples_err f m last n t d) (bind_err (sample_at f m (last && eqb n 0) text) (others_at f m last n) d e)

pub samples_break : (f : Format) (m : ℕ) (last : Bool) (n : ℕ) (s bytes rest : List ℕ) (d : PpmFault) → AreSamples f m s bytes → length s < n → (0 < length s → MayStand f false rest)
    → SampleBreaks m (last && eqb (length s + 1) n) rest f d → samples_at f m last n (bytes ++ rest) ≡ Err d
samples_break f m last zero s bytes rest d are few may breaks = absurd (omega arith)
samples_break f m last (suc n) [] bytes rest d are few may breaks =
    let more : ℕ × List ℕ → Result (List ℕ × List ℕ) PpmFault = λ sample. samples_at f m last n sample.1 >>= (λ others. Ok (sample.0 ∷ others.0, others.1)) in
    ap (λ l. samples_at f m last (suc n) (l ++ rest)) are
    ∙ ap (λ r. r >>= more) (sample_breaks f m (last && eqb n 0) rest d (subst (λ b. SampleBreaks m (last && b) rest f d) (sym (flag_first n)) breaks))
samples_break f m last (suc n) (v ∷ vs) bytes rest d (one, others, is, within, are, spelled) few may breaks =
    let more : ℕ × List ℕ → Result (List ℕ × List ℕ) PpmFault = λ sample. samples_at f m last n sample.1 >>= (λ others. Ok (sample.0 ∷ others.0, others.1)) in
    let text_is : bytes ++ rest ≡ one ++ (others ++ rest) = ap (λ l. l ++ rest) spelled ∙ append_assoc one others rest in
    let next : Ends f false (others ++ rest) = ends_next f m false vs others rest are (stand_ends f false rest (may (omega arith))) in
    let flag : (last && eqb n 0) ≡ false = flag_more last n (omega arith) in
    ap (λ t. samples_at f m last (suc n) t) text_is
    ∙ ap (λ b. sample_at f m b (one ++ (others ++ rest)) >>= more) flag
    ∙ ap (λ r. r >>= more) (sample_spelled f m false v one (others ++ rest) is within next)
    ∙ ap (λ r. r >>= (λ others. Ok (v ∷ others.0, others.1))) (samples_break f m last n vs others rest d are (omega arith) (λ some. may (omega arith)) (subst (λ b. SampleBreaks m (last && b) rest f d) (sym (flag_next (length vs) n)) breaks))

-- the fault of all rows is that of all samples
abbrev pub fault_of : Result (List ℕ × List ℕ) PpmFault → Option PpmFault
fault_of (Ok x) = None
fault_of (Err d) = Some d

fault_after : (front : List ℕ) (read : Result (List ℕ × List ℕ) PpmFault) → fault_of read ≡ fault_of (after front read)
fault_after front (Ok x) = refl
fault_after front (Err d) = refl

then_fault : (w : ℕ) (as_row : List ℕ × List ℕ → List ℕ × List ℕ) (below : List ℕ → RowsLeft PpmFault) (others : List ℕ → Result (List ℕ × List ℕ) PpmFault) (r : Result (List ℕ × List ℕ) PpmFault)
    → ((x : List ℕ × List ℕ) → (as_row x).1 ≡ x.1) → ((rest : List ℕ) → (below rest).fault ≡ fault_of (others rest))
    → (row_then w (r >>= (λ x. Ok (as_row x))) below).fault ≡ fault_of (r >>= (λ front. after front.0 (others front.1)))
then_fault w as_row below others (Err d) same rest = refl
then_fault w as_row below others (Ok x) same rest = ap (λ t. (below t).fault) (same x) ∙ rest x.1 ∙ fault_after x.0 (others x.1)

product_flag : (k h : ℕ) → 0 < k → eqb (k * h) 0 ≡ eqb h 0
product_flag k zero lt = ap (λ n. eqb n 0) (mul-zero k)
product_flag k (suc h) lt = Rattle.ppm_read.proofs.Gaps.not_zero (k * suc h) (some_product k (suc h) lt (omega arith)) ∙ sym (eqb-suc-zero h)

pub rows_fault : (head : Head) (h : ℕ) (text : List ℕ) → 0 < row_count head → (rows_of head h text).fault ≡ fault_of (samples_at head.format head.maximum true (row_count head * h) text)
unfolding pixels_at
rows_fault head zero text some = ap (λ n. fault_of (samples_at head.format head.maximum true n text)) (sym (mul-zero (row_count head)))
rows_fault head (suc h) text some =
    let k : ℕ = row_count head in
    let read : Bool → ℕ → List ℕ → Result (List ℕ × List ℕ) PpmFault = λ l n t. samples_at head.format head.maximum l n t in
    then_fault head.width (λ s. (rgba head.channels (map (scaled head.maximum) s.0), s.1)) (λ rest. rows_of head h rest) (read true (k * h)) (read (eqb h 0) k text) (λ x. refl) (λ rest. rows_fault head h rest some)
    ∙ sym (ap (λ n. fault_of (read true n text)) (mul-suc k h) ∙ ap (λ n. fault_of (read true n text)) (order (k * h) k)
    ∙ ap fault_of (samples_at-add head.format head.maximum true k (k * h) text)
    ∙ ap (λ b. fault_of (read b k text >>= (λ front. after front.0 (read true (k * h) front.1)))) (product_flag k h some)) where
      order : (a b : ℕ) → a + b ≡ b + a
      order a b = omega arith
