-- Rasters, as they are spelled and as they are read.
use Rattle.std.proofs.Common.{◌≡◌, ℕ, zero, suc, ◌+◌, ◌-◌, ◌*◌, ◌<◌, ◌≤◌, ◌&&◌, ◌||◌, Bool, true, false, not, cond, eqb, ltb, List, [], ◌∷◌, ◌++◌, length, take, drop, map, Result, Ok, Err, Some, None, refl, sym, ap, subst, ◌∙◌, arith, append_assoc, append-nil, mul-suc}
use Rattle.std.proofs.lemmas.Bool.{and_parts}
use borrow.Author.Tests.{ltb-false, le-ltb}
use Rattle.std.proofs.Math.Dec.{eqb-suc-zero}
use Rattle.std.proofs.lemmas.Bool.Decides.{nat_tests}
use Rattle.std.proofs.lemmas.List.{take-append-drop, length-append, length-map, length-drop, length-take-le, map-append}
use Rattle.std.proofs.lemmas.List.Sums.{take_while-cons}
use Rattle.std.specs.List.{list_all, take_while, prefix_len, concat}
use Rattle.ppm_read.specs.declared.fault.PpmFault.{PpmFault}
use Rattle.ppm_read.specs.declared.fault.PpmFault.TheVariants.{SampleAbove}
use Rattle.ppm_read.specs.declared.header.Format.{Format}
use Rattle.ppm_read.specs.declared.header.Format.TheVariants.{Plain, Raw}
use Rattle.ppm_read.specs.declared.header.Head.{Head}
use Rattle.picture_rows.specs.Reading.{◌>>=◌}
use Rattle.ppm_read.specs.Number.{is_white, begins_comment, is_digit, rest_after, missing_at, begins_with, is_cut, number_at}
use Rattle.picture_rows.specs.PixelBytes.{scaled}
use Rattle.picture_rows.specs.RowsLeft.{RowsLeft, with_row}
use Rattle.ppm_read.specs.Raster.{byte_at, word_at, plain_at, spelled_at, at_most, sample_at, samples_at, channel_count, rgba, pixels_at, row_at, row_then, rows_of}
use Rattle.ppm_read.specs.Spelling.{IsRawSample, IsSample, AreSamples}
use Rattle.ppm_read.proofs.Chains.{bind_ok, cond_ok, inside}
use Rattle.ppm_read.proofs.Gaps.{begins_gap, cond_err, digit_first, front_passes, front_is, number_front, number_spelled}
use Rattle.ppm_read.proofs.Pixels.{rgba-append, rgba-none}

-- what may stand behind a sample
abbrev pub Ends : Format → Bool → List ℕ → Type 0
Ends Plain last rest = (begins_with is_digit rest ≡ false) × (is_cut last rest ≡ false)
Ends Raw last rest = Unit {0}

-- a sample that is read
pub record SampleFront (f : Format) (m : ℕ) (last : Bool) (text : List ℕ) (x : ℕ × List ℕ) : Type 0 where
  pub one : List ℕ
  pub is : IsSample f m x.0 one
  pub ends : Ends f last x.1
  pub spelled : text ≡ one ++ x.1

pub white_some : (p : ℕ → Bool) (text : List ℕ) → begins_with p text ≡ true → 0 < length (take_while p text)
white_some p [] e = cc
white_some p (c ∷ rest) e = let is : take_while p (c ∷ rest) ≡ c ∷ take_while p rest = take_while-cons p c rest ∙ ap (λ b. cond b (c ∷ take_while p rest) []) e in omega (arith, ap length is)

raw_front : (b : Bool) (text : List ℕ) (x : ℕ × List ℕ) → cond b (byte_at text) (word_at text) ≡ Ok x → (one : List ℕ) × IsRawSample b x.0 one × (text ≡ one ++ x.1)
raw_front true [] x e = cc
raw_front true (c ∷ rest) x e = let same = inside (c, rest) x e in (c ∷ [], ap (λ (y : ℕ × List ℕ). y.0 ∷ []) same, ap (λ (y : ℕ × List ℕ). c ∷ y.1) same)
raw_front false [] x e = cc
raw_front false (h ∷ []) x e = cc
raw_front false (h ∷ l ∷ rest) x e =
    let same = inside (256 * h + l, rest) x e in (h ∷ l ∷ [], (h, l, sym (ap (λ (y : ℕ × List ℕ). y.0) same), refl), ap (λ (y : ℕ × List ℕ). h ∷ l ∷ y.1) same)

pub spelled_front : (f : Format) (m : ℕ) (last : Bool) (text : List ℕ) (x : ℕ × List ℕ) → spelled_at f m last text ≡ Ok x → SampleFront f m last text x
spelled_front Plain m last text x e =
    let white = cond_ok (begins_with is_white text) (number_at last (rest_after is_white text)) _ x e in
    let number = number_front last (rest_after is_white text) x.0 x.1 white.1 in
    record {
      one = take_while is_white text ++ number.digits;
      is = record {
        white = take_while is_white text;
        digits = number.digits;
        some = white_some is_white text white.0;
        fit = front_passes is_white text;
        is_number = number.is_number;
        spelled = refl;
      };
      ends = (number.stops, number.whole);
      spelled = sym (take-append-drop (prefix_len is_white text) text) ∙ ap (λ l. take_while is_white text ++ l) number.spelled ∙ sym (append_assoc (take_while is_white text) number.digits x.1);
    }
spelled_front Raw m last text x e = let front = raw_front (ltb m 256) text x e in record { one = front.0; is = front.1; ends = tt; spelled = front.2 }

pub sample_front : (f : Format) (m : ℕ) (last : Bool) (text : List ℕ) (x : ℕ × List ℕ) → sample_at f m last text ≡ Ok x → SampleFront f m last text x × (x.0 ≤ m)
sample_front f m last text x e =
    let first = bind_ok (spelled_at f m last text) (at_most m) x e in
    let test = cond_err (ltb m first.0.0) SampleAbove (Ok first.0) x first.2 in
    let same = inside first.0 x test.1 in
    let within : first.0.0 ≤ m = ltb-false m first.0.0 test.0 in (
      subst (SampleFront f m last text) same (spelled_front f m last text first.0 first.1),
      subst (λ (y : ℕ × List ℕ). y.0 ≤ m) same within,
    )

-- a sample that is spelled
or_none : (a b : Bool) → (a || b) ≡ false → a ≡ false
or_none true b e = cc
or_none false b e = refl

no_white : (rest : List ℕ) → begins_with begins_gap rest ≡ false → begins_with is_white rest ≡ false
no_white [] e = refl
no_white (c ∷ rest) e = or_none (is_white c) (begins_comment c) e

pub no_digit_white : (digits rest : List ℕ) → 0 < length digits → list_all is_digit digits ≡ true → begins_with is_white (digits ++ rest) ≡ false
no_digit_white digits rest some fit = no_white (digits ++ rest) (digit_first digits rest some fit)

pub white_first : (white rest : List ℕ) → 0 < length white → list_all is_white white ≡ true → begins_with is_white (white ++ rest) ≡ true
white_first [] rest lt e = absurd (omega arith)
white_first (c ∷ white) rest lt e = (and_parts (is_white c) (list_all is_white white) e).0

raw_spelled : (b : Bool) (v : ℕ) (one rest : List ℕ) → IsRawSample b v one → cond b (byte_at (one ++ rest)) (word_at (one ++ rest)) ≡ Ok (v, rest)
raw_spelled true v one rest is = ap (λ l. byte_at (l ++ rest)) is
raw_spelled false v one rest (h, l, value, is) = ap (λ s. word_at (s ++ rest)) is ∙ ap (λ n. Ok (n, rest)) (sym value)

pub spelled_spelled : (f : Format) (m : ℕ) (last : Bool) (v : ℕ) (one rest : List ℕ) → IsSample f m v one → Ends f last rest → spelled_at f m last (one ++ rest) ≡ Ok (v, rest)
spelled_spelled Plain m last v one rest is ends =
    let back : List ℕ = is.digits ++ rest in
    let text_is : one ++ rest ≡ is.white ++ back = ap (λ l. l ++ rest) is.spelled ∙ append_assoc is.white is.digits rest in
    let split = front_is is_white is.white back is.fit (no_white back (digit_first is.digits rest is.is_number.some is.is_number.fit)) in
    ap (plain_at last) text_is
    ∙ ap (λ b. cond b (number_at last (rest_after is_white (is.white ++ back))) (Err (missing_at (is.white ++ back)))) (white_first is.white back is.some is.fit)
    ∙ ap (number_at last) split.1
    ∙ number_spelled last v is.digits rest is.is_number ends.0 ends.1
spelled_spelled Raw m last v one rest is ends = raw_spelled (ltb m 256) v one rest is

pub sample_spelled : (f : Format) (m : ℕ) (last : Bool) (v : ℕ) (one rest : List ℕ) → IsSample f m v one → v ≤ m → Ends f last rest → sample_at f m last (one ++ rest) ≡ Ok (v, rest)
sample_spelled f m last v one rest is within ends =
    ap (λ r. r >>= at_most m) (spelled_spelled f m last v one rest is ends) ∙ ap (λ b. cond b (Err SampleAbove) (Ok (v, rest))) (le-ltb m v within)

-- samples that are read
record SamplesFront (f : Format) (m : ℕ) (last : Bool) (n : ℕ) (text : List ℕ) (x : List ℕ × List ℕ) : Type 0 where
  bytes : List ℕ
  are : AreSamples f m x.0 bytes
  count : length x.0 ≡ n
  ends : 0 < n → Ends f last x.1
  none : n ≡ 0 → text ≡ x.1
  spelled : text ≡ bytes ++ x.1

and_true : (b : Bool) → (b && true) ≡ b
and_true true = refl
and_true false = refl

ends_by : (f : Format) (last : Bool) (n : ℕ) (mid rest : List ℕ) → Ends f (last && eqb n 0) mid → (0 < n → Ends f last rest) → (n ≡ 0 → mid ≡ rest) → Ends f last rest
ends_by f last zero mid rest here later same = subst (λ l. Ends f last l) (same refl) (subst (λ b. Ends f b mid) (and_true last) here)
ends_by f last (suc n) mid rest here later same = later (omega arith)

samples_front : (f : Format) (m : ℕ) (last : Bool) (n : ℕ) (text : List ℕ) (x : List ℕ × List ℕ) → samples_at f m last n text ≡ Ok x → SamplesFront f m last n text x
samples_front f m last zero text x e =
    let start : List ℕ × List ℕ = ([], text) in
    subst (SamplesFront f m last zero text) (inside start x e) record { bytes = []; are = refl; count = refl; ends = λ lt. absurd (omega arith); none = λ z. refl; spelled = refl }
samples_front f m last (suc n) text x e =
    let first = bind_ok (sample_at f m (last && eqb n 0) text) _ x e in
    let others = bind_ok (samples_at f m last n first.0.1) _ x first.2 in
    let s = sample_front f m (last && eqb n 0) text first.0 first.1 in
    let more = samples_front f m last n first.0.1 others.0 others.1 in
    let whole : List ℕ × List ℕ = (first.0.0 ∷ others.0.0, others.0.1) in
    subst (SamplesFront f m last (suc n) text) (inside whole x others.2) record {
      bytes = s.0.one ++ more.bytes;
      are = (s.0.one, more.bytes, s.0.is, s.1, more.are, refl);
      count = ap suc more.count;
      ends = λ lt. ends_by f last n first.0.1 others.0.1 s.0.ends more.ends more.none;
      none = λ z. absurd (omega arith);
      spelled = s.0.spelled ∙ ap (λ l. s.0.one ++ l) more.spelled ∙ sym (append_assoc s.0.one more.bytes others.0.1);
    }

-- samples that are spelled
not_cut : (last : Bool) (c : ℕ) (rest : List ℕ) → is_cut last (c ∷ rest) ≡ false
not_cut last c rest = ap (λ b. b && not last) (eqb-suc-zero (length rest))

white_no_digit : (c : ℕ) (b : Bool) → is_digit c ≡ b → is_white c ≡ true → b ≡ false
white_no_digit c true e f = let range = Rattle.ppm_read.proofs.Numbers.in_range c e in grind (arith, nat_tests)
white_no_digit c false e f = refl

ends_white : (last : Bool) (rest : List ℕ) → begins_with is_white rest ≡ true → Ends Plain last rest
ends_white last [] e = cc
ends_white last (c ∷ rest) e = (white_no_digit c (is_digit c) refl e, not_cut last c rest)

plain_first : (m v : ℕ) (one rest : List ℕ) → IsSample Plain m v one → begins_with is_white (one ++ rest) ≡ true
plain_first m v one rest is = ap (begins_with is_white) (ap (λ l. l ++ rest) is.spelled ∙ append_assoc is.white is.digits rest) ∙ white_first is.white (is.digits ++ rest) is.some is.fit

pub samples_first : (m : ℕ) (s bytes rest : List ℕ) → 0 < length s → AreSamples Plain m s bytes → begins_with is_white (bytes ++ rest) ≡ true
samples_first m [] bytes rest lt are = absurd (omega arith)
samples_first m (v ∷ vs) bytes rest lt (one, others, is, within, are, spelled) =
    ap (begins_with is_white) (ap (λ l. l ++ rest) spelled ∙ append_assoc one others rest) ∙ plain_first m v one (others ++ rest) is

pub ends_next : (f : Format) (m : ℕ) (last : Bool) (s bytes rest : List ℕ) → AreSamples f m s bytes → Ends f last rest → Ends f (last && eqb (length s) 0) (bytes ++ rest)
ends_next f m last [] bytes rest are ends = subst (λ b. Ends f b (bytes ++ rest)) (sym (and_true last)) (subst (λ l. Ends f last (l ++ rest)) (sym are) ends)
ends_next Plain m last (v ∷ vs) bytes rest are ends = ends_white (last && eqb (suc (length vs)) 0) (bytes ++ rest) (samples_first m (v ∷ vs) bytes rest (omega arith) are)
ends_next Raw m last (v ∷ vs) bytes rest are ends = tt

samples_spelled : (f : Format) (m : ℕ) (last : Bool) (s bytes rest : List ℕ) → AreSamples f m s bytes → Ends f last rest → samples_at f m last (length s) (bytes ++ rest) ≡ Ok (s, rest)
samples_spelled f m last [] bytes rest are ends = ap (λ l. Ok ([], l ++ rest)) are
samples_spelled f m last (v ∷ vs) bytes rest (one, others, is, within, are, spelled) ends =
    let text_is : bytes ++ rest ≡ one ++ (others ++ rest) = ap (λ l. l ++ rest) spelled ∙ append_assoc one others rest in
    let more : ℕ × List ℕ → Result (List ℕ × List ℕ) PpmFault = λ sample. samples_at f m last (length vs) sample.1 >>= (λ others. Ok (sample.0 ∷ others.0, others.1)) in
    ap (λ t. sample_at f m (last && eqb (length vs) 0) t >>= more) text_is
    ∙ ap (λ r. r >>= more) (sample_spelled f m (last && eqb (length vs) 0) v one (others ++ rest) is within (ends_next f m last vs others rest are ends))
    ∙ ap (λ r. r >>= (λ others. Ok (v ∷ others.0, others.1))) (samples_spelled f m last vs others rest are ends)

-- samples behind samples
append_samples : (f : Format) (m : ℕ) (a b x y : List ℕ) → AreSamples f m a x → AreSamples f m b y → AreSamples f m (a ++ b) (x ++ y)
append_samples f m [] b x y are more = subst (λ l. AreSamples f m b (l ++ y)) (sym are) more
append_samples f m (v ∷ a) b x y (one, others, is, within, are, spelled) more =
    (one, others ++ y, is, within, append_samples f m a b others y are more, ap (λ l. l ++ y) spelled ∙ append_assoc one others y)

record SplitSamples (f : Format) (m n : ℕ) (s bytes : List ℕ) : Type 0 where
  front : List ℕ
  back : List ℕ
  are_front : AreSamples f m (take n s) front
  are_back : AreSamples f m (drop n s) back
  spelled : bytes ≡ front ++ back

split_samples : (f : Format) (m n : ℕ) (s bytes : List ℕ) → AreSamples f m s bytes → SplitSamples f m n s bytes
split_samples f m zero s bytes are = record { front = []; back = bytes; are_front = refl; are_back = are; spelled = refl }
split_samples f m (suc n) [] bytes are = record { front = []; back = bytes; are_front = refl; are_back = are; spelled = refl }
split_samples f m (suc n) (v ∷ vs) bytes (one, others, is, within, are, spelled) =
    let more = split_samples f m n vs others are in
    record {
      front = one ++ more.front;
      back = more.back;
      are_front = (one, more.front, is, within, more.are_front, refl);
      are_back = more.are_back;
      spelled = spelled ∙ ap (λ l. one ++ l) more.spelled ∙ sym (append_assoc one more.front more.back);
    }

-- how many samples a row has
abbrev pub row_count : Head → ℕ
row_count head = channel_count head.channels * head.width

-- rows that are read
pub record RowsFront (head : Head) (h : ℕ) (text : List ℕ) : Type 0 where
  pub samples : List ℕ
  pub bytes : List ℕ
  pub rest : List ℕ
  pub are : AreSamples head.format head.maximum samples bytes
  pub count : length samples ≡ row_count head * h
  pub ends : 0 < row_count head → 0 < h → Ends head.format true rest
  pub none : h ≡ 0 → text ≡ rest
  pub spelled : text ≡ bytes ++ rest
  pub pixels : concat (rows_of head h text).rows ≡ rgba head.channels (map (scaled head.maximum) samples)

record RowFront (head : Head) (last : Bool) (text : List ℕ) (x : List ℕ × List ℕ) : Type 0 where
  samples : List ℕ
  bytes : List ℕ
  are : AreSamples head.format head.maximum samples bytes
  count : length samples ≡ row_count head
  ends : 0 < row_count head → Ends head.format last x.1
  spelled : text ≡ bytes ++ x.1
  pixels : x.0 ≡ rgba head.channels (map (scaled head.maximum) samples)

row_front : (head : Head) (last : Bool) (text : List ℕ) (x : List ℕ × List ℕ) → row_at head last text ≡ Ok x → RowFront head last text x
unfolding pixels_at
row_front head last text x e =
    let as_row : List ℕ × List ℕ → List ℕ × List ℕ = λ s. (rgba head.channels (map (scaled head.maximum) s.0), s.1) in
    let read = bind_ok (samples_at head.format head.maximum last (row_count head) text) (λ s. Ok (as_row s)) x e in
    let front = samples_front head.format head.maximum last (row_count head) text read.0 read.1 in
    let same = inside (as_row read.0) x read.2 in
    subst (RowFront head last text) same record {
      samples = read.0.0;
      bytes = front.bytes;
      are = front.are;
      count = front.count;
      ends = front.ends;
      spelled = front.spelled;
      pixels = refl;
    }

last_row : (f : Format) (h : ℕ) (mid rest : List ℕ) → Ends f (eqb h 0) mid → (0 < h → Ends f true rest) → (h ≡ 0 → mid ≡ rest) → Ends f true rest
last_row f zero mid rest here later same = subst (λ l. Ends f true l) (same refl) here
last_row f (suc h) mid rest here later same = later (omega arith)

rows_then : (head : Head) (h : ℕ) (text : List ℕ) (row : Result (List ℕ × List ℕ) PpmFault) → row_at head (eqb h 0) text ≡ row → (row_then head.width row (λ rest. rows_of head h rest)).fault ≡ None
    → ((rest : List ℕ) → (rows_of head h rest).fault ≡ None → RowsFront head h rest) → RowsFront head (suc h) text
rows_then head h text (Err d) e fine below = cc
rows_then head h text (Ok x) e fine below =
    let row = row_front head (eqb h 0) text x e in
    let more = below x.1 fine in
    let k : ℕ = row_count head in
    let colours : List ℕ → List ℕ = λ s. rgba head.channels (map (scaled head.maximum) s) in
    let rows : rows_of head (suc h) text ≡ with_row x.0 (rows_of head h x.1) = ap (λ r. row_then head.width r (λ rest. rows_of head h rest)) e in
    let length_row : length (map (scaled head.maximum) row.samples) ≡ channel_count head.channels * head.width = length-map row.samples (scaled head.maximum) ∙ row.count in
    record {
      samples = row.samples ++ more.samples;
      bytes = row.bytes ++ more.bytes;
      rest = more.rest;
      are = append_samples head.format head.maximum row.samples more.samples row.bytes more.bytes row.are more.are;
      count = omega (arith, length-append row.samples more.samples, row.count, more.count, mul-suc k h);
      ends = λ some lt. last_row head.format h x.1 more.rest (row.ends some) (more.ends some) more.none;
      none = λ z. absurd (omega arith);
      spelled = row.spelled ∙ ap (λ l. row.bytes ++ l) more.spelled ∙ sym (append_assoc row.bytes more.bytes more.rest);
      pixels = ap (λ (l : RowsLeft PpmFault). concat l.rows) rows
          ∙ (λ i. row.pixels i ++ more.pixels i)
          ∙ sym (ap (rgba head.channels) (map-append (scaled head.maximum) row.samples more.samples) ∙ rgba-append head.channels head.width (map (scaled head.maximum) row.samples) (map (scaled head.maximum) more.samples) length_row);
    }

pub rows_front : (head : Head) (h : ℕ) (text : List ℕ) → (rows_of head h text).fault ≡ None → RowsFront head h text
rows_front head zero text fine = record {
  samples = [];
  bytes = [];
  rest = text;
  are = refl;
  count = omega (arith, Rattle.std.proofs.Common.mul-zero (row_count head));
  ends = λ some lt. absurd (omega arith);
  none = λ z. refl;
  spelled = refl;
  pixels = sym (rgba-none head.channels);
}
rows_front head (suc h) text fine = rows_then head h text (row_at head (eqb h 0) text) refl fine (λ rest. rows_front head h rest)

-- rows that are spelled
row_spelled : (head : Head) (last : Bool) (s bytes rest : List ℕ) → AreSamples head.format head.maximum s bytes → length s ≡ row_count head → Ends head.format last rest
    → row_at head last (bytes ++ rest) ≡ Ok (rgba head.channels (map (scaled head.maximum) s), rest)
unfolding pixels_at
row_spelled head last s bytes rest are count ends =
    let as_row : List ℕ × List ℕ → Result (List ℕ × List ℕ) PpmFault = λ s. Ok (rgba head.channels (map (scaled head.maximum) s.0), s.1) in
    ap (λ n. samples_at head.format head.maximum last n (bytes ++ rest) >>= as_row) (sym count)
    ∙ ap (λ r. r >>= as_row) (samples_spelled head.format head.maximum last s bytes rest are ends)

ends_row : (f : Format) (m h : ℕ) (s bytes rest : List ℕ) → AreSamples f m s bytes → (h ≡ 0 → length s ≡ 0) → (0 < h → 0 < length s) → Ends f true rest → Ends f (eqb h 0) (bytes ++ rest)
ends_row f m zero [] bytes rest are none some ends = subst (λ l. Ends f true (l ++ rest)) (sym are) ends
ends_row f m zero (v ∷ vs) bytes rest are none some ends = absurd (omega (arith, none refl))
ends_row Plain m (suc h) s bytes rest are none some ends = ends_white (eqb (suc h) 0) (bytes ++ rest) (samples_first m s bytes rest (some (omega arith)) are)
ends_row Raw m (suc h) s bytes rest are none some ends = tt

pub record RowsSpelled (head : Head) (h : ℕ) (text s : List ℕ) : Type 0 where
  pub fine : (rows_of head h text).fault ≡ None
  pub pixels : concat (rows_of head h text).rows ≡ rgba head.channels (map (scaled head.maximum) s)

no_samples : (s : List ℕ) → length s ≡ 0 → s ≡ []
no_samples [] e = refl
no_samples (v ∷ s) e = absurd (omega arith)

pub some_product : (k h : ℕ) → 0 < k → 0 < h → 0 < k * h
some_product k h a b = grind arith

pub rows_spelled : (head : Head) (h : ℕ) (s bytes rest : List ℕ) → 0 < row_count head → AreSamples head.format head.maximum s bytes → length s ≡ row_count head * h → Ends head.format true rest → RowsSpelled head h (bytes ++ rest) s
rows_spelled head zero s bytes rest some are count ends =
    let none : s ≡ [] = no_samples s (omega (arith, count, Rattle.std.proofs.Common.mul-zero (row_count head))) in
    record { fine = refl; pixels = sym (rgba-none head.channels) ∙ sym (ap (λ l. rgba head.channels (map (scaled head.maximum) l)) none) }
rows_spelled head (suc h) s bytes rest some are count ends =
    let k : ℕ = row_count head in
    let split = split_samples head.format head.maximum k s bytes are in
    let size : length s ≡ k + k * h = omega (arith, count, mul-suc k h) in
    let front : length (take k s) ≡ k = length-take-le k s (omega arith) in
    let back : length (drop k s) ≡ k * h = omega (arith, length-drop k s) in
    let text_is : bytes ++ rest ≡ split.front ++ (split.back ++ rest) = ap (λ l. l ++ rest) split.spelled ∙ append_assoc split.front split.back rest in
    let none_left : h ≡ 0 → length (drop k s) ≡ 0 = λ z. omega (arith, back, ap (λ n. k * n) z, Rattle.std.proofs.Common.mul-zero k) in
    let some_left : 0 < h → 0 < length (drop k s) = λ lt. omega (arith, back, some_product k h some lt) in
    let row = row_spelled head (eqb h 0) (take k s) split.front (split.back ++ rest) split.are_front front (ends_row head.format head.maximum h (drop k s) split.back rest split.are_back none_left some_left ends) in
    let below = rows_spelled head h (drop k s) split.back rest some split.are_back back ends in
    let rows : rows_of head (suc h) (bytes ++ rest) ≡ with_row (rgba head.channels (map (scaled head.maximum) (take k s))) (rows_of head h (split.back ++ rest)) =
    ap (λ t. rows_of head (suc h) t) text_is ∙ ap (λ r. row_then head.width r (λ rest. rows_of head h rest)) row in
    let length_row : length (map (scaled head.maximum) (take k s)) ≡ channel_count head.channels * head.width = length-map (take k s) (scaled head.maximum) ∙ front in
    record {
      fine = ap (λ (l : RowsLeft PpmFault). l.fault) rows ∙ below.fine;
      pixels = ap (λ (l : RowsLeft PpmFault). concat l.rows) rows
          ∙ ap (λ l. rgba head.channels (map (scaled head.maximum) (take k s)) ++ l) below.pixels
          ∙ sym (rgba-append head.channels head.width (map (scaled head.maximum) (take k s)) (map (scaled head.maximum) (drop k s)) length_row)
          ∙ ap (rgba head.channels) (sym (map-append (scaled head.maximum) (take k s) (drop k s)) ∙ ap (map (scaled head.maximum)) (take-append-drop k s));
    }
