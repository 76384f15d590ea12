-- Headers, as they are spelled and as they are read.
use Rattle.std.proofs.Common.{◌≡◌, ℕ, suc, ◌+◌, ◌-◌, ◌<◌, ◌≤◌, ◌&&◌, ◌||◌, Bool, true, false, not, cond, eqb, ltb, leb, List, [], ◌∷◌, ◌++◌, length, drop, Result, Ok, Err, refl, sym, ap, subst, ◌∙◌, arith, append_assoc, append-nil}
use Rattle.std.proofs.lemmas.Bool.{and_parts, and_from}
use borrow.Author.Tests.{ltb-true, lt-ltb, leb-true, le-leb}
use Rattle.std.proofs.Math.Dec.{eqb-suc-zero}
use Rattle.std.proofs.lemmas.Bool.Decides.{nat_tests}
use Rattle.std.proofs.lemmas.List.{length-append}
use Rattle.ppm_read.specs.declared.fault.PpmFault.{PpmFault}
use Rattle.ppm_read.specs.declared.fault.PpmFault.TheVariants.{BadMagic, BadSize, BadMaximum}
use Rattle.ppm_read.specs.declared.header.Channels.{Channels}
use Rattle.ppm_read.specs.declared.header.Format.{Format}
use Rattle.ppm_read.specs.declared.header.Format.TheVariants.{Plain, Raw}
use Rattle.ppm_read.specs.declared.header.Head.{Head}
use Rattle.picture_rows.specs.Reading.{◌>>=◌}
use Rattle.ppm_read.specs.Number.{is_white, begins_comment, is_digit, missing_at, begins_with, is_cut}
use Rattle.ppm_read.specs.Header.{kind_of, magic_at, part_at, size_at, maximum_at, raster_at, head_of}
use Rattle.ppm_read.specs.Spelling.{IsPart, IsEnd, IsHeader}
use Rattle.ppm_read.proofs.Chains.{bind_ok, cond_ok, inside}
use Rattle.ppm_read.proofs.Numbers.{in_range}
use Rattle.ppm_read.proofs.Gaps.{begins_gap, part_front, part_spelled, part_first}

-- more text, and no digit first
pub record Starts (rest : List ℕ) : Type 0 where
  pub stops : begins_with is_digit rest ≡ false
  pub whole : is_cut false rest ≡ false

-- what may stand behind the header
abbrev pub BeginsRaster : Format → List ℕ → Type 0
BeginsRaster Plain rest = Starts rest
BeginsRaster Raw rest = Unit {0}

-- the magic number
pub record MagicFront (text : List ℕ) (x : Channels × Format × List ℕ) : Type 0 where
  pub digit : ℕ
  pub kind : kind_of digit ≡ Ok (x.0, x.1)
  pub spelled : text ≡ 80 ∷ digit ∷ x.2

pub magic_front : (text : List ℕ) (x : Channels × Format × List ℕ) → magic_at text ≡ Ok x → MagicFront text x
magic_front [] x e = cc
magic_front (p ∷ []) x e = cc
magic_front (p ∷ digit ∷ rest) x e =
    let first = cond_ok (eqb p 80) (kind_of digit >>= (λ kind. Ok (kind.0, kind.1, rest))) BadMagic x e in
    let kind = bind_ok (kind_of digit) (λ kind. Ok (kind.0, kind.1, rest)) x first.1 in
    let same = inside (kind.0.0, kind.0.1, rest) x kind.2 in
    record {
      digit = digit;
      kind = kind.1 ∙ ap (λ (y : Channels × Format × List ℕ). Ok (y.0, y.1)) same;
      spelled = ap (λ c. c ∷ digit ∷ rest) (Rattle.std.proofs.Common.eqb-true p 80 first.0) ∙ ap (λ (y : Channels × Format × List ℕ). 80 ∷ digit ∷ y.2) same;
    }

-- the sides
record SizeFront (text : List ℕ) (x : ℕ × ℕ × List ℕ) : Type 0 where
  width : List ℕ
  height : List ℕ
  is_width : IsPart x.0 width
  is_height : IsPart x.1 height
  wide : 1 ≤ x.0
  high : 1 ≤ x.1
  spelled : text ≡ width ++ (height ++ x.2)

size_front : (text : List ℕ) (x : ℕ × ℕ × List ℕ) → size_at text ≡ Ok x → SizeFront text x
unfolding size_at
size_front text x e =
    let first = bind_ok (part_at text) _ x e in
    let second = bind_ok (part_at first.0.1) _ x first.2 in
    let w = part_front text first.0.0 first.0.1 first.1 in
    let h = part_front first.0.1 second.0.0 second.0.1 second.1 in
    let test = cond_ok (ltb 0 first.0.0 && ltb 0 second.0.0) (Ok (first.0.0, second.0.0, second.0.1)) BadSize x second.2 in
    let both = and_parts (ltb 0 first.0.0) (ltb 0 second.0.0) test.0 in
    let P : ℕ × ℕ × List ℕ → Type 0 = λ y. SizeFront text y in
    subst P (inside (first.0.0, second.0.0, second.0.1) x test.1) record {
      width = w.part;
      height = h.part;
      is_width = w.is_part;
      is_height = h.is_part;
      wide = ltb-true 0 first.0.0 both.0;
      high = ltb-true 0 second.0.0 both.1;
      spelled = w.spelled ∙ ap (λ l. w.part ++ l) h.spelled;
    }

-- the maximum
record MaximumFront (text : List ℕ) (x : ℕ × List ℕ) : Type 0 where
  maximum : List ℕ
  is_maximum : IsPart x.0 maximum
  low : 1 ≤ x.0
  most : x.0 ≤ 65535
  spelled : text ≡ maximum ++ x.1
  starts : Starts x.1

maximum_front : (text : List ℕ) (x : ℕ × List ℕ) → maximum_at text ≡ Ok x → MaximumFront text x
unfolding maximum_at
maximum_front text x e =
    let first = bind_ok (part_at text) _ x e in
    let m = part_front text first.0.0 first.0.1 first.1 in
    let test = cond_ok (ltb 0 first.0.0 && leb first.0.0 65535) (Ok first.0) BadMaximum x first.2 in
    let both = and_parts (ltb 0 first.0.0) (leb first.0.0 65535) test.0 in
    let P : ℕ × List ℕ → Type 0 = λ y. MaximumFront text y in
    subst P (inside first.0 x test.1) record {
      maximum = m.part;
      is_maximum = m.is_part;
      low = ltb-true 0 first.0.0 both.0;
      most = leb-true first.0.0 65535 both.1;
      spelled = m.spelled;
      starts = record { stops = m.stops; whole = m.whole };
    }

-- the end
record EndFront (format : Format) (text rest : List ℕ) : Type 0 where
  end : List ℕ
  is_end : IsEnd format end
  spelled : text ≡ end ++ rest
  begins : Starts text → BeginsRaster format rest

end_front : (format : Format) (text rest : List ℕ) → raster_at format text ≡ Ok rest → EndFront format text rest
end_front Plain text rest e = record { end = []; is_end = refl; spelled = inside text rest e; begins = λ starts. subst Starts (inside text rest e) starts }
end_front Raw [] rest e = cc
end_front Raw (c ∷ text) rest e =
    let white = cond_ok (is_white c) (Ok text) _ rest e in
    record { end = c ∷ []; is_end = (c, white.0, refl); spelled = ap (λ l. c ∷ l) (inside text rest white.1); begins = λ starts. tt }

-- a header that is read
pub record HeaderFront (text : List ℕ) (head : Head) : Type 0 where
  pub header : List ℕ
  pub rest : List ℕ
  pub is_header : IsHeader head header
  pub spelled : text ≡ header ++ rest
  pub start : head.raster_start ≡ length text - length rest
  pub begins : BeginsRaster head.format rest

pub header_front : (text : List ℕ) (head : Head) → head_of text ≡ Ok head → HeaderFront text head
unfolding head_of
header_front text head e =
    let kind = bind_ok (magic_at text) _ head e in
    let size = bind_ok (size_at kind.0.2) _ head kind.2 in
    let most = bind_ok (maximum_at size.0.2) _ head size.2 in
    let raster = bind_ok (raster_at kind.0.1 most.0.1) _ head most.2 in
    let m = magic_front text kind.0 kind.1 in
    let s = size_front kind.0.2 size.0 size.1 in
    let x = maximum_front size.0.2 most.0 most.1 in
    let e = end_front kind.0.1 most.0.1 raster.0 raster.1 in
    let header : List ℕ = 80 ∷ m.digit ∷ (s.width ++ (s.height ++ (x.maximum ++ e.end))) in
    let behind : s.width ++ (s.height ++ (x.maximum ++ (e.end ++ raster.0))) ≡ (s.width ++ (s.height ++ (x.maximum ++ e.end))) ++ raster.0 = simp append_assoc in
    let whole : text ≡ header ++ raster.0 =
    m.spelled ∙ ap (λ l. 80 ∷ m.digit ∷ l) (s.spelled ∙ ap (λ l. s.width ++ (s.height ++ l)) (x.spelled ∙ ap (λ l. x.maximum ++ l) e.spelled) ∙ behind) in
    subst (HeaderFront text) (inside _ head raster.2) record {
      header = header;
      rest = raster.0;
      is_header = record {
        digit = m.digit;
        width = s.width;
        height = s.height;
        maximum = x.maximum;
        end = e.end;
        kind = m.kind;
        is_width = s.is_width;
        is_height = s.is_height;
        is_maximum = x.is_maximum;
        is_end = e.is_end;
        wide = s.wide;
        high = s.high;
        low = x.low;
        most = x.most;
        spelled = refl;
      };
      spelled = whole;
      start = refl;
      begins = e.begins x.starts;
    }

-- a gap is no digit
gap_no_digit : (c : ℕ) (b : Bool) → is_digit c ≡ b → begins_gap c ≡ true → b ≡ false
gap_no_digit c true e f = let range = in_range c e in grind (arith, nat_tests)
gap_no_digit c false e f = refl

pub starts_gap : (rest : List ℕ) → begins_with begins_gap rest ≡ true → Starts rest
starts_gap [] e = cc
starts_gap (c ∷ rest) e = record { stops = gap_no_digit c (is_digit c) refl e; whole = ap (λ b. b && true) (eqb-suc-zero (length rest)) }

pub starts_white : (rest : List ℕ) → begins_with is_white rest ≡ true → begins_with begins_gap rest ≡ true
starts_white [] e = cc
starts_white (c ∷ rest) e = ap (λ b. b || begins_comment c) e

starts_end : (format : Format) (end rest : List ℕ) → IsEnd format end → BeginsRaster format rest → Starts (end ++ rest)
starts_end Plain end rest is begins = subst (λ l. Starts (l ++ rest)) (sym is) begins
starts_end Raw end rest (c, white, is) begins = starts_gap (end ++ rest) (ap (λ l. begins_with begins_gap (l ++ rest)) is ∙ ap (λ b. b || begins_comment c) white)

raster_spelled : (format : Format) (end rest : List ℕ) → IsEnd format end → raster_at format (end ++ rest) ≡ Ok rest
raster_spelled Plain end rest is = ap (λ l. Ok (l ++ rest)) is
raster_spelled Raw end rest (c, white, is) = ap (λ l. raster_at Raw (l ++ rest)) is ∙ ap (λ b. cond b (Ok rest) (Err (missing_at (c ∷ rest)))) white

size_spelled : (w h : ℕ) (width height rest : List ℕ) → IsPart w width → IsPart h height → 1 ≤ w → 1 ≤ h → begins_with begins_gap rest ≡ true → size_at (width ++ (height ++ rest)) ≡ Ok (w, h, rest)
unfolding size_at
size_spelled w h width height rest is_width is_height wide high begins =
    let behind_height = starts_gap rest begins in
    let behind_width = starts_gap (height ++ rest) (part_first h height rest is_height) in
    let test : ℕ → ℕ → List ℕ → Result (ℕ × ℕ × List ℕ) PpmFault = λ w h rest. cond (ltb 0 w && ltb 0 h) (Ok (w, h, rest)) (Err BadSize) in
    ap (λ r. r >>= (λ width. part_at width.1 >>= (λ height. test width.0 height.0 height.1))) (part_spelled w width (height ++ rest) is_width behind_width.stops behind_width.whole)
    ∙ ap (λ r. r >>= (λ height. test w height.0 height.1)) (part_spelled h height rest is_height behind_height.stops behind_height.whole)
    ∙ ap (λ b. cond b (Ok (w, h, rest)) (Err BadSize)) (and_from (ltb 0 w) (ltb 0 h) (lt-ltb 0 w wide) (lt-ltb 0 h high))

maximum_spelled : (m : ℕ) (maximum rest : List ℕ) → IsPart m maximum → 1 ≤ m → m ≤ 65535 → Starts rest → maximum_at (maximum ++ rest) ≡ Ok (m, rest)
unfolding maximum_at
maximum_spelled m maximum rest is low most behind =
    ap (λ r. r >>= (λ maximum. cond (ltb 0 maximum.0 && leb maximum.0 65535) (Ok maximum) (Err BadMaximum))) (part_spelled m maximum rest is behind.stops behind.whole)
    ∙ ap (λ b. cond b (Ok (m, rest)) (Err BadMaximum)) (and_from (ltb 0 m) (leb m 65535) (lt-ltb 0 m low) (le-leb m 65535 most))

-- the same header, with its raster where it begins
abbrev pub placed : Head → List ℕ → Head
placed head header = record head { raster_start = length header }

pub header_spelled : (head : Head) (header rest : List ℕ) → IsHeader head header → BeginsRaster head.format rest → head_of (header ++ rest) ≡ Ok (placed head header)
unfolding head_of
header_spelled head header rest is begins =
    let end : List ℕ = is.end ++ rest in
    let behind : List ℕ = is.width ++ (is.height ++ (is.maximum ++ end)) in
    let back : (is.width ++ (is.height ++ (is.maximum ++ is.end))) ++ rest ≡ behind = simp append_assoc in
    let text : List ℕ = 80 ∷ is.digit ∷ behind in
    let text_is : header ++ rest ≡ text = ap (λ l. l ++ rest) is.spelled ∙ ap (λ l. 80 ∷ is.digit ∷ l) back in
    let begins_end = starts_end head.format is.end rest is.is_end begins in
    let n : ℕ = length (header ++ rest) in
    let with_text : Channels × Format → Result (Channels × Format × List ℕ) PpmFault = λ kind. Ok (kind.0, kind.1, behind) in
    let made : Channels → Format → ℕ → ℕ → ℕ → List ℕ → Head = λ c f w h m r. record { width = w; height = h; channels = c; format = f; maximum = m; raster_start = n - length r } in
    let at_raster : Channels → Format → ℕ → ℕ → ℕ → List ℕ → Result Head PpmFault = λ c f w h m t. raster_at f t >>= (λ r. Ok (made c f w h m r)) in
    let at_maximum : Channels → Format → ℕ → ℕ → List ℕ → Result Head PpmFault = λ c f w h t. maximum_at t >>= (λ m. at_raster c f w h m.0 m.1) in
    let at_size : Channels → Format → List ℕ → Result Head PpmFault = λ c f t. size_at t >>= (λ s. at_maximum c f s.0 s.1 s.2) in
    ap (λ t. magic_at t >>= (λ kind. at_size kind.0 kind.1 kind.2)) text_is
    ∙ ap (λ r. (r >>= with_text) >>= (λ kind. at_size kind.0 kind.1 kind.2)) is.kind
    ∙ ap (λ r. r >>= (λ s. at_maximum head.channels head.format s.0 s.1 s.2)) (size_spelled head.width head.height is.width is.height (is.maximum ++ end) is.is_width is.is_height is.wide is.high (part_first head.maximum is.maximum end is.is_maximum))
    ∙ ap (λ r. r >>= (λ m. at_raster head.channels head.format head.width head.height m.0 m.1)) (maximum_spelled head.maximum is.maximum end is.is_maximum is.low is.most begins_end)
    ∙ ap (λ r. r >>= (λ r. Ok (made head.channels head.format head.width head.height head.maximum r))) (raster_spelled head.format is.end rest is.is_end)
    ∙ ap (λ k. Ok (record head { raster_start = k })) (omega (arith, length-append header rest))
