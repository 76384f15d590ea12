-- What is wrong with a header, as it is spelled and as it is read.
use Rattle.std.proofs.Common.{◌≡◌, ◌⊎◌, inl, inr, ℕ, ◌-◌, ◌<◌, ◌≤◌, ◌&&◌, Bool, true, false, cond, eqb, ltb, leb, List, [], ◌∷◌, ◌++◌, length, drop, Result, Ok, Err, refl, sym, ap, subst, ◌∙◌, arith}
use Rattle.std.proofs.lemmas.Bool.{and_parts, and_from}
use borrow.Author.Tests.{ltb-true, ltb-false, lt-ltb, leb-true, leb-false, lt-leb, le-leb}
use Rattle.ppm_read.specs.declared.fault.PpmFault.{PpmFault}
use Rattle.ppm_read.specs.declared.fault.PpmFault.TheVariants.{BadMagic, BadNumber, BadSize, BadMaximum}
use Rattle.ppm_read.specs.declared.header.Channels.{Channels}
use Rattle.ppm_read.specs.declared.header.Channels.TheVariants.{Grey, Colour}
use Rattle.ppm_read.specs.declared.header.Format.{Format}
use Rattle.ppm_read.specs.declared.header.Format.TheVariants.{Plain, Raw}
use Rattle.ppm_read.specs.declared.header.Head.{Head}
use Rattle.picture_rows.specs.Reading.{◌>>=◌}
use Rattle.ppm_read.specs.Number.{is_white, missing_at, begins_with}
use Rattle.ppm_read.specs.Header.{kind_of, magic_at, part_at, size_at, maximum_at, raster_at, head_of}
use Rattle.ppm_read.specs.Spelling.{IsPart}
use Rattle.ppm_read.specs.Breaking.{goes_on, PartBreaks, HasKind, HasWidth, HasSides, HasMaximum, HeaderBreaks, no_magic, in_width, in_height, no_size, in_maximum, no_maximum, no_end}
use Rattle.ppm_read.proofs.Chains.{bind_ok, bind_err, cond_ok, inside, err_inside}
use Rattle.ppm_read.proofs.Gaps.{part_front, part_spelled}
use Rattle.ppm_read.proofs.Headers.{magic_front}
use Rattle.ppm_read.proofs.Parts.{goes_stops, stops_goes, part_err, part_breaks}

-- the rest of a header, from each place on
abbrev at_raster : List ℕ → Channels → Format → ℕ → ℕ → ℕ → List ℕ → Result Head PpmFault
at_raster text c f w h m t = raster_at f t >>= (λ r. Ok record { width = w; height = h; channels = c; format = f; maximum = m; raster_start = length text - length r })

abbrev at_maximum : List ℕ → Channels → Format → ℕ → ℕ → List ℕ → Result Head PpmFault
at_maximum text c f w h t = maximum_at t >>= (λ m. at_raster text c f w h m.0 m.1)

abbrev at_size : List ℕ → Channels → Format → List ℕ → Result Head PpmFault
at_size text c f t = size_at t >>= (λ s. at_maximum text c f s.0 s.1 s.2)

-- the magic number
kind_reads : (text : List ℕ) (kind : Channels × Format) (rest : List ℕ) → HasKind text kind rest → magic_at text ≡ Ok (kind.0, kind.1, rest)
kind_reads text kind rest has =
    let with_text : Channels × Format → Result (Channels × Format × List ℕ) PpmFault = λ kind. Ok (kind.0, kind.1, rest) in
    ap magic_at has.spelled ∙ ap (λ r. r >>= with_text) has.is_kind

kind_front : (text : List ℕ) (x : Channels × Format × List ℕ) → magic_at text ≡ Ok x → HasKind text (x.0, x.1) x.2
kind_front text x e = let front = magic_front text x e in record { digit = front.digit; is_kind = front.kind; spelled = front.spelled }

else_err : (b : Bool) (x : Channels × Format) (r : Result (Channels × Format) PpmFault) (d : PpmFault) → cond b (Ok x) r ≡ Err d → r ≡ Err d
else_err true x r d e = cc
else_err false x r d e = e

kind_err : (digit : ℕ) (d : PpmFault) → kind_of digit ≡ Err d → BadMagic ≡ d
kind_err digit d e =
    err_inside BadMagic d (else_err (eqb digit 54) (Colour, Raw) (Err BadMagic) d
    (else_err (eqb digit 53) (Grey, Raw) _ d (else_err (eqb digit 51) (Colour, Plain) _ d (else_err (eqb digit 50) (Grey, Plain) _ d e))))

abbrev with_rest : List ℕ → Channels × Format → Result (Channels × Format × List ℕ) PpmFault
with_rest rest kind = Ok (kind.0, kind.1, rest)

first_err : (b : Bool) (digit : ℕ) (rest : List ℕ) (d : PpmFault) → cond b (kind_of digit >>= with_rest rest) (Err BadMagic) ≡ Err d → BadMagic ≡ d
first_err true digit rest d e = by (bind_err (kind_of digit) (with_rest rest) d e) where
  by : (kind_of digit ≡ Err d) ⊎ ((x : Channels × Format) × (kind_of digit ≡ Ok x) × (with_rest rest x ≡ Err d)) → BadMagic ≡ d
  by (inl e) = kind_err digit d e
  by (inr (x, is, e)) = cc
first_err false digit rest d e = err_inside BadMagic d e

magic_err : (text : List ℕ) (d : PpmFault) → magic_at text ≡ Err d → BadMagic ≡ d
magic_err [] d e = err_inside BadMagic d e
magic_err (p ∷ []) d e = err_inside BadMagic d e
magic_err (p ∷ digit ∷ rest) d e = first_err (eqb p 80) digit rest d e

-- what is read up to each place
head_kind : (text : List ℕ) (kind : Channels × Format) (rest : List ℕ) → HasKind text kind rest → head_of text ≡ at_size text kind.0 kind.1 rest
unfolding head_of
head_kind text kind rest has = ap (λ r. r >>= (λ kind. at_size text kind.0 kind.1 kind.2)) (kind_reads text kind rest has)

part_reads : (n : ℕ) (text part rest : List ℕ) → IsPart n part → text ≡ part ++ rest → goes_on rest ≡ true → part_at text ≡ Ok (n, rest)
part_reads n text part rest is spelled goes = let stops = goes_stops rest goes in ap part_at spelled ∙ part_spelled n part rest is stops.0 stops.1

abbrev chosen_size : Bool → ℕ → ℕ → List ℕ → Result (ℕ × ℕ × List ℕ) PpmFault
chosen_size fits w h rest = cond fits (Ok (w, h, rest)) (Err BadSize)

abbrev tested_size : ℕ → ℕ → List ℕ → Result (ℕ × ℕ × List ℕ) PpmFault
tested_size w h rest = chosen_size (ltb 0 w && ltb 0 h) w h rest

size_width : (t : List ℕ) (w : ℕ) (rest : List ℕ) → part_at t ≡ Ok (w, rest) → size_at t ≡ (part_at rest >>= (λ height. tested_size w height.0 height.1))
unfolding size_at
size_width t w rest e = ap (λ r. r >>= (λ width. part_at width.1 >>= (λ height. tested_size width.0 height.0 height.1))) e

size_fails : (t : List ℕ) (d : PpmFault) → part_at t ≡ Err d → size_at t ≡ Err d
unfolding size_at
size_fails t d e = ap (λ r. r >>= (λ width. part_at width.1 >>= (λ height. tested_size width.0 height.0 height.1))) e

head_sides : (text : List ℕ) (kind : Channels × Format) (w h : ℕ) (rest : List ℕ) → HasSides text kind w h rest → head_of text ≡ (tested_size w h rest >>= (λ s. at_maximum text kind.0 kind.1 s.0 s.1 s.2))
head_sides text kind w h rest has =
    let width = has.has_width in
    head_kind text kind width.before width.has_kind
    ∙ ap (λ r. r >>= (λ s. at_maximum text kind.0 kind.1 s.0 s.1 s.2))
    (size_width width.before w has.before (part_reads w width.before width.width has.before width.is_width width.spelled width.goes)
    ∙ ap (λ r. r >>= (λ height. tested_size w height.0 height.1)) (part_reads h has.before has.height rest has.is_height has.spelled has.goes))

head_sized : (text : List ℕ) (kind : Channels × Format) (w h : ℕ) (rest : List ℕ) → HasSides text kind w h rest → 1 ≤ w → 1 ≤ h → head_of text ≡ at_maximum text kind.0 kind.1 w h rest
head_sized text kind w h rest has wide high =
    head_sides text kind w h rest has
    ∙ ap (λ b. chosen_size b w h rest >>= (λ s. at_maximum text kind.0 kind.1 s.0 s.1 s.2)) (and_from (ltb 0 w) (ltb 0 h) (lt-ltb 0 w wide) (lt-ltb 0 h high))

abbrev chosen_maximum : Bool → ℕ × List ℕ → Result (ℕ × List ℕ) PpmFault
chosen_maximum fits m = cond fits (Ok m) (Err BadMaximum)

abbrev tested_maximum : ℕ × List ℕ → Result (ℕ × List ℕ) PpmFault
tested_maximum m = chosen_maximum (ltb 0 m.0 && leb m.0 65535) m

maximum_part : (t : List ℕ) → maximum_at t ≡ (part_at t >>= tested_maximum)
unfolding maximum_at
maximum_part t = refl

head_maximum : (text : List ℕ) (kind : Channels × Format) (m : ℕ) (rest : List ℕ) (has : HasMaximum text kind m rest) → head_of text ≡ (tested_maximum (m, rest) >>= (λ m. at_raster text kind.0 kind.1 has.w has.h m.0 m.1))
head_maximum text kind m rest has =
    head_sized text kind has.w has.h has.before has.has_sides has.wide has.high
    ∙ ap (λ r. r >>= (λ m. at_raster text kind.0 kind.1 has.w has.h m.0 m.1))
    (maximum_part has.before ∙ ap (λ r. r >>= tested_maximum) (part_reads m has.before has.maximum rest has.is_maximum has.spelled has.goes))

-- and what fails there
false_size : (w h : ℕ) → (w ≡ 0) ⊎ (h ≡ 0) → (ltb 0 w && ltb 0 h) ≡ false
false_size w h (inl e) = ap (λ n. ltb 0 n && ltb 0 h) e
false_size w h (inr e) = ap (λ n. ltb 0 w && ltb 0 n) e ∙ and_false (ltb 0 w) where
  and_false : (b : Bool) → (b && false) ≡ false
  and_false true = refl
  and_false false = refl

false_maximum : (m : ℕ) → (m ≡ 0) ⊎ (65535 < m) → (ltb 0 m && leb m 65535) ≡ false
false_maximum m (inl e) = ap (λ n. ltb 0 n && leb n 65535) e
false_maximum m (inr lt) = ap (λ b. ltb 0 m && b) (lt-leb m 65535 lt) ∙ and_false (ltb 0 m) where
  and_false : (b : Bool) → (b && false) ≡ false
  and_false true = refl
  and_false false = refl

goes_missing : (rest : List ℕ) → goes_on rest ≡ true → missing_at rest ≡ BadNumber
goes_missing [] e = cc
goes_missing (c ∷ rest) e = refl

pub width_fails : (text : List ℕ) (f : PpmFault) (kind : Channels × Format) (rest : List ℕ) → HasKind text kind rest → PartBreaks rest f → head_of text ≡ Err f
width_fails text f kind rest has breaks =
    head_kind text kind rest has ∙ ap (λ r. r >>= (λ s. at_maximum text kind.0 kind.1 s.0 s.1 s.2)) (size_fails rest f (part_breaks rest f breaks))

pub height_fails : (text : List ℕ) (f : PpmFault) (kind : Channels × Format) (w : ℕ) (rest : List ℕ) → HasWidth text kind w rest → PartBreaks rest f → head_of text ≡ Err f
height_fails text f kind w rest has breaks =
    head_kind text kind has.before has.has_kind
    ∙ ap (λ r. r >>= (λ s. at_maximum text kind.0 kind.1 s.0 s.1 s.2))
    (size_width has.before w rest (part_reads w has.before has.width rest has.is_width has.spelled has.goes) ∙ ap (λ r. r >>= (λ height. tested_size w height.0 height.1)) (part_breaks rest f breaks))

pub size_breaks : (text : List ℕ) (kind : Channels × Format) (w h : ℕ) (rest : List ℕ) → HasSides text kind w h rest → (w ≡ 0) ⊎ (h ≡ 0) → head_of text ≡ Err BadSize
size_breaks text kind w h rest has none =
    head_sides text kind w h rest has ∙ ap (λ b. chosen_size b w h rest >>= (λ s. at_maximum text kind.0 kind.1 s.0 s.1 s.2)) (false_size w h none)

pub maximum_fails : (text : List ℕ) (f : PpmFault) (kind : Channels × Format) (w h : ℕ) (rest : List ℕ) → HasSides text kind w h rest → 1 ≤ w → 1 ≤ h → PartBreaks rest f → head_of text ≡ Err f
maximum_fails text f kind w h rest has wide high breaks =
    head_sized text kind w h rest has wide high
    ∙ ap (λ r. r >>= (λ m. at_raster text kind.0 kind.1 w h m.0 m.1)) (maximum_part rest ∙ ap (λ r. r >>= tested_maximum) (part_breaks rest f breaks))

pub maximum_breaks : (text : List ℕ) (kind : Channels × Format) (m : ℕ) (rest : List ℕ) → HasMaximum text kind m rest → (m ≡ 0) ⊎ (65535 < m) → head_of text ≡ Err BadMaximum
maximum_breaks text kind m rest has wrong =
    head_maximum text kind m rest has
    ∙ ap (λ b. chosen_maximum b (m, rest) >>= (λ m. at_raster text kind.0 kind.1 has.w has.h m.0 m.1)) (false_maximum m wrong)

pub end_fails : (text : List ℕ) (channels : Channels) (m : ℕ) (rest : List ℕ) → HasMaximum text (channels, Raw) m rest → 1 ≤ m → m ≤ 65535 → begins_with is_white rest ≡ false → head_of text ≡ Err BadNumber
end_fails text channels m rest has low most none =
    head_maximum text (channels, Raw) m rest has
    ∙ ap (λ b. chosen_maximum b (m, rest) >>= (λ m. at_raster text channels Raw has.w has.h m.0 m.1)) (and_from (ltb 0 m) (leb m 65535) (lt-ltb 0 m low) (le-leb m 65535 most))
    ∙ ap (λ b. cond b (Ok (drop 1 rest)) (Err (missing_at rest)) >>= (λ r. Ok record { width = has.w; height = has.h; channels = channels; format = Raw; maximum = m; raster_start = length text - length r })) none
    ∙ ap Err (goes_missing rest has.goes)

pub magic_fails : (text : List ℕ) → ((kind : Channels × Format) (rest : List ℕ) → HasKind text kind rest → ⊥) → head_of text ≡ Err BadMagic
unfolding head_of
magic_fails text none = by (magic_at text) refl where
  by : (r : Result (Channels × Format × List ℕ) PpmFault) → magic_at text ≡ r → head_of text ≡ Err BadMagic
  by (Ok x) e = absurd (none (x.0, x.1) x.2 (kind_front text x e))
  by (Err d) e = ap (λ r. r >>= (λ kind. at_size text kind.0 kind.1 kind.2)) (e ∙ ap Err (sym (magic_err text d e)))

-- what is wrong with a header that is not read
has_width : (text : List ℕ) (kind : Channels × Format) (before : List ℕ) (x : ℕ × List ℕ) → HasKind text kind before → part_at before ≡ Ok x → HasWidth text kind x.0 x.1
has_width text kind before x has e =
    let part = part_front before x.0 x.1 e in
    record { before = before; width = part.part; has_kind = has; is_width = part.is_part; spelled = part.spelled; goes = stops_goes x.1 part.stops part.whole }

has_sides : (text : List ℕ) (kind : Channels × Format) (w : ℕ) (before : List ℕ) (x : ℕ × List ℕ) → HasWidth text kind w before → part_at before ≡ Ok x → HasSides text kind w x.0 x.1
has_sides text kind w before x has e =
    let part = part_front before x.0 x.1 e in
    record { before = before; height = part.part; has_width = has; is_height = part.is_part; spelled = part.spelled; goes = stops_goes x.1 part.stops part.whole }

zero_side : (w h : ℕ) → (ltb 0 w && ltb 0 h) ≡ false → (w ≡ 0) ⊎ (h ≡ 0)
zero_side w h e = by (ltb 0 w) refl e where
  by : (b : Bool) → ltb 0 w ≡ b → (b && ltb 0 h) ≡ false → (w ≡ 0) ⊎ (h ≡ 0)
  by true is e = inr (omega (arith, ltb-false 0 h e))
  by false is e = inl (omega (arith, ltb-false 0 w is))

wrong_maximum : (m : ℕ) → (ltb 0 m && leb m 65535) ≡ false → (m ≡ 0) ⊎ (65535 < m)
wrong_maximum m e = by (ltb 0 m) refl e where
  by : (b : Bool) → ltb 0 m ≡ b → (b && leb m 65535) ≡ false → (m ≡ 0) ⊎ (65535 < m)
  by true is e = inr (leb-false m 65535 e)
  by false is e = inl (omega (arith, ltb-false 0 m is))

test_err : {A : Type 0} (b : Bool) (x : A) (c d : PpmFault) → cond b (Ok x) (Err c) ≡ Err d → (b ≡ false) × (c ≡ d)
test_err true x c d e = cc
test_err false x c d e = (refl, err_inside c d e)

size_err : (text : List ℕ) (f : PpmFault) (kind : Channels × Format) (before : List ℕ) → HasKind text kind before → size_at before ≡ Err f → HeaderBreaks text f
unfolding size_at
size_err text f kind before has e = first (bind_err (part_at before) (λ width. part_at width.1 >>= (λ height. tested_size width.0 height.0 height.1)) f e) where
  second : (x : ℕ × List ℕ) → HasWidth text kind x.0 x.1 → (part_at x.1 ≡ Err f) ⊎ ((y : ℕ × List ℕ) × (part_at x.1 ≡ Ok y) × (tested_size x.0 y.0 y.1 ≡ Err f)) → HeaderBreaks text f
  second x wide (inl e) = in_height f kind x.0 x.1 wide (part_err x.1 f e)
  second x wide (inr (y, is, e)) =
      let test = test_err (ltb 0 x.0 && ltb 0 y.0) (x.0, y.0, y.1) BadSize f e in
      subst (HeaderBreaks text) test.1 (no_size kind x.0 y.0 y.1 (has_sides text kind x.0 x.1 y wide is) (zero_side x.0 y.0 test.0))

  first : (part_at before ≡ Err f) ⊎ ((x : ℕ × List ℕ) × (part_at before ≡ Ok x) × ((part_at x.1 >>= (λ height. tested_size x.0 height.0 height.1)) ≡ Err f)) → HeaderBreaks text f
  first (inl e) = in_width f kind before has (part_err before f e)
  first (inr (x, is, e)) = second x (has_width text kind before x has is) (bind_err (part_at x.1) (λ height. tested_size x.0 height.0 height.1) f e)

record Sized (text : List ℕ) (kind : Channels × Format) (s : ℕ × ℕ × List ℕ) : Type 0 where
  has : HasSides text kind s.0 s.1 s.2
  wide : 1 ≤ s.0
  high : 1 ≤ s.1

sized_front : (text : List ℕ) (kind : Channels × Format) (before : List ℕ) (s : ℕ × ℕ × List ℕ) → HasKind text kind before → size_at before ≡ Ok s → Sized text kind s
unfolding size_at
sized_front text kind before s has e =
    let first = bind_ok (part_at before) (λ width. part_at width.1 >>= (λ height. tested_size width.0 height.0 height.1)) s e in
    let second = bind_ok (part_at first.0.1) (λ height. tested_size first.0.0 height.0 height.1) s first.2 in
    let test = cond_ok (ltb 0 first.0.0 && ltb 0 second.0.0) (Ok (first.0.0, second.0.0, second.0.1)) BadSize s second.2 in
    let both = and_parts (ltb 0 first.0.0) (ltb 0 second.0.0) test.0 in
    subst (Sized text kind) (inside (first.0.0, second.0.0, second.0.1) s test.1) record {
      has = has_sides text kind first.0.0 first.0.1 second.0 (has_width text kind before first.0 has first.1) second.1;
      wide = ltb-true 0 first.0.0 both.0;
      high = ltb-true 0 second.0.0 both.1;
    }

has_maximum : (text : List ℕ) (kind : Channels × Format) (s : ℕ × ℕ × List ℕ) (x : ℕ × List ℕ) → Sized text kind s → part_at s.2 ≡ Ok x → HasMaximum text kind x.0 x.1
has_maximum text kind s x sized e =
    let part = part_front s.2 x.0 x.1 e in
    record { w = s.0; h = s.1; before = s.2; maximum = part.part; has_sides = sized.has; wide = sized.wide; high = sized.high; is_maximum = part.is_part; spelled = part.spelled; goes = stops_goes x.1 part.stops part.whole }

maximum_err : (text : List ℕ) (f : PpmFault) (kind : Channels × Format) (s : ℕ × ℕ × List ℕ) → Sized text kind s → maximum_at s.2 ≡ Err f → HeaderBreaks text f
maximum_err text f kind s sized e = first (bind_err (part_at s.2) tested_maximum f (sym (maximum_part s.2) ∙ e)) where
  first : (part_at s.2 ≡ Err f) ⊎ ((x : ℕ × List ℕ) × (part_at s.2 ≡ Ok x) × (tested_maximum x ≡ Err f)) → HeaderBreaks text f
  first (inl e) = in_maximum f kind s.0 s.1 s.2 sized.has sized.wide sized.high (part_err s.2 f e)
  first (inr (x, is, e)) =
      let test = test_err (ltb 0 x.0 && leb x.0 65535) x BadMaximum f e in
      subst (HeaderBreaks text) test.1 (no_maximum kind x.0 x.1 (has_maximum text kind s x sized is) (wrong_maximum x.0 test.0))

end_err : (text : List ℕ) (f : PpmFault) (kind : Channels × Format) (m : ℕ) (rest : List ℕ) → HasMaximum text kind m rest → 1 ≤ m → m ≤ 65535 → raster_at kind.1 rest ≡ Err f → HeaderBreaks text f
end_err text f (channels, Plain) m rest has low most e = cc
end_err text f (channels, Raw) m rest has low most e =
    let test = test_err (begins_with is_white rest) (drop 1 rest) (missing_at rest) f e in
    subst (HeaderBreaks text) (sym (goes_missing rest has.goes) ∙ test.1) (no_end channels m rest has low most test.0)

last_err : (text : List ℕ) (f : PpmFault) (kind : Channels × Format) (s : ℕ × ℕ × List ℕ) (m : ℕ × List ℕ) → Sized text kind s → maximum_at s.2 ≡ Ok m → at_raster text kind.0 kind.1 s.0 s.1 m.0 m.1 ≡ Err f → HeaderBreaks text f
last_err text f kind s m sized is e =
    let part = bind_ok (part_at s.2) tested_maximum m (sym (maximum_part s.2) ∙ is) in
    let test = cond_ok (ltb 0 part.0.0 && leb part.0.0 65535) (Ok part.0) BadMaximum m part.2 in
    let both = and_parts (ltb 0 part.0.0) (leb part.0.0 65535) test.0 in
    let same = inside part.0 m test.1 in
    let has = subst (λ (x : ℕ × List ℕ). HasMaximum text kind x.0 x.1) same (has_maximum text kind s part.0 sized part.1) in
    let low = subst (λ (x : ℕ × List ℕ). 1 ≤ x.0) same (ltb-true 0 part.0.0 both.0) in
    let most = subst (λ (x : ℕ × List ℕ). x.0 ≤ 65535) same (leb-true part.0.0 65535 both.1) in
    by has low most (bind_err (raster_at kind.1 m.1) made f e) where
      made : List ℕ → Result Head PpmFault
      made r = Ok record { width = s.0; height = s.1; channels = kind.0; format = kind.1; maximum = m.0; raster_start = length text - length r }

      by : HasMaximum text kind m.0 m.1 → 1 ≤ m.0 → m.0 ≤ 65535 → (raster_at kind.1 m.1 ≡ Err f) ⊎ ((r : List ℕ) × (raster_at kind.1 m.1 ≡ Ok r) × (made r ≡ Err f)) → HeaderBreaks text f
      by has low most (inl e) = end_err text f kind m.0 m.1 has low most e
      by has low most (inr (r, is, e)) = cc

pub head_err : (text : List ℕ) (f : PpmFault) → head_of text ≡ Err f → HeaderBreaks text f
unfolding head_of
head_err text f e = magic (bind_err (magic_at text) (λ kind. at_size text kind.0 kind.1 kind.2) f e) where
  at_end : (kind : Channels × Format) (s : ℕ × ℕ × List ℕ) → Sized text kind s → (maximum_at s.2 ≡ Err f) ⊎ ((m : ℕ × List ℕ) × (maximum_at s.2 ≡ Ok m) × (at_raster text kind.0 kind.1 s.0 s.1 m.0 m.1 ≡ Err f)) → HeaderBreaks text f
  at_end kind s sized (inl e) = maximum_err text f kind s sized e
  at_end kind s sized (inr (m, is, e)) = last_err text f kind s m sized is e

  sides : (kind : Channels × Format) (before : List ℕ) → HasKind text kind before → (size_at before ≡ Err f) ⊎ ((s : ℕ × ℕ × List ℕ) × (size_at before ≡ Ok s) × (at_maximum text kind.0 kind.1 s.0 s.1 s.2 ≡ Err f)) → HeaderBreaks text f
  sides kind before has (inl e) = size_err text f kind before has e
  sides kind before has (inr (s, is, e)) = at_end kind s (sized_front text kind before s has is) (bind_err (maximum_at s.2) (λ m. at_raster text kind.0 kind.1 s.0 s.1 m.0 m.1) f e)

  magic : (magic_at text ≡ Err f) ⊎ ((x : Channels × Format × List ℕ) × (magic_at text ≡ Ok x) × (at_size text x.0 x.1 x.2 ≡ Err f)) → HeaderBreaks text f
  magic (inl e) = subst (HeaderBreaks text) (magic_err text f e) (no_magic (λ kind rest has. unlike kind rest (sym (kind_reads text kind rest has) ∙ e))) where
    unlike : (kind : Channels × Format) (rest : List ℕ) → ◌≡◌ {A = Result (Channels × Format × List ℕ) PpmFault} (Ok (kind.0, kind.1, rest)) (Err f) → ⊥
    unlike kind rest e = cc
  magic (inr (x, is, e)) = sides (x.0, x.1) x.2 (kind_front text x is) (bind_err (size_at x.2) (λ s. at_maximum text x.0 x.1 s.0 s.1 s.2) f e)
