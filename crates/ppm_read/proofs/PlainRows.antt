-- Rows that are read pixel by pixel.
use Rattle.std.proofs.Common.{◌≡◌, ℕ, zero, suc, ◌+◌, ◌-◌, ◌*◌, ◌<◌, ◌≤◌, ◌&&◌, Bool, true, false, eqb, List, [], ◌∷◌, ◌++◌, length, take, map, Result, Ok, Err, refl, sym, ap, ◌∙◌, arith, mul-suc, append_assoc, append-nil}
use Rattle.std.proofs.Math.Dec.{eqb-suc-zero}
use Rattle.std.proofs.lemmas.Bool.Decides.{nat_tests}
use Rattle.std.proofs.lemmas.List.{map-append, length-map, take_all}
use Rattle.ppm_read.specs.declared.fault.PpmFault.{PpmFault}
use Rattle.ppm_read.specs.declared.header.Channels.{Channels}
use Rattle.ppm_read.specs.declared.header.Channels.TheVariants.{Grey, Colour}
use Rattle.ppm_read.specs.declared.header.Format.{Format}
use Rattle.ppm_read.specs.declared.header.Format.TheVariants.{Plain}
use Rattle.ppm_read.specs.declared.header.Head.{Head}
use Rattle.picture_rows.specs.Reading.{◌>>=◌}
use Rattle.picture_rows.specs.PixelBytes.{scaled}
use Rattle.ppm_read.specs.Raster.{sample_at, samples_at, channel_count, rgba, pixels_at}
use Rattle.ppm_read.specs.inside.Plain.{grey_pixel_at, colour_pixel_at}
use Rattle.ppm_read.proofs.Chains.{bind_ok, bind_assoc, bind_same}
use Rattle.ppm_read.proofs.Pixels.{rgba-append}

-- what is read behind a list, with the list in front
abbrev pub after : List ℕ → Result (List ℕ × List ℕ) PpmFault → Result (List ℕ × List ℕ) PpmFault
after front read = read >>= (λ others. Ok (front ++ others.0, others.1))

after-nil : (read : Result (List ℕ × List ℕ) PpmFault) → after [] read ≡ read
after-nil (Ok x) = refl
after-nil (Err d) = refl

and_true : (b : Bool) → (b && true) ≡ b
and_true true = refl
and_true false = refl

and_false : (b : Bool) → (b && false) ≡ false
and_false true = refl
and_false false = refl

-- the last of some samples in front of others
last_flag : (last : Bool) (a b : ℕ) → (last && eqb (a + b) 0) ≡ ((last && eqb b 0) && eqb a 0)
last_flag last zero b = let e : zero + b ≡ b = omega arith in ap (λ n. last && eqb n 0) e ∙ sym (and_true (last && eqb b 0))
last_flag last (suc a) b =
    let e : suc a + b ≡ suc (a + b) = omega arith in
    ap (λ n. last && eqb n 0) e ∙ ap (λ v. last && v) (eqb-suc-zero (a + b)) ∙ and_false last ∙ sym (ap (λ v. (last && eqb b 0) && v) (eqb-suc-zero a) ∙ and_false (last && eqb b 0))

cons_after : (v : ℕ) (front : List ℕ) (read : Result (List ℕ × List ℕ) PpmFault) → (after front read >>= (λ others. Ok (v ∷ others.0, others.1))) ≡ after (v ∷ front) read
cons_after v front (Ok x) = refl
cons_after v front (Err d) = refl

-- samples one behind the other
pub samples_at-add : (f : Format) (m : ℕ) (last : Bool) (a b : ℕ) (text : List ℕ)
    → samples_at f m last (a + b) text ≡ (samples_at f m (last && eqb b 0) a text >>= (λ front. after front.0 (samples_at f m last b front.1)))
samples_at-add f m last zero b text = let e : zero + b ≡ b = omega arith in ap (λ n. samples_at f m last n text) e ∙ sym (after-nil (samples_at f m last b text))
samples_at-add f m last (suc a) b text =
    let e : suc a + b ≡ suc (a + b) = omega arith in
    let rest : List ℕ × List ℕ → Result (List ℕ × List ℕ) PpmFault = λ front. after front.0 (samples_at f m last b front.1) in
    ap (λ n. samples_at f m last n text) e
    ∙ ap (λ l. sample_at f m l text >>= (λ sample. samples_at f m last (a + b) sample.1 >>= (λ others. Ok (sample.0 ∷ others.0, others.1)))) (last_flag last a b)
    ∙ bind_same (sample_at f m ((last && eqb b 0) && eqb a 0) text)
    (λ sample. samples_at f m last (a + b) sample.1 >>= (λ others. Ok (sample.0 ∷ others.0, others.1)))
    (λ sample. (samples_at f m (last && eqb b 0) a sample.1 >>= (λ others. Ok (sample.0 ∷ others.0, others.1))) >>= rest)
    (λ sample is.
    ap (λ read. read >>= (λ others. Ok (sample.0 ∷ others.0, others.1))) (samples_at-add f m last a b sample.1)
    ∙ bind_assoc (samples_at f m (last && eqb b 0) a sample.1) rest (λ others. Ok (sample.0 ∷ others.0, others.1))
    ∙ bind_same (samples_at f m (last && eqb b 0) a sample.1) (λ front. rest front >>= (λ others. Ok (sample.0 ∷ others.0, others.1))) (λ front. rest (sample.0 ∷ front.0, front.1))
    (λ front read. cons_after sample.0 front.0 (samples_at f m last b front.1))
    ∙ sym (bind_assoc (samples_at f m (last && eqb b 0) a sample.1) (λ others. Ok (sample.0 ∷ others.0, others.1)) rest))
    ∙ sym (bind_assoc (sample_at f m ((last && eqb b 0) && eqb a 0) text) (λ sample. samples_at f m (last && eqb b 0) a sample.1 >>= (λ others. Ok (sample.0 ∷ others.0, others.1))) rest)

-- as many samples as were asked for
length-samples_at : (f : Format) (m : ℕ) (last : Bool) (n : ℕ) (text : List ℕ) (x : List ℕ × List ℕ) → samples_at f m last n text ≡ Ok x → length x.0 ≡ n
length-samples_at f m last zero text x e = let none : [] ≡ x.0 = cc in sym (ap length none)
length-samples_at f m last (suc n) text x e =
    let first = bind_ok (sample_at f m (last && eqb n 0) text) _ x e in
    let others = bind_ok (samples_at f m last n first.0.1) _ x first.2 in
    let whole : first.0.0 ∷ others.0.0 ≡ x.0 = cc in
    sym (ap length whole) ∙ ap suc (length-samples_at f m last n first.0.1 others.0 others.1)

-- samples as pixels
abbrev as_pixels : Channels → ℕ → Result (List ℕ × List ℕ) PpmFault → Result (List ℕ × List ℕ) PpmFault
as_pixels channels m read = read >>= (λ samples. Ok (rgba channels (map (scaled m) samples.0), samples.1))

pixels_after : (channels : Channels) (m n : ℕ) (front : List ℕ) (read : Result (List ℕ × List ℕ) PpmFault) → length front ≡ channel_count channels * n
    → as_pixels channels m (after front read) ≡ after (rgba channels (map (scaled m) front)) (as_pixels channels m read)
pixels_after channels m n front (Ok x) e =
    ap (λ l. Ok (l, x.1)) (ap (rgba channels) (map-append (scaled m) front x.0) ∙ rgba-append channels n (map (scaled m) front) (map (scaled m) x.0) (length-map front (scaled m) ∙ e))
pixels_after channels m n front (Err d) e = refl

count_flag : (channels : Channels) (w : ℕ) → eqb (channel_count channels * w) 0 ≡ eqb w 0
count_flag Grey w = let e : 1 * w ≡ w = omega arith in ap (λ n. eqb n 0) e
count_flag Colour zero = refl
count_flag Colour (suc w) = let e : 3 * suc w ≡ suc (suc (suc (3 * w))) = omega arith in ap (λ n. eqb n 0) e ∙ eqb-suc-zero (suc (suc (3 * w))) ∙ sym (eqb-suc-zero w)

-- pixels one behind the other
pixels_at-suc : (head : Head) (last : Bool) (w : ℕ) (text : List ℕ)
    → pixels_at head last (suc w) text ≡ (pixels_at head (last && eqb w 0) 1 text >>= (λ pixel. after pixel.0 (pixels_at head last w pixel.1)))
unfolding pixels_at
pixels_at-suc head last w text =
    let k : ℕ = channel_count head.channels in
    let e : k * suc w ≡ k * 1 + k * w = omega (arith, mul-suc k w) in
    let read : Bool → ℕ → List ℕ → Result (List ℕ × List ℕ) PpmFault = λ l n t. samples_at head.format head.maximum l n t in
    let pixels : Result (List ℕ × List ℕ) PpmFault → Result (List ℕ × List ℕ) PpmFault = as_pixels head.channels head.maximum in
    ap (λ n. pixels (read last n text)) e
    ∙ ap pixels (samples_at-add head.format head.maximum last (k * 1) (k * w) text)
    ∙ ap (λ b. pixels (read (last && b) (k * 1) text >>= (λ front. after front.0 (read last (k * w) front.1)))) (count_flag head.channels w)
    ∙ bind_assoc (read (last && eqb w 0) (k * 1) text) (λ front. after front.0 (read last (k * w) front.1)) (λ samples. Ok (rgba head.channels (map (scaled head.maximum) samples.0), samples.1))
    ∙ bind_same (read (last && eqb w 0) (k * 1) text) (λ front. pixels (after front.0 (read last (k * w) front.1))) (λ front. after (rgba head.channels (map (scaled head.maximum) front.0)) (pixels (read last (k * w) front.1)))
    (λ front is. pixels_after head.channels head.maximum 1 front.0 (read last (k * w) front.1) (length-samples_at head.format head.maximum (last && eqb w 0) (k * 1) text front is))
    ∙ sym (bind_assoc (read (last && eqb w 0) (k * 1) text) (λ samples. Ok (rgba head.channels (map (scaled head.maximum) samples.0), samples.1)) (λ pixel. after pixel.0 (pixels_at head last w pixel.1)))

end_flag : (x width : ℕ) → x < width → eqb (width - (x + 1)) 0 ≡ eqb (x + 1) width
end_flag x width lt = grind (arith, nat_tests)

-- one pixel more
pub pixels_more : (head : Head) (last : Bool) (width x : ℕ) (text : List ℕ) → x < width
    → pixels_at head last (width - x) text ≡ (pixels_at head (last && eqb (x + 1) width) 1 text >>= (λ pixel. after pixel.0 (pixels_at head last (width - (x + 1)) pixel.1)))
pixels_more head last width x text lt =
    let w : ℕ = width - (x + 1) in
    let e : width - x ≡ suc w = omega arith in
    ap (λ n. pixels_at head last n text) e ∙ pixels_at-suc head last w text
    ∙ ap (λ b. pixels_at head (last && b) 1 text >>= (λ pixel. after pixel.0 (pixels_at head last w pixel.1))) (end_flag x width lt)

-- none more
none_by : (channels : Channels) (f : Format) (m : ℕ) (last : Bool) (text : List ℕ) → as_pixels channels m (samples_at f m last (channel_count channels * 0) text) ≡ Ok ([], text)
none_by Grey f m last text = refl
none_by Colour f m last text = refl

pub pixels_none : (head : Head) (last : Bool) (n : ℕ) (text : List ℕ) → n ≡ 0 → pixels_at head last n text ≡ Ok ([], text)
unfolding pixels_at
pixels_none head last n text e = ap (λ n. as_pixels head.channels head.maximum (samples_at head.format head.maximum last (channel_count head.channels * n) text)) e ∙ none_by head.channels head.format head.maximum last text

-- one pixel, by its kind
pub pixels_at-grey : (head : Head) (last : Bool) (text : List ℕ) → head.format ≡ Plain → head.channels ≡ Grey → pixels_at head last 1 text ≡ grey_pixel_at head.maximum last text
unfolding pixels_at
pixels_at-grey head last text plain grey =
    let m : ℕ = head.maximum in
    (λ i. as_pixels (grey i) m (samples_at (plain i) m last (channel_count (grey i) * 1) text))
    ∙ ap (λ l. as_pixels Grey m (sample_at Plain m l text >>= (λ sample. after (sample.0 ∷ []) (Ok ([], sample.1))))) (and_true last)
    ∙ bind_assoc (sample_at Plain m last text) (λ sample. after (sample.0 ∷ []) (Ok ([], sample.1))) (λ samples. Ok (rgba Grey (map (scaled m) samples.0), samples.1))

three_samples : (m : ℕ) (red : Result (ℕ × List ℕ) PpmFault) (green blue : List ℕ → Result (ℕ × List ℕ) PpmFault)
    → as_pixels Colour m (red >>= (λ r. after (r.0 ∷ []) (green r.1 >>= (λ g. after (g.0 ∷ []) (blue g.1 >>= (λ b. after (b.0 ∷ []) (Ok ([], b.1))))))))
    ≡ (red >>= (λ r. green r.1 >>= (λ g. blue g.1 >>= (λ b. Ok (scaled m r.0 ∷ scaled m g.0 ∷ scaled m b.0 ∷ 255 ∷ [], b.1)))))
three_samples m (Err d) green blue = refl
three_samples m (Ok r) green blue = two (green r.1) where
  one : (g : ℕ × List ℕ) (last : Result (ℕ × List ℕ) PpmFault)
      → as_pixels Colour m (after (r.0 ∷ []) (after (g.0 ∷ []) (last >>= (λ b. after (b.0 ∷ []) (Ok ([], b.1)))))) ≡ (last >>= (λ b. Ok (scaled m r.0 ∷ scaled m g.0 ∷ scaled m b.0 ∷ 255 ∷ [], b.1)))
  one g (Ok b) = refl
  one g (Err d) = refl

  two : (second : Result (ℕ × List ℕ) PpmFault)
      → as_pixels Colour m (after (r.0 ∷ []) (second >>= (λ g. after (g.0 ∷ []) (blue g.1 >>= (λ b. after (b.0 ∷ []) (Ok ([], b.1)))))))
      ≡ (second >>= (λ g. blue g.1 >>= (λ b. Ok (scaled m r.0 ∷ scaled m g.0 ∷ scaled m b.0 ∷ 255 ∷ [], b.1))))
  two (Ok g) = one g (blue g.1)
  two (Err d) = refl

pub pixels_at-colour : (head : Head) (last : Bool) (text : List ℕ) → head.format ≡ Plain → head.channels ≡ Colour → pixels_at head last 1 text ≡ colour_pixel_at head.maximum last text
unfolding pixels_at
pixels_at-colour head last text plain colour =
    let m : ℕ = head.maximum in
    (λ i. as_pixels (colour i) m (samples_at (plain i) m last (channel_count (colour i) * 1) text))
    ∙ (λ i. as_pixels Colour m (sample_at Plain m (and_false last i) text >>= (λ r. after (r.0 ∷ []) (sample_at Plain m (and_false last i) r.1 >>= (λ g. after (g.0 ∷ []) (sample_at Plain m (and_true last i) g.1 >>= (λ b. after (b.0 ∷ []) (Ok ([], b.1)))))))))
    ∙ three_samples m (sample_at Plain m false text) (sample_at Plain m false) (sample_at Plain m last)

-- what a pixel says of the row
after-append : (a b : List ℕ) (read : Result (List ℕ × List ℕ) PpmFault) → after (a ++ b) read ≡ after a (after b read)
after-append a b (Ok x) = ap (λ l. Ok (l, x.1)) (append_assoc a b x.0)
after-append a b (Err d) = refl

pixel_reads : (head : Head) (last : Bool) (width x : ℕ) (text next pixel : List ℕ) (flag : Bool) → x < width → flag ≡ (last && eqb (x + 1) width) → pixels_at head flag 1 text ≡ Ok (pixel, next)
    → pixels_at head last (width - x) text ≡ after pixel (pixels_at head last (width - (x + 1)) next)
pixel_reads head last width x text next pixel flag lt e read =
    pixels_more head last width x text lt ∙ ap (λ r. r >>= (λ found. after found.0 (pixels_at head last (width - (x + 1)) found.1))) (ap (λ l. pixels_at head l 1 text) (sym e) ∙ read)

pixel_fails : (head : Head) (last : Bool) (width x : ℕ) (text : List ℕ) (flag : Bool) (d : PpmFault) → x < width → flag ≡ (last && eqb (x + 1) width) → pixels_at head flag 1 text ≡ Err d → pixels_at head last (width - x) text ≡ Err d
pixel_fails head last width x text flag d lt e read =
    pixels_more head last width x text lt ∙ ap (λ r. r >>= (λ found. after found.0 (pixels_at head last (width - (x + 1)) found.1))) (ap (λ l. pixels_at head l 1 text) (sym e) ∙ read)

-- a row in the buffer, pixel by pixel
pub written_more : (head : Head) (last : Bool) (width x : ℕ) (text next pixel old new : List ℕ) (flag : Bool) (whole : Result (List ℕ × List ℕ) PpmFault) → x < width → flag ≡ (last && eqb (x + 1) width) → pixels_at head flag 1 text ≡ Ok (pixel, next)
    → take (4 * (x + 1)) new ≡ take (4 * x) old ++ pixel
    → after (take (4 * x) old) (pixels_at head last (width - x) text) ≡ whole → after (take (4 * (x + 1)) new) (pixels_at head last (width - (x + 1)) next) ≡ whole
written_more head last width x text next pixel old new flag whole lt e read written so_far =
    ap (λ l. after l (pixels_at head last (width - (x + 1)) next)) written ∙ after-append (take (4 * x) old) pixel (pixels_at head last (width - (x + 1)) next)
    ∙ ap (after (take (4 * x) old)) (sym (pixel_reads head last width x text next pixel flag lt e read)) ∙ so_far

pub written_fails : (head : Head) (last : Bool) (width x : ℕ) (text front : List ℕ) (flag : Bool) (d : PpmFault) (whole : Result (List ℕ × List ℕ) PpmFault) → x < width → flag ≡ (last && eqb (x + 1) width) → pixels_at head flag 1 text ≡ Err d
    → after front (pixels_at head last (width - x) text) ≡ whole → whole ≡ Err d
written_fails head last width x text front flag d whole lt e read so_far = sym so_far ∙ ap (after front) (pixel_fails head last width x text flag d lt e read)

pub written_all : (head : Head) (last : Bool) (width x : ℕ) (text into : List ℕ) (whole : Result (List ℕ × List ℕ) PpmFault) → width ≤ x → length into ≤ 4 * x → after (take (4 * x) into) (pixels_at head last (width - x) text) ≡ whole → whole ≡ Ok (into, text)
written_all head last width x text into whole le all so_far =
    sym so_far ∙ ap (after (take (4 * x) into)) (pixels_none head last (width - x) text (omega arith)) ∙ ap (λ l. Ok (l, text)) (append-nil (take (4 * x) into) ∙ take_all (4 * x) into all)
