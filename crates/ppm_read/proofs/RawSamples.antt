-- Raw samples of whole rows.
use Rattle.std.proofs.Common.{◌≡◌, ℕ, zero, suc, ◌+◌, ◌*◌, ◌/◌, ◌<◌, ◌≤◌, ◌||◌, Bool, true, false, cond, leb, ltb, List, [], ◌∷◌, length, take, drop, get_or, Result, Ok, Err, refl, sym, ap, ◌∙◌, arith}
use Rattle.std.proofs.lemmas.Bool.{le-ltb}
use Rattle.std.proofs.Math.Dec.{leb-zero, leb-suc-zero, leb-suc-suc}
use Rattle.std.specs.List.{list_any}
use Rattle.ppm_read.specs.declared.fault.PpmFault.{PpmFault}
use Rattle.ppm_read.specs.declared.fault.PpmFault.TheVariants.{SampleAbove, Truncated}
use Rattle.ppm_read.specs.declared.header.Format.TheVariants.{Raw}
use Rattle.picture_rows.specs.Reading.{◌>>=◌}
use Rattle.ppm_read.specs.Raster.{byte_at, word_at, at_most, samples_at}
use Rattle.ppm_read.specs.Raw.{words, sample_length, raw_samples}

-- the bytes of a word
pub words-at : (row : List ℕ) (i : ℕ) → 2 * i + 1 < length row → get_or (words row) i 0 ≡ 256 * get_or row (2 * i) 0 + get_or row (2 * i + 1) 0
words-at [] i lt = absurd (omega arith)
words-at (h ∷ []) i lt = absurd (omega arith)
words-at (h ∷ l ∷ rest) zero lt = refl
words-at (h ∷ l ∷ rest) (suc i) lt =
    let high : 2 * suc i ≡ suc (suc (2 * i)) = omega arith in
    let low : 2 * suc i + 1 ≡ suc (suc (2 * i + 1)) = omega arith in
    words-at rest i (omega arith) ∙ sym (λ k. 256 * get_or (h ∷ l ∷ rest) (high k) 0 + get_or (h ∷ l ∷ rest) (low k) 0)

pub length-words : (row : List ℕ) → length (words row) ≡ length row / 2
length-words [] = refl
length-words (h ∷ []) = refl
length-words (h ∷ l ∷ rest) = omega (arith, length-words rest)

-- what reading all samples at once gives
abbrev pub outcome : Bool → Bool → List ℕ → List ℕ → Result (List ℕ × List ℕ) PpmFault
outcome above fits s rest = cond above (Err SampleAbove) (cond fits (Ok (s, rest)) (Err Truncated))

abbrev tested : Bool → ℕ × List ℕ → Result (ℕ × List ℕ) PpmFault
tested above sample = cond above (Err SampleAbove) (Ok sample)

one_more : (above any fits : Bool) (v : ℕ) (rest s end : List ℕ) (read : List ℕ → Result (List ℕ × List ℕ) PpmFault) → read rest ≡ outcome any fits s end
    → (tested above (v, rest) >>= (λ sample. read sample.1 >>= (λ others. Ok (sample.0 ∷ others.0, others.1)))) ≡ outcome (above || any) fits (v ∷ s) end
one_more true any fits v rest s end read e = refl
one_more false true fits v rest s end read e = ap (λ r. r >>= (λ others. Ok (v ∷ others.0, others.1))) e
one_more false false true v rest s end read e = ap (λ r. r >>= (λ others. Ok (v ∷ others.0, others.1))) e
one_more false false false v rest s end read e = ap (λ r. r >>= (λ others. Ok (v ∷ others.0, others.1))) e

-- a sample of one byte
byte_more : (m : ℕ) (b : Bool) (c : ℕ) (rest : List ℕ) → ltb m 256 ≡ b → b ≡ true → (cond (ltb m 256) (byte_at (c ∷ rest)) (word_at (c ∷ rest)) >>= at_most m) ≡ tested (ltb m c) (c, rest)
byte_more m b c rest e f = ap (λ v. cond v (byte_at (c ∷ rest)) (word_at (c ∷ rest)) >>= at_most m) (e ∙ f)

bytes_at : (m : ℕ) → ltb m 256 ≡ true → (last : Bool) (n : ℕ) (text : List ℕ) → samples_at Raw m last n text ≡ outcome (list_any (ltb m) (take n text)) (leb n (length text)) (take n text) (drop n text)
bytes_at m small last zero text = ap (λ f. outcome false f [] text) (sym (leb-zero (length text)))
bytes_at m small last (suc n) [] =
    ap (λ v. (cond v (byte_at []) (word_at []) >>= at_most m) >>= (λ sample. samples_at Raw m last n sample.1 >>= (λ others. Ok (sample.0 ∷ others.0, others.1)))) small
    ∙ ap (λ f. outcome false f [] []) (sym (leb-suc-zero n))
bytes_at m small last (suc n) (b ∷ rest) =
    ap (λ r. r >>= (λ sample. samples_at Raw m last n sample.1 >>= (λ others. Ok (sample.0 ∷ others.0, others.1)))) (byte_more m true b rest small refl)
    ∙ one_more (ltb m b) _ (leb n (length rest)) b rest (take n rest) (drop n rest) (samples_at Raw m last n) (bytes_at m small last n rest)
    ∙ ap (λ f. outcome (list_any (ltb m) (b ∷ take n rest)) f (b ∷ take n rest) (drop n rest)) (sym (leb-suc-suc n (length rest)))

-- samples of two bytes
words_at : (m : ℕ) → ltb m 256 ≡ false → (last : Bool) (n : ℕ) (text : List ℕ)
    → samples_at Raw m last n text ≡ outcome (list_any (ltb m) (words (take (2 * n) text))) (leb (2 * n) (length text)) (words (take (2 * n) text)) (drop (2 * n) text)
words_at m large last zero text = ap (λ f. outcome false f [] text) (sym (leb-zero (length text)))
words_at m large last (suc n) [] =
    let e : 2 * suc n ≡ suc (suc (2 * n)) = omega arith in
    ap (λ v. (cond v (byte_at []) (word_at []) >>= at_most m) >>= (λ sample. samples_at Raw m last n sample.1 >>= (λ others. Ok (sample.0 ∷ others.0, others.1)))) large
    ∙ ap (λ f. outcome false f [] []) (sym (leb-suc-zero (suc (2 * n))))
    ∙ sym (ap (λ k. outcome (list_any (ltb m) (words (take k []))) (leb k 0) (words (take k [])) (drop k [])) e)
words_at m large last (suc n) (h ∷ []) =
    let e : 2 * suc n ≡ suc (suc (2 * n)) = omega arith in
    ap (λ v. (cond v (byte_at (h ∷ [])) (word_at (h ∷ [])) >>= at_most m) >>= (λ sample. samples_at Raw m last n sample.1 >>= (λ others. Ok (sample.0 ∷ others.0, others.1)))) large
    ∙ ap (λ f. outcome false f [] []) (sym (leb-suc-zero (2 * n)) ∙ sym (leb-suc-suc (suc (2 * n)) 0))
    ∙ sym (ap (λ k. outcome (list_any (ltb m) (words (take k (h ∷ [])))) (leb k 1) (words (take k (h ∷ []))) (drop k (h ∷ []))) e)
words_at m large last (suc n) (h ∷ l ∷ rest) =
    let e : 2 * suc n ≡ suc (suc (2 * n)) = omega arith in
    let v : ℕ = 256 * h + l in
    let s : List ℕ = words (take (2 * n) rest) in
    let end : List ℕ = drop (2 * n) rest in
    ap (λ v. (cond v (byte_at (h ∷ l ∷ rest)) (word_at (h ∷ l ∷ rest)) >>= at_most m) >>= (λ sample. samples_at Raw m last n sample.1 >>= (λ others. Ok (sample.0 ∷ others.0, others.1)))) large
    ∙ one_more (ltb m v) _ (leb (2 * n) (length rest)) v rest s end (samples_at Raw m last n) (words_at m large last n rest)
    ∙ ap (λ f. outcome (list_any (ltb m) (v ∷ s)) f (v ∷ s) end) (sym (leb-suc-suc (2 * n) (length rest)) ∙ sym (leb-suc-suc (suc (2 * n)) (suc (length rest))))
    ∙ sym (ap (λ k. outcome (list_any (ltb m) (words (take k (h ∷ l ∷ rest)))) (leb k (suc (suc (length rest)))) (words (take k (h ∷ l ∷ rest))) (drop k (h ∷ l ∷ rest))) e)

-- all samples at once
abbrev pub all_at : ℕ → ℕ → List ℕ → Result (List ℕ × List ℕ) PpmFault
all_at m n text =
    let k = sample_length m * n in
    outcome (list_any (ltb m) (raw_samples m (take k text))) (leb k (length text)) (raw_samples m (take k text)) (drop k text)

by_length : (m : ℕ) (b : Bool) → ltb m 256 ≡ b → (last : Bool) (n : ℕ) (text : List ℕ)
    → samples_at Raw m last n text ≡ outcome (list_any (ltb m) (cond b (take (cond b 1 2 * n) text) (words (take (cond b 1 2 * n) text)))) (leb (cond b 1 2 * n) (length text)) (cond b (take (cond b 1 2 * n) text) (words (take (cond b 1 2 * n) text))) (drop (cond b 1 2 * n) text)
by_length m true e last n text =
    let one : n ≡ 1 * n = omega arith in bytes_at m e last n text ∙ ap (λ k. outcome (list_any (ltb m) (take k text)) (leb k (length text)) (take k text) (drop k text)) one
by_length m false e last n text = words_at m e last n text

pub samples_at-raw : (m : ℕ) (last : Bool) (n : ℕ) (text : List ℕ) → samples_at Raw m last n text ≡ all_at m n text
samples_at-raw m last n text = by_length m (ltb m 256) refl last n text

length_by : (b : Bool) (n : ℕ) (row : List ℕ) → length row ≡ cond b 1 2 * n → length (cond b row (words row)) ≡ n
length_by true n row e = omega arith
length_by false n row e = omega (arith, length-words row)

-- how many samples a whole row has
pub length-raw_samples : (m n : ℕ) (row : List ℕ) → length row ≡ sample_length m * n → length (raw_samples m row) ≡ n
length-raw_samples m n row e = length_by (ltb m 256) n row e

le_by : (b : Bool) (row : List ℕ) → length (cond b row (words row)) ≤ length row
le_by true row = omega arith
le_by false row = omega (arith, length-words row)

pub length-raw_samples-le : (m : ℕ) (row : List ℕ) → length (raw_samples m row) ≤ length row
length-raw_samples-le m row = le_by (ltb m 256) row

inside_by : (b : Bool) (row : List ℕ) (i : ℕ) → b ≡ false → i < length (cond b row (words row)) → 2 * i + 1 < length row
inside_by true row i e lt = cc
inside_by false row i e lt = omega (arith, length-words row)

-- the bytes of a word are inside its row
pub word_inside : (m : ℕ) (row : List ℕ) (i : ℕ) → 256 ≤ m → i < length (raw_samples m row) → 2 * i + 1 < length row
word_inside m row i large lt = inside_by (ltb m 256) row i (le-ltb m 256 large) lt
