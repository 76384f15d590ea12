-- A slice that is filled from a file, piece by piece.
use Rattle.std.proofs.Common.{◌≡◌, ℕ, ◌+◌, ◌-◌, ◌≤◌, ◌<◌, List, ◌++◌, length, take, drop, Some, None, refl, sym, ap, subst, ◌∙◌, arith}
use borrow.Rule.Slice.PartMut.{put_mid}
use Rattle.std.specs.declared.option.Option.{Option}
use Rattle.std.proofs.Math.Seq.{take-add, take-append-add}
use Rattle.std.proofs.lemmas.List.{take-take, length-take-le, length-drop}
use Rattle.std.proofs.lemmas.Slice.{take-put_mid, take-put_mid_below}
use Rattle.outside.specs.Files.{Reads, ReadsFile}
use Rattle.cache_folder.specs.Reading.{Fills, FillsFrom}

-- so many bytes of the file stand at the beginning of the slice
abbrev pub ReadSo : Option (List ℕ) → ℕ → List ℕ → Type 0
ReadSo None at into = at ≡ 0
ReadSo (Some text) at into = (take at into ≡ take at text) × (at ≤ length text)

module _ (at k : ℕ) (into old new : List ℕ) (inside : at ≤ length into) (long : length old ≡ length new) where
  -- the bytes of one more piece
  bytes_more : (text : List ℕ) (count m : ℕ) → take at into ≡ take at text → Reads text at count old new → m ≤ count → take (at + m) (put_mid at k into new) ≡ take (at + m) text
  bytes_more text count m so r le =
      let same : take (at + length new) (put_mid at k into new) ≡ take at into ++ new = take-put_mid at k into new (at + length new) refl inside in
      let front : length (take at into) ≡ at = length-take-le at into inside in
      sym (take-take (at + m) (at + length new) (put_mid at k into new) (omega (arith, le, r.fits, long)))
      ∙ ap (take (at + m)) same
      ∙ ap (λ n. take (n + m) (take at into ++ new)) (sym front)
      ∙ take-append-add (take at into) new m
      ∙ (λ i. so i ++ (sym (take-take m count new le) ∙ ap (take m) r.bytes ∙ take-take m count (drop at text) le) i)
      ∙ sym (take-add at m text)

  pub read_more : (o : Option (List ℕ)) (f : Option ℕ) (count m : ℕ) → f ≡ Some count → ReadsFile o at f old new → ReadSo o at into → m ≤ count → ReadSo o (at + m) (put_mid at k into new)
  read_more None f count m is r so le = let bad : None ≡ Some count = sym r ∙ is in cc
  read_more (Some text) f count m is r so le =
      let now : Reads text at count old new = subst (λ x. ReadsFile (Some text) at x old new) is r in
      (bytes_more text count m so.0 now le, omega (arith, le, now.inside, length-drop at text, so.1))

  pub fill_none : (o : Option (List ℕ)) (f : Option ℕ) → f ≡ None → ReadsFile o at f old new → FillsFrom o None (put_mid at k into new)
  fill_none None f is r = refl
  fill_none (Some text) f is r = absurd (subst (λ x. ReadsFile (Some text) at x old new) is r)

  pub fill_end : (o : Option (List ℕ)) (f : Option ℕ) (count : ℕ) → f ≡ Some count → count ≡ 0 → ReadsFile o at f old new → ReadSo o at into → FillsFrom o (Some at) (put_mid at k into new)
  fill_end None f count is zero' r so = let bad : None ≡ Some count = sym r ∙ is in cc
  fill_end (Some text) f count is zero' r so =
      let now : Reads text at count old new = subst (λ x. ReadsFile (Some text) at x old new) is r in
      record { bytes = take-put_mid_below at k into new at (omega arith) inside ∙ so.0; inside = so.1; full = λ lt. omega (arith, so.1, now.zero zero') }

pub fill_whole : (o : Option (List ℕ)) (at : ℕ) (into : List ℕ) → 0 < length into → length into ≤ at → ReadSo o at into → FillsFrom o (Some at) into
fill_whole None at into some full so = absurd (omega (arith, some, full, so))
fill_whole (Some text) at into some full so = record { bytes = so.0; inside = so.1; full = λ lt. absurd (omega (arith, lt, full)) }
