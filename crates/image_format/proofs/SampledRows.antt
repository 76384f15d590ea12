-- A bitmap that is filled with the rows of a sampled picture.
use Rattle.std.proofs.Common.{◌≡◌, ℕ, ◌+◌, true, false, List, [], ◌∷◌, ◌++◌, refl, sym, ap, subst, ◌∙◌, arith, append_assoc, zero-add}
use Rattle.std.specs.List.{flat_map, range_with_len}
use Rattle.std.proofs.lemmas.List.{append-nil, map-id}
use Rattle.std.proofs.lemmas.List.Concat.{flat_map-append}
use Rattle.std.proofs.lemmas.List.FromFn.{map-range_with_len_more}
use Rattle.bitmap_kind.specs.Picture.{Picture}
use Rattle.sampling.specs.Sampled.{sampled_side, sampled_row}
use Rattle.sampling.specs.BoxValue.{BoxValue, Holds}
use Rattle.image_format.specs.inside.Filled.{IsBitmap, IsFilled, IsFresh, IsSampled, PushesRow}
use Rattle.image_format.proofs.Filling.{filled_none}

-- one piece more of a list that is made of pieces
pieces_more : (f : ℕ → List ℕ) (a n : ℕ) → flat_map f (range_with_len a (n + 1)) ≡ flat_map f (range_with_len a n) ++ f (a + n)
pieces_more f a n =
    let more : range_with_len a (n + 1) ≡ range_with_len a n ++ (a + n) ∷ [] =
    sym (map-id (range_with_len a (n + 1))) ∙ map-range_with_len_more (λ x. x) a n (a + n) refl ∙ ap (λ xs. xs ++ (a + n) ∷ []) (map-id (range_with_len a n)) in
    ap (flat_map f) more ∙ flat_map-append f (range_with_len a n) ((a + n) ∷ []) ∙ ap (λ xs. flat_map f (range_with_len a n) ++ xs) (append-nil (f (a + n)))

-- the first rows of the sampled picture
abbrev pub first_rows : BoxValue → List ℕ → ℕ → List ℕ
first_rows boxes pixels rows = flat_map (sampled_row boxes.width boxes.height boxes.sample pixels) (range_with_len 0 rows)

-- before the first row
pub sampled_none : (boxes : BoxValue) (picture : Picture) (rest : List ℕ) → IsFresh boxes → IsBitmap picture
    → picture.width ≡ sampled_side boxes.width boxes.sample → picture.height ≡ sampled_side boxes.height boxes.sample → IsSampled boxes picture [] rest
sampled_none boxes picture rest fresh bitmap wide high = record {
  wide = wide;
  high = high;
  open_ = fresh.open_;
  holds = fresh.holds;
  last = λ all. absurd (omega (arith, fresh.pushed, fresh.high));
  filled = subst (λ (n : ℕ). IsFilled picture n (first_rows boxes rest n)) (sym fresh.given) (filled_none picture bitmap);
}

-- a row was pushed, and so many rows were given
module _ (old next : BoxValue) (count : ℕ) (picture new : Picture) (pixels row rest : List ℕ) (before : IsSampled old picture pixels (row ++ rest)) (pushes : PushesRow old next count)
    (holds : Holds next (pixels ++ row)) (last : old.pushed + 1 ≡ old.height → old.given + count ≡ sampled_side old.height old.sample)
    (wide : new.width ≡ picture.width) (high : new.height ≡ picture.height)
    (filled : IsFilled new (old.given + count) (first_rows old (pixels ++ (row ++ rest)) (old.given + count))) where
  pub sampled_more : IsSampled next new (pixels ++ row) rest
  sampled_more =
      let is : BoxValue = record old { pushed = old.pushed + 1; given = old.given + count; full = false; sums = next.sums } in
      let now : IsSampled is new (pixels ++ row) rest = record {
        wide = wide ∙ before.wide;
        high = high ∙ before.high;
        open_ = refl;
        holds = subst (λ (b : BoxValue). Holds b (pixels ++ row)) pushes holds;
        last = last;
        filled = subst (λ (l : List ℕ). IsFilled new (old.given + count) (first_rows old l (old.given + count))) (sym (append_assoc pixels row rest)) filled;
      } in
      subst (λ (b : BoxValue). IsSampled b new (pixels ++ row) rest) (sym pushes) now

-- a row after which one waits, and that one put below the others
pub sampled_given : (old mid next : BoxValue) (picture new : Picture) (y : ℕ) (pixels row rest into : List ℕ)
    → mid ≡ record old { pushed = old.pushed + 1; full = true; sums = mid.sums }
    → next ≡ record mid { given = mid.given + 1; full = false; sums = next.sums }
    → ((p : List ℕ) → Holds old p → Holds mid (p ++ row))
    → ((p r : List ℕ) → Holds mid p → into ≡ sampled_row mid.width mid.height mid.sample (p ++ r) mid.given)
    → ((p : List ℕ) → Holds mid p → Holds next p)
    → (old.pushed + 1 ≡ old.height → old.given + 1 ≡ sampled_side old.height old.sample)
    → new.width ≡ picture.width → new.height ≡ picture.height
    → ((p : List ℕ) → IsFilled picture y p → IsFilled new (y + 1) (p ++ into))
    → y ≡ old.given
    → IsSampled old picture pixels (row ++ rest) → IsSampled next new (pixels ++ row) rest
sampled_given old mid next picture new y pixels row rest into state after push gives keeps last wide high put at before =
    let all : List ℕ = pixels ++ (row ++ rest) in
    let held : Holds mid (pixels ++ row) = push pixels before.holds in
    let pushes : PushesRow old next 1 = after ∙ (λ i. record (state i) { given = (state i).given + 1; full = false; sums = next.sums }) in
    let row_is : into ≡ sampled_row old.width old.height old.sample all (0 + old.given) =
    gives (pixels ++ row) rest held
    ∙ (λ i. sampled_row (state i).width (state i).height (state i).sample (append_assoc pixels row rest i) (state i).given)
    ∙ ap (sampled_row old.width old.height old.sample all) (sym (zero-add old.given)) in
    let there : IsFilled picture y (first_rows old all old.given) = subst (λ (n : ℕ). IsFilled picture n (first_rows old all old.given)) (sym at) before.filled in
    let rows : first_rows old all old.given ++ into ≡ first_rows old all (old.given + 1) =
    ap (λ l. first_rows old all old.given ++ l) row_is ∙ sym (pieces_more (sampled_row old.width old.height old.sample all) 0 old.given) in
    let filled : IsFilled new (old.given + 1) (first_rows old all (old.given + 1)) = subst (λ (n : ℕ). IsFilled new n (first_rows old all (old.given + 1))) (ap (λ n. n + 1) at)
    (subst (λ (l : List ℕ). IsFilled new (y + 1) l) rows (put (first_rows old all old.given) there)) in
    sampled_more old next 1 picture new pixels row rest before pushes (keeps (pixels ++ row) held) last wide high filled
