-- A row added to the lanes, block by block.
use Rattle.std.proofs.Common.{◌≡◌, ℕ, ◌+◌, ◌*◌, ◌<◌, ◌≤◌, List, length, get_or, take, drop, get_or-take, get_or-drop, length-take, sym, ap₂, ◌∙◌, refl, subst, inl, inr, arith, rules}
use Rattle.std.proofs.lemmas.List.{places, get_or_past}
use Rattle.std.proofs.lemmas.Bool.{cases_lt}
use borrow.Rule.Slice.PartMut.{put_mid}
use Rattle.sampling.specs.Lanes.{line_sum, AddsBlock, AddsRow}
use Rattle.sampling.proofs.LineSums.{line_sum-part}

-- the blocks before x have grown by their sums, and the lanes from block x on are as they were
pub record RowSoFar (old now row : List ℕ) (columns x : ℕ) : Type 0 where
  pub size : length now ≡ length old
  pub done : (y channel : ℕ) → y < x → channel < 4
      → get_or now (4 * y + channel) 0 ≡ get_or old (4 * y + channel) 0 + line_sum row (columns * y) columns channel
  pub rest : (k : ℕ) → 4 * x ≤ k → get_or now k 0 ≡ get_or old k 0

-- what stands at a place after a write to a part
put_before : (xs ys : List ℕ) (a k j : ℕ) → j < a → a ≤ length xs → get_or (put_mid a k xs ys) j 0 ≡ get_or xs j 0
put_before xs ys a k j below fits = search (rules, places)

put_inside : (xs ys : List ℕ) (a k j : ℕ) → j < length ys → a ≤ length xs → get_or (put_mid a k xs ys) (a + j) 0 ≡ get_or ys j 0
put_inside xs ys a k j below fits = search (rules, places)

put_after : (xs ys : List ℕ) (a k j : ℕ) → a + k ≤ j → length ys ≡ k → a + k ≤ length xs → get_or (put_mid a k xs ys) j 0 ≡ get_or xs j 0
put_after xs ys a k j above size fits = search (rules, places)

length-put : (xs ys : List ℕ) (a k : ℕ) → length ys ≡ k → a + k ≤ length xs → length (put_mid a k xs ys) ≡ length xs
length-put xs ys a k size fits = search (rules, places)

pub row_none : (old row : List ℕ) (columns : ℕ) → RowSoFar old old row columns 0
row_none old row columns = record { size = refl; done = λ y channel below low. absurd (omega arith); rest = λ k above. refl }

-- one block more
module _ (old now lanes row : List ℕ) (columns blocks x k n at : ℕ) (before : RowSoFar old now row columns x) (block : AddsBlock (take k (drop (4 * x) now)) lanes (take n (drop at row)) columns)
    (lanes_size : length old ≡ 4 * blocks) (inside : x < blocks) (four : k ≡ 4) (block_size : n ≡ 4 * columns) (place : at ≡ 4 * (columns * x)) where
  lanes_four : length lanes ≡ 4
  lanes_four = block.size ∙ search (rules, places)

  pub row_more : RowSoFar old (put_mid (4 * x) k now lanes) row columns (x + 1)
  row_more =
      let now_size = before.size in
      let fits : 4 * x + k ≤ length now = omega arith in
      let size : length lanes ≡ k = omega (arith, lanes_four) in
      record {
        size = length-put now lanes (4 * x) k size fits ∙ before.size;
        done = λ y channel below low. elim (cases_lt y x) [
          | inl less ↦ put_before now lanes (4 * x) k (4 * y + channel) (omega arith) (omega arith) ∙ before.done y channel less low
          | inr not ↦
              let same : y ≡ x = omega arith in
              let at_x : get_or (put_mid (4 * x) k now lanes) (4 * x + channel) 0 ≡ get_or old (4 * x + channel) 0 + line_sum row (columns * x) columns channel =
              put_inside now lanes (4 * x) k channel (omega arith) (omega arith)
              ∙ block.sums channel low
              ∙ ap₂ ◌+◌ (get_or-take k (drop (4 * x) now) channel 0 (omega arith) ∙ get_or-drop (4 * x) now channel 0 ∙ before.rest (4 * x + channel) (omega arith))
              (line_sum-part row (columns * x) columns n at channel low block_size place) in
              let P : ℕ → Type 0 = λ z. get_or (put_mid (4 * x) k now lanes) (4 * z + channel) 0 ≡ get_or old (4 * z + channel) 0 + line_sum row (columns * z) columns channel in
              subst P (sym same) at_x
        ];
        rest = λ j above. put_after now lanes (4 * x) k j (omega arith) size fits ∙ before.rest j (omega arith);
      }

pub row_all : (old now row : List ℕ) (columns blocks x : ℕ) → RowSoFar old now row columns x → blocks ≤ x → AddsRow old now row columns blocks
row_all old now row columns blocks x before all = record { size = before.size; sums = λ y channel below low. before.done y channel (omega arith) low }

-- the room that is left in the lanes of block x
pub room_at : (old now row : List ℕ) (columns x k width : ℕ) → RowSoFar old now row columns x → ((j : ℕ) → get_or old j 0 + 255 * columns < width) → (j : ℕ) → get_or (take k (drop (4 * x) now)) j 0 + 255 * columns < width
room_at old now row columns x k width before room j = elim (cases_lt j k) [
  | inl less ↦ rw (get_or-take k (drop (4 * x) now) j 0 less, get_or-drop (4 * x) now j 0, before.rest (4 * x + j) (omega arith)) (room (4 * x + j))
  | inr not ↦ rw (get_or_past (take k (drop (4 * x) now)) j 0 (omega (arith, length-take k (drop (4 * x) now)))) (omega (arith, room 0))
]
