-- Tickets as words have them.
use Rattle.std.proofs.Common.{◌≡◌, ℕ, ◌+◌, ◌-◌, ◌%◌, ◌<◌, ◌≤◌, sym, ap, ◌∙◌, ⊎_elim, arith, lit<}
use Rattle.std.proofs.Math.Nat.{mod-lt, mod-le, mod-add-mod, mod-eq_of_lt}
use Rattle.std.proofs.lemmas.Bool.{cases_lt}
use Rattle.atomic_table.proofs.Lists.{one_turn}
use Rattle.turn_lock.specs.inside.Views.{lap, word_of}

pub word-lt : (first t : ℕ) → word_of first t < lap
word-lt first t = mod-lt (first + t) (lit< tt)

-- the next word is that of the next ticket
pub word-next : (first t : ℕ) → (word_of first t + 1) % lap ≡ word_of first (t + 1)
word-next first t = mod-add-mod (first + t) lap 1 ∙ ap (λ n. n % lap) (omega arith)

-- tickets less than a lap apart with one word are one
pub same-ticket : (first a b : ℕ) → a ≤ b → b < a + lap → word_of first a ≡ word_of first b → a ≡ b
same-ticket first a b le lt e = let same = one_turn (first + a) (first + b) lap (omega arith) (omega arith) e in omega (arith, same)

module _ (first known long : ℕ) (le : known ≤ long) where
  -- the least length, not below the known one, that is shown as this one
  abbrev pub least_shown : ℕ
  least_shown = known + (long - known) % lap

  pub least-shown : word_of first long ≡ word_of first least_shown
  least-shown =
      ap (λ n. n % lap) (omega arith)
      ∙ sym (mod-add-mod (long - known) lap (first + known))
      ∙ ap (λ n. n % lap) (omega arith)

  pub least-le : least_shown ≤ long
  least-le = omega (arith, mod-le (long - known) lap)

  pub least-least : (j : ℕ) → known ≤ j → word_of first long ≡ word_of first j → least_shown ≤ j
  least-least j above shown = ⊎_elim
      (λ (lt : j < least_shown). let same = same-ticket first j least_shown (omega arith) (omega (arith, near)) (sym shown ∙ least-shown) in omega (arith, same))
      (λ (ge : least_shown ≤ j). ge)
      (cases_lt j least_shown)
    where
      near : (long - known) % lap < lap
      near = mod-lt (long - known) (lit< tt)

-- the first ticket is shown as the number that words began at
pub word-first : (first : ℕ) → first < lap → first ≡ word_of first 0
word-first first lt = sym (mod-eq_of_lt (omega arith) ∙ omega arith)
