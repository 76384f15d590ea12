use Rattle.std.proofs.Common.{◌≡◌, ℕ, ◌+◌, ◌-◌, ◌≤◌, List, ◌++◌, length, take, drop, ap, sym, subst, ◌∙◌, arith}
use Rattle.std.specs.Prelude.{replicate}
use Rattle.std.proofs.lemmas.List.{take-append-le, take_all, take_min, drop_min, drop-replicate, length-append, length-drop, length-replicate, length-take-le}
use Rattle.std.proofs.Math.Nat.{min-le_left, min-le_right}
use Rattle.engine_core.proofs.tables.piece_of.Goals as goal

-- what was copied over the beginning of zeros
zeros_after : (copied : List ℕ) (n : ℕ) → length copied ≡ n → copied ++ drop n (replicate 4096 0) ≡ take n (copied ++ drop n (replicate 4096 0)) ++ replicate (4096 - n) 0
zeros_after copied n long =
    let told : take n (copied ++ drop n (replicate 4096 0)) ≡ copied = take-append-le n copied _ (omega (arith, long)) ∙ take_all n copied (omega (arith, long)) in
    ap (λ l. copied ++ l) (drop-replicate n 4096 0) ∙ ap (λ l. l ++ replicate (4096 - n) 0) (sym told)

size_with : (copied : List ℕ) (n : ℕ) → length copied ≡ n → n ≤ 4096 → length (copied ++ drop n (replicate 4096 0)) ≡ 4096
size_with copied n long most =
    length-append copied (drop n (replicate 4096 0)) ∙ ap (λ l. length copied + length l) (drop-replicate n 4096 0)
    ∙ ap (λ m. length copied + m) (length-replicate (4096 - n) 0) ∙ omega (arith, long, most)

pub returns-clause-padded : goal.returns-clause-padded
returns-clause-padded c =
    let s : List ℕ = c.args.stored.now in
    let a : ℕ = c.min.result in
    let r : List ℕ = take (length s - a) (drop a s) in
    let n : ℕ = c.min-count.result in
    let fits : n ≤ length r = subst (λ m. m ≤ length r) (sym c.min-count.ensures) (min-le_right 4096 (length r)) in
    let long : length c.copy_from_slice.new.self ≡ n = ap length c.copy_from_slice.ensures.after ∙ length-take-le n r fits in
    let most : n ≤ 4096 = subst (λ m. m ≤ 4096) (sym c.min-count.ensures) (min-le_left 4096 (length r)) in
    record {
      size = size_with c.copy_from_slice.new.self n long most;
      count = most;
      zeros = zeros_after c.copy_from_slice.new.self n long;
    }

pub returns-clause-bytes : goal.returns-clause-bytes
returns-clause-bytes c =
    let s : List ℕ = c.args.stored.now in
    let a : ℕ = c.min.result in
    let r : List ℕ = take (length s - a) (drop a s) in
    let n : ℕ = c.min-count.result in
    let new : List ℕ = c.copy_from_slice.new.self in
    let whole : take (length s - a) (drop a s) ≡ drop a s = take_all (length s - a) (drop a s) (omega (arith, length-drop a s)) in
    let fits : n ≤ length r = subst (λ m. m ≤ length r) (sym c.min-count.ensures) (min-le_right 4096 (length r)) in
    let after : c.copy_from_slice.new.self ≡ take c.min-count.result (take (length c.args.stored.now - c.min.result) (drop c.min.result c.args.stored.now)) = c.copy_from_slice.ensures.after in
    let long : length new ≡ n = ap length after ∙ length-take-le n r fits in
    take-append-le n new _ (omega (arith, long)) ∙ take_all n new (omega (arith, long)) ∙ after ∙ ap (λ m. take m r) c.min-count.ensures ∙ take_min 4096 r
    ∙ ap (take 4096) (whole ∙ ap (λ m. drop m s) c.min.ensures ∙ drop_min c.args.at s)
