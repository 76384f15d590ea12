use Rattle.std.proofs.Common.{◌≡◌, ◌++◌, ◌+◌, List, ℕ, length, take, sym, subst, ap, ◌∙◌, arith}
use Rattle.outside.specs.Names.{IsName}
use Rattle.cache_folder.proofs.names.joined.Goals as goal

both : (front back first second : List ℕ) → take (0 + length front) first ≡ front → take (length front + length back) second ≡ take (length front) first ++ back
    → take (length front + length back) second ≡ front ++ back
both front back first second one two = two ∙ ap (λ l. l ++ back) (ap (λ n. take n first) (omega arith) ∙ one)

pub unreachable-requires : goal.unreachable-requires
unreachable-requires c = c.in-None.ensures.none (subst IsName (sym (both c.args.front.now c.args.back.now c.put.new.array c.put-2.new.array c.put.ensures c.put-2.ensures)) c.requires)
