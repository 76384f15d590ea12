use Rattle.std.proofs.Common.{◌≡◌, ℕ, true, ◌+◌, ◌-◌, List, length, take, sym, ap, ◌∙◌, arith}
use Rattle.std.proofs.lemmas.List.{length-append, length-replicate}
use Rattle.std.proofs.Math.Seq.{take-append_seam}
use Rattle.journal_lines.specs.Keys.{is_key, padded, KeepsKey}
use Rattle.journal_lines.proofs.Pieces.{short_key}
use Rattle.journal_lines.proofs.keys.Key.read.Goals as goal

front_is : (bytes : List ℕ) → take (length bytes) (padded bytes) ≡ bytes
front_is bytes = take-append_seam bytes _

kept : (bytes array : List ℕ) → array ≡ padded bytes → is_key bytes ≡ true → KeepsKey array (length bytes)
kept bytes array same key = record {
  size = ap length same ∙ length-append bytes _ ∙ ap (λ n. length bytes + n) (length-replicate (120 - length bytes) 0) ∙ omega (arith, short_key bytes key);
  fits = short_key bytes key;
  zeros = same ∙ ap padded (sym (ap (take (length bytes)) same ∙ front_is bytes));
  key = ap is_key (ap (take (length bytes)) same ∙ front_is bytes) ∙ key;
}

is_read : (c : goal.After-padded) → is_key c.args.bytes.now ≡ true
is_read c = sym (c.if-not-is_key.ensures)

pub invariant_of-result : goal.invariant_of-result
invariant_of-result c = kept c.args.bytes.now _ c.padded.ensures (is_read c)
