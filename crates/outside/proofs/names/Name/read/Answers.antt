use Rattle.std.proofs.Common.{◌≡◌, ℕ, ◌+◌, ◌-◌, List, length, take, rules, sym, ap, subst, ◌∙◌, arith}
use Rattle.std.proofs.lemmas.List.{length-append, length-replicate}
use Rattle.std.proofs.Math.Seq.{take-append_seam}
use Rattle.outside.specs.Names.{IsName, padded, KeepsName}
use Rattle.outside.proofs.names.Name.read.Goals as goal

front_is : (bytes : List ℕ) → take (length bytes) (padded bytes) ≡ bytes
front_is bytes = take-append_seam bytes _

is_padded : (bytes kept : List ℕ) → kept ≡ padded bytes → IsName bytes → KeepsName kept (length bytes)
is_padded bytes kept same name = record {
  size = ap length same ∙ length-append bytes _ ∙ ap (λ n. length bytes + n) (length-replicate (128 - length bytes) 0) ∙ omega (arith, name.short);
  fits = name.short;
  zeros = same ∙ ap padded (sym (ap (take (length bytes)) same ∙ front_is bytes));
  name = subst IsName (sym (ap (take (length bytes)) same ∙ front_is bytes)) name;
}

is_name : (c : goal.After-padded) → IsName c.args.bytes.now
is_name c = record { some = search rules; short = c.if-bytes-gt-LONGEST_NAME.false; ascii = λ i. (c.if-not-is_ascii.ensures).cases i }

pub invariant_of-result : goal.invariant_of-result
invariant_of-result c = is_padded c.args.bytes.now _ c.padded.ensures (is_name c)

pub returns-clause-some : goal.returns-clause-some
returns-clause-some c = (ap (take (length c.args.bytes.now)) c.padded.ensures ∙ front_is c.args.bytes.now, is_name c)
