use Rattle.std.proofs.Common.{◌≡◌, ◌≤◌, ℕ, ◌+◌, ◌<◌, ◌^◌, List, ◌++◌, ◌∷◌, [], length, length-append, ap, ◌∙◌, arith}
use Rattle.std.specs.Fmt.{decimal}
use Rattle.std.proofs.lemmas.Fmt.{length-decimal-le}
use Rattle.journal_lines.proofs.texts.clean.Goals as goal

-- a length below 2^40 has at most 13 digits
digits_fit : (n : ℕ) → n < 2 ^ 40 → length (decimal n) ≤ 13
digits_fit n small = length-decimal-le 13 n (omega arith) (omega (arith, small)) (omega (arith, small))

-- a front, a space and the digits
fits : (front text digits : List ℕ) (n : ℕ) → n < 2 ^ 40 → length front ≤ 126 → text ≡ front ++ 32 ∷ [] → digits ≡ decimal n → length text + length digits ≤ 140
fits front text digits n small short is written =
    omega (arith, short, digits_fit n small, ap length is ∙ length-append front (32 ∷ []), ap length written)

pub push-requires-2 : goal.push-requires-2
push-requires-2 c = omega (arith, fits c.keyed-text.result c.push.new.self c.as_bytes.result.now c.args.size c.requires c.keyed-text.ensures.short c.push.ensures (c.as_bytes.ensures.value ∙ c.format.ensures.text))

pub returns-clause-short : goal.returns-clause-short
returns-clause-short c =
    omega (arith, ap length c.push-2.ensures ∙ length-append c.push.new.self c.as_bytes.result.now, fits c.keyed-text.result c.push.new.self c.as_bytes.result.now c.args.size c.requires c.keyed-text.ensures.short c.push.ensures (c.as_bytes.ensures.value ∙ c.format.ensures.text))
