use Rattle.std.proofs.Common.{◌≡◌, ℕ, ◌<◌, false, ltb, List, get_or, sym, ap, ◌∙◌, arith}
use Rattle.std.specs.List.{list_any}
use Rattle.ppm_read.specs.Raw.{raw_samples}
use Rattle.ppm_read.proofs.Samples.{no_byte_above, no_word_above}
use Rattle.ppm_read.proofs.raw.has_above.Goals as goal

no_byte : (m : ℕ) (row : List ℕ) → m ≡ 255 → ((i : ℕ) → get_or row i 0 < 256) → false ≡ list_any (ltb m) (raw_samples m row)
no_byte m row e small = sym (ap (λ m. list_any (ltb m) (raw_samples m row)) e ∙ no_byte_above row small)

no_word : (m : ℕ) (row : List ℕ) → m ≡ 65535 → ((i : ℕ) → get_or row i 0 < 256) → false ≡ list_any (ltb m) (raw_samples m row)
no_word m row e small = sym (ap (λ m. list_any (ltb m) (raw_samples m row)) e ∙ no_word_above row small)

pub returns-then-maximum-eq255 : goal.returns-then-maximum-eq255
returns-then-maximum-eq255 c = no_byte c.args.maximum c.args.row.now c.if-maximum-eq255.true (λ i. omega (arith, c.type_inv.row i))

pub returns-then-maximum-eq65535 : goal.returns-then-maximum-eq65535
returns-then-maximum-eq65535 c = no_word c.args.maximum c.args.row.now c.if-maximum-eq65535.true (λ i. omega (arith, c.type_inv.row i))
