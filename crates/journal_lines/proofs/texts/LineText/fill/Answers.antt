use Rattle.std.proofs.Common.{◌≡◌, ℕ, ◌+◌, ◌-◌, ◌≤◌, Bool, true, false, nat_le, min, List, ◌++◌, length, length-append, take, refl, sym, ap, ◌∙◌, arith, leb-true, leb-false}
use Rattle.std.proofs.lemmas.List.{take_all}
use Rattle.std.proofs.Math.Seq.{take-append-add}
use Rattle.journal_lines.proofs.texts.LineText.fill.Goals as goal

-- as many bytes as there is room for
filled : (kept bytes new : List ℕ) (count : ℕ) → length kept ≤ 141 → count ≡ min (141 - length kept) (length bytes) → new ≡ kept ++ take count bytes → new ≡ take 141 (kept ++ bytes)
filled kept bytes new count short least is = by (nat_le (length bytes) (141 - length kept)) refl where
  by : (b : Bool) → nat_le (length bytes) (141 - length kept) ≡ b → new ≡ take 141 (kept ++ bytes)
  by true e =
      let fits = leb-true (length bytes) (141 - length kept) e in
      is ∙ ap (λ l. kept ++ l) (take_all count bytes (omega (arith, fits, least))) ∙ sym (take_all 141 (kept ++ bytes) (omega (arith, fits, short, length-append kept bytes)))
  by false e =
      let more = leb-false (length bytes) (141 - length kept) e in
      let all : length kept + count ≡ 141 = omega (arith, more, least, short) in
      is ∙ sym (take-append-add kept bytes count) ∙ ap (λ n. take n (kept ++ bytes)) all

pub returns : goal.returns
returns c = filled c.args.self.now c.args.bytes.now c.push.new.self c.min.result c.bytes.ensures.short (c.min.ensures ∙ ap (λ (l : List ℕ). min (141 - length l) (length c.args.bytes.now)) c.bytes.ensures.bytes) c.push.ensures
