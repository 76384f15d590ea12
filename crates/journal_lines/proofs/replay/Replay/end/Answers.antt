use Rattle.std.proofs.Common.{◌≡◌, ◌<◌, ◌==◌, false, ℕ, List, None, Some, length, refl, sym, ap, subst, ◌∙◌, arith}
use Rattle.std.proofs.lemmas.Bool.{eqb-false}
use Rattle.std.specs.declared.option.Option.{Option}
use Rattle.journal_lines.specs.Journal.{Lacks}
use Rattle.journal_lines.specs.Replay.{ReplayState}
use Rattle.journal_lines.proofs.Pieces.{ends_early, ends_cut}
use Rattle.journal_lines.proofs.replay.Replay.end.Goals as goal

nothing : {A : Type 0} (o : Option A) → ((x : A) → o ≡ Some x → ⊥) → o ≡ None
nothing None h = refl
nothing (Some x) h = absurd (h x refl)

positive : (n : ℕ) → (n == 0) ≡ false → 0 < n
positive n e = omega (arith, eqb-false n 0 e)

pub returns-then-self-lt31 : goal.returns-then-self-lt31
returns-then-self-lt31 c =
    ends_early c.args.self (sym (ap (λ (s : ReplayState). s.fault) c.self.view_is) ∙ nothing c.self.inside.fault c.in_default.not-Some) (subst (λ (s : ReplayState). s.header_read < 31) c.self.view_is c.if-self-lt31.true)

pub returns-else-is_empty : goal.returns-else-is_empty
returns-else-is_empty c =
    ends_cut c.args.self (sym (ap (λ (s : ReplayState). s.fault) c.self.view_is) ∙ nothing c.self.inside.fault c.in_default.not-Some)
    (sym (ap (λ (s : ReplayState). s.header_read) c.self.view_is) ∙ omega (arith, c.if-self-lt31.false, c.self.invariant.header))
    (subst (λ (s : ReplayState). Lacks 10 s.begun) c.self.view_is c.self.invariant.begun)
    (subst (λ (l : List ℕ). 0 < length l) (c.bytes.ensures.bytes ∙ ap (λ (s : ReplayState). s.begun) c.self.view_is) (positive (length c.bytes.result.now) (sym c.is_empty.ensures ∙ c.if-is_empty.false)))
