use Rattle.std.proofs.Common.{rules, ◌≡◌, ◌-◌, length, refl, sym, ap, ◌∙◌, arith}
use borrow.Rule.Slice.PartMut.{put_mid}
use Rattle.std.specs.FinMap.{get}
use Rattle.cache_folder.proofs.Filling.{read_more, fill_none, fill_end, fill_whole}
use Rattle.cache_folder.proofs.reading.fill.Goals as goal

pub pieces-preserved : goal.pieces-preserved
pieces-preserved g c =
    let size : length (put_mid c.pieces.at (length c.pieces.into - c.pieces.at) c.pieces.into c.read_at.new.into) ≡ length c.args.into.now = search rules in (
      omega (arith, size, c.pieces.invariant.1, c.min-at.ensures, c.pieces-test.true),
      size,
      c.in_ok-read_at.ensures.same ∙ c.pieces.invariant.2,
      omega (arith, c.in_ok-read_at.ensures.cause.later, c.pieces.invariant.3),
      λ h e. read_more c.pieces.at _ c.pieces.into _ c.read_at.new.into (omega (arith, c.pieces-test.true)) (sym c.read_at.auto.into) (get h.held c.args.name.now) c.in_ok-read_at.field-0 c.in-Some.count c.min-at.result c.in-Some.is
          (c.in_ok-read_at.ensures.bytes h (c.pieces.invariant.2 ∙ e)) (c.pieces.invariant.4 h e) (omega (arith, c.min-at.ensures)),
    )

pub returns-in-None-clause-bytes : goal.returns-in-None-clause-bytes
returns-in-None-clause-bytes g c = λ h e. fill_none c.pieces.at _ c.pieces.into _ c.read_at.new.into (omega (arith, c.pieces-test.true)) (sym c.read_at.auto.into) (get h.held c.args.name.now) c.in_ok-read_at.field-0 c.in-None.is (c.in_ok-read_at.ensures.bytes h (c.pieces.invariant.2 ∙ e))

pub returns-in-Some-eq0-clause-bytes : goal.returns-in-Some-eq0-clause-bytes
returns-in-Some-eq0-clause-bytes g c = λ h e. fill_end c.pieces.at _ c.pieces.into _ c.read_at.new.into (omega (arith, c.pieces-test.true)) (sym c.read_at.auto.into) (get h.held c.args.name.now) c.in_ok-read_at.field-0 c.in-Some-eq0.field-0 c.in-Some-eq0.is c.in-Some-eq0.field-0-test
    (c.in_ok-read_at.ensures.bytes h (c.pieces.invariant.2 ∙ e)) (c.pieces.invariant.4 h e)

pub returns-clause-bytes : goal.returns-clause-bytes
returns-clause-bytes g c = λ h e. fill_whole (get h.held c.args.name.now) c.pieces.at c.pieces.into (omega (arith, c.requires, c.pieces.invariant.1)) (omega (arith, c.pieces-test.false)) (c.pieces.invariant.4 h e)
