use Rattle.std.proofs.Common.{take, drop, sym, subst, ap, ◌∙◌, refl, arith}
use Rattle.std.proofs.lemmas.List.{take-append-drop, take_rest}
use Rattle.std.proofs.KnownBytes.{Appends-trans, Appends-kept}
use Rattle.std.specs.Io.KnownBytes.{Appends}
use Rattle.std.proofs.Math.Seq.{take-add}
use Rattle.printed_lines.proofs.Texts.{rose_later, err_is, err_moves, at_err}
use Rattle.printed_lines.proofs.writing.write_all.Goals as goal

pub loop-at-preserved : goal.loop-at-preserved
loop-at-preserved g c =
    let before = c.loop-at.invariant in
    let bytes = c.args.bytes.now in
    let at = c.loop-at.at in
    let wrote = rw (take_rest bytes at) at c.in_ok-at.ensures.bytes in
    record {
      inside = omega (arith, c.in_ok-at.ensures.bound);
      added = subst (Appends (g.W.Sink.written c.args.out.now) (g.W.Sink.written c.write.new.self)) (sym (take-add at c.in_ok-at.field-0 bytes))
          (Appends-trans _ _ _ (take at bytes) (take c.in_ok-at.field-0 (drop at bytes)) before.added wrote);
      flushed = c.in_ok-at.ensures.flushed ∙ before.flushed;
      later = omega (arith, before.later, c.in_ok-at.ensures.cause.later);
    }

pub returns-in_err-at : goal.returns-in_err-at
returns-in_err-at g c =
    let bytes = c.args.bytes.now in
    let at = c.loop-at.at in
    let before = c.loop-at.invariant in
    let same = err_is c.from_residual.result c.from_residual.ensures.1 in
    record {
      prefix = take at bytes;
      rest = drop at bytes;
      parts = sym (take-append-drop at bytes);
      added = Appends-kept _ _ _ _ before.added c.in_err-at.ensures.bytes;
      whole = at_err _ same;
      flushed = c.in_err-at.ensures.flushed ∙ before.flushed;
      cause = record { later = omega (arith, before.later, c.in_err-at.ensures.cause.later); rose = λ e. rose_later _ _ _ before.later (c.in_err-at.ensures.cause.rose (err_moves same e)) };
    }
