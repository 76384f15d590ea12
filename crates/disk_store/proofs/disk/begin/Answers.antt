use Rattle.std.proofs.Common.{◌≡◌, Err, Some, None, refl, subst, sym, ap, ◌∙◌}
use Rattle.std.specs.Prelude.{IsErrOf}
use Rattle.disk_lru.specs.declared.refusals.BeginRefused.TheVariants.{Busy}
use Rattle.disk_store.proofs.disk.begin.Goals as goal

pub unreachable-requires : goal.unreachable-requires
unreachable-requires g c =
    let is : c.begin.result ≡ Err (Busy c.in-Err-Busy.field-0-0) = c.in-Err-Busy.is ∙ ap (λ e. Err e) c.in-Err-Busy.field-0-is in
    let busy = (c.begin.ensures.busy c.in-Err-Busy.field-0-0).0 (subst (λ r. IsErrOf r (Busy c.in-Err-Busy.field-0-0)) (sym is) refl) in
    let clash : None ≡ Some c.in-Err-Busy.field-0-0 = sym c.requires.free ∙ busy in
    cc
