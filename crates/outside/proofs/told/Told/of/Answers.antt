use Rattle.std.proofs.Common.{map, subst, sym}
use Rattle.outside.specs.Told.{IsToldBy}
use Rattle.outside.proofs.Agreeing.{told_is}
use Rattle.outside.proofs.told.Told.of.Goals as goal

pub returns : goal.returns
returns c c' =
    let said = map c.S.Source.content c'.args.sources.now in
    subst (λ told. IsToldBy said told) (sym c'.agreed_by.ensures) (told_is said)
