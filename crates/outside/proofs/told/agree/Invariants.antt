use Rattle.std.proofs.Common.{◌≡◌, map, drop}
use Rattle.outside.specs.inside.Agreeing.{agreed_from}
use Rattle.outside.proofs.told.agree.Given as goal

-- what the sources leave that the loop has not passed is what all of them leave
abbrev pub invariant-loop-source : goal.invariant-loop-source
invariant-loop-source g l =
    agreed_from l.content.value (map g.S.Source.content (drop l.source-index l.sources))
    ≡ agreed_from l.initial.content.value (map g.S.Source.content l.sources)
