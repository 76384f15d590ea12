use Rattle.std.proofs.Common.{ℕ, ◌<◌, ◌^◌, List, length, sym, subst}
use Rattle.cache_key.specs.FileKey.{file_key}
use Rattle.store_shared.specs.Caller.{knowledge_of, content_of}
use Rattle.store_shared.proofs.Knowing.{may_write}
use Rattle.store_shared.proofs.storing.write.Goals as goal

pub step-requires : goal.step-requires
step-requires g c =
    let caller = g.S.StoreSteps.caller c.args.steps.now in
    let short = subst (λ (file : List ℕ). length file < 2 ^ 40) (sym c.new.ensures) c.requires.length in
    record { asks = may_write (knowledge_of caller) (file_key c.args.bytes.now) (content_of caller) c.new.result c.requires.editing short }
