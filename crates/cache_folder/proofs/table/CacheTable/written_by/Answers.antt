use Rattle.std.proofs.Common.{is_some, ap, ◌∙◌}
use Rattle.cache_folder.proofs.table.CacheTable.written_by.Goals as goal

pub unreachable-requires : goal.unreachable-requires
unreachable-requires c = let there = c.edit_of-open.ensures.some (ap is_some (c.edit_of-open.ensures.number ∙ c.requires)) in
    let none = ap is_some c.in-None.ensures.written ∙ there in cc
