use Rattle.std.proofs.Common.{◌≡◌, ℕ, List, ◌++◌, length, drop, ap, ◌∙◌}
use lib.ListN.{replicate}
use Rattle.std.proofs.lemmas.List.{drop-replicate}
use Rattle.journal_lines.specs.Keys.{padded}
use Rattle.journal_lines.proofs.keys.padded.Goals as goal

from_zeros : (bytes copied : List ℕ) → copied ≡ bytes → copied ++ drop (length bytes) (replicate 120 0) ≡ padded bytes
from_zeros bytes copied same = ap (λ l. l ++ drop (length bytes) (replicate 120 0)) same ∙ ap (λ l. bytes ++ l) (drop-replicate (length bytes) 120 0)

pub returns : goal.returns
returns c = from_zeros c.args.bytes.now _ c.copy_from_slice.ensures.after
