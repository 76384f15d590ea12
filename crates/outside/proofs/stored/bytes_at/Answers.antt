use Rattle.std.proofs.Common.{ℕ, List, Some, sym, ap, ◌∙◌}
use Rattle.std.specs.Option.{option_map}
use Rattle.outside.proofs.Entries.{get-folder_of}
use Rattle.outside.proofs.stored.bytes_at.Goals as goal

pub returns-in_err-file : goal.returns-in_err-file
returns-in_err-file c = ap (option_map (λ bytes. bytes.now)) c.from_residual.ensures ∙ (c.in_err-file.ensures).value ∙ sym (get-folder_of c.args.files.now.entries c.args.name.now)

pub returns : goal.returns
returns c = ap (λ (bytes : List ℕ). Some bytes) c.as_slice.ensures ∙ (c.in_ok-file.ensures).value ∙ sym (get-folder_of c.args.files.now.entries c.args.name.now)
