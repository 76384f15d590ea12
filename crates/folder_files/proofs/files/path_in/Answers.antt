use Rattle.std.proofs.Common.{subst, sym}
use Rattle.std.specs.Str.{IsAscii}
use Rattle.std.proofs.lemmas.Str.{IsUtf8-from_ascii}
use Rattle.folder_files.proofs.files.path_in.Goals as goal

-- a name is ASCII, and so UTF-8
pub returns-in-Err-clause-path : goal.returns-in-Err-clause-path
returns-in-Err-clause-path c =
    let ascii = subst IsAscii (sym c.bytes-2.ensures.bytes) c.bytes-2.ensures.name.ascii in
    λ path. c.in-Err.ensures.cases.0 (IsUtf8-from_ascii c.bytes-2.result.now ascii)
