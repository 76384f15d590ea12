use Rattle.std.proofs.Common.{◌≡◌, Some, refl, sym, ap, subst, ◌∙◌, IsSome}
use Rattle.std.specs.FinMap.{get, insert}
use Rattle.std.proofs.lemmas.Result.{on_ok_weaker, on_err_weaker}
use Rattle.std.proofs.lemmas.Map.Steps.{set_value_same}
use Rattle.outside.specs.Stored.{folder_of}
use Rattle.outside.proofs.Folders.{last_appended, last_appended_none}
use Rattle.outside.proofs.Entries.{get-folder_of, folder_put}
use Rattle.outside.proofs.stored.extend.Goals as goal

pub returns-in_default-clause-ok : goal.returns-in_default-clause-ok
returns-in_default-clause-ok c =
    ap (λ m. folder_of m.entries) c.get_mut.follows.holds-at-none
    ∙ sym (last_appended_none (folder_of c.args.files.now.entries) c.args.name.now c.args.bytes.now (get-folder_of _ _ ∙ sym (c.in_default.ensures).value))

held : (c : goal.After-files-2-1) → get (folder_of c.args.files.now.entries) c.args.name.now ≡ Some c.in-Some.file.now
held c = get-folder_of _ _ ∙ sym (c.in-Some.ensures).value

pub returns-clause-ok : goal.returns-clause-ok
returns-clause-ok c =
    on_ok_weaker c.extend.result (λ longer.
    folder_put _ _ c.args.name.now c.extend.new.self (λ q. ((c.get_mut.follows.holds c.extend.new.self).3 (subst IsSome (c.in-Some.ensures).value refl)).0 q)
    ∙ ap (insert (folder_of c.args.files.now.entries) c.args.name.now) longer
    ∙ sym (last_appended (folder_of c.args.files.now.entries) c.args.name.now c.in-Some.file.now c.args.bytes.now (held c))) c.extend.ensures.ok

pub returns-clause-err : goal.returns-clause-err
returns-clause-err c =
    on_err_weaker c.extend.result (λ same.
    (c.get_mut.follows.holds c.extend.new.self).0 ∙ set_value_same _ c.args.files.now.entries c.extend.new.self (sym (c.in-Some.ensures).value ∙ ap (λ b. Some b) (sym same))) c.extend.ensures.err
