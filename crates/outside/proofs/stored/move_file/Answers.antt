use Rattle.std.proofs.Common.{◌≡◌, ℕ, List, None, Ok, Err, Result, OnOk, OnErr, IsSome, sym, ap, subst, ◌∙◌}
use Rattle.std.specs.FinMap.{get, insert}
use Rattle.outside.specs.Stored.{folder_of}
use Rattle.outside.proofs.Folders.{gone_other, cut_none, last_renamed, last_renamed_none}
use Rattle.outside.proofs.stored.move_file.Goals as goal

-- where the error cannot be
settled : {T E A B : Type 0} (r : Result T E) → OnOk r A → OnErr r B → (B → ⊥) → A
settled (Ok x) a b never = a
settled (Err e) a b never = absurd (never b)

to_stays : (c : goal.After-put) → get (folder_of c.forget.new.files.entries) c.args.to.now ≡ None → ⊥
to_stays c none =
    let there : get (folder_of c.args.files.now.entries) c.args.to.now ≡ None = sym (gone_other (folder_of c.args.files.now.entries) c.args.from.now c.args.to.now c.requires.apart) ∙ ap (λ g. get g c.args.to.now) (sym c.forget.ensures.folder) ∙ none in
    let held : IsSome {T = List ℕ} None = subst IsSome there c.requires.to_held in
    cc

pub returns-in-Some : goal.returns-in-Some
returns-in-Some c =
    settled c.put.result c.put.ensures.ok c.put.ensures.absent (to_stays c)
    ∙ ap (λ g. insert g c.args.to.now c.in-Some.bytes) c.forget.ensures.folder
    ∙ sym (last_renamed (folder_of c.args.files.now.entries) c.args.from.now c.args.to.now c.in-Some.bytes (sym (c.in-Some.ensures).found))

pub returns-in_default : goal.returns-in_default
returns-in_default c =
    let none = sym (c.in_default.ensures).found in
    c.forget.ensures.folder ∙ cut_none (folder_of c.args.files.now.entries) c.args.from.now none ∙ sym (last_renamed_none (folder_of c.args.files.now.entries) c.args.from.now c.args.to.now none)
