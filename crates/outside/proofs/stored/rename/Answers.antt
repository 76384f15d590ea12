use Rattle.std.proofs.Common.{◌≡◌, ◌≢◌, ℕ, List, [], Some, None, IsSome, is_some, true, not, refl, sym, ap, subst, ◌∙◌}
use Rattle.std.specs.declared.option.Option.{Option}
use Rattle.std.specs.Option.{option_map}
use Rattle.std.specs.FinMap.{get, insert, remove}
use Rattle.outside.specs.Files.{Folder, last_of, renamed}
use Rattle.outside.specs.Stored.{folder_of}
use Rattle.outside.proofs.Folders.{get_same, get_other, put_cut_put, last_renamed, last_renamed_same}
use Rattle.outside.proofs.Entries.{same_names, apart_names}
use Rattle.outside.proofs.stored.rename.Goals as goal

pub returns-then-eq-clause-ok : goal.returns-then-eq-clause-ok
returns-then-eq-clause-ok c = sym (last_renamed_same (folder_of c.args.files.now.entries) c.args.from.now c.args.to.now (same_names _ _ (sym (c.if-eq.ensures))))

-- an empty file at the second name first makes no difference
with_room : (f g h : Folder) (from to : List ℕ) → from ≢ to → g ≡ insert f to [] → h ≡ last_of g (renamed from to g) → (o : Option (List ℕ)) → get f from ≡ o → IsSome o → h ≡ last_of f (renamed from to f)
with_room f g h from to apart room moved None held some = cc
with_room f g h from to apart room moved (Some text) held some =
    moved
    ∙ last_renamed g from to text (ap (λ x. get x from) room ∙ get_other f to [] from apart ∙ held)
    ∙ ap (λ x. insert (remove x from) to text) room
    ∙ put_cut_put f from to [] text
    ∙ sym (last_renamed f from to text held)

-- a file that was put is there
there : (f g : Folder) (to : List ℕ) → g ≡ insert f to [] → IsSome (get g to)
there f g to room = subst (λ x. IsSome (get x to)) (sym room) (subst IsSome (sym (get_same f to [])) refl)

some_of : {A B : Type 0} (f : A → B) (o : Option A) → is_some o ≡ true → IsSome (option_map f o)
some_of f None e = cc
some_of f (Some x) e = refl

pub move_file-requires-clause-to_held : goal.move_file-requires-clause-to_held
move_file-requires-clause-to_held c =
    there (folder_of c.args.files.now.entries) (folder_of c.put.new.files.entries) c.args.to.now ((c.in_ok-put.ensures).ok ∙ ap (insert (folder_of c.args.files.now.entries) c.args.to.now) (c.new-2.ensures ∙ c.new.ensures.items))

pub returns-clause-ok : goal.returns-clause-ok
returns-clause-ok c =
    with_room (folder_of c.args.files.now.entries) (folder_of c.put.new.files.entries) _ c.args.from.now c.args.to.now
    (apart_names _ _ (sym c.eq.ensures ∙ c.if-eq.false))
    ((c.in_ok-put.ensures).ok ∙ ap (insert (folder_of c.args.files.now.entries) c.args.to.now) (c.new-2.ensures ∙ c.new.ensures.items))
    c.move_file.ensures (get (folder_of c.args.files.now.entries) c.args.from.now) refl
    (subst IsSome c.bytes_at.ensures (some_of _ c.bytes_at.result (c.is_none.ensures ∙ ap not c.if-is_none.false)))
