-- Contents that files passed through, one call after the other.
use Rattle.std.proofs.Common.{◌≡◌, List, [], ◌∷◌, ◌++◌, Some, Option, refl, ap, sym, subst, ◌∙◌, append_assoc}
use Rattle.std.specs.List.{AllByRecursion}
use Rattle.outside.specs.Files.{Folder, FolderHistory, last_of, passed_through}
use Rattle.cache_folder.specs.Images.{Runs}

last_append : (f : Folder) (xs ys : List Folder) → last_of f (xs ++ ys) ≡ last_of (last_of f xs) ys
last_append f [] ys = refl
last_append f (x ∷ xs) ys = last_append x xs ys

passed_append : (h : FolderHistory) (xs ys : List Folder) → passed_through ys (passed_through xs h) ≡ passed_through (xs ++ ys) h
passed_append h xs ys =
    ap (λ (f : Folder). (let k : FolderHistory = record { held = f; images = (h.images ++ xs) ++ ys } in k)) (sym (last_append h.held xs ys))
    ∙ ap (λ (l : List Folder). (let k : FolderHistory = record { held = last_of h.held (xs ++ ys); images = l } in k)) (append_assoc h.images xs ys)

all_append : (P : Folder → Type 0) (xs ys : List Folder) → AllByRecursion P xs → AllByRecursion P ys → AllByRecursion P (xs ++ ys)
all_append P [] ys a b = b
all_append P (x ∷ xs) ys a b = (a.0, all_append P xs ys a.1 b)

pub runs_join : (P : Folder → Type 0) (h : FolderHistory) (old new : Option FolderHistory) → Runs P h old → ((k : FolderHistory) → old ≡ Some k → Runs P k new) → Runs P h new
runs_join P h old new a next =
    let b = next (passed_through a.contents h) a.after_is in
    record {
      contents = a.contents ++ b.contents;
      after_is = b.after_is ∙ ap (λ (k : FolderHistory). Some k) (passed_append h a.contents b.contents);
      each = all_append P a.contents b.contents a.each b.each;
      here = subst P (sym (last_append h.held a.contents b.contents)) b.here;
    }
