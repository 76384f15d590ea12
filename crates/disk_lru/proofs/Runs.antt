-- Runs of calls on files, one after the other.
use Rattle.std.proofs.Common.{◌≡◌, List, [], ◌∷◌, ◌++◌, Some, refl, sym, ap, subst, ◌∙◌, append_assoc, append-nil, unwrap_or}
use Rattle.std.specs.declared.option.Option.{Option}
use Rattle.std.specs.List.{AllByRecursion}
use Rattle.outside.specs.Files.{Folder, FolderHistory, last_of, passed_through}
use Rattle.cache_folder.specs.Images.{Runs, WasKnown}

pub all_append : {V : Type 0} (P : V → Type 0) (xs ys : List V) → AllByRecursion P xs → AllByRecursion P ys → AllByRecursion P (xs ++ ys)
all_append P [] ys h k = k
all_append P (x ∷ xs) ys h k = (h.0, all_append P xs ys h.1 k)

pub weaken : {X : Type 0} (P Q : X → Type 0) → ((x : X) → P x → Q x) → (xs : List X) → AllByRecursion P xs → AllByRecursion Q xs
weaken P Q h [] a = tt
weaken P Q h (x ∷ xs) a = (h x a.0, weaken P Q h xs a.1)

pub last_append : (f : Folder) (xs ys : List Folder) → last_of f (xs ++ ys) ≡ last_of (last_of f xs) ys
last_append f [] ys = refl
last_append f (x ∷ xs) ys = last_append x xs ys

pub same_some : {A : Type 0} (x y : A) → Some x ≡ Some y → x ≡ y
same_some x y e = ap (λ o. unwrap_or o x) e

pub passed_append : (h : FolderHistory) (xs ys : List Folder) → passed_through ys (passed_through xs h) ≡ passed_through (xs ++ ys) h
passed_append h xs ys i = record {
  held = sym (last_append h.held xs ys) i;
  images = append_assoc h.images xs ys i;
}

pub run_none : (P : Folder → Type 0) (h : FolderHistory) (after : Option FolderHistory) → after ≡ Some h → P h.held → Runs P h after
run_none P h after same here = record {
  contents = [];
  after_is = same ∙ ap (λ (x : FolderHistory). Some x) (λ i. record { held = h.held; images = sym (append-nil h.images) i });
  each = tt;
  here = here;
}

-- what the files have passed through after a run
abbrev pub end_of : {P : Folder → Type 0} {h : FolderHistory} {after : Option FolderHistory} → Runs P h after → FolderHistory
end_of {P} {h} {after} r = passed_through r.contents h

pub run_more : (P : Folder → Type 0) (h : FolderHistory) (mid after : Option FolderHistory) (x : Runs P h mid) → Runs P (passed_through x.contents h) after → Runs P h after
run_more P h mid after x y = record {
  contents = x.contents ++ y.contents;
  after_is = y.after_is ∙ ap (λ m. Some m) (passed_append h x.contents y.contents);
  each = all_append P x.contents y.contents x.each y.each;
  here = subst P (sym (last_append h.held x.contents y.contents)) y.here;
}

pub run_weaken : (P Q : Folder → Type 0) (h : FolderHistory) (after : Option FolderHistory) → ((c : Folder) → P c → Q c) → Runs P h after → Runs Q h after
run_weaken P Q h after carry r = record { contents = r.contents; after_is = r.after_is; each = weaken P Q carry r.contents r.each; here = carry _ r.here }

-- what is known after a run has P
pub run_has : (P : Folder → Type 0) (h k : FolderHistory) (after : Option FolderHistory) → Runs P h after → after ≡ Some k → P k.held
run_has P h k after r e = subst (λ (m : FolderHistory). P m.held) (same_some _ _ (sym r.after_is ∙ e)) r.here

pub known_more : (a b c : Option FolderHistory) → WasKnown a b → WasKnown b c → WasKnown a c
known_more a b c x y k e = let m = y k e in x m.0 m.1
