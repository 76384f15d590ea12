-- Runs of calls on files.
use Rattle.std.proofs.Common.{◌≡◌, List, [], ◌∷◌, ◌++◌, take, Some, None, Result, refl, sym, ap, subst, ◌∙◌, append_assoc, append-nil, IsOk, unwrap_or}
use Rattle.std.specs.declared.option.Option.{Option}
use Rattle.std.specs.List.{AllByRecursion}
use Rattle.outside.specs.Files.{Folder, FolderHistory, last_of, passed_through, Passes, Changes}
use Rattle.outside.specs.declared.files.FileFault.{FileFault}
use Rattle.cache_folder.specs.Images.{Runs, WasKnown}
use Rattle.cache_folder.proofs.Lists.{all_append, all_take, weaken}

pub last_has : (P : Folder → Type 0) (f : Folder) (xs : List Folder) → P f → AllByRecursion P xs → P (last_of f xs)
last_has P f [] here h = here
last_has P f (x ∷ xs) here h = last_has P x xs h.0 h.1

pub last_append : (f : Folder) (xs ys : List Folder) → last_of f (xs ++ ys) ≡ last_of (last_of f xs) ys
last_append f [] ys = refl
last_append f (x ∷ xs) ys = last_append x xs ys

pub same_some : {A : Type 0} (x y : A) → Some x ≡ Some y → x ≡ y
same_some x y e = ap (λ o. unwrap_or o x) e

pub passed_append : (h : FolderHistory) (xs ys : List Folder) → passed_through ys (passed_through xs h) ≡ passed_through (xs ++ ys) h
passed_append h xs ys i = record {
  held = sym (last_append h.held xs ys) i;
  images = append_assoc h.images xs ys i;
}

pub passed_none : (h : FolderHistory) → h ≡ passed_through [] h
passed_none h i = record { held = h.held; images = sym (append-nil h.images) i }

-- ---- runs

pub run_none : (P : Folder → Type 0) (h : FolderHistory) (after : Option FolderHistory) → after ≡ Some h → P h.held → Runs P h after
run_none P h after same here = record { contents = []; after_is = same ∙ ap (λ x. Some x) (passed_none h); each = tt; here = here }

pub run_more : (P : Folder → Type 0) (h k : FolderHistory) (after : Option FolderHistory) (x : Runs P h (Some k)) → Runs P k after → Runs P h after
run_more P h k after x y =
    let is : k ≡ passed_through x.contents h = same_some _ _ x.after_is in
    record {
      contents = x.contents ++ y.contents;
      after_is = y.after_is ∙ ap (λ m. Some (passed_through y.contents m)) is ∙ ap (λ m. Some m) (passed_append h x.contents y.contents);
      each = all_append P x.contents y.contents x.each y.each;
      here = subst P (ap (λ (m : FolderHistory). last_of m.held y.contents) is ∙ sym (last_append h.held x.contents y.contents)) y.here;
    }

pub run_weaken : (P Q : Folder → Type 0) (h : FolderHistory) (after : Option FolderHistory) → ((c : Folder) → P c → Q c) → Runs P h after → Runs Q h after
run_weaken P Q h after carry r = record { contents = r.contents; after_is = r.after_is; each = weaken P Q carry r.contents r.each; here = carry _ r.here }

-- what is known after a run, and that it has P
pub run_has : (P : Folder → Type 0) (h k : FolderHistory) (after : Option FolderHistory) → Runs P h after → after ≡ Some k → P k.held
run_has P h k after r e = subst (λ (m : FolderHistory). P m.held) (same_some _ _ (sym r.after_is ∙ e)) r.here

-- ---- one call

pub passes : {T : Type 0} (contents : Folder → List Folder) (h : FolderHistory) (before after : Option FolderHistory) (r : Result T FileFault) → before ≡ Some h → Changes contents before after r → Passes (contents h.held) h after r
passes contents h before after r e c = subst (λ o. Changes contents o after r) e c

pub one : {T : Type 0} (P : Folder → Type 0) (p : Folder → List Folder) (h : FolderHistory) (before after : Option FolderHistory) (r : Result T FileFault)
    → before ≡ Some h → Changes p before after r → P h.held → AllByRecursion P (p h.held) → Runs P h after
one P p h before after r e c here each =
    let g = passes p h before after r e c in
    let some = all_take P g.count (p h.held) each in
    record { contents = take g.count (p h.held); after_is = g.after_is; each = some; here = last_has P h.held _ here some }

-- what a call that succeeds leaves
pub one_ok : {T : Type 0} (p : Folder → List Folder) (h : FolderHistory) (before after : Option FolderHistory) (r : Result T FileFault)
    → before ≡ Some h → Changes p before after r → IsOk r → after ≡ Some (passed_through (p h.held) h)
one_ok p h before after r e c ok =
    let g = passes p h before after r e c in
    g.after_is ∙ ap (λ l. Some (passed_through l h)) (g.whole ok)

-- what is known after a call was known before it
pub known_back : {T : Type 0} (p : Folder → List Folder) (before after : Option FolderHistory) (r : Result T FileFault) → Changes p before after r → WasKnown before after
known_back p None after r c k e = let none : None ≡ Some k = sym c ∙ e in cc
known_back p (Some h) after r c k e = (h, refl)

pub known_more : (a b c : Option FolderHistory) → WasKnown a b → WasKnown b c → WasKnown a c
known_more a b c x y k e = let m = y k e in x m.0 m.1

-- ---- two calls, and three

pub two : {T U : Type 0} (P : Folder → Type 0) (p q : Folder → List Folder) (h : FolderHistory) (a b c : Option FolderHistory) (r : Result T FileFault) (r' : Result U FileFault)
    → a ≡ Some h → Changes p a b r → IsOk r → Changes q b c r' → P h.held → AllByRecursion P (p h.held) → P (last_of h.held (p h.held)) → AllByRecursion P (q (last_of h.held (p h.held))) → Runs P h c
two P p q h a b c r r' e x ok y here each here' each' =
    let mid = one_ok p h a b r e x ok in
    run_more P h (passed_through (p h.held) h) c
    (subst (Runs P h) mid (one P p h a b r e x here each))
    (one P q (passed_through (p h.held) h) b c r' mid y here' each')

pub two_ok : {T U : Type 0} (p q : Folder → List Folder) (h : FolderHistory) (a b c : Option FolderHistory) (r : Result T FileFault) (r' : Result U FileFault)
    → a ≡ Some h → Changes p a b r → IsOk r → Changes q b c r' → IsOk r' → c ≡ Some (passed_through (q (last_of h.held (p h.held))) (passed_through (p h.held) h))
two_ok p q h a b c r r' e x ok y ok' = one_ok q (passed_through (p h.held) h) b c r' (one_ok p h a b r e x ok) y ok'

pub three : {T U W : Type 0} (P : Folder → Type 0) (p q o : Folder → List Folder) (h : FolderHistory) (a b c d : Option FolderHistory) (r : Result T FileFault) (r' : Result U FileFault) (r'' : Result W FileFault)
    → a ≡ Some h → Changes p a b r → IsOk r → Changes q b c r' → IsOk r' → Changes o c d r''
    → P h.held → AllByRecursion P (p h.held) → P (last_of h.held (p h.held)) → AllByRecursion P (q (last_of h.held (p h.held)))
    → P (last_of (last_of h.held (p h.held)) (q (last_of h.held (p h.held)))) → AllByRecursion P (o (last_of (last_of h.held (p h.held)) (q (last_of h.held (p h.held))))) → Runs P h d
three P p q o h a b c d r r' r'' e x ok y ok' z here each here' each' here'' each'' =
    let mid = two_ok p q h a b c r r' e x ok y ok' in
    run_more P h _ d
    (subst (Runs P h) mid (two P p q h a b c r r' e x ok y here each here' each'))
    (one P o _ c d r'' mid z here'' each'')

-- what holds of the folder between two calls
pub at_middle : {T : Type 0} (Q : Folder → Type 0) (p : Folder → List Folder) (a b : Option FolderHistory) (r : Result T FileFault)
    → Changes p a b r → IsOk r → ((h : FolderHistory) → a ≡ Some h → Q (last_of h.held (p h.held))) → (k : FolderHistory) → b ≡ Some k → Q k.held
at_middle Q p a b r x ok has k e =
    let back = known_back p a b r x k e in
    subst (λ (m : FolderHistory). Q m.held) (same_some _ _ (sym (one_ok p back.0 a b r back.1 x ok) ∙ e)) (has back.0 back.1)

pub three_ok : {T U W : Type 0} (p q o : Folder → List Folder) (h : FolderHistory) (a b c d : Option FolderHistory) (r : Result T FileFault) (r' : Result U FileFault) (r'' : Result W FileFault)
    → a ≡ Some h → Changes p a b r → IsOk r → Changes q b c r' → IsOk r' → Changes o c d r'' → IsOk r''
    → d ≡ Some (passed_through (o (last_of (last_of h.held (p h.held)) (q (last_of h.held (p h.held))))) (passed_through (q (last_of h.held (p h.held))) (passed_through (p h.held) h)))
three_ok p q o h a b c d r r' r'' e x ok y ok' z ok'' = one_ok o _ c d r'' (two_ok p q h a b c r r' e x ok y ok') z ok''
