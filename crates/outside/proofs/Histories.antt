-- The history that a list of changes leaves.
use Rattle.std.proofs.Common.{◌≡◌, ℕ, List, [], ◌∷◌, ◌++◌, length, take, drop, Some, None, Ok, Err, is_ok, if◌then◌else◌, Result, refl, sym, ap, subst, ◌∙◌, append_assoc, append-nil, zero, suc}
use Rattle.std.specs.declared.option.Option.{Option}
use Rattle.std.specs.FinMap.{get, insert}
use Rattle.std.proofs.Math.Seq.{take-append_seam}
use Rattle.std.proofs.lemmas.List.{take-append-drop}
use Rattle.outside.specs.Files.{Folder, FolderHistory, Changes, passed_through, grown, appended, appended_to}
use Rattle.outside.specs.MemoryFiles.{contents_of, changed, history_of, no_files, stopped, cut_change, IsPrefixOf}
use Rattle.outside.specs.declared.files.FileFault.{FileFault}
use Rattle.outside.specs.declared.changes.Change.{Change}
use Rattle.outside.specs.declared.changes.Change.TheVariants.{Made, Appended, Renamed, Deleted, Placed}
use Rattle.outside.proofs.Folders.{passes_all, passes_none}

-- one change more
pub changed-append : (h : FolderHistory) (cs ds : List Change) → changed h (cs ++ ds) ≡ changed (changed h cs) ds
changed-append h [] ds = refl
changed-append h (c ∷ cs) ds = changed-append (passed_through (contents_of c h.held) h) cs ds

pub history_more : (cs : List Change) (c : Change) → history_of (cs ++ c ∷ []) ≡ passed_through (contents_of c (history_of cs).held) (history_of cs)
history_more cs c = changed-append no_files cs (c ∷ [])

-- ---- what a call made

-- a call that makes one change where it succeeds goes through the contents of that change
pub changes_of_call : {T : Type 0} (change : Change) (old new : List Change) (result : Result T FileFault) → new ≡ old ++ (if is_ok result then change ∷ [] else []) → Changes (contents_of change) (Some (history_of old)) (Some (history_of new)) result
changes_of_call {T} change old new (Ok x) is =
    subst (λ h. Changes {T = T} (contents_of change) (Some (history_of old)) (Some h) (Ok x)) (sym (ap history_of is ∙ history_more old change))
    (passes_all (contents_of change (history_of old).held) (history_of old) (Ok x) (λ e. cc))
changes_of_call {T} change old new (Err e) is =
    subst (λ cs. Changes {T = T} (contents_of change) (Some (history_of old)) (Some (history_of cs)) (Err e)) (sym (is ∙ append-nil old))
    (passes_none (contents_of change (history_of old).held) (history_of old) (Err e) (λ ok. cc))

-- ---- a stop

-- what changes pass through stands after what was passed through before
grows : (h : FolderHistory) (cs : List Change) → (more : List Folder) × ((changed h cs).images ≡ h.images ++ more)
grows h [] = ([], sym (append-nil h.images))
grows h (c ∷ cs) =
    let rest = grows (passed_through (contents_of c h.held) h) cs in
    (contents_of c h.held ++ rest.0, rest.1 ∙ append_assoc h.images (contents_of c h.held) rest.0)

grown_cut : (name text bytes : List ℕ) (f : Folder) (n : ℕ) → grown name text (take n bytes) f ≡ take n (grown name text bytes f)
grown_cut name text [] f zero = refl
grown_cut name text [] f (suc n) = refl
grown_cut name text (b ∷ bytes) f zero = refl
grown_cut name text (b ∷ bytes) f (suc n) = ap (λ l. insert f name (text ++ b ∷ []) ∷ l) (grown_cut name (text ++ b ∷ []) bytes f n)

no_cut : (n : ℕ) → ◌≡◌ {A = List Folder} [] (take n [])
no_cut zero = refl
no_cut (suc n) = refl

appended_cut : (o : Option (List ℕ)) (name bytes : List ℕ) (f : Folder) (n : ℕ) → appended_to o name (take n bytes) f ≡ take n (appended_to o name bytes f)
appended_cut None name bytes f n = no_cut n
appended_cut (Some text) name bytes f n = grown_cut name text bytes f n

-- one is a prefix of the other where something stands after it
prefix : (one whole : FolderHistory) (rest : List Folder) → whole.images ≡ one.images ++ rest → IsPrefixOf one whole
prefix one whole rest is = sym (ap (take (length one.images)) is ∙ take-append_seam one.images rest)

cut_after : (h : FolderHistory) (cs : List Change) (cut : ℕ) → IsPrefixOf (changed h (cut_change cut cs)) (changed h cs)
cut_after h [] cut = prefix h h [] (sym (append-nil h.images))
cut_after h (Made name ∷ cs) cut = let rest = grows h (Made name ∷ cs) in prefix h (changed h (Made name ∷ cs)) rest.0 rest.1
cut_after h (Appended name bytes ∷ cs) cut =
    let whole = appended name bytes h.held in
    let rest = grows (passed_through whole h) cs in
    prefix (passed_through (appended name (take cut bytes) h.held) h) (changed (passed_through whole h) cs) (drop cut whole ++ rest.0)
    (rest.1
    ∙ ap (λ l. (h.images ++ l) ++ rest.0) (sym (take-append-drop cut whole) ∙ ap (λ l. l ++ drop cut whole) (sym (appended_cut (get h.held name) name bytes h.held cut)))
    ∙ ap (λ l. l ++ rest.0) (sym (append_assoc h.images (appended name (take cut bytes) h.held) (drop cut whole)))
    ∙ append_assoc (h.images ++ appended name (take cut bytes) h.held) (drop cut whole) rest.0)
cut_after h (Renamed from to ∷ cs) cut = let rest = grows h (Renamed from to ∷ cs) in prefix h (changed h (Renamed from to ∷ cs)) rest.0 rest.1
cut_after h (Deleted name ∷ cs) cut = let rest = grows h (Deleted name ∷ cs) in prefix h (changed h (Deleted name ∷ cs)) rest.0 rest.1
cut_after h (Placed name bytes ∷ cs) cut = let rest = grows h (Placed name bytes ∷ cs) in prefix h (changed h (Placed name bytes ∷ cs)) rest.0 rest.1

pub prefix_of_stopped : (count cut : ℕ) (cs : List Change) → IsPrefixOf (history_of (stopped count cut cs)) (history_of cs)
prefix_of_stopped count cut cs =
    subst (λ h. IsPrefixOf h (history_of cs)) (sym (changed-append no_files (take count cs) (cut_change cut (drop count cs))))
    (subst (IsPrefixOf (changed (history_of (take count cs)) (cut_change cut (drop count cs)))) (sym (changed-append no_files (take count cs) (drop count cs)) ∙ ap history_of (take-append-drop count cs))
    (cut_after (history_of (take count cs)) (drop count cs) cut))
