-- What a store opens with.
use Rattle.std.proofs.Common.{◌≡◌, ℕ, true, false, List, [], ◌∷◌, ◌++◌, Some, Option, refl, ap, sym, subst, ◌∙◌, append_assoc}
use Rattle.std.proofs.lemmas.Bool.{and_from, or_left, or_right}
use Rattle.std.proofs.lemmas.Slice.Eq.{bytes_eq-Decides}
use Rattle.outside.specs.Content.{Contents}
use Rattle.outside.specs.Files.{Folder, FolderHistory}
use Rattle.disk_table.specs.UseOrder.{IsOnce}
use Rattle.cache_folder.specs.Offered.{offered}
use Rattle.cache_folder.specs.Images.{WasKnown, Runs}
use Rattle.cache_folder.specs.Starts.{HasNoEdits}
use Rattle.cache_folder.specs.Allowed.{Pass, values_of}
use Rattle.cache_folder.specs.Sound.{listed}
use Rattle.disk_lru.specs.State.{entries}
use Rattle.disk_lru.specs.Past.{PastValue, DiskState, Promise, is_pair, is_among, given}
use Rattle.disk_lru.specs.Started.{IsFresh, OffersNoMore}
use Rattle.store_world.specs.Right.{Pair}
use Rattle.store_world.specs.StoreMachine.{IsOpening}
use Rattle.disk_store.specs.StoreView.{off_world}

-- ---- pairs that are given are among them

same_pair : (p : Pair) → is_pair p p ≡ true
same_pair p = and_from _ _ ((bytes_eq-Decides p.0 p.0).1 refl) ((bytes_eq-Decides p.1 p.1).1 refl)

is_there : (xs ys : List Pair) (p : Pair) → is_among (xs ++ p ∷ ys) p ≡ true
is_there [] ys p = or_left _ _ (same_pair p)
is_there (x ∷ xs) ys p = or_right _ _ (is_there xs ys p)

all_there : (all xs ys : List Pair) → all ≡ xs ++ ys → Pass (is_among all) ys
all_there all xs [] is = tt
all_there all xs (y ∷ ys) is =
    (subst (λ l. is_among l y ≡ true) (sym is) (is_there xs ys y), all_there all (xs ++ y ∷ []) ys (is ∙ sym (append_assoc xs (y ∷ []) ys)))

-- files on which no call was made offer what they offered
nothing_more : {A : Type 0} (l : List A) → l ++ [] ≡ l
nothing_more [] = refl
nothing_more (x ∷ l) = ap (λ r. x ∷ r) (nothing_more l)

pub offers_same : (files : Option FolderHistory) → OffersNoMore files files
offers_same files h is = record {
  contents = [];
  after_is = is ∙ ap (λ (l : List Folder). (let k : FolderHistory = record { held = h.held; images = l } in Some k)) (sym (nothing_more h.images));
  each = tt;
  here = all_there (offered h.held) [] (offered h.held) refl;
}

pub known_same : (files : Option FolderHistory) → WasKnown files files
known_same files h is = (h, is)

pub opens_off : (before now : Option FolderHistory) (faults : ℕ) (told : Option Contents) → WasKnown before now → OffersNoMore before now → IsOpening told before (off_world now faults told)
opens_off before now faults told known moments = record {
  content_is = refl;
  no_requests = refl;
  free = refl;
  once = tt;
  known = known;
  moments = moments;
  keeps = λ h is k is'. tt;
}

-- ---- with a disk cache that was started

only_given : (past : PastValue) (h : FolderHistory) → past.handed ≡ [] → given past h ≡ offered h.held
only_given past h none = ap (λ l. offered h.held ++ l) none ∙ nothing_more (offered h.held)

pub opens_disk : (before : Option FolderHistory) (disk : DiskState) (told : Option Contents) → IsFresh before disk.past → Promise disk → IsOnce (entries disk.cache) → HasNoEdits disk.cache.table
    → IsOpening told before (record { off = false; disk = disk; content = told; requests = [] })
opens_disk before disk told fresh promise once free = record {
  content_is = refl;
  no_requests = refl;
  free = free;
  once = once;
  known = λ k is. let was = promise.known k is in (was.0, sym fresh.entry ∙ was.1);
  moments = λ h is. subst (λ ps. Runs (λ f. Pass (is_among ps) (offered f)) h disk.cache.history) (only_given disk.past h fresh.handed) (promise.given_only h (fresh.entry ∙ is)).moments;
  keeps = λ h is k is'. subst (λ ps. Pass (is_among ps) (values_of (listed k.held (entries disk.cache)))) (only_given disk.past h fresh.handed) ((promise.given_only h (fresh.entry ∙ is)).within k is').keeps_allowed;
}
