-- What holds of each pair that was offered or kept, and of each that was handed over, holds of each pair that is offered later.
use Rattle.std.proofs.Common.{◌≡◌, Bool, true, false, ◌&&◌, ◌||◌, List, [], ◌∷◌, ◌++◌, Some, None, refl, sym, ap, subst, ◌∙◌}
use Rattle.std.specs.declared.option.Option.{Option}
use Rattle.std.specs.List.{AllByRecursion}
use Rattle.std.specs.Str.{bytes_eq}
use Rattle.std.proofs.lemmas.List.{append_assoc, append-nil}
use Rattle.outside.specs.Content.{Contents}
use Rattle.outside.specs.Files.{Folder, FolderHistory, last_of, passed_through}
use Rattle.cache_folder.specs.Offered.{offered}
use Rattle.cache_folder.specs.Images.{IfKnown, Runs}
use Rattle.cache_folder.specs.Sound.{listed}
use Rattle.cache_folder.specs.Allowed.{Pass, IsWithin, values_of, handed_by}
use Rattle.disk_lru.specs.State.{entries}
use Rattle.disk_lru.specs.Calls.{Steps, StaysWithin, Passage}
use Rattle.disk_lru.specs.Past.{DiskState, is_pair, is_among}
use Rattle.store_world.specs.Right.{Pair, IsRight, AreRight, OffersRight}
use Rattle.store_world.specs.Sound.{IsRightDisk, IsRightStore}
use Rattle.store_world.specs.Laws.{PassesRight}
use Rattle.store_world.proofs.Tables.{same_if, true_if}

pub some_folder : (h k : FolderHistory) → Some h ≡ Some k → h ≡ k
some_folder h k e = cc

-- ---- contents that calls pass through, one call after the other

last_append : (folder : Folder) (xs ys : List Folder) → last_of folder (xs ++ ys) ≡ last_of (last_of folder xs) ys
last_append folder [] ys = refl
last_append folder (x ∷ xs) ys = last_append x xs ys

pub passed_append : (xs ys : List Folder) (h : FolderHistory) → passed_through ys (passed_through xs h) ≡ passed_through (xs ++ ys) h
passed_append xs ys h =
    let held = sym (last_append h.held xs ys) in
    let images = append_assoc h.images xs ys in
    λ i. record { held = held i; images = images i }

pub passed_nothing : (h : FolderHistory) → passed_through [] h ≡ h
passed_nothing h i = record { held = h.held; images = append-nil h.images i }

pub all_append : {X : Type 0} (P : X → Type 0) (xs ys : List X) → AllByRecursion P xs → AllByRecursion P ys → AllByRecursion P (xs ++ ys)
all_append P [] ys h k = k
all_append P (x ∷ xs) ys h k = (h.0, all_append P xs ys h.1 k)

pub runs_then : (P : Folder → Type 0) (h : FolderHistory) (mid last : Option FolderHistory) (first : Runs P h mid) → Runs P (passed_through first.contents h) last → Runs P h last
runs_then P h mid last first second = record {
  contents = first.contents ++ second.contents;
  after_is = second.after_is ∙ ap Some (passed_append first.contents second.contents h);
  each = all_append P first.contents second.contents first.each second.each;
  here = subst P (sym (last_append h.held first.contents second.contents)) second.here;
}

pub runs_none : (P : Folder → Type 0) (h : FolderHistory) (after : Option FolderHistory) → after ≡ Some h → P h.held → Runs P h after
runs_none P h after same here = record { contents = []; after_is = same ∙ ap Some (sym (passed_nothing h)); each = tt; here = here }

pub weaken : {X : Type 0} (P Q : X → Type 0) → ((x : X) → P x → Q x) → (xs : List X) → AllByRecursion P xs → AllByRecursion Q xs
weaken P Q h [] a = tt
weaken P Q h (x ∷ xs) a = (h x a.0, weaken P Q h xs a.1)

abbrev pub runs_weaken : (P Q : Folder → Type 0) → ((c : Folder) → P c → Q c) → (h : FolderHistory) (after : Option FolderHistory) → Runs P h after → Runs Q h after
runs_weaken P Q more h after runs = record {
  contents = runs.contents;
  after_is = runs.after_is;
  each = weaken P Q more runs.contents runs.each;
  here = more (last_of h.held runs.contents) runs.here;
}

-- ---- what a call allows

abbrev pub Handed : Type 0
Handed = Folder → List Pair

abbrev pub nothing_handed : Handed
nothing_handed f = []

-- Each moment between the two offers only what was offered or kept before, or was handed over.
abbrev pub Allows : Handed → DiskState → DiskState → Type 0
Allows handed old new = IfKnown old.cache.history (λ h. (allowed : Pair → Bool)
    → IsWithin allowed h.held (entries old.cache) → Pass allowed (handed h.held) → StaysWithin allowed h new.cache)

pub allows_passage : (steps : Steps) (old new : DiskState) → Passage steps old.cache new.cache → Allows (λ f. handed_by (steps f)) old new
allows_passage steps old new passage = passage.allows

pub allows_then : (handed : Handed) (a b c : DiskState) → Allows handed a b → Allows nothing_handed b c → Allows handed a c
allows_then handed a b c first second h known allowed within given =
    let one = first h known allowed within given in
    let mid = passed_through one.moments.contents h in
    let two = second mid one.moments.after_is allowed (one.within mid one.moments.after_is) tt in
    record { moments = runs_then (λ f. Pass allowed (offered f)) h b.cache.history c.cache.history one.moments two.moments; within = two.within }

-- where neither the files nor what is kept has changed
pub allows_same : (old new : DiskState) → new.cache.history ≡ old.cache.history → entries new.cache ≡ entries old.cache → Allows nothing_handed old new
allows_same old new history entries_are h known allowed within given = record {
  moments = runs_none (λ f. Pass allowed (offered f)) h new.cache.history (history ∙ known) within.offers_allowed;
  within = λ k known_k. let same : h ≡ k = some_folder h k (sym (history ∙ known) ∙ known_k) in
      subst (λ (j : FolderHistory). IsWithin allowed j.held (entries new.cache)) same (subst (IsWithin allowed h.held) (sym entries_are) within);
}

-- ---- facts in place of tests

same_pair_is : (p q : Pair) → is_pair p q ≡ true → q ≡ p
same_pair_is p q e = elim (bytes_eq p.0 q.0) as (λ b. bytes_eq p.0 q.0 ≡ b → b && bytes_eq p.1 q.1 ≡ true → q ≡ p) [
  | true ↦ λ first second i. (same_if q.0 p.0 first i, same_if q.1 p.1 second i)
  | false ↦ λ first second. cc
] refl e

same_self : (p : Pair) → is_pair p p ≡ true
same_self p = ap (λ b. b && bytes_eq p.1 p.1) (true_if p.0 p.0 refl) ∙ true_if p.1 p.1 refl

pub among_has : (P : Pair → Type 0) (p : Pair) (qs : List Pair) → AllByRecursion P qs → is_among qs p ≡ true → P p
among_has P p [] h e = cc
among_has P p (q ∷ qs) h e = elim (is_pair p q) as (λ b. is_pair p q ≡ b → b || is_among qs p ≡ true → P p) [
  | true ↦ λ is more. subst P (same_pair_is p q is) h.0
  | false ↦ λ is more. among_has P p qs h.1 more
] refl e

or_right : (a b : Bool) → b ≡ true → a || b ≡ true
or_right true b e = refl
or_right false b e = e

pub all_among : (xs : List Pair) → AllByRecursion (λ p. is_among xs p ≡ true) xs
all_among [] = tt
all_among (x ∷ xs) = (ap (λ b. b || is_among xs x) (same_self x), weaken _ _ (λ p h. or_right (is_pair p x) (is_among xs p) h) xs (all_among xs))

pub all_front : {X : Type 0} (P : X → Type 0) (xs ys : List X) → AllByRecursion P (xs ++ ys) → AllByRecursion P xs
all_front P [] ys h = tt
all_front P (x ∷ xs) ys h = (h.0, all_front P xs ys h.1)

pub all_back : {X : Type 0} (P : X → Type 0) (xs ys : List X) → AllByRecursion P (xs ++ ys) → AllByRecursion P ys
all_back P [] ys h = h
all_back P (x ∷ xs) ys h = all_back P xs ys h.1

-- what has P is offered and kept at the end, and offered at each moment
pub record HasFacts (P : Pair → Type 0) (h : FolderHistory) (new : DiskState) : Type 0 where
  pub moments : Runs (λ c. AllByRecursion P (offered c)) h new.cache.history
  pub keeps : AllByRecursion P (values_of (listed (last_of h.held moments.contents) (entries new.cache)))

-- A law over tests is one over facts.
pub allowed_facts : (P : Pair → Type 0) (handed : Handed) (old new : DiskState) → Allows handed old new → (h : FolderHistory) → old.cache.history ≡ Some h
    → AllByRecursion P (offered h.held) → AllByRecursion P (values_of (listed h.held (entries old.cache))) → AllByRecursion P (handed h.held) → HasFacts P h new
allowed_facts P handed old new allows h known offers keeps given =
    let kept = values_of (listed h.held (entries old.cache)) in
    let all = offered h.held ++ (kept ++ handed h.held) in
    let test : Pair → Bool = is_among all in
    let passes = all_among all in
    let holds = all_append P (offered h.held) (kept ++ handed h.held) offers (all_append P kept (handed h.held) keeps given) in
    let back : (xs : List Pair) → AllByRecursion (λ p. test p ≡ true) xs → AllByRecursion P xs = λ xs a. weaken _ P (λ p e. among_has P p all holds e) xs a in
    let behind = all_back (λ p. test p ≡ true) (offered h.held) (kept ++ handed h.held) passes in
    let stays = allows h known test
    (record { offers_allowed = all_front (λ p. test p ≡ true) (offered h.held) (kept ++ handed h.held) passes; keeps_allowed = all_front (λ p. test p ≡ true) kept (handed h.held) behind })
    (all_back (λ p. test p ≡ true) kept (handed h.held) behind) in
    let moments = runs_weaken (λ c. Pass test (offered c)) (λ c. AllByRecursion P (offered c)) (λ c a. back (offered c) a) h new.cache.history stays.moments in
    record {
      moments = moments;
      keeps = back (values_of (listed (last_of h.held moments.contents) (entries new.cache))) (stays.within (passed_through stays.moments.contents h) stays.moments.after_is).keeps_allowed;
    }

-- ---- right pairs

-- Right pairs stay right, at each moment.
pub right_stays : (content : Contents) (handed : Handed) (old new : DiskState) → Allows handed old new → (right : IsRightDisk content old) → AreRight content (handed right.holds.history.held)
    → IsRightDisk content new × PassesRight content old new
right_stays content handed old new allows right given =
    let h = right.holds.history in
    let all = allowed_facts (IsRight content) handed old new allows h right.holds.known right.holds.right right.keeps given in (
      record { holds = record { history = passed_through all.moments.contents h; known = all.moments.after_is; right = all.moments.here }; keeps = all.keeps },
      λ k known. subst (λ (j : FolderHistory). Runs (OffersRight content) j new.cache.history) (some_folder h k (sym right.holds.known ∙ known)) all.moments,
    )

pub right_kept : (content : Option Contents) (old new : DiskState) → Allows nothing_handed old new → IsRightStore content old → IsRightStore content new
right_kept None old new allows right = tt
right_kept (Some content) old new allows right = (right_stays content nothing_handed old new allows right tt).0
