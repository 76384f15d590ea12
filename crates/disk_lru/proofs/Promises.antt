-- The promise of a cache, one call later.
use Rattle.std.proofs.Common.{◌≡◌, ℕ, Bool, true, false, cond, ◌||◌, ◌&&◌, List, [], ◌∷◌, ◌++◌, Some, None, is_some, refl, sym, ap, subst, ◌∙◌, append_assoc, append-nil, inl, inr}
use Rattle.std.specs.declared.option.Option.{Option}
use Rattle.std.specs.List.{AllByRecursion}
use Rattle.std.specs.Str.{bytes_eq}
use Rattle.std.proofs.lemmas.List.Folds.{list_any-append}
use Rattle.std.proofs.lemmas.Slice.Eq.{bytes_eq-Decides}
use Rattle.std.specs.FinMap.{get}
use Rattle.outside.specs.Files.{Folder, FolderHistory, last_of, passed_through}
use Rattle.cache_folder.specs.Offered.{value_name, offered}
use Rattle.cache_folder.specs.Steps.{Cached, CacheStep, all_stepped, offers, answer_at}
use Rattle.cache_folder.specs.Images.{IfKnown, WasKnown, Runs, OffersEither}
use Rattle.cache_folder.specs.Tables.{is_offered}
use Rattle.cache_folder.specs.Laws.{CacheLaws}
use Rattle.cache_folder.specs.Sound.{listed}
use Rattle.cache_folder.specs.Starts.{list_of_pairs}
use Rattle.cache_folder.specs.Allowed.{Pass, IsWithin, values_of, handed_by}
use Rattle.disk_lru.specs.State.{CacheState, entries, list_of, Offers, AnswersFor}
use Rattle.disk_lru.specs.Calls.{Steps, Passage, Makes}
use Rattle.disk_lru.specs.Past.{PastValue, DiskState, steps_at, after_call, opening, after_calls, InTurn, IsOnCourse, is_pair, is_among, given, OffersGiven, Promise}
use Rattle.disk_lru.proofs.Runs.{weaken, last_append, passed_append, run_more, run_weaken, run_has, known_more, same_some}

-- ---- where no call has failed

in_turn_more : (es : Cached (List ℕ)) (calls : List (List (CacheStep (List ℕ)))) (contents more : List Folder) (steps : List (CacheStep (List ℕ))) → InTurn es calls contents
    → AllByRecursion (OffersEither (after_calls es calls) (all_stepped (after_calls es calls) steps)) more → InTurn es (calls ++ steps ∷ []) (contents ++ more)
in_turn_more es [] contents more steps h each = (more, [], ap (λ l. l ++ more) h ∙ sym (append-nil more), each, refl)
in_turn_more es (call ∷ calls) contents more steps h each = (h.0, h.1 ++ more, ap (λ l. l ++ more) h.2 ∙ append_assoc h.0 h.1 more, h.3, in_turn_more (all_stepped es call) calls h.1 more steps h.4 each)

after_calls-append : (es : Cached (List ℕ)) (calls : List (List (CacheStep (List ℕ)))) (steps : List (CacheStep (List ℕ))) → after_calls es (calls ++ steps ∷ []) ≡ all_stepped (after_calls es calls) steps
after_calls-append es [] steps = refl
after_calls-append es (call ∷ calls) steps = after_calls-append (all_stepped es call) calls steps

course_more : (past : PastValue) (h : FolderHistory) (old new : CacheState) (key : List ℕ) (steps : Steps) → IsOnCourse past h old → Makes key steps old new → IsOnCourse (after_call (steps_at old.history steps) false past) h new
course_more past h old new key steps o x =
    let k : FolderHistory = passed_through o.contents h in
    let made : List (CacheStep (List ℕ)) = steps k.held in
    let run = x.call.passage.moments k o.after_is in
    let es : Cached (List ℕ) = after_calls (opening h) past.calls in
    let each : AllByRecursion (OffersEither (list_of k.held old) (all_stepped (list_of k.held old) made)) run.contents = weaken _ _ (λ c w. elim w as (λ _. OffersEither (list_of k.held old) (all_stepped (list_of k.held old) made) c) [ inl y ↦ inl (y ∙ o.offers_now) | inr y ↦ y ]) run.contents run.each in
    subst (λ s. IsOnCourse (record { entry = past.entry; calls = past.calls ++ s ∷ []; handed = past.handed ++ handed_by s; failed = past.failed || false }) h new) (sym (ap (λ a. steps_at a steps) o.after_is)) record {
      contents = o.contents ++ run.contents;
      after_is = run.after_is ∙ ap (λ (m : FolderHistory). Some m) (passed_append h o.contents run.contents);
      in_turn = in_turn_more (opening h) past.calls o.contents run.contents made o.in_turn (subst (λ l. AllByRecursion (OffersEither l (all_stepped l made)) run.contents) o.list each);
      list = ap (λ f. list_of f new) (last_append h.held o.contents run.contents) ∙ x.call.list k o.after_is _ run.after_is ∙ ap (λ l. all_stepped l made) o.list ∙ sym (after_calls-append (opening h) past.calls made);
      offers_now = subst (λ f. Offers f new) (sym (last_append h.held o.contents run.contents)) (x.offers_now _ run.after_is);
      answers = λ any. subst (λ f. AnswersFor any f new) (sym (last_append h.held o.contents run.contents)) (x.answers any k o.after_is _ run.after_is (o.answers any));
    }

-- ---- whatever failed

left_true : (a b : Bool) → a ≡ true → (a || b) ≡ true
left_true a b h = ap (λ x. x || b) h

right_true : (a b : Bool) → b ≡ true → (a || b) ≡ true
right_true true b h = refl
right_true false b h = h

pub among_first : (p : List ℕ × List ℕ) (xs ys : List (List ℕ × List ℕ)) → is_among xs p ≡ true → is_among (xs ++ ys) p ≡ true
among_first p xs ys h = list_any-append (is_pair p) xs ys ∙ left_true (is_among xs p) (is_among ys p) h

pub among_second : (p : List ℕ × List ℕ) (xs ys : List (List ℕ × List ℕ)) → is_among ys p ≡ true → is_among (xs ++ ys) p ≡ true
among_second p xs ys h = list_any-append (is_pair p) xs ys ∙ right_true (is_among xs p) (is_among ys p) h

pub same_pair : (p : List ℕ × List ℕ) → is_pair p p ≡ true
same_pair p = ap (λ b. b && bytes_eq p.1 p.1) ((bytes_eq-Decides p.0 p.0).1 refl) ∙ (bytes_eq-Decides p.1 p.1).1 refl

pub own_pass : (xs : List (List ℕ × List ℕ)) → Pass (is_among xs) xs
own_pass [] = tt
own_pass (x ∷ xs) = (ap (λ b. b || is_among xs x) (same_pair x), weaken _ _ (λ p h. among_second p (x ∷ []) xs h) xs (own_pass xs))

within_more : (xs ys : List (List ℕ × List ℕ)) (pairs : List (List ℕ × List ℕ)) → Pass (is_among xs) pairs → Pass (is_among (xs ++ ys)) pairs
within_more xs ys pairs h = weaken _ _ (λ p a. among_first p xs ys a) pairs h

given_more : (past : PastValue) (h : FolderHistory) (old new : CacheState) (steps : Steps) (failed : Bool) → OffersGiven past h old → Passage steps old new → OffersGiven (after_call (steps_at old.history steps) failed past) h new
given_more past h old new steps failed g x =
    let k : FolderHistory = passed_through g.moments.contents h in
    let e : old.history ≡ Some k = g.moments.after_is in
    let brings : List (List ℕ × List ℕ) = handed_by (steps k.held) in
    let all : List (List ℕ × List ℕ) = given past h ++ brings in
    let w = g.within k e in
    let s = x.allows k e (is_among all) (record { offers_allowed = within_more (given past h) brings (offered k.held) w.offers_allowed; keeps_allowed = within_more (given past h) brings (values_of (listed k.held (entries old))) w.keeps_allowed })
    (weaken _ _ (λ p a. among_second p (given past h) brings a) brings (own_pass brings)) in
    let is : all ≡ given (after_call (steps_at old.history steps) failed past) h = append_assoc (offered h.held) past.handed brings ∙ sym (ap (λ a. offered h.held ++ (past.handed ++ handed_by (steps_at a steps))) e) in
    let first : Runs (λ c. Pass (is_among all) (offered c)) h old.history = run_weaken _ (λ c. Pass (is_among all) (offered c)) h old.history (λ c a. within_more (given past h) brings (offered c) a) g.moments in
    let reached : k ≡ passed_through first.contents h = same_some _ _ (sym e ∙ first.after_is) in
    record {
      moments = subst (λ l. Runs (λ c. Pass (is_among l) (offered c)) h new.history) is
          (run_more (λ c. Pass (is_among all) (offered c)) h old.history new.history first (subst (λ m. Runs (λ c. Pass (is_among all) (offered c)) m new.history) reached s.moments));
      within = subst (λ l. IfKnown new.history (λ m. IsWithin (is_among l) m.held (entries new))) is s.within;
    }

-- ---- what the cache answers

module _ (laws : CacheLaws) (s : DiskState) (key : List ℕ) where
  -- where no call has failed, it is what the list answers after the steps so far
  pub answers_after : Promise s → s.past.failed ≡ false → IfKnown s.past.entry (λ h. is_offered key (entries s.cache) ≡ is_some (answer_at key (after_calls (opening h) s.past.calls)))
  answers_after p none h e = let o = p.course none h e in
      laws.answers_offered key (last_of h.held o.contents) (entries s.cache) (o.answers key) ∙ ap (λ es. is_some (answer_at key es)) o.list

  -- the bytes that were read are what the list answers
  pub read_now : (found : Option (List ℕ)) → IfKnown s.cache.history (λ h. found ≡ cond (is_offered key (entries s.cache)) (get h.held (value_name key)) None) → IfKnown s.cache.history (λ h. found ≡ answer_at key (list_of h.held s.cache))
  read_now found is h e = is h e ∙ sym (laws.list_answers key h.held (entries s.cache))

  pub read_after : (found : Option (List ℕ)) → IfKnown s.cache.history (λ h. found ≡ cond (is_offered key (entries s.cache)) (get h.held (value_name key)) None) → Promise s → s.past.failed ≡ false
      → IfKnown s.past.entry (λ h. found ≡ answer_at key (after_calls (opening h) s.past.calls))
  read_after found is p none h e = let o = p.course none h e in read_now found is (passed_through o.contents h) o.after_is ∙ ap (answer_at key) o.list

-- ---- both

no_failure : (a b : Bool) → (a || b) ≡ false → (a ≡ false) × (b ≡ false)
no_failure true b h = cc
no_failure false b h = (refl, h)

made_passage : (key : List ℕ) (steps : Steps) (old new : CacheState) (failed : Bool) → (failed ≡ false → Makes key steps old new) → (failed ≡ true → Passage steps old new) → Passage steps old new
made_passage key steps old new true ok err = err refl
made_passage key steps old new false ok err = (ok refl).call.passage

promise_by : (s : DiskState) (new : CacheState) (steps : Steps) (failed : Bool) (key : List ℕ) → Promise s → (failed ≡ false → Makes key steps s.cache new) → Passage steps s.cache new
    → Promise (record { cache = new; past = after_call (steps_at s.cache.history steps) failed s.past })
promise_by s new steps failed key p ok x = record {
  known = known_more s.past.entry s.cache.history new.history p.known x.known;
  course = λ none. let n = no_failure s.past.failed failed none in
      λ h e. subst (λ b. IsOnCourse (after_call (steps_at s.cache.history steps) b s.past) h new) (sym n.1) (course_more s.past h s.cache new key steps (p.course n.0 h e) (ok n.1));
  given_only = λ h e. given_more s.past h s.cache new steps failed (p.given_only h e) x;
}

pub promise_after : (s : DiskState) (before new : CacheState) (past : PastValue) (steps : CacheState → Steps) (failed : Bool) (key : List ℕ) → Promise s → before ≡ s.cache
    → past ≡ after_call (steps_at before.history (steps before)) failed s.past → (failed ≡ false → Makes key (steps s.cache) s.cache new) → (failed ≡ true → Passage (steps s.cache) s.cache new)
    → Promise (record { cache = new; past = past })
promise_after s before new past steps failed key p same is ok err =
    subst (λ q. Promise (record { cache = new; past = q })) (sym (is ∙ ap (λ (b : CacheState). after_call (steps_at b.history (steps b)) failed s.past) same))
    (promise_by s new (steps s.cache) failed key p ok (made_passage key (steps s.cache) s.cache new failed ok err))

-- nothing has changed but the count of faults
pub promise_same : (s : DiskState) (new : CacheState) → Promise s → new ≡ record s.cache { faults = new.faults } → Promise (record { cache = new; past = s.past })
promise_same s new p same = subst (λ c. Promise (record { cache = c; past = s.past })) (sym same) record {
  known = p.known;
  course = λ none h e. let o = p.course none h e in record { contents = o.contents; after_is = o.after_is; in_turn = o.in_turn; list = o.list; offers_now = o.offers_now; answers = o.answers };
  given_only = λ h e. let g = p.given_only h e in record { moments = g.moments; within = g.within };
}

-- ---- the start

values_pairs : (pairs : List (List ℕ × List ℕ)) → values_of (list_of_pairs pairs) ≡ pairs
values_pairs [] = refl
values_pairs (p ∷ pairs) = ap (λ l. p ∷ l) (values_pairs pairs)

offers_pairs : (pairs : List (List ℕ × List ℕ)) → offers (list_of_pairs pairs) ≡ pairs
offers_pairs [] = refl
offers_pairs (p ∷ pairs) = ap (λ l. p ∷ l) (offers_pairs pairs)

pub promise_start : (entry : Option FolderHistory) (cache : CacheState) (past : PastValue) → past ≡ record { entry = entry; calls = [] ∷ []; handed = []; failed = false } → WasKnown entry cache.history
    → IfKnown entry (λ h. Runs (λ c. offered c ≡ offered h.held) h cache.history) → IfKnown entry (λ h. IfKnown cache.history (λ k. list_of k.held cache ≡ opening h))
    → IfKnown cache.history (λ k. (key : List ℕ) → AnswersFor key k.held cache) → Promise (record { cache = cache; past = past })
promise_start entry cache past is known moments list answers = subst (λ q. Promise (record { cache = cache; past = q })) (sym is) record {
  known = known;
  course = λ none h e. let run = moments h e in record {
    contents = run.contents;
    after_is = run.after_is;
    in_turn = (run.contents, [], sym (append-nil run.contents), weaken _ _ (λ c y. inl (y ∙ sym (offers_pairs (offered h.held)))) run.contents run.each, refl);
    list = list h e _ run.after_is;
    offers_now = run.here ∙ sym (offers_pairs (offered h.held)) ∙ ap offers (sym (list h e _ run.after_is));
    answers = answers _ run.after_is;
  };
  given_only = λ h e.
      let same : offered h.held ++ [] ≡ offered h.held = append-nil _ in
      let own : Pass (is_among (offered h.held ++ [])) (offered h.held) = subst (λ l. Pass (is_among l) (offered h.held)) (sym same) (own_pass (offered h.held)) in
      let moments' : Runs (λ c. Pass (is_among (offered h.held ++ [])) (offered c)) h cache.history = run_weaken _ _ h cache.history (λ c y. subst (Pass (is_among (offered h.held ++ []))) (sym y) own) (moments h e) in
      record {
        moments = moments';
        within = λ k e'. record {
          offers_allowed = run_has _ h k cache.history moments' e';
          keeps_allowed = subst (Pass (is_among (offered h.held ++ []))) (sym (ap values_of (list h e k e') ∙ values_pairs (offered h.held))) own;
        };
      };
}
