-- Calls one after the other.
use Rattle.std.proofs.Common.{◌≡◌, ℕ, ◌+◌, List, [], ◌∷◌, ◌++◌, length, take, refl, sym, ap, ◌∙◌, arith, inl, inr, Some}
use Rattle.std.proofs.Math.Seq.{take-append-add}
use Rattle.std.proofs.lemmas.List.{take-append-le, length-append}
use Rattle.std.specs.declared.option.Option.{Option}
use Rattle.outside.specs.Files.{Folder, FolderHistory}
use Rattle.cache_folder.specs.Steps.{Cached, CacheStep, stepped, all_stepped, offers}
use Rattle.cache_folder.specs.Images.{Runs, IsOnTheWay, OffersEither}
use Rattle.cache_folder.proofs.Runs.{run_more, run_weaken}

pub all_stepped-append : (es : Cached (List ℕ)) (xs ys : List (CacheStep (List ℕ))) → all_stepped es (xs ++ ys) ≡ all_stepped (all_stepped es xs) ys
all_stepped-append es [] ys = refl
all_stepped-append es (x ∷ xs) ys = all_stepped-append (stepped es x) xs ys

-- a call with one step
pub one_step : (es : Cached (List ℕ)) (step : CacheStep (List ℕ)) (c : Folder) → OffersEither es (stepped es step) c → IsOnTheWay es (step ∷ []) c
one_step es step c h = elim h as (λ _. IsOnTheWay es (step ∷ []) c) [
  | inl e ↦ record { count = 0; within = omega arith; offers_prefix = e }
  | inr e ↦ record { count = 1; within = omega arith; offers_prefix = e }
]

pub earlier : (es : Cached (List ℕ)) (xs ys : List (CacheStep (List ℕ))) (c : Folder) → IsOnTheWay es xs c → IsOnTheWay es (xs ++ ys) c
earlier es xs ys c h = record {
  count = h.count;
  within = omega (arith, h.within, length-append xs ys);
  offers_prefix = h.offers_prefix ∙ ap (λ l. offers (all_stepped es l)) (sym (take-append-le h.count xs ys h.within));
}

pub later : (es : Cached (List ℕ)) (xs ys : List (CacheStep (List ℕ))) (c : Folder) → IsOnTheWay (all_stepped es xs) ys c → IsOnTheWay es (xs ++ ys) c
later es xs ys c h = record {
  count = length xs + h.count;
  within = omega (arith, h.within, length-append xs ys);
  offers_prefix = h.offers_prefix ∙ ap offers (sym (all_stepped-append es xs (take h.count ys))) ∙ ap (λ l. offers (all_stepped es l)) (sym (take-append-add xs ys h.count));
}

pub calls_in_turn : (es : Cached (List ℕ)) (xs ys : List (CacheStep (List ℕ))) (h k : FolderHistory) (after : Option FolderHistory) → Runs (IsOnTheWay es xs) h (Some k) → Runs (IsOnTheWay (all_stepped es xs) ys) k after → Runs (IsOnTheWay es (xs ++ ys)) h after
calls_in_turn es xs ys h k after x y = run_more _ h k after
    (run_weaken _ _ h (Some k) (earlier es xs ys) x)
    (run_weaken _ _ k after (later es xs ys) y)
