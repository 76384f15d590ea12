-- What a list keeps after a step.
use Rattle.std.proofs.Common.{◌≡◌, ℕ, Bool, true, false, cond, List, [], ◌∷◌, ◌++◌, Some, None, option_and_then}
use Rattle.std.specs.declared.option.Option.{Option}
use Rattle.std.specs.List.{AllByRecursion}
use Rattle.std.specs.Str.{bytes_eq}
use Rattle.std.proofs.lemmas.Slice.Eq.{bytes_eq-Decides}
use Rattle.std.proofs.Common.{subst, sym, ap, refl, ◌∙◌, append-nil}
use Rattle.disk_table.specs.UseOrder.{without, value_at, newest, renewed, used}
use Rattle.cache_folder.specs.Steps.{Entry, Cached, CacheStep, Doubt, Commit, Restore, Use, Drop, values_at, stepped, all_stepped, offer_of, offers}
use Rattle.cache_folder.specs.Allowed.{Pass, value_of, values_of, handed_in, handed_by}
use Rattle.cache_folder.proofs.Lists.{all_append}

module _ (allowed : List ℕ × List ℕ → Bool) where
  pub split_left : (xs ys : List (List ℕ × List ℕ)) → Pass allowed (xs ++ ys) → Pass allowed xs
  split_left [] ys h = tt
  split_left (x ∷ xs) ys h = (h.0, split_left xs ys h.1)

  pub split_right : (xs ys : List (List ℕ × List ℕ)) → Pass allowed (xs ++ ys) → Pass allowed ys
  split_right [] ys h = h
  split_right (x ∷ xs) ys h = split_right xs ys h.1

  offer_passes : (key : List ℕ) (marked : Bool) (o : Option (List ℕ)) → Pass allowed (value_of key o) → Pass allowed (offer_of key marked o)
  offer_passes key true o h = tt
  offer_passes key false None h = tt
  offer_passes key false (Some v) h = h

  pub offers_pass : (es : Cached (List ℕ)) → Pass allowed (values_of es) → Pass allowed (offers es)
  offers_pass [] h = tt
  offers_pass (e ∷ es) h = all_append _ (offer_of e.0 e.1.marked e.1.values) (offers es) (offer_passes e.0 e.1.marked e.1.values (split_left (value_of e.0 e.1.values) (values_of es) h)) (offers_pass es (split_right (value_of e.0 e.1.values) (values_of es) h))

  pub without_passes : (key : List ℕ) (es : Cached (List ℕ)) → Pass allowed (values_of es) → Pass allowed (values_of (without key es))
  without_passes key [] h = tt
  without_passes key (e ∷ es) h =
      elim (bytes_eq key e.0) as (λ b. Pass allowed (values_of (cond b (without key es) (e ∷ without key es)))) [
        | true ↦ without_passes key es (split_right (value_of e.0 e.1.values) (values_of es) h)
        | false ↦ all_append _ (value_of e.0 e.1.values) (values_of (without key es)) (split_left (value_of e.0 e.1.values) (values_of es) h) (without_passes key es (split_right (value_of e.0 e.1.values) (values_of es) h))
      ]

  values_append : (es gs : Cached (List ℕ)) → Pass allowed (values_of es) → Pass allowed (values_of gs) → Pass allowed (values_of (es ++ gs))
  values_append [] gs h k = k
  values_append (e ∷ es) gs h k = all_append _ (value_of e.0 e.1.values) (values_of (es ++ gs)) (split_left (value_of e.0 e.1.values) (values_of es) h) (values_append es gs (split_right (value_of e.0 e.1.values) (values_of es) h) k)

  newest_passes : (key : List ℕ) (e : Entry (List ℕ)) (es : Cached (List ℕ)) → Pass allowed (values_of es) → Pass allowed (value_of key e.values) → Pass allowed (values_of (newest key e es))
  newest_passes key e es h k = values_append (without key es) ((key, e) ∷ []) (without_passes key es h) (subst (Pass allowed) (sym (append-nil (value_of key e.values))) k)

  found_passes : (key : List ℕ) (es : Cached (List ℕ)) → Pass allowed (values_of es) → Pass allowed (value_of key (values_at key es))
  found_passes key [] h = tt
  found_passes key (e ∷ es) h =
      elim (bytes_eq key e.0) as (λ b. bytes_eq key e.0 ≡ b → Pass allowed (value_of key (option_and_then (λ (x : Entry (List ℕ)). x.values) (cond b (Some e.1) (value_at key es))))) [
        | true ↦ λ t. subst (λ k. Pass allowed (value_of k e.1.values)) (sym ((bytes_eq-Decides key e.0).0 t)) (split_left (value_of e.0 e.1.values) (values_of es) h)
        | false ↦ λ t. found_passes key es (split_right (value_of e.0 e.1.values) (values_of es) h)
      ] refl

  used_passes : (key : List ℕ) (es : Cached (List ℕ)) (o : Option (Entry (List ℕ))) → value_at key es ≡ o → Pass allowed (values_of es) → Pass allowed (values_of (renewed key o es))
  used_passes key es None e h = h
  used_passes key es (Some x) e h = newest_passes key x es h (subst (λ o. Pass allowed (value_of key (option_and_then (λ (y : Entry (List ℕ)). y.values) o))) e (found_passes key es h))

  step_passes : (es : Cached (List ℕ)) (step : CacheStep (List ℕ)) → Pass allowed (values_of es) → Pass allowed (handed_in step) → Pass allowed (values_of (stepped es step))
  step_passes es (Doubt key) h k = newest_passes key record { values = values_at key es; marked = true } es h (found_passes key es h)
  step_passes es (Commit key values) h k = newest_passes key record { values = Some values; marked = false } es h k
  step_passes es (Restore key) h k = newest_passes key record { values = values_at key es; marked = false } es h (found_passes key es h)
  step_passes es (Use key) h k = used_passes key es (value_at key es) refl h
  step_passes es (Drop key) h k = without_passes key es h

  pub steps_pass : (es : Cached (List ℕ)) (steps : List (CacheStep (List ℕ))) → Pass allowed (values_of es) → Pass allowed (handed_by steps) → Pass allowed (values_of (all_stepped es steps))
  steps_pass es [] h k = h
  steps_pass es (step ∷ steps) h k = steps_pass (stepped es step) steps (step_passes es step h (split_left (handed_in step) (handed_by steps) k)) (split_right (handed_in step) (handed_by steps) k)
