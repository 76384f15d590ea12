-- Traces that are the same but for their printed lines.
use Rattle.std.proofs.Common.{◌≡◌, ℕ, ◌+◌, ◌*◌, Bool, true, false, List, [], ◌∷◌, length, Some, None, Option, Ok, Err, Result, refl, ap, sym, subst, ◌∙◌}
use Rattle.std.specs.Prelude.{⊤, not, ◌&&◌, ◌||◌, nat_le, nat_lt}
use Rattle.std.specs.List.{list_any}
use Rattle.std.specs.Result.{is_ok}
use Rattle.cache_key.specs.Key.{Key}
use Rattle.script_walk.specs.Walk.{Begin, TraceEvent, Dropped, Begun, Ended, Trimmed, Printed}
use Rattle.script_walk.specs.Marks.{Marks, KeyResults, begins_in}
use Rattle.script_walk.specs.Laws.{EachEnd}
use Rattle.script_walk.specs.Starts.{Walked, one_if, has_key, is_trim, total_size, keys_of, is_plain, is_shared, remembers, is_covered, starts_from, starts}
use Rattle.fetch_bounds.specs.Costs.{cached_begins}
use Rattle.glide_run.specs.inside.Obeys.{unprinted}
use Rattle.glide_run.proofs.Events.{Says}

-- ---- ends

ends_without : (P : Says) (es : List TraceEvent) → EachEnd P es → EachEnd P (unprinted es)
ends_without P [] h = tt
ends_without P (Ended b result ∷ es) h = (h.0, ends_without P es h.1)
ends_without P (Dropped b ∷ es) h = ends_without P es h
ends_without P (Begun b others ∷ es) h = ends_without P es h
ends_without P (Trimmed level ∷ es) h = ends_without P es h
ends_without P (Printed line ∷ es) h = ends_without P es h

ends_with : (P : Says) (es : List TraceEvent) → EachEnd P (unprinted es) → EachEnd P es
ends_with P [] h = tt
ends_with P (Ended b result ∷ es) h = (h.0, ends_with P es h.1)
ends_with P (Dropped b ∷ es) h = ends_with P es h
ends_with P (Begun b others ∷ es) h = ends_with P es h
ends_with P (Trimmed level ∷ es) h = ends_with P es h
ends_with P (Printed line ∷ es) h = ends_with P es h

-- ---- what is read off events that are not printed

begins_without : (es : List TraceEvent) → begins_in (unprinted es) ≡ begins_in es
begins_without [] = refl
begins_without (Begun b others ∷ es) = ap (λ l. b ∷ l) (begins_without es)
begins_without (Ended b result ∷ es) = begins_without es
begins_without (Dropped b ∷ es) = begins_without es
begins_without (Trimmed level ∷ es) = begins_without es
begins_without (Printed line ∷ es) = begins_without es

cached_without : (es : List TraceEvent) → cached_begins (unprinted es) ≡ cached_begins es
cached_without [] = refl
cached_without (Begun b others ∷ es) = ap (λ n. one_if b.spec.cached + n) (cached_without es)
cached_without (Ended b result ∷ es) = cached_without es
cached_without (Dropped b ∷ es) = cached_without es
cached_without (Trimmed level ∷ es) = cached_without es
cached_without (Printed line ∷ es) = cached_without es

trims_without : (es : List TraceEvent) → list_any is_trim (unprinted es) ≡ list_any is_trim es
trims_without [] = refl
trims_without (Trimmed level ∷ es) = refl
trims_without (Begun b others ∷ es) = trims_without es
trims_without (Ended b result ∷ es) = trims_without es
trims_without (Dropped b ∷ es) = trims_without es
trims_without (Printed line ∷ es) = trims_without es

-- ---- starts

-- Where the same begins are covered, there are as many starts.
starts_without : (run other : Walked) → ((complete : List Key) (begin : Begin) (others : List Begin) → is_covered other complete begin others ≡ is_covered run complete begin others) → (complete : List Key) (es : List TraceEvent)
    → starts_from other complete (unprinted es) ≡ starts_from run complete es
starts_without run other same complete [] = refl
starts_without run other same complete (Begun b others ∷ es) = let rest = starts_without run other same complete es in (λ i. one_if (not (b.spec.cached || same complete b others i)) + rest i)
starts_without run other same complete (Ended b (Ok picture) ∷ es) = starts_without run other same (b.spec.key ∷ complete) es
starts_without run other same complete (Ended b (Err cause) ∷ es) = starts_without run other same complete es
starts_without run other same complete (Dropped b ∷ es) = starts_without run other same complete es
starts_without run other same complete (Trimmed level ∷ es) = starts_without run other same complete es
starts_without run other same complete (Printed line ∷ es) = starts_without run other same complete es

-- ---- traces of the same work

module _ (xs ys : List TraceEvent) (same : unprinted xs ≡ unprinted ys) where
  pub ends_as : (P : Says) → EachEnd P xs → EachEnd P ys
  ends_as P h = ends_with P ys (subst (EachEnd P) same (ends_without P xs h))

  pub begins_as : begins_in xs ≡ begins_in ys
  begins_as = sym (begins_without xs) ∙ ap begins_in same ∙ begins_without ys

  pub cached_as : cached_begins xs ≡ cached_begins ys
  cached_as = sym (cached_without xs) ∙ ap cached_begins same ∙ cached_without ys

  trims_as : list_any is_trim xs ≡ list_any is_trim ys
  trims_as = sym (trims_without xs) ∙ ap (list_any is_trim) same ∙ trims_without ys

  module _ (results : KeyResults) (marks : Marks) (memory : ℕ) where
    abbrev walked_at : List TraceEvent → Walked
    walked_at events = record { results = results; marks = marks; memory = memory; events = events }

    remembers_as : remembers (walked_at xs) ≡ remembers (walked_at ys)
    remembers_as = λ i. not (trims_as i) && nat_le (length (keys_of (begins_as i))) 1024 && nat_lt (8 * total_size results (keys_of (begins_as i))) memory

    covered_as : (complete : List Key) (begin : Begin) (others : List Begin) → is_covered (walked_at xs) complete begin others ≡ is_covered (walked_at ys) complete begin others
    covered_as complete begin others =
        let key = begin.spec.key in
        (λ i. is_ok (results key) && is_plain (begins_as i) key && (is_shared marks key others || (remembers_as i && has_key key complete)))

    pub starts_as : starts (walked_at xs) ≡ starts (walked_at ys)
    starts_as =
        sym (starts_without (walked_at xs) (walked_at xs) (λ complete begin others. refl) [] xs)
        ∙ ap (starts_from (walked_at xs) []) same
        ∙ starts_without (walked_at ys) (walked_at xs) covered_as [] ys
