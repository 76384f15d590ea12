-- Each run is a walk under some marks, each of which stands for a failure of its own begin.
use Rattle.std.proofs.Common.{◌≡◌, ℕ, ◌<◌, ◌≤◌, Bool, true, false, cond, eqb, ltb, List, [], ◌∷◌, ◌++◌, Some, Ok, Err, Result, refl, ap, sym, ◌∙◌, inl, inr, arith}
use Rattle.std.proofs.lemmas.Bool.{eqb-true, eq-eqb}
use Rattle.std.proofs.lemmas.Option.{none-some, same_Some}
use Rattle.bitmap_kind.specs.Picture.{Picture}
use Rattle.load_cause.specs.declared.causes.Cause.{Cause}
use Rattle.load_cause.specs.declared.causes.Cause.TheVariants as causes
use Rattle.script_walk.specs.Starts.{one_if}
use Rattle.script_walk.specs.Walk.{Begin, TraceEvent, Dropped, Begun, Ended, Trimmed, Printed, Step, opening, walk, closing, trace}
use Rattle.script_walk.specs.Marks.{Marks, Mark, Source, Memory, Uncached, KeyResults, cause_of, marked_result, outcome_of}
use Rattle.script_walk.specs.Laws.{EachEnd, NoMarksNoFailures, IsAllowed, IsFailedBy, RunsAreWalks}
use Rattle.script_walk.proofs.Agree.{Gives, ends_left, ends_decide}
use Rattle.script_walk.proofs.Once.{ends, trace_once}
use Rattle.script_walk.proofs.Orderly.{traces_are_orderly}
use Rattle.script_walk.proofs.Licence.{mark_of, marks_in, licensed}

pub bit : (t : Bool) → one_if t ≤ 1
bit true = omega arith
bit false = omega arith

pub no_marks_law : NoMarksNoFailures
no_marks_law results lines = refl

marked_end : (answer : Result Picture Cause) (mark : Mark) → marked_result answer (mark_of (Err (cause_of mark))) ≡ Err (cause_of mark)
marked_end answer Source = refl
marked_end answer Memory = refl
marked_end answer (Uncached file) = refl

own_end : (answer : Result Picture Cause) → marked_result answer (mark_of answer) ≡ answer
own_end (Ok picture) = refl
own_end (Err causes.Missing) = refl
own_end (Err (causes.Refused refusal)) = refl
own_end (Err causes.Source) = refl
own_end (Err causes.Memory) = refl
own_end (Err causes.Uncached) = refl

stands : (result : Result Picture Cause) (mark : Mark) → mark_of result ≡ Some mark → result ≡ Err (cause_of mark)
stands (Ok picture) mark e = absurd (none-some _ e)
stands (Err causes.Missing) mark e = absurd (none-some _ e)
stands (Err (causes.Refused refusal)) mark e = absurd (none-some _ e)
stands (Err causes.Source) mark e = ap (λ m. Err (cause_of m)) (same_Some _ _ e)
stands (Err causes.Memory) mark e = ap (λ m. Err (cause_of m)) (same_Some _ _ e)
stands (Err causes.Uncached) mark e = ap (λ m. Err (cause_of m)) (same_Some _ _ e)

module _ (results : KeyResults) where
  allowed_end : (b : Begin) (result : Result Picture Cause) → IsAllowed results b result → marked_result (results b.spec.key) (mark_of result) ≡ result
  allowed_end b result (inl e) = ap (λ r. marked_result (results b.spec.key) (mark_of r)) e ∙ own_end (results b.spec.key) ∙ sym e
  allowed_end b result (inr h) = ap (λ r. marked_result (results b.spec.key) (mark_of r)) h.1 ∙ marked_end (results b.spec.key) h.0 ∙ sym h.1

  gives : (f : Marks) (es : List TraceEvent) → ((n : ℕ) → 0 < ends n es → f n ≡ marks_in es n) → ((n : ℕ) → ends n es ≤ 1) → EachEnd (IsAllowed results) es → Gives (outcome_of results f) es
  gives f [] is once each = tt
  gives f (Ended b result ∷ es) is once each =
      let here : eqb b.number b.number ≡ true = eq-eqb b.number b.number refl in
      let first : f b.number ≡ mark_of result = is b.number (omega (arith, ap one_if here)) ∙ ap (λ t. cond t (mark_of result) (marks_in es b.number)) here in (
        ap (marked_result (results b.spec.key)) first ∙ allowed_end b result each.0,
        gives f es
            (λ n some.
            let other : eqb b.number n ≡ false = elim (eqb b.number n) as (λ t. eqb b.number n ≡ t → t ≡ false) [
              | true ↦ λ e. absurd (omega (arith, some, once n, ap one_if e))
              | false ↦ λ e. refl
            ] refl in
            is n (omega (arith, some)) ∙ ap (λ t. cond t (mark_of result) (marks_in es n)) other)
            (λ n. omega (arith, once n)) each.1,
      )
  gives f (Dropped b ∷ es) is once each = gives f es is once each
  gives f (Begun b others ∷ es) is once each = gives f es is once each
  gives f (Trimmed level ∷ es) is once each = gives f es is once each
  gives f (Printed line ∷ es) is once each = gives f es is once each

owed : (es : List TraceEvent) (n : ℕ) (mark : Mark) → marks_in es n ≡ Some mark → IsFailedBy mark n es
owed [] n mark e = absurd (none-some _ e)
owed (Ended b result ∷ es) n mark e = elim (eqb b.number n) as (λ t. eqb b.number n ≡ t → cond t (mark_of result) (marks_in es n) ≡ Some mark → IsFailedBy mark n (Ended b result ∷ es)) [
  | true ↦ λ h g. inl (eqb-true _ _ h, stands result mark g)
  | false ↦ λ h g. inr (owed es n mark g)
] refl e
owed (Dropped b ∷ es) n mark e = owed es n mark e
owed (Begun b others ∷ es) n mark e = owed es n mark e
owed (Trimmed level ∷ es) n mark e = owed es n mark e
owed (Printed line ∷ es) n mark e = owed es n mark e

pub runs_are_walks : RunsAreWalks
runs_are_walks results outcome lines each =
    let all = walk outcome opening lines in
    let es = trace outcome lines in
    let f : Marks = marks_in es in
    record {
      marks = f;
      walk_is = sym (ap (λ (w : Step). w.events ++ closing w.stage)
          (ends_decide (outcome_of results f) outcome lines
          (ends_left (λ begin result. outcome_of results f begin ≡ result) all.events (closing all.stage)
          (gives results f es (λ n some. refl) (λ n. omega (arith, trace_once outcome n lines, bit (ltb 0 n))) each))));
      owed = owed es;
      licensed = λ address. licensed address es (traces_are_orderly outcome lines);
    }
