-- All views are printed, one after the other.
use Rattle.std.proofs.Common.{◌≡◌, ℕ, ◌+◌, ◌<◌, ◌≤◌, Bool, true, false, cond, List, [], ◌∷◌, ◌++◌, length, Some, None, Option, Ok, Err, Result, refl, ap, sym, subst, ◌∙◌, append_assoc, append-nil, add-one, take, arith}
use Rattle.std.specs.Prelude.{⊤, slice_get, suc, zero, ◌||◌, IfOk, OnOk}
use Rattle.std.specs.List.{list_any}
use Rattle.std.specs.Option.{option_to_list}
use Rattle.std.proofs.lemmas.List.{take_all}
use Rattle.std.proofs.lemmas.Option.{none-some}
use Rattle.outside.specs.declared.sinks.Sink as sinks
use Rattle.outside.specs.declared.sinks.WriteFault.{WriteFault}
use Rattle.state_machine.specs.declared.entry.Entry.{Entry}
use Rattle.engine_world.specs.declared.events.Note.{Note}
use Rattle.printed_lines.specs.Printed.{PrintedLine, lines_text, says_failed}
use Rattle.printed_lines.specs.Writes.{Writes}
use Rattle.script_walk.specs.Walk.{Begin, Outcome, Form, Digest, WalkView, Stage, TraceEvent, Printed, view_line, printed, print_events}
use Rattle.script_walk.specs.Ends.{lines_in}
use Rattle.engine_shared.specs.Caller.{Caller}
use Rattle.fetch_bounds.specs.Follows as followed
use Rattle.fetch_bounds.specs.Parts.{begins_after, TracesJoin}
use Rattle.engine_views.specs.Held.{Held}
use Rattle.engine_views.specs.Following.{standing, Follows}
use Rattle.glide_run.specs.inside.Looks.{Asks}
use Rattle.glide_run.specs.inside.Prints.{failing_in, Printer, IsLastIn, AreLastIn, Prints, PrintsView, PrintsViews}
use Rattle.glide_run.proofs.Telling.{work_append, asks_none, asks_then, asks_as}
use Rattle.glide_run.proofs.Printing.{Lines, all_lines, printed_none, printed_then, printed_until, lines_more, lines_around, lines_at}

-- ---- events that only print

pub after_prints : (begun : List Begin) (o : Outcome) (form : Form) (shown : List ℕ → Bool) (vs : List WalkView) → begins_after begun (print_events o form shown vs) ≡ begun
after_prints begun o form shown [] = refl
after_prints begun o form shown (v ∷ vs) = elim (shown v.name) as (λ t. begins_after begun (cond t (printed (view_line o form v)) [] ++ print_events o form shown vs) ≡ begun) [
  | true ↦ elim (view_line o form v) as (λ l. begins_after begun (printed l ++ print_events o form shown vs) ≡ begun) [ None ↦ after_prints begun o form shown vs | Some line ↦ after_prints begun o form shown vs ]
  | false ↦ after_prints begun o form shown vs
]

pub last_at : (begun : List Begin) (vs : List WalkView) (k : ℕ) (v : WalkView) → AreLastIn begun vs → slice_get vs k ≡ Some v → IsLastIn begun v
last_at begun [] k v known at = absurd (none-some _ at)
last_at begun (w ∷ vs) zero v known at = let same : w ≡ v = cc in subst (IsLastIn begun) same known.0
last_at begun (w ∷ vs) (suc k) v known at = last_at begun vs k v known.1 at

abbrev pub all_events : Outcome → List WalkView → List TraceEvent
all_events o vs = print_events o Digest (λ name. true) vs

events_suc : (o : Outcome) (vs : List WalkView) (k : ℕ) (v : WalkView) → slice_get vs k ≡ Some v → all_events o (take (suc k) vs) ≡ all_events o (take k vs) ++ printed (view_line o Digest v)
events_suc o [] k v at = absurd (none-some _ at)
events_suc o (w ∷ vs) zero v at = let same : w ≡ v = cc in append-nil (printed (view_line o Digest w)) ∙ ap (λ x. printed (view_line o Digest x)) same
events_suc o (w ∷ vs) (suc k) v at =
    ap (λ l. printed (view_line o Digest w) ++ l) (events_suc o vs k v at) ∙ sym (append_assoc (printed (view_line o Digest w)) (all_events o (take k vs)) (printed (view_line o Digest v)))

events_more : (o : Outcome) (vs : List WalkView) (k : ℕ) (v : WalkView) → slice_get vs k ≡ Some v → all_events o (take (k + 1) vs) ≡ all_events o (take k vs) ++ printed (view_line o Digest v)
events_more o vs k v at = ap (λ n. all_events o (take n vs)) (add-one k) ∙ events_suc o vs k v at

-- ---- the views up to a place

module _ {W : Type 0} (sink : sinks.Ghosts W) (held : Held) where
  -- The first so many views were printed.
  pub record PrintedTo (o : Outcome) (vs : List WalkView) (k : ℕ) (failing : Bool) (old now : Printer W) : Type 0 where
    pub lines : Lines sink (all_lines o Digest (take k vs)) old.out now.out (Ok failing)
    pub asks : Asks held followed.AllWork old.caller now.caller
    pub told : (begun : List Begin) → AreLastIn begun vs → Asks held (followed.Follows begun (all_events o (take k vs))) old.caller now.caller

module _ {W : Type 0} (sink : sinks.Ghosts W) (held : Held) (join : TracesJoin) where
  pub none_printed : (o : Outcome) (vs : List WalkView) (old : Printer W) → PrintedTo sink held o vs 0 false old old
  none_printed o vs old = record { lines = printed_none sink old.out; asks = asks_none held old.caller; told = λ begun known. asks_none held old.caller }

  lines_of : (o : Outcome) (v : WalkView) (old new : Printer W) (r : Result Bool WriteFault) → PrintsView sink held o Digest v old new r → Lines sink (option_to_list (view_line o Digest v)) old.out new.out r
  lines_of o v old new (Ok failing) p = record {
    writes = subst (λ l. Writes sink old.out new.out (lines_text l) (Ok tt)) (lines_at o Digest v) p.writes;
    failing = p.failing ∙ ap (list_any says_failed) (lines_at o Digest v);
  }
  lines_of o v old new (Err fault) p = record { writes = subst (λ l. Writes sink old.out new.out (lines_text l) (Err fault)) (lines_at o Digest v) p.writes; failing = tt }

  pub one_printed : (o : Outcome) (vs : List WalkView) (k : ℕ) (v : WalkView) (a b : Bool) (old mid new : Printer W) → slice_get vs k ≡ Some v → PrintedTo sink held o vs k a old mid → PrintsView sink held o Digest v mid new (Ok b)
      → PrintedTo sink held o vs (k + 1) (a || b) old new
  one_printed o vs k v a b old mid new at p q =
      let both = printed_then sink old.out mid.out new.out (all_lines o Digest (take k vs)) (option_to_list (view_line o Digest v)) a b p.lines (lines_of o v mid new (Ok b) q) in
      record {
        lines = subst (λ l. Lines sink l old.out new.out (Ok (a || b))) (sym (lines_more o vs k v at)) both;
        asks = asks_then held followed.AllWork followed.AllWork followed.AllWork work_append old.caller mid.caller new.caller p.asks q.asks;
        told = λ begun known.
            let first = all_events o (take k vs) in
            let more = printed (view_line o Digest v) in
            let joins : (xs ys : List (Entry Note)) → followed.Follows begun first xs → followed.Follows begun more ys → followed.Follows begun (all_events o (take (k + 1) vs)) (xs ++ ys) = λ xs ys hx hy.
            subst (λ l. followed.Follows begun l (xs ++ ys)) (sym (events_more o vs k v at))
            (join begun first more xs ys hx (subst (λ b. followed.Follows b more ys) (sym (after_prints begun o Digest (λ name. true) (take k vs))) hy)) in
            asks_then held (followed.Follows begun first) (followed.Follows begun more) (followed.Follows begun (all_events o (take (k + 1) vs))) joins old.caller mid.caller new.caller (p.told begun known) (q.told begun (last_at begun vs k v known at));
      }

  -- all of them
  pub all_printed : (o : Outcome) (vs : List WalkView) (k : ℕ) (failing : Bool) (old new : Printer W) → length vs ≤ k → PrintedTo sink held o vs k failing old new → PrintsViews sink held o vs old new (Ok failing)
  all_printed o vs k failing old new le p =
      let all = take_all k vs le in
      record {
        writes = subst (λ l. Writes sink old.out new.out (lines_text (all_lines o Digest l)) (Ok tt)) all p.lines.writes;
        failing = subst (λ l. failing ≡ list_any says_failed (all_lines o Digest l)) all p.lines.failing;
        asks = p.asks;
        told = λ begun known. subst (λ l. Asks held (followed.Follows begun (all_events o l)) old.caller new.caller) all (p.told begun known);
      }

  -- or those up to one that was torn
  pub some_printed : (o : Outcome) (vs : List WalkView) (k : ℕ) (v : WalkView) (a : Bool) (old mid new : Printer W) {r : Result Bool WriteFault} {fault : WriteFault} → slice_get vs k ≡ Some v → PrintedTo sink held o vs k a old mid
      → PrintsView sink held o Digest v mid new (Err fault) → r ≡ Err fault → PrintsViews sink held o vs old new r
  some_printed o vs k v a old mid new {r} {fault} at p q same =
      let around = lines_around o vs k v at in
      let lines = printed_until sink old.out mid.out new.out (all_lines o Digest (take k vs)) (option_to_list (view_line o Digest v)) around.0 (all_lines o Digest vs) a {r = Err fault} around.1 p.lines (lines_of o v mid new (Err fault) q) refl in
      let whole : PrintsViews sink held o vs old new (Err fault) = record {
        writes = lines.writes;
        failing = tt;
        asks = asks_then held followed.AllWork followed.AllWork followed.AllWork work_append old.caller mid.caller new.caller p.asks q.asks;
        told = tt;
      } in
      subst (PrintsViews sink held o vs old new) (sym same) whole
