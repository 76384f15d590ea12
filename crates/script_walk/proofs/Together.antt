-- Begins that run at the same time were made after the same gather.
use Rattle.std.proofs.Common.{◌≡◌, ◌≢◌, ℕ, ◌+◌, Bool, true, false, cond, eqb, List, [], ◌∷◌, ◌++◌, Some, None, Option, Ok, Err, Result, refl, ap, sym, subst, ◌∙◌, inl, inr, true≢false, append_assoc}
use Rattle.std.specs.Prelude.{◌⊎◌, not, ⊤}
use Rattle.std.specs.Option.{option_or, option_len, option_to_list}
use Rattle.std.proofs.lemmas.List.{append-nil}
use Rattle.std.proofs.lemmas.Bool.{eq-eqb}
use Rattle.std.proofs.lemmas.Option.{none-some, same_Some}
use Rattle.bitmap_kind.specs.Picture.{Picture}
use Rattle.request_tracker.specs.declared.turns.Turn.{Turn}
use Rattle.request_tracker.specs.declared.turns.Turn.TheVariants.{Stays, Begins, Pauses, Clears}
use Rattle.request_tracker.specs.declared.views.Act.TheVariants as acts
use Rattle.request_tracker.specs.declared.views.View.{View}
use Rattle.request_tracker.specs.declared.views.ViewState.{ViewState}
use Rattle.request_tracker.specs.declared.views.ViewState.TheVariants.{Cleared, Waiting, Running, Complete, Failed, Paused}
use Rattle.request_tracker.specs.Table.{has_hold, has_size, drops, begins, turned, request}
use Rattle.request_tracker.specs.Moves.{Move, act_move}
use Rattle.load_cause.specs.declared.causes.Cause.{Cause}
use Rattle.printed_lines.specs.Printed.{PrintedLine}
use Rattle.script_lines.specs.Script.{Numbered}
use Rattle.script_walk.specs.Walk.{Begin, WalkView, Outcome, Form, TraceEvent, Stage, begin_by, held, all_held, dropped_by, moved_view, drop_events, begin_events, each_move, running_in, end_events, view_ends, gathered, gather_events, view_line, printed, print_events, names_of, names_in, can_obey, Effect, Moves, Gathers, Trims, effect, after_effect, every, closing, stay, then_step}
use Rattle.script_walk.specs.Walk as walk
use Rattle.script_walk.specs.Orderly.{In, without_begin}
use Rattle.script_walk.specs.Together.{AllAfter, RunTogether, BeginsRunTogether}
use Rattle.script_walk.proofs.States.{Status, statuses, cleared, IsSet, KeepStates, Sets, effect_sets, act_keeps}
use Rattle.script_walk.proofs.Live.{in_left, in_right, in_parts}

in_without : (number : ℕ) (b : Begin) (bs : List Begin) → In b (without_begin number bs) → In b bs × (b.number ≢ number)
in_without number b [] h = absurd h
in_without number b (x ∷ bs) h = elim (eqb x.number number) as (λ t. eqb x.number number ≡ t → In b (cond (not t) (x ∷ without_begin number bs) (without_begin number bs)) → In b (x ∷ bs) × (b.number ≢ number)) [
  | true ↦ λ e h. let rest = in_without number b bs h in (inr rest.0, rest.1)
  | false ↦ λ e h. elim h [
    | inl is ↦ (inl is, λ same. true≢false (sym (eq-eqb x.number number (ap (λ (y : Begin). y.number) (sym is) ∙ same)) ∙ e))
    | inr is ↦ let rest = in_without number b bs is in (inr rest.0, rest.1)
  ]
] refl h

-- the begins that run
abbrev runs_in : List WalkView → List Begin
runs_in [] = []
runs_in (v ∷ vs) = option_to_list (walk.running v) ++ runs_in vs

-- These begins run, all after so many gathers.
abbrev Run : ℕ → List Begin → List Begin → Type 0
Run g running views = (b : Begin) → In b running → (b.gathers ≡ g) × In b views

all_after : (g : ℕ) (running views : List Begin) → Run g running views → AllAfter g running
all_after g [] views h = tt
all_after g (b ∷ bs) views h = ((h b (inl refl)).0, all_after g bs views (λ o is. h o (inr is)))

-- What is said of the events that are left, wherever the begins that run are among these.
abbrev Then : ℕ → List Begin → List TraceEvent → Type 0
Then g views tail = (running : List Begin) → Run g running views → RunTogether running tail

-- a begin that is dropped, or comes to its end, runs no longer
run_less : (g : ℕ) (running before after : List Begin) (b : Begin) → Run g running (before ++ (b ∷ after)) → Run g (without_begin b.number running) (before ++ after)
run_less g running before after b h o o_in =
    let left = in_without b.number o running o_in in
    let old = h o left.0 in (
      old.0,
      elim (in_parts o before (b ∷ after) old.1) [
        | inl is ↦ in_left o before after is
        | inr is ↦ elim is [ inl same ↦ absurd (left.1 (ap (λ (x : Begin). x.number) same)) | inr is ↦ in_right o before after is ]
      ],
    )

run_same : (g : ℕ) (running views : List Begin) (b : Begin) → Run g running views → Run g (without_begin b.number running) views
run_same g running views b h o o_in = h o (in_without b.number o running o_in).0

-- ---- moves

-- a drop of the last begin, which runs or does not
drop_then : (g : ℕ) (running before after : List Begin) (o run : Option Begin) (tail : List TraceEvent) → ((b : Begin) → run ≡ Some b → o ≡ Some b) → Run g running (before ++ (option_to_list run ++ after))
    → Then g (before ++ after) tail → RunTogether running (drop_events o ++ tail)
drop_then g running before after None None tail same h next = next running h
drop_then g running before after None (Some b) tail same h next = absurd (none-some _ (same b refl))
drop_then g running before after (Some b) None tail same h next = next (without_begin b.number running) (run_same g running (before ++ after) b h)
drop_then g running before after (Some b) (Some a) tail same h next =
    next (without_begin b.number running) (run_less g running before after b (subst (λ x. Run g running (before ++ (x ∷ after))) (sym (same_Some _ _ (same a refl))) h))

begin_then : (b : Begin) (running before after : List Begin) (others : List Begin) (tail : List TraceEvent) → Run b.gathers running (before ++ after)
    → Then b.gathers (before ++ (b ∷ after)) tail → RunTogether running (begin_events (Some b) others ++ tail)
begin_then b running before after others tail h next = (
  all_after b.gathers running (before ++ after) h,
  next (b ∷ running) (λ o o_in. elim o_in [
    | inl same ↦ (ap (λ (x : Begin). x.gathers) same, in_right o before (b ∷ after) (inl same))
    | inr old ↦ (
      (h o old).0,
      elim (in_parts o before after (h o old).1) [ inl is ↦ in_left o before (b ∷ after) is | inr is ↦ in_right o before (b ∷ after) (inr is) ],
    )
  ]),
)

runs_then_holds : (state : ViewState Cause) (last : Option Begin) (b : Begin) → running_in state last ≡ Some b → cond (has_hold state) last None ≡ Some b
runs_then_holds Running last b e = e
runs_then_holds state last b e = absurd (none-some _ e)

-- one view's turn
turn_then : (k g : ℕ) (name : List ℕ) (turn : Turn) (set : View Cause) (old : ViewState Cause) (last : Option Begin) (running before after others : List Begin) (tail : List TraceEvent)
    → set.state ≡ old → Run g running (before ++ (option_to_list (running_in old last) ++ after))
    → (let b : Begin = record { number = k + 1; gathers = g; view = name; spec = request set } in let begin : Option Begin = cond (begins turn set) (Some b) None in
    Then g (before ++ (option_to_list (running_in (turned turn set) (option_or begin last)) ++ after)) tail
    → RunTogether running (drop_events (cond (drops turn old) last None) ++ (begin_events begin others ++ tail)))
turn_then k g name Stays set old last running before after others tail e h next = next running (subst (λ s. Run g running (before ++ (option_to_list (running_in s last) ++ after))) (sym e) h)
turn_then k g name Begins set old last running before after others tail e h next =
    let b : Begin = record { number = k + 1; gathers = g; view = name; spec = request set } in
    let begin : Bool → Option Begin = λ t. cond t (Some b) None in
    drop_then g running before after (cond (has_hold old) last None) (running_in old last) (begin_events (begin (has_size set)) others ++ tail) (runs_then_holds old last) h
    (elim (has_size set) as (λ t. Then g (before ++ (option_to_list (running_in (cond t Running Waiting) (option_or (begin t) last)) ++ after)) tail → Then g (before ++ after) (begin_events (begin t) others ++ tail)) [
      | true ↦ λ next running h. begin_then b running before after others tail h next
      | false ↦ λ next. next
    ] next)
turn_then k g name Pauses set old last running before after others tail e h next = drop_then g running before after (cond (has_hold old) last None) (running_in old last) tail (runs_then_holds old last) h next
turn_then k g name Clears set old last running before after others tail e h next = drop_then g running before after (cond (has_hold old) last None) (running_in old last) tail (runs_then_holds old last) h next

moves_then : (moves : List ℕ → Move Cause) → KeepStates moves → (g : ℕ) (vs : List WalkView) (k : ℕ) (running before held_before : List Begin) (tail : List TraceEvent)
    → Run g running (before ++ runs_in vs) → Then g (before ++ runs_in (each_move moves k g held_before vs).views) tail
    → RunTogether running ((each_move moves k g held_before vs).events ++ tail)
moves_then moves keep g [] k running before held_before tail h next = next running h
moves_then moves keep g (v ∷ vs) k running before held_before tail h next =
    let move = moves v.name in
    let begin = begin_by move (k + 1) g v in
    let new = moved_view move begin v in
    let first = drop_events (dropped_by move v) in
    let second = begin_events begin (held_before ++ all_held vs) in
    let rest = each_move moves (k + option_len begin) g (held_before ++ held new) vs in
    let parts : ((first ++ second) ++ rest.events) ++ tail ≡ first ++ (second ++ (rest.events ++ tail)) =
    append_assoc (first ++ second) rest.events tail ∙ append_assoc first second (rest.events ++ tail) in
    subst (RunTogether running) (sym parts)
    (turn_then k g v.name (move.turn v.view.state) (move.sets v.view) v.view.state v.last running before (runs_in vs) (held_before ++ all_held vs) (rest.events ++ tail) (keep v.name v.view) h
    (λ running' h'. moves_then moves keep g vs (k + option_len begin) running' (before ++ option_to_list (walk.running new)) (held_before ++ held new) tail
    (subst (Run g running') (sym (append_assoc before (option_to_list (walk.running new)) (runs_in vs))) h')
    (subst (λ l. Then g l tail) (sym (append_assoc before (option_to_list (walk.running new)) (runs_in rest.views))) next)))

-- ---- gathers

-- nothing runs where nothing is among these
none_run : (g g' : ℕ) (running : List Begin) → Run g running [] → Run g' running []
none_run g g' running h b b_in = absurd (h b b_in).1

module _ (o : Outcome) where
  ended_then : (g : ℕ) (running after : List Begin) (b : Begin) (r : Result Picture Cause) (tail : List TraceEvent) → Run g running (b ∷ after) → Then g after tail → RunTogether running (end_events b r ++ tail)
  ended_then g running after b (Ok picture) tail h next = next (without_begin b.number running) (run_less g running [] after b h)
  ended_then g running after b (Err cause) tail h next =
      let left = without_begin b.number running in
      next (without_begin b.number left) (run_same g left after b (run_less g running [] after b h))

  view_then : (g : ℕ) (running after : List Begin) (run : Option Begin) (tail : List TraceEvent) → Run g running (option_to_list run ++ after) → Then g after tail → RunTogether running (view_ends o run ++ tail)
  view_then g running after None tail h next = next running h
  view_then g running after (Some b) tail h next = ended_then g running after b (o b) tail h next

  gather_then : (g : ℕ) (vs : List WalkView) (running : List Begin) (tail : List TraceEvent) → Run g running (runs_in vs) → Then g [] tail → RunTogether running (gather_events o vs ++ tail)
  gather_then g [] running tail h next = next running h
  gather_then g (v ∷ vs) running tail h next =
      subst (RunTogether running) (sym (append_assoc (view_ends o (walk.running v)) (gather_events o vs) tail))
      (view_then g running (runs_in vs) (walk.running v) (gather_events o vs ++ tail) h (λ running' h'. gather_then g vs running' tail h' next))

  printed_then : (line : Option PrintedLine) (running : List Begin) (tail : List TraceEvent) → RunTogether running tail → RunTogether running (printed line ++ tail)
  printed_then None running tail h = h
  printed_then (Some line) running tail h = h

  prints_then : (form : Form) (shown : List ℕ → Bool) (vs : List WalkView) (running : List Begin) (tail : List TraceEvent) → RunTogether running tail → RunTogether running (print_events o form shown vs ++ tail)
  prints_then form shown [] running tail h = h
  prints_then form shown (v ∷ vs) running tail h =
      let rest = print_events o form shown vs in
      elim (shown v.name) as (λ t. RunTogether running ((cond t (printed (view_line o form v)) [] ++ rest) ++ tail)) [
        | true ↦ subst (RunTogether running) (sym (append_assoc (printed (view_line o form v)) rest tail)) (printed_then (view_line o form v) running (rest ++ tail) (prints_then form shown vs running tail h))
        | false ↦ prints_then form shown vs running tail h
      ]

  -- ---- commands

  effect_then : (s : Stage) (e : Effect) → Sets s e → (same_runs : (set : Stage) → IsSet (statuses set.views) (statuses s.views) → runs_in set.views ≡ runs_in s.views)
      → (running : List Begin) (tail : List TraceEvent) → Run s.gathers running (runs_in s.views) → Then (after_effect o s e).stage.gathers (runs_in (after_effect o s e).stage.views) tail
      → RunTogether running ((after_effect o s e).events ++ tail)
  effect_then s (Moves set moves) sets same running tail h next =
      let start : Run set.gathers running (runs_in set.views) = subst (λ l. Run set.gathers running l) (sym (same set sets.0)) (subst (λ g. Run g running (runs_in s.views)) (sym sets.2) h) in
      moves_then moves sets.3 set.gathers set.views set.begun running [] [] tail start next
  effect_then s (Gathers form shown) sets same running tail h next =
      subst (RunTogether running) (sym (append_assoc (gather_events o s.views) (print_events o form shown (gathered o s.views)) tail))
      (gather_then s.gathers s.views running (print_events o form shown (gathered o s.views) ++ tail) h
      (λ running' h'. prints_then form shown (gathered o s.views) running' tail (next running' (λ b b_in. absurd (h' b b_in).1))))
  effect_then s (Trims level) sets same running tail h next = next running h

abbrev runs_at : List Status → List Begin
runs_at [] = []
runs_at (s ∷ ss) = option_to_list (running_in s.0 s.1) ++ runs_at ss

runs_statuses : (vs : List WalkView) → runs_in vs ≡ runs_at (statuses vs)
runs_statuses [] = refl
runs_statuses (v ∷ vs) = ap (λ l. option_to_list (walk.running v) ++ l) (runs_statuses vs)

runs_cleared : (ss : List Status) → runs_at (ss ++ cleared ∷ []) ≡ runs_at ss
runs_cleared [] = refl
runs_cleared (s ∷ ss) = ap (λ l. option_to_list (running_in s.0 s.1) ++ l) (runs_cleared ss)

same_runs : (s set : Stage) → IsSet (statuses set.views) (statuses s.views) → runs_in set.views ≡ runs_in s.views
same_runs s set (inl e) = runs_statuses set.views ∙ ap runs_at e ∙ sym (runs_statuses s.views)
same_runs s set (inr e) = runs_statuses set.views ∙ ap runs_at e ∙ runs_cleared (statuses s.views) ∙ sym (runs_statuses s.views)

closing_together : (s : Stage) (running : List Begin) → Run s.gathers running (runs_in s.views) → RunTogether running (closing s)
closing_together s running h = subst (RunTogether running) (append-nil (closing s))
    (moves_then (every (act_move acts.ClearAll)) (act_keeps acts.ClearAll) s.gathers s.views s.begun running [] [] [] h (λ running' h'. tt))

module _ (o : Outcome) where
  walk_then : (lines : List Numbered) (s : Stage) (running : List Begin) → Run s.gathers running (runs_in s.views) → RunTogether running ((walk.walk o s lines).events ++ closing (walk.walk o s lines).stage)
  walk_then [] s running h = closing_together s running h
  walk_then (first ∷ others) s running h =
      let r = walk.step o s first.command in
      let rest = walk.walk o r.stage others in
      elim (can_obey (names_in first.command) (names_of s.views)) as (λ t. RunTogether running ((cond t (then_step r rest) (stay s)).events ++ closing (cond t (then_step r rest) (stay s)).stage)) [
        | true ↦ subst (RunTogether running) (sym (append_assoc r.events rest.events (closing rest.stage)))
            (effect_then o s (effect s first.command) (effect_sets s first.command) (same_runs s) running (rest.events ++ closing rest.stage) h (λ running' h'. walk_then others r.stage running' h'))
        | false ↦ closing_together s running h
      ]

pub begins_run_together : BeginsRunTogether
begins_run_together o lines = walk_then o lines walk.opening [] (λ b is. absurd is)
