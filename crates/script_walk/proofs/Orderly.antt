-- The trace of a walk is orderly: begins are numbered in order, and what is held beside one has begun and was not dropped.
use Rattle.std.proofs.Common.{◌≡◌, ℕ, ◌+◌, ◌<◌, ◌≤◌, Bool, true, false, cond, ltb, List, [], ◌∷◌, ◌++◌, length, Some, None, Option, Ok, Err, Result, refl, ap, sym, subst, ◌∙◌, inl, inr, arith, append_assoc}
use Rattle.std.specs.Prelude.{◌||◌, ⊤}
use Rattle.std.specs.Option.{option_or, option_map, option_len, option_to_list}
use Rattle.std.proofs.lemmas.List.{append-nil, length-append}
use Rattle.std.proofs.lemmas.Bool.{ltb-true}
use Rattle.bitmap_kind.specs.Picture.{Picture}
use Rattle.request_tracker.specs.declared.turns.Turn.{Turn}
use Rattle.request_tracker.specs.declared.turns.Turn.TheVariants.{Stays, Begins, Pauses, Clears}
use Rattle.request_tracker.specs.declared.views.Act.TheVariants as acts
use Rattle.request_tracker.specs.declared.views.View.{View}
use Rattle.request_tracker.specs.declared.views.ViewState.{ViewState}
use Rattle.request_tracker.specs.declared.views.ViewState.TheVariants.{Cleared, Waiting, Running, Complete, Failed, Paused}
use Rattle.request_tracker.specs.Table.{has_hold, has_size, drops, begins, turned, request, collected}
use Rattle.request_tracker.specs.Moves.{Move, act_move}
use Rattle.load_cause.specs.declared.causes.Cause.{Cause}
use Rattle.printed_lines.specs.Printed.{PrintedLine}
use Rattle.script_lines.specs.Script.{Numbered}
use Rattle.script_walk.specs.Walk.{Begin, WalkView, Outcome, Form, TraceEvent, Stage, opening, begin_by, held, all_held, dropped_by, moved_view, drop_events, begin_events, each_move, running, running_in, ended, end_events, view_ends, gathered_view, gathered, gather_events, view_line, printed, print_events, has_name, names_of, Names, NoView, Known, Made, names_in, can_obey, Effect, Moves, Gathers, Trims, effect, after_effect, step, every, closing, stay, then_step, walk, trace}
use Rattle.script_walk.specs.Ends.{names_after}
use Rattle.script_walk.specs.Orderly.{without_begin, IsOrderly}
use Rattle.script_walk.proofs.States.{Status, statuses, cleared, IsSet, KeepStates, Sets, effect_sets, act_keeps}
use Rattle.script_walk.proofs.BadCommands.{SetNames, effect_names, after_names}
use Rattle.script_walk.proofs.Live.{Holds, holds_less, holds_more, one_fewer, in_right}

-- What is said of a stage, and what follows of the events behind it.
abbrev Then : ℕ → List Begin → List TraceEvent → Type 0
Then k hs tail = (live : List Begin) → Holds k live hs → IsOrderly k live tail

-- what a state with this last begin holds
abbrev holds_at : ViewState Cause → Option Begin → List Begin
holds_at state last = option_to_list (cond (has_hold state) last None)

-- ---- moves

drop_then : (k : ℕ) (live before after : List Begin) (o : Option Begin) (tail : List TraceEvent) → Holds k live (before ++ (option_to_list o ++ after))
    → Then k (before ++ after) tail → IsOrderly k live (drop_events o ++ tail)
drop_then k live before after None tail h next = next live h
drop_then k live before after (Some b) tail h next =
    (h.inside b (in_right b before (b ∷ after) (inl refl)), one_fewer k live before after b h, next (without_begin b.number live) (holds_less k live before after b h))

begin_then : (k : ℕ) (b : Begin) (live before after : List Begin) (tail : List TraceEvent) → b.number ≡ k + 1 → length (before ++ after) < 4096 → Holds k live (before ++ after)
    → Then (k + 1) (before ++ (b ∷ after)) tail → IsOrderly k live (begin_events (Some b) (before ++ after) ++ tail)
begin_then k b live before after tail is room h next = (is, h.inside, omega (arith, h.count, room), next (b ∷ live) (holds_more k live before after b is h))

same_then : (k : ℕ) (hs : List Begin) (tail : List TraceEvent) → Then (k + 0) hs tail → Then k hs tail
same_then k hs tail next live h = let same : k + 0 ≡ k = omega arith in subst (λ n. IsOrderly n live tail) same (next live (subst (λ n. Holds n live hs) (sym same) h))

-- one view's turn
turn_then : (k g : ℕ) (name : List ℕ) (turn : Turn) (set : View Cause) (old : ViewState Cause) (last : Option Begin) (live before after : List Begin) (tail : List TraceEvent)
    → set.state ≡ old → length (before ++ after) < 4096 → Holds k live (before ++ (holds_at old last ++ after))
    → (let b : Begin = record { number = k + 1; gathers = g; view = name; spec = request set } in let begin : Option Begin = cond (begins turn set) (Some b) None in
    Then (k + option_len begin) (before ++ (holds_at (turned turn set) (option_or begin last) ++ after)) tail
    → IsOrderly k live (drop_events (cond (drops turn old) last None) ++ (begin_events begin (before ++ after) ++ tail)))
turn_then k g name Stays set old last live before after tail e room h next =
    same_then k (before ++ (holds_at old last ++ after)) tail (subst (λ s. Then (k + 0) (before ++ (holds_at s last ++ after)) tail) e next) live h
turn_then k g name Begins set old last live before after tail e room h next =
    let b : Begin = record { number = k + 1; gathers = g; view = name; spec = request set } in
    let begin : Bool → Option Begin = λ t. cond t (Some b) None in
    drop_then k live before after (cond (has_hold old) last None) (begin_events (begin (has_size set)) (before ++ after) ++ tail) h
    (elim (has_size set) as (λ t. Then (k + option_len (begin t)) (before ++ (holds_at (cond t Running Waiting) (option_or (begin t) last) ++ after)) tail → Then k (before ++ after) (begin_events (begin t) (before ++ after) ++ tail)) [
      | true ↦ λ next live h. begin_then k b live before after tail refl room h next
      | false ↦ λ next. same_then k (before ++ after) tail next
    ] next)
turn_then k g name Pauses set old last live before after tail e room h next = drop_then k live before after (cond (has_hold old) last None) tail h (same_then k (before ++ after) tail next)
turn_then k g name Clears set old last live before after tail e room h next = drop_then k live before after (cond (has_hold old) last None) tail h (same_then k (before ++ after) tail next)

holds_few : (state : ViewState Cause) (last : Option Begin) → length (holds_at state last) ≤ 1
holds_few state last = elim (has_hold state) as (λ t. length (option_to_list (cond t last None)) ≤ 1) [
  | true ↦ few last
  | false ↦ omega arith
] where
  few : (last : Option Begin) → length (option_to_list last) ≤ 1
  few None = omega arith
  few (Some b) = omega arith

all_few : (vs : List WalkView) → length (all_held vs) ≤ length vs
all_few [] = omega arith
all_few (v ∷ vs) = omega (arith, length-append (held v) (all_held vs), holds_few v.view.state v.last, all_few vs)

moves_then : (moves : List ℕ → Move Cause) → KeepStates moves → (g : ℕ) (vs : List WalkView) (k : ℕ) (live before : List Begin) (tail : List TraceEvent) → length before + length vs ≤ 4096
    → Holds k live (before ++ all_held vs) → Then (each_move moves k g before vs).begun (before ++ all_held (each_move moves k g before vs).views) tail
    → IsOrderly k live ((each_move moves k g before vs).events ++ tail)
moves_then moves keep g [] k live before tail room h next = next live h
moves_then moves keep g (v ∷ vs) k live before tail room h next =
    let move = moves v.name in
    let begin = begin_by move (k + 1) g v in
    let new = moved_view move begin v in
    let first = drop_events (dropped_by move v) in
    let second = begin_events begin (before ++ all_held vs) in
    let rest = each_move moves (k + option_len begin) g (before ++ held new) vs in
    let parts : ((first ++ second) ++ rest.events) ++ tail ≡ first ++ (second ++ (rest.events ++ tail)) =
    append_assoc (first ++ second) rest.events tail ∙ append_assoc first second (rest.events ++ tail) in
    subst (IsOrderly k live) (sym parts)
    (turn_then k g v.name (move.turn v.view.state) (move.sets v.view) v.view.state v.last live before (all_held vs) (rest.events ++ tail) (keep v.name v.view) (omega (arith, room, all_few vs, length-append before (all_held vs))) h
    (λ live' h'. moves_then moves keep g vs (k + option_len begin) live' (before ++ held new) tail (omega (arith, room, length-append before (held new), holds_few new.view.state new.last))
    (subst (Holds (k + option_len begin) live') (sym (append_assoc before (held new) (all_held vs))) h')
    (subst (λ l. Then rest.begun l tail) (sym (append_assoc before (held new) (all_held rest.views))) next)))

-- ---- gathers

module _ (o : Outcome) where
  came_then : (k : ℕ) (live before after : List Begin) (b : Begin) (r : Result Picture Cause) (view : View Cause) (tail : List TraceEvent) → view.state ≡ Running → Holds k live (before ++ (b ∷ after))
      → Then k (before ++ (holds_at (ended (Some r) view).state (Some b) ++ after)) tail → IsOrderly k live (end_events b r ++ tail)
  came_then k live before after b (Ok picture) view tail is h next =
      (h.inside b (in_right b before (b ∷ after) (inl refl)), subst (λ s. Then k (before ++ (holds_at (collected None s) (Some b) ++ after)) tail) is next live h)
  came_then k live before after b (Err cause) view tail is h next = (
    h.inside b (in_right b before (b ∷ after) (inl refl)),
    drop_then k live before after (Some b) tail h
        (subst (λ s. Then k (before ++ (holds_at (collected (Some cause) s) (Some b) ++ after)) tail) is next),
  )

  status_then : (k : ℕ) (view : View Cause) (state : ViewState Cause) (last : Option Begin) (live before after : List Begin) (tail : List TraceEvent) → view.state ≡ state
      → Holds k live (before ++ (holds_at state last ++ after)) → Then k (before ++ (holds_at (ended (option_map o (running_in state last)) view).state last ++ after)) tail
      → IsOrderly k live (view_ends o (running_in state last) ++ tail)
  status_then k view Running (Some b) live before after tail is h next = came_then k live before after b (o b) view tail is h next
  status_then k view Running None live before after tail is h next = subst (λ s. Then k (before ++ (holds_at s None ++ after)) tail) is next live h
  status_then k view Cleared last live before after tail is h next = subst (λ s. Then k (before ++ (holds_at s last ++ after)) tail) is next live h
  status_then k view Waiting last live before after tail is h next = subst (λ s. Then k (before ++ (holds_at s last ++ after)) tail) is next live h
  status_then k view Complete last live before after tail is h next = subst (λ s. Then k (before ++ (holds_at s last ++ after)) tail) is next live h
  status_then k view (Failed cause) last live before after tail is h next = subst (λ s. Then k (before ++ (holds_at s last ++ after)) tail) is next live h
  status_then k view Paused last live before after tail is h next = subst (λ s. Then k (before ++ (holds_at s last ++ after)) tail) is next live h

  gather_then : (vs : List WalkView) (k : ℕ) (live before : List Begin) (tail : List TraceEvent) → Holds k live (before ++ all_held vs) → Then k (before ++ all_held (gathered o vs)) tail
      → IsOrderly k live (gather_events o vs ++ tail)
  gather_then [] k live before tail h next = next live h
  gather_then (v ∷ vs) k live before tail h next =
      let new = gathered_view o v in
      subst (IsOrderly k live) (sym (append_assoc (view_ends o (running v)) (gather_events o vs) tail))
      (status_then k v.view v.view.state v.last live before (all_held vs) (gather_events o vs ++ tail) refl h
      (λ live' h'. gather_then vs k live' (before ++ held new) tail
      (subst (Holds k live') (sym (append_assoc before (held new) (all_held vs))) h')
      (subst (λ l. Then k l tail) (sym (append_assoc before (held new) (all_held (gathered o vs)))) next)))

  printed_then : (line : Option PrintedLine) (k : ℕ) (live : List Begin) (tail : List TraceEvent) → IsOrderly k live tail → IsOrderly k live (printed line ++ tail)
  printed_then None k live tail h = h
  printed_then (Some line) k live tail h = h

  prints_then : (form : Form) (shown : List ℕ → Bool) (vs : List WalkView) (k : ℕ) (live : List Begin) (tail : List TraceEvent) → IsOrderly k live tail → IsOrderly k live (print_events o form shown vs ++ tail)
  prints_then form shown [] k live tail h = h
  prints_then form shown (v ∷ vs) k live tail h =
      let rest = print_events o form shown vs in
      elim (shown v.name) as (λ t. IsOrderly k live ((cond t (printed (view_line o form v)) [] ++ rest) ++ tail)) [
        | true ↦ subst (IsOrderly k live) (sym (append_assoc (printed (view_line o form v)) rest tail)) (printed_then (view_line o form v) k live (rest ++ tail) (prints_then form shown vs k live tail h))
        | false ↦ prints_then form shown vs k live tail h
      ]

  -- ---- commands

  -- an effect has at most 4,096 views
  abbrev Room : Effect → Type 0
  Room (Moves set moves) = length set.views ≤ 4096
  Room (Gathers form shown) = ⊤
  Room (Trims level) = ⊤

  effect_then : (s : Stage) (e : Effect) → Sets s e → Room e → (same_holds : (set : Stage) → IsSet (statuses set.views) (statuses s.views) → all_held set.views ≡ all_held s.views)
      → (live : List Begin) (tail : List TraceEvent) → Holds s.begun live (all_held s.views) → Then (after_effect o s e).stage.begun (all_held (after_effect o s e).stage.views) tail
      → IsOrderly s.begun live ((after_effect o s e).events ++ tail)
  effect_then s (Moves set moves) sets room same live tail h next =
      let start : Holds set.begun live (all_held set.views) = subst (λ l. Holds set.begun live l) (sym (same set sets.0)) (subst (λ k. Holds k live (all_held s.views)) (sym sets.1) h) in
      subst (λ k. IsOrderly k live ((each_move moves set.begun set.gathers [] set.views).events ++ tail)) sets.1
      (moves_then moves sets.3 set.gathers set.views set.begun live [] tail (omega (arith, room)) start next)
  effect_then s (Gathers form shown) sets room same live tail h next =
      subst (IsOrderly s.begun live) (sym (append_assoc (gather_events o s.views) (print_events o form shown (gathered o s.views)) tail))
      (gather_then s.views s.begun live [] (print_events o form shown (gathered o s.views) ++ tail) h (λ live' h'. prints_then form shown (gathered o s.views) s.begun live' tail (next live' h')))
  effect_then s (Trims level) sets room same live tail h next = next live h

abbrev holds_in : List Status → List Begin
holds_in [] = []
holds_in (s ∷ ss) = holds_at s.0 s.1 ++ holds_in ss

holds_statuses : (vs : List WalkView) → all_held vs ≡ holds_in (statuses vs)
holds_statuses [] = refl
holds_statuses (v ∷ vs) = ap (λ l. held v ++ l) (holds_statuses vs)

holds_cleared : (ss : List Status) → holds_in (ss ++ cleared ∷ []) ≡ holds_in ss
holds_cleared [] = refl
holds_cleared (s ∷ ss) = ap (λ l. holds_at s.0 s.1 ++ l) (holds_cleared ss)

same_holds : (s set : Stage) → IsSet (statuses set.views) (statuses s.views) → all_held set.views ≡ all_held s.views
same_holds s set (inl e) = holds_statuses set.views ∙ ap holds_in e ∙ sym (holds_statuses s.views)
same_holds s set (inr e) = holds_statuses set.views ∙ ap holds_in e ∙ holds_cleared (statuses s.views) ∙ sym (holds_statuses s.views)

none_held : (k g : ℕ) (before : List Begin) (vs : List WalkView) → all_held (each_move (every (act_move acts.ClearAll)) k g before vs).views ≡ []
none_held k g before [] = refl
none_held k g before (v ∷ vs) = none_held (k + 0) g (before ++ []) vs

no_live : (live : List Begin) → length live ≡ 0 → live ≡ []
no_live [] e = refl
no_live (b ∷ bs) e = absurd (omega (arith, e))

closing_orderly : (s : Stage) (live : List Begin) → length s.views ≤ 4096 → Holds s.begun live (all_held s.views) → IsOrderly s.begun live (closing s)
closing_orderly s live room h = subst (IsOrderly s.begun live) (append-nil (closing s))
    (moves_then (every (act_move acts.ClearAll)) (act_keeps acts.ClearAll) s.gathers s.views s.begun live [] [] (omega (arith, room)) h
    (λ live' h'. no_live live' (h'.count ∙ ap length (none_held s.begun s.gathers [] s.views))))

-- ---- at most 4,096 views

name_room : (names : Names) (old : List (List ℕ)) → can_obey names old ≡ true → length old ≤ 4096 → length (names_after names old) ≤ 4096
name_room NoView old can few = few
name_room (Known view) old can few = few
name_room (Made view) old can few = elim (has_name view old) as (λ t. (t || ltb (length old) 4096) ≡ true → length (cond t old (old ++ view ∷ [])) ≤ 4096) [
  | true ↦ λ can. few
  | false ↦ λ can. let less : length old < 4096 = ltb-true _ _ can in omega (arith, less, length-append old (view ∷ []))
] can

views_named : (vs : List WalkView) → length (names_of vs) ≡ length vs
views_named [] = refl
views_named (v ∷ vs) = omega (arith, views_named vs)

module _ (o : Outcome) where
  effect_room : (s : Stage) (e : Effect) (names : List (List ℕ)) → SetNames s names e → length names ≤ 4096 → Room o e
  effect_room s (Moves set moves) names h few = omega (arith, views_named set.views, ap length h, few)
  effect_room s (Gathers form shown) names h few = tt
  effect_room s (Trims level) names h few = tt

  walk_then : (lines : List Numbered) (s : Stage) (live : List Begin) → length s.views ≤ 4096 → Holds s.begun live (all_held s.views)
      → IsOrderly s.begun live ((walk o s lines).events ++ closing (walk o s lines).stage)
  walk_then [] s live room h = closing_orderly s live room h
  walk_then (first ∷ others) s live room h =
      let r = step o s first.command in
      let rest = walk o r.stage others in
      elim (can_obey (names_in first.command) (names_of s.views)) as (λ t. can_obey (names_in first.command) (names_of s.views) ≡ t
      → IsOrderly s.begun live ((cond t (then_step r rest) (stay s)).events ++ closing (cond t (then_step r rest) (stay s)).stage)) [
        | true ↦ λ can.
            let after = names_after (names_in first.command) (names_of s.views) in
            let few : length after ≤ 4096 = name_room (names_in first.command) (names_of s.views) can (omega (arith, views_named s.views, room)) in
            let next : length r.stage.views ≤ 4096 = omega (arith, views_named r.stage.views, ap length (after_names o s after (effect s first.command) (effect_names s first.command)), few) in
            subst (IsOrderly s.begun live) (sym (append_assoc r.events rest.events (closing rest.stage)))
            (effect_then o s (effect s first.command) (effect_sets s first.command) (effect_room s (effect s first.command) after (effect_names s first.command) few) (same_holds s) live
            (rest.events ++ closing rest.stage) h (λ live' h'. walk_then others r.stage live' next h'))
        | false ↦ λ can. closing_orderly s live room h
      ] refl

pub traces_are_orderly : (o : Outcome) (lines : List Numbered) → IsOrderly 0 [] (trace o lines)
traces_are_orderly o lines = walk_then o lines opening [] (omega arith)
    (record { inside = λ b is. is; once = λ n. omega arith; below = λ b is. absurd is; same = λ n. refl; count = refl })
