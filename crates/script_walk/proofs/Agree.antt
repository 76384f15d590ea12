-- Outcomes that agree on what has come to its end make one walk.
use Rattle.std.proofs.Common.{◌≡◌, ℕ, ◌+◌, Bool, true, false, cond, List, [], ◌∷◌, ◌++◌, Some, None, Option, Ok, Err, Result, refl, ap, sym, subst, ◌∙◌, inl, inr}
use Rattle.std.specs.Prelude.{⊤}
use Rattle.std.specs.Option.{option_or, option_map, option_len}
use Rattle.bitmap_kind.specs.Picture.{Picture}
use Rattle.request_tracker.specs.declared.turns.Turn.{Turn}
use Rattle.request_tracker.specs.declared.turns.Turn.TheVariants.{Stays, Begins, Pauses, Clears}
use Rattle.request_tracker.specs.declared.views.View.{View}
use Rattle.request_tracker.specs.declared.views.ViewState.{ViewState}
use Rattle.request_tracker.specs.declared.views.ViewState.TheVariants.{Cleared, Waiting, Running, Complete, Failed, Paused}
use Rattle.request_tracker.specs.Table.{has_size, begins, turned, request, collected}
use Rattle.request_tracker.specs.Moves.{Move}
use Rattle.load_cause.specs.declared.causes.Cause.{Cause}
use Rattle.script_lines.specs.Script.{Numbered}
use Rattle.script_walk.specs.Walk.{Begin, WalkView, Outcome, Form, TraceEvent, Dropped, Begun, Ended, Trimmed, Printed, Stage, begin_by, held, moved_view, each_move, running, running_in, ended, end_events, view_ends, gathered, gather_events, result_line, state_line, printed, print_events, names_of, names_in, can_obey, Effect, Moves, Gathers, Trims, effect, after_effect, Step, step, stay, then_step, walk, opening}
use Rattle.script_walk.specs.Laws.{EachEnd, EndsDecide}
use Rattle.script_walk.proofs.States.{Status, statuses, cleared, IsSet, KeepStates, Sets, effect_sets}

pub ends_left : (P : Begin → Result Picture Cause → Type 0) (xs ys : List TraceEvent) → EachEnd P (xs ++ ys) → EachEnd P xs
ends_left P [] ys h = tt
ends_left P (Dropped b ∷ xs) ys h = ends_left P xs ys h
ends_left P (Begun b others ∷ xs) ys h = ends_left P xs ys h
ends_left P (Ended b result ∷ xs) ys h = (h.0, ends_left P xs ys h.1)
ends_left P (Trimmed level ∷ xs) ys h = ends_left P xs ys h
ends_left P (Printed line ∷ xs) ys h = ends_left P xs ys h

pub ends_right : (P : Begin → Result Picture Cause → Type 0) (xs ys : List TraceEvent) → EachEnd P (xs ++ ys) → EachEnd P ys
ends_right P [] ys h = h
ends_right P (Dropped b ∷ xs) ys h = ends_right P xs ys h
ends_right P (Begun b others ∷ xs) ys h = ends_right P xs ys h
ends_right P (Ended b result ∷ xs) ys h = ends_right P xs ys h.1
ends_right P (Trimmed level ∷ xs) ys h = ends_right P xs ys h
ends_right P (Printed line ∷ xs) ys h = ends_right P xs ys h

-- A complete view was complete by what both give.
abbrev pub AgreeAt : Outcome → Outcome → ViewState Cause → Option Begin → Type 0
AgreeAt p o Complete (Some b) = p b ≡ o b
AgreeAt p o state last = ⊤

abbrev pub AgreeOn : Outcome → Outcome → List Status → Type 0
AgreeOn p o [] = ⊤
AgreeOn p o (s ∷ ss) = AgreeAt p o s.0 s.1 × AgreeOn p o ss

-- This is what they came to.
abbrev pub Gives : Outcome → List TraceEvent → Type 0
Gives p events = EachEnd (λ begin result. p begin ≡ result) events

module _ (p o : Outcome) where
  gives_left : (xs ys : List TraceEvent) → Gives p (xs ++ ys) → Gives p xs
  gives_left xs ys h = ends_left (λ begin result. p begin ≡ result) xs ys h

  gives_right : (xs ys : List TraceEvent) → Gives p (xs ++ ys) → Gives p ys
  gives_right xs ys h = ends_right (λ begin result. p begin ≡ result) xs ys h

  -- ---- moves

  agree-append : (xs ys : List Status) → AgreeOn p o xs → AgreeOn p o ys → AgreeOn p o (xs ++ ys)
  agree-append [] ys hx hy = hy
  agree-append (x ∷ xs) ys hx hy = (hx.0, agree-append xs ys hx.1 hy)

  agree_set : (new old : List Status) → IsSet new old → AgreeOn p o old → AgreeOn p o new
  agree_set new old (inl e) h = subst (AgreeOn p o) (sym e) h
  agree_set new old (inr e) h = subst (AgreeOn p o) (sym e) (agree-append old (cleared ∷ []) h (tt, tt))

  turn_agrees : (begin : Begin) (turn : Turn) (set : View Cause) (old : ViewState Cause) (last : Option Begin) → set.state ≡ old → AgreeAt p o old last
      → AgreeAt p o (turned turn set) (option_or (cond (begins turn set) (Some begin) None) last)
  turn_agrees begin Stays set old last e h = subst (λ s. AgreeAt p o s last) (sym e) h
  turn_agrees begin Begins set old last e h =
      elim (has_size set) as (λ t. AgreeAt p o (cond t Running Waiting) (option_or (cond t (Some begin) None) last)) [ true ↦ tt | false ↦ tt ]
  turn_agrees begin Pauses set old last e h = tt
  turn_agrees begin Clears set old last e h = tt

  moves_agree : (moves : List ℕ → Move Cause) → KeepStates moves → (k g : ℕ) (before : List Begin) (vs : List WalkView) → AgreeOn p o (statuses vs)
      → AgreeOn p o (statuses (each_move moves k g before vs).views)
  moves_agree moves keep k g before [] h = tt
  moves_agree moves keep k g before (v ∷ vs) h =
      let move = moves v.name in
      let set = move.sets v.view in
      let begin = begin_by move (k + 1) g v in (
        turn_agrees (record { number = k + 1; gathers = g; view = v.name; spec = request set }) (move.turn v.view.state) set v.view.state v.last (keep v.name v.view) h.0,
        moves_agree moves keep (k + option_len begin) g (before ++ held (moved_view move begin v)) vs h.1,
      )

  -- ---- gathers

  -- what a view's gather is under each of the two
  record OneGather (view : View Cause) (state : ViewState Cause) (last : Option Begin) : Type 0 where
    events : view_ends p (running_in state last) ≡ view_ends o (running_in state last)
    becomes : ended (option_map p (running_in state last)) view ≡ ended (option_map o (running_in state last)) view
    agrees : AgreeAt p o (ended (option_map o (running_in state last)) view).state last

  came_same : (b : Begin) (r : Result Picture Cause) → o b ≡ r → Gives p (end_events b r) → p b ≡ o b
  came_same b (Ok picture) e h = h.0 ∙ sym e
  came_same b (Err cause) e h = h.0 ∙ sym e

  came_agrees : (b : Begin) (r : Result Picture Cause) (view : View Cause) → view.state ≡ Running → p b ≡ o b → AgreeAt p o (ended (Some r) view).state (Some b)
  came_agrees b (Ok picture) view is e = subst (λ s. AgreeAt p o (collected None s) (Some b)) (sym is) e
  came_agrees b (Err cause) view is e = subst (λ s. AgreeAt p o (collected (Some cause) s) (Some b)) (sym is) tt

  gather_one : (view : View Cause) (state : ViewState Cause) (last : Option Begin) → view.state ≡ state → AgreeAt p o state last → Gives p (view_ends o (running_in state last)) → OneGather view state last
  gather_one view Running (Some b) is h g =
      let same : p b ≡ o b = came_same b (o b) refl g in
      record { events = ap (end_events b) same; becomes = ap (λ r. ended (Some r) view) same; agrees = came_agrees b (o b) view is same }
  gather_one view Running None is h g = record { events = refl; becomes = refl; agrees = subst (λ s. AgreeAt p o s None) (sym is) tt }
  gather_one view Cleared last is h g = record { events = refl; becomes = refl; agrees = subst (λ s. AgreeAt p o s last) (sym is) h }
  gather_one view Waiting last is h g = record { events = refl; becomes = refl; agrees = subst (λ s. AgreeAt p o s last) (sym is) h }
  gather_one view Complete last is h g = record { events = refl; becomes = refl; agrees = subst (λ s. AgreeAt p o s last) (sym is) h }
  gather_one view (Failed cause) last is h g = record { events = refl; becomes = refl; agrees = subst (λ s. AgreeAt p o s last) (sym is) h }
  gather_one view Paused last is h g = record { events = refl; becomes = refl; agrees = subst (λ s. AgreeAt p o s last) (sym is) h }

  record AllGather (vs : List WalkView) : Type 0 where
    events : gather_events p vs ≡ gather_events o vs
    views : gathered p vs ≡ gathered o vs
    agree : AgreeOn p o (statuses (gathered o vs))

  gather_all : (vs : List WalkView) → AgreeOn p o (statuses vs) → Gives p (gather_events o vs) → AllGather vs
  gather_all [] h g = record { events = refl; views = refl; agree = tt }
  gather_all (v ∷ vs) h g =
      let one = gather_one v.view v.view.state v.last refl h.0 (gives_left (view_ends o (running v)) (gather_events o vs) g) in
      let rest = gather_all vs h.1 (gives_right (view_ends o (running v)) (gather_events o vs) g) in
      record {
        events = (λ i. one.events i ++ rest.events i);
        views = (λ i. record v { view = one.becomes i } ∷ rest.views i);
        agree = (one.agrees, rest.agree);
      }

  -- ---- printed lines

  line_same : (form : Form) (name : List ℕ) (state : ViewState Cause) (last : Option Begin) → AgreeAt p o state last → state_line p form name state last ≡ state_line o form name state last
  line_same form name Cleared last h = refl
  line_same form name Waiting last h = refl
  line_same form name Running last h = refl
  line_same form name Complete (Some b) h = ap (λ r. Some (result_line form name r)) h
  line_same form name Complete None h = refl
  line_same form name (Failed cause) last h = refl
  line_same form name Paused last h = refl

  prints_same : (form : Form) (shown : List ℕ → Bool) (vs : List WalkView) → AgreeOn p o (statuses vs) → print_events p form shown vs ≡ print_events o form shown vs
  prints_same form shown [] h = refl
  prints_same form shown (v ∷ vs) h =
      λ i. cond (shown v.name) (printed (line_same form v.name v.view.state v.last h.0 i)) [] ++ prints_same form shown vs h.1 i

  -- ---- commands

  -- an effect under each of the two
  record OneEffect (s : Stage) (e : Effect) : Type 0 where
    same : after_effect p s e ≡ after_effect o s e
    agree : AgreeOn p o (statuses (after_effect o s e).stage.views)

  effect_same : (s : Stage) (e : Effect) → Sets s e → AgreeOn p o (statuses s.views) → Gives p (after_effect o s e).events → OneEffect s e
  effect_same s (Moves set moves) sets h g =
      record { same = refl; agree = moves_agree moves sets.3 set.begun set.gathers [] set.views (agree_set (statuses set.views) (statuses s.views) sets.0 h) }
  effect_same s (Gathers form shown) sets h g =
      let all = gather_all s.views h (gives_left (gather_events o s.views) (print_events o form shown (gathered o s.views)) g) in
      record {
        same = (λ i. record {
          stage = record s { views = all.views i; gathers = s.gathers + 1 };
          events = all.events i ++ ((ap (print_events p form shown) all.views ∙ prints_same form shown (gathered o s.views) all.agree) i);
        });
        agree = all.agree;
      }
  effect_same s (Trims level) sets h g = record { same = refl; agree = h }

  walk_same : (lines : List Numbered) (s : Stage) → AgreeOn p o (statuses s.views) → Gives p (walk o s lines).events → walk p s lines ≡ walk o s lines
  walk_same [] s h g = refl
  walk_same (first ∷ others) s h g =
      let q = step p s first.command in
      let r = step o s first.command in
      elim (can_obey (names_in first.command) (names_of s.views)) as (λ t. Gives p (cond t (then_step r (walk o r.stage others)) (stay s)).events → cond t (then_step q (walk p q.stage others)) (stay s) ≡ cond t (then_step r (walk o r.stage others)) (stay s)) [
        | true ↦ λ g.
            let one = effect_same s (effect s first.command) (effect_sets s first.command) h (gives_left r.events (walk o r.stage others).events g) in
            ap (λ (x : Step). then_step x (walk p x.stage others)) one.same ∙ ap (then_step r) (walk_same others r.stage one.agree (gives_right r.events (walk o r.stage others).events g))
        | false ↦ λ g. refl
      ] g

pub ends_decide : EndsDecide
ends_decide p o lines gives = walk_same p o lines opening tt gives
