-- Moves of a walk go place by place.
use Rattle.std.proofs.Common.{◌≡◌, ℕ, ◌+◌, true, false, cond, List, [], ◌∷◌, ◌++◌, length, map, zero, suc, Some, None, Option, refl, ap, sym, ◌∙◌, arith, true≢false, append_assoc}
use Rattle.std.specs.Prelude.{position}
use Rattle.std.specs.Option.{option_map, option_map_or, option_len}
use Rattle.std.specs.Str.{bytes_eq}
use Rattle.std.proofs.lemmas.List.{append-nil, length-append}
use Rattle.load_cause.specs.declared.causes.Cause.{Cause}
use Rattle.request_tracker.specs.Moves.{Tracked, Move, moved, changed_at}
use Rattle.script_walk.specs.Walk.{Begin, WalkView, Stage, Step, Moved, held, all_held, begin_by, moved_view, move_events, each_move, no_move, only, every, has_name, names_of, after_moves, then_step}
use Rattle.script_walk.specs.Tracked.{AreDistinct, tracked_view}
use Rattle.script_walk.specs.ByPlace.{move_at, step_at, steps_from, MovesGoByPlace}
use Rattle.script_walk.proofs.Tracked.{position_here, position_next, has_here, has_next, same_name, names_are}

held-append : (xs ys : List WalkView) → all_held (xs ++ ys) ≡ all_held xs ++ all_held ys
held-append [] ys = refl
held-append (x ∷ xs) ys = ap (λ l. held x ++ l) (held-append xs ys) ∙ sym (append_assoc (held x) (all_held xs) (all_held ys))

-- nothing moves
abbrev nothing : ℕ → List WalkView → Moved
nothing k vs = record { views = vs; begun = k; events = [] }

module _ (move : Move Cause) where
  -- the view behind these
  at_length : (s : Stage) (before : List Begin) (xs : List WalkView) (v : WalkView) (vs : List WalkView)
      → (let begin = begin_by move (s.begun + 1) s.gathers v in let after : Moved = record { views = xs ++ moved_view move begin v ∷ vs; begun = s.begun + option_len begin; events = move_events move begin ((before ++ all_held xs) ++ all_held vs) v } in
      move_at (length xs) move s before (xs ++ v ∷ vs) ≡ after)
  at_length s before [] v vs =
      let begin = begin_by move (s.begun + 1) s.gathers v in
      ap (λ l. let m : Moved = record { views = moved_view move begin v ∷ vs; begun = s.begun + option_len begin; events = move_events move begin (l ++ all_held vs) v } in m) (sym (append-nil before))
  at_length s before (x ∷ xs) v vs =
      let begin = begin_by move (s.begun + 1) s.gathers v in
      ap (λ (m : Moved). let n : Moved = record { views = x ∷ m.views; begun = m.begun; events = m.events } in n) (at_length s (before ++ held x) xs v vs)
      ∙ ap (λ l. let m : Moved = record { views = x ∷ (xs ++ moved_view move begin v ∷ vs); begun = s.begun + option_len begin; events = move_events move begin (l ++ all_held vs) v } in m) (append_assoc before (held x) (all_held xs))

  all_from : (s : Stage) (vs xs : List WalkView) (k : ℕ)
      → (let before : Stage = record s { views = xs ++ vs; begun = k } in let m = each_move (every move) k s.gathers (all_held xs) vs in
      let after : Step = record { stage = record s { views = xs ++ m.views; begun = m.begun }; events = m.events } in steps_from (length vs) (length xs) move before ≡ after)
  all_from s [] xs k = refl
  all_from s (v ∷ vs) xs k =
      let before : Stage = record s { views = xs ++ v ∷ vs; begun = k } in
      let begin = begin_by move (k + 1) s.gathers v in
      let new = moved_view move begin v in
      let next = k + option_len begin in
      let rest = each_move (every move) next s.gathers (all_held xs ++ held new) vs in
      let at : List WalkView → Stage = λ views. record s { views = views; begun = next } in
      let first : Step = record { stage = at (xs ++ new ∷ vs); events = move_events move begin (all_held xs ++ all_held vs) v } in
      let first_is : step_at (length xs) move before ≡ first = ap (after_moves before) (at_length before [] xs v vs) in
      let more = xs ++ new ∷ [] in
      let count : suc (length xs) ≡ length more = omega (arith, length-append xs (new ∷ [])) in
      let joined : xs ++ new ∷ vs ≡ more ++ vs = sym (append_assoc xs (new ∷ []) vs) in
      let holds : all_held more ≡ all_held xs ++ held new = held-append xs (new ∷ []) ∙ ap (λ l. all_held xs ++ l) (append-nil (held new)) in
      let end : Moved → Step = λ m. record { stage = record s { views = more ++ m.views; begun = m.begun }; events = m.events } in
      let go : ℕ → List WalkView → Step = λ place views. steps_from (length vs) place move (at views) in
      let behind : go (suc (length xs)) (xs ++ new ∷ vs) ≡ (let after : Step = record { stage = record s { views = xs ++ new ∷ rest.views; begun = rest.begun }; events = rest.events } in after) =
      (λ i. go (count i) (joined i)) ∙ all_from s vs more next ∙ ap (λ h. end (each_move (every move) next s.gathers h vs)) holds
      ∙ ap (λ l. let after : Step = record { stage = record s { views = l; begun = rest.begun }; events = rest.events } in after) (append_assoc xs (new ∷ []) rest.views) in
      ap (λ (x : Step). then_step x (steps_from (length vs) (suc (length xs)) move x.stage)) first_is ∙ ap (then_step first) behind

  -- ---- one view alone

  none_moves : (name : List ℕ) (k g : ℕ) (before : List Begin) (vs : List WalkView) → has_name name (names_of vs) ≡ false → each_move (only name move) k g before vs ≡ nothing k vs
  none_moves name k g before [] none = refl
  none_moves name k g before (v ∷ vs) none = elim (bytes_eq name v.name) as (λ t. bytes_eq name v.name ≡ t → (let one : Move Cause = cond t move no_move in let begin = begin_by one (k + 1) g v in let new = moved_view one begin v in
      let rest = each_move (only name move) (k + option_len begin) g (before ++ held new) vs in
      let all : Moved = record { views = new ∷ rest.views; begun = rest.begun; events = move_events one begin (before ++ all_held vs) v ++ rest.events } in all ≡ nothing k (v ∷ vs))) [
        | true ↦ λ e. absurd (true≢false (sym (has_here name v.name (names_of vs) e) ∙ none))
        | false ↦ λ e.
            let same : k + 0 ≡ k = omega arith in
            ap (λ (m : Moved). let n : Moved = record { views = v ∷ m.views; begun = m.begun; events = m.events } in n)
            (none_moves name (k + 0) g (before ++ held v) vs (sym (has_next name v.name (names_of vs) e) ∙ none)) ∙ ap (λ n. nothing n (v ∷ vs)) same
      ] refl

  one_moves : (name : List ℕ) (s : Stage) (before : List Begin) (vs : List WalkView) → AreDistinct (names_of vs)
      → each_move (only name move) s.begun s.gathers before vs ≡ option_map_or (λ place. move_at place move s before vs) (position (bytes_eq name) (names_of vs)) (nothing s.begun vs)
  one_moves name s before [] distinct = refl
  one_moves name s before (v ∷ vs) distinct =
      let place = position (bytes_eq name) (names_of vs) in
      let found : Option ℕ → Moved = λ o. option_map_or (λ at. move_at at move s before (v ∷ vs)) o (nothing s.begun (v ∷ vs)) in
      elim (bytes_eq name v.name) as (λ t. bytes_eq name v.name ≡ t → (let one : Move Cause = cond t move no_move in let begin = begin_by one (s.begun + 1) s.gathers v in let new = moved_view one begin v in
      let rest = each_move (only name move) (s.begun + option_len begin) s.gathers (before ++ held new) vs in
      let all : Moved = record { views = new ∷ rest.views; begun = rest.begun; events = move_events one begin (before ++ all_held vs) v ++ rest.events } in all ≡ found (position (bytes_eq name) (v.name ∷ names_of vs)))) [
        | true ↦ λ e.
            let begin = begin_by move (s.begun + 1) s.gathers v in
            let new = moved_view move begin v in
            let events = move_events move begin (before ++ all_held vs) v in
            let none : has_name name (names_of vs) ≡ false = ap (λ n. has_name n (names_of vs)) (same_name name v.name e) ∙ distinct.0 in
            ap (λ (m : Moved). let n : Moved = record { views = new ∷ m.views; begun = m.begun; events = events ++ m.events } in n) (none_moves name (s.begun + option_len begin) s.gathers (before ++ held new) vs none)
            ∙ ap (λ l. let n : Moved = record { views = new ∷ vs; begun = s.begun + option_len begin; events = l } in n) (append-nil events)
            ∙ sym (ap found (position_here (bytes_eq name) v.name (names_of vs) e))
        | false ↦ λ e.
            let same : s.begun + 0 ≡ s.begun = omega arith in
            let onto : Moved → Moved = λ m. record { views = v ∷ m.views; begun = m.begun; events = m.events } in
            let behind : (o : Option ℕ) → onto (option_map_or (λ at. move_at at move s (before ++ held v) vs) o (nothing s.begun vs)) ≡ found (option_map suc o) =
            λ o. elim o as (λ o. onto (option_map_or (λ at. move_at at move s (before ++ held v) vs) o (nothing s.begun vs)) ≡ found (option_map suc o)) [ None ↦ refl | Some at ↦ refl ] in
            ap (λ k. onto (each_move (only name move) k s.gathers (before ++ held v) vs)) same ∙ ap onto (one_moves name s (before ++ held v) vs distinct.1)
            ∙ behind place ∙ sym (ap found (position_next (bytes_eq name) v.name (names_of vs) e))
      ] refl

  place_views : (place : ℕ) (s : Stage) (before : List Begin) (vs : List WalkView) → map tracked_view (move_at place move s before vs).views ≡ changed_at place (moved move) (map tracked_view vs)
  place_views place s before [] = refl
  place_views zero s before (v ∷ vs) = refl
  place_views (suc place) s before (v ∷ vs) = ap (λ l. tracked_view v ∷ l) (place_views place s (before ++ held v) vs)

pub moves_go_by_place : MovesGoByPlace
moves_go_by_place s move =
    let found : Option ℕ → Moved = λ o. option_map_or (λ at. move_at at move s [] s.views) o (nothing s.begun s.views) in
    record {
      all = sym (all_from move s s.views [] s.begun);
      one = λ name place distinct at. ap (after_moves s) (one_moves move name s [] s.views distinct ∙ ap found (ap (position (bytes_eq name)) (sym (names_are s.views)) ∙ at));
      tracks = λ place. ap (λ vs. let t : Tracked Cause = record { views = vs; paused = s.paused } in t) (place_views move place s [] s.views);
    }
