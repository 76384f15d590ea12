-- The tracker of a walk makes the walk's moves.
use Rattle.std.proofs.Common.{◌≡◌, ℕ, ◌+◌, ◌<◌, ◌≤◌, Bool, true, false, cond, ltb, List, [], ◌∷◌, ◌++◌, length, map, suc, Some, None, Option, refl, ap, sym, subst, ◌∙◌, arith, true≢false}
use Rattle.std.specs.Prelude.{◌||◌, not, position}
use Rattle.std.specs.List.{position_or_len}
use Rattle.std.specs.Option.{is_some, option_map, option_map_or, option_len}
use Rattle.std.specs.Str.{bytes_eq}
use Rattle.std.proofs.lemmas.Bool.{lt-ltb, ltb-true, ltb-false}
use Rattle.std.proofs.lemmas.List.{map-append}
use Rattle.std.proofs.lemmas.Slice.Eq.{bytes_eq-Decides}
use Rattle.load_cause.specs.declared.causes.Cause.{Cause}
use Rattle.request_tracker.specs.declared.views.Act.{Act}
use Rattle.request_tracker.specs.declared.views.Act.TheVariants as acts
use Rattle.request_tracker.specs.declared.views.Ask.{Ask}
use Rattle.request_tracker.specs.declared.views.View.{View}
use Rattle.request_tracker.specs.Limits.{views_limit}
use Rattle.request_tracker.specs.Moves.{Views, Tracked, names, Move, moved, changed_at, place_of, is_known, can_load, moved_by_name, after_load, load_move, layout_move, clear_move, act_move, new_view}
use Rattle.request_tracker.specs.Moves as tracker
use Rattle.script_lines.specs.declared.commands.Command.{Command}
use Rattle.script_walk.specs.Walk.{Begin, WalkView, Stage, begin_by, held, moved_view, each_move, no_move, only, every, has_name, names_of, names_in, Names, NoView, Known, Made, with_view, effect, step}
use Rattle.script_walk.specs.Ends.{with_name, names_after}
use Rattle.script_walk.specs.Tracked.{tracked_view, tracked, AreDistinct, acted_all, TrackerMakesTheMoves}
use Rattle.script_walk.proofs.BadCommands.{with_view_names, effect_names, after_names}

-- ---- places of names

same_lt : (l n : ℕ) → ltb (1 + l) (suc n) ≡ ltb l n
same_lt l n = elim (ltb l n) as (λ t. ltb l n ≡ t → ltb (1 + l) (suc n) ≡ t) [
  | true ↦ λ e. let less : l < n = ltb-true _ _ e in lt-ltb _ _ (omega (arith, less))
  | false ↦ λ e. elim (ltb (1 + l) (suc n)) as (λ u. ltb (1 + l) (suc n) ≡ u → u ≡ false) [
    | true ↦ λ g. let less : 1 + l < suc n = ltb-true _ _ g in let most : n ≤ l = ltb-false _ _ e in absurd (omega (arith, less, most))
    | false ↦ λ g. refl
  ] refl
] refl

pub position_here : {A : Type 0} (p : A → Bool) (x : A) (xs : List A) → p x ≡ true → position p (x ∷ xs) ≡ Some 0
position_here p x xs e =
    let l = position_or_len p xs in
    ap (λ t. cond (ltb (cond (not t) (1 + l) 0) (length (x ∷ xs))) (Some (cond (not t) (1 + l) 0)) None) e
    ∙ ap (λ t. cond t (Some 0) None) (lt-ltb 0 (length (x ∷ xs)) (omega arith))

pub position_next : {A : Type 0} (p : A → Bool) (x : A) (xs : List A) → p x ≡ false → position p (x ∷ xs) ≡ option_map suc (position p xs)
position_next p x xs e =
    let l = position_or_len p xs in
    ap (λ t. cond (ltb (cond (not t) (1 + l) 0) (length (x ∷ xs))) (Some (cond (not t) (1 + l) 0)) None) e
    ∙ ap (λ t. cond t (Some (1 + l)) None) (same_lt l (length xs))
    ∙ elim (ltb l (length xs)) as (λ t. cond t (Some (1 + l)) None ≡ option_map suc (cond t (Some l) None)) [ true ↦ ap Some (omega arith) | false ↦ refl ]

is_some_map : {A B : Type 0} (f : A → B) (o : Option A) → is_some (option_map f o) ≡ is_some o
is_some_map f None = refl
is_some_map f (Some x) = refl

pub has_here : (name other : List ℕ) (ns : List (List ℕ)) → bytes_eq name other ≡ true → has_name name (other ∷ ns) ≡ true
has_here name other ns e = ap is_some (position_here (bytes_eq name) other ns e)

pub has_next : (name other : List ℕ) (ns : List (List ℕ)) → bytes_eq name other ≡ false → has_name name (other ∷ ns) ≡ has_name name ns
has_next name other ns e = ap is_some (position_next (bytes_eq name) other ns e) ∙ is_some_map suc (position (bytes_eq name) ns)

pub no_place : {A : Type 0} (o : Option A) → is_some o ≡ false → o ≡ None
no_place None e = refl
no_place (Some x) e = absurd (true≢false e)

-- ---- names of a stage

pub names_are : (vs : List WalkView) → names (map tracked_view vs) ≡ names_of vs
names_are [] = refl
names_are (v ∷ vs) = ap (λ l. v.name ∷ l) (names_are vs)

known_is : (name : List ℕ) (vs : List WalkView) → has_name name (names_of vs) ≡ is_known name (map tracked_view vs)
known_is name vs = ap (has_name name) (sym (names_are vs))

count_is : (vs : List WalkView) → length (names_of vs) ≡ length (map tracked_view vs)
count_is [] = refl
count_is (v ∷ vs) = ap suc (count_is vs)

-- ---- names stay distinct

pub same_name : (a b : List ℕ) → bytes_eq a b ≡ true → a ≡ b
same_name a b e = (bytes_eq-Decides a b).0 e

no_name : (a b : List ℕ) → bytes_eq a b ≡ false → bytes_eq b a ≡ false
no_name a b e = elim (bytes_eq b a) as (λ t. bytes_eq b a ≡ t → t ≡ false) [
  | true ↦ λ h. absurd (true≢false (sym ((bytes_eq-Decides a b).1 (sym (same_name b a h))) ∙ e))
  | false ↦ λ h. refl
] refl

unlike_last : (name new : List ℕ) (ns : List (List ℕ)) → has_name name ns ≡ false → bytes_eq name new ≡ false → has_name name (ns ++ new ∷ []) ≡ false
unlike_last name new [] none unlike = has_next name new [] unlike
unlike_last name new (n ∷ ns) none unlike = elim (bytes_eq name n) as (λ t. bytes_eq name n ≡ t → has_name name (n ∷ (ns ++ new ∷ [])) ≡ false) [
  | true ↦ λ e. absurd (true≢false (sym (has_here name n ns e) ∙ none))
  | false ↦ λ e. has_next name n (ns ++ new ∷ []) e ∙ unlike_last name new ns (sym (has_next name n ns e) ∙ none) unlike
] refl

distinct_last : (new : List ℕ) (ns : List (List ℕ)) → AreDistinct ns → has_name new ns ≡ false → AreDistinct (ns ++ new ∷ [])
distinct_last new [] distinct none = (refl, tt)
distinct_last new (n ∷ ns) distinct none = elim (bytes_eq new n) as (λ t. bytes_eq new n ≡ t → AreDistinct (n ∷ (ns ++ new ∷ []))) [
  | true ↦ λ e. absurd (true≢false (sym (has_here new n ns e) ∙ none))
  | false ↦ λ e. (unlike_last n new ns distinct.0 (no_name new n e), distinct_last new ns distinct.1 (sym (has_next new n ns e) ∙ none))
] refl

with_distinct : (name : List ℕ) (ns : List (List ℕ)) → AreDistinct ns → AreDistinct (with_name name ns)
with_distinct name ns distinct = elim (has_name name ns) as (λ t. has_name name ns ≡ t → AreDistinct (cond t ns (ns ++ name ∷ []))) [
  | true ↦ λ e. distinct
  | false ↦ λ e. distinct_last name ns distinct e
] refl

after_distinct : (named : Names) (ns : List (List ℕ)) → AreDistinct ns → AreDistinct (names_after named ns)
after_distinct NoView ns distinct = distinct
after_distinct (Known view) ns distinct = distinct
after_distinct (Made view) ns distinct = with_distinct view ns distinct

-- ---- moves

-- each view's move
abbrev move_all : (List ℕ → Move Cause) → Views Cause → Views Cause
move_all moves views = map (λ view. (view.0, moved (moves view.0) view.1)) views

each_moved : (moves : List ℕ → Move Cause) (k g : ℕ) (before : List Begin) (vs : List WalkView)
    → map tracked_view (each_move moves k g before vs).views ≡ move_all moves (map tracked_view vs)
each_moved moves k g before [] = refl
each_moved moves k g before (v ∷ vs) =
    let begin = begin_by (moves v.name) (k + 1) g v in
    ap (λ l. (v.name, moved (moves v.name) v.view) ∷ l) (each_moved moves (k + option_len begin) g (before ++ held (moved_view (moves v.name) begin v)) vs)

shifted : (change : View Cause → View Cause) (view : List ℕ × View Cause) (views : Views Cause) (place : Option ℕ)
    → option_map_or (λ at. changed_at at change (view ∷ views)) (option_map suc place) (view ∷ views) ≡ view ∷ option_map_or (λ at. changed_at at change views) place views
shifted change view views None = refl
shifted change view views (Some place) = refl

-- the move of one view alone is a change at its place
only_moved : (name : List ℕ) (move : Move Cause) (views : Views Cause) → AreDistinct (names views)
    → move_all (only name move) views ≡ option_map_or (λ place. changed_at place (moved move) views) (place_of name views) views
only_moved name move [] distinct = refl
only_moved name move (v ∷ vs) distinct = elim (bytes_eq name v.0) as (λ t. bytes_eq name v.0 ≡ t
    → (v.0, moved (cond t move no_move) v.1) ∷ move_all (only name move) vs ≡ option_map_or (λ place. changed_at place (moved move) (v ∷ vs)) (place_of name (v ∷ vs)) (v ∷ vs)) [
      | true ↦ λ e.
          let none : place_of name vs ≡ None = no_place (place_of name vs) (ap (λ n. has_name n (names vs)) (same_name name v.0 e) ∙ distinct.0) in
          ap (λ l. (v.0, moved move v.1) ∷ l) (only_moved name move vs distinct.1 ∙ ap (λ o. option_map_or (λ place. changed_at place (moved move) vs) o vs) none)
          ∙ sym (ap (λ o. option_map_or (λ place. changed_at place (moved move) (v ∷ vs)) o (v ∷ vs)) (position_here (bytes_eq name) v.0 (names vs) e))
      | false ↦ λ e.
          ap (λ l. v ∷ l) (only_moved name move vs distinct.1) ∙ sym (shifted (moved move) v vs (place_of name vs))
          ∙ sym (ap (λ o. option_map_or (λ place. changed_at place (moved move) (v ∷ vs)) o (v ∷ vs)) (position_next (bytes_eq name) v.0 (names vs) e))
    ] refl

by_place : (now : Tracked Cause) (move : Move Cause) (place : Option ℕ)
    → (let changed : Tracked Cause = record now { views = option_map_or (λ at. changed_at at (moved move) now.views) place now.views } in changed ≡ option_map_or (λ at. tracker.moved_at at move now) place now)
by_place now move None = refl
by_place now move (Some place) = refl

-- a move of the view of a name
one_moves : (s : Stage) (name : List ℕ) (move : Move Cause) → AreDistinct (names_of s.views)
    → (let after : Tracked Cause = record { views = map tracked_view (each_move (only name move) s.begun s.gathers [] s.views).views; paused = s.paused } in after ≡ moved_by_name name move (tracked s))
one_moves s name move distinct =
    let views = map tracked_view s.views in
    let with : Views Cause → Tracked Cause = λ vs. record { views = vs; paused = s.paused } in
    ap with (each_moved (only name move) s.begun s.gathers [] s.views ∙ only_moved name move views (subst AreDistinct (sym (names_are s.views)) distinct))
    ∙ by_place (tracked s) move (place_of name views)

-- ---- loads

with_tracked : (name : List ℕ) (ask : Ask) (s : Stage) → tracked (with_view name ask s) ≡ tracker.with_view name ask (tracked s)
with_tracked name ask s =
    let new : WalkView = record { name = name; view = new_view ask; last = None } in
    let views = map tracked_view s.views in
    let with : Views Cause → Tracked Cause = λ vs. record { views = vs; paused = s.paused } in
    ap with (
    elim (has_name name (names_of s.views)) as (λ t. map tracked_view (cond t s.views (s.views ++ new ∷ [])) ≡ cond t views (views ++ (name, new_view ask) ∷ [])) [
      | true ↦ refl
      | false ↦ map-append tracked_view s.views (new ∷ [])
    ]
    ∙ ap (λ t. cond t views (views ++ (name, new_view ask) ∷ [])) (known_is name s.views))

loads : (s : Stage) (name : List ℕ) (ask : Ask) → AreDistinct (names_of (with_view name ask s).views)
    → (let set = with_view name ask s in let move = load_move s.paused ask in
    let after : Tracked Cause = record { views = map tracked_view (each_move (only name move) set.begun set.gathers [] set.views).views; paused = set.paused } in after ≡ after_load name ask (tracked s))
loads s name ask distinct = one_moves (with_view name ask s) name (load_move s.paused ask) distinct ∙ ap (moved_by_name name (load_move s.paused ask)) (with_tracked name ask s)

-- ---- acts

all_act : (s : Stage) (act : Act)
    → (let after : Tracked Cause = record { views = map tracked_view (each_move (every (act_move act)) s.begun s.gathers [] s.views).views; paused = s.paused } in after ≡ acted_all act (tracked s))
all_act s act = ap (λ vs. let t : Tracked Cause = record { views = vs; paused = s.paused } in t) (each_moved (every (act_move act)) s.begun s.gathers [] s.views)

pub tracker_makes_the_moves : TrackerMakesTheMoves
tracker_makes_the_moves o s distinct =
    let next : (command : Command) → AreDistinct (names_of (step o s command).stage.views) =
    λ command. subst AreDistinct (sym (after_names o s (names_after (names_in command) (names_of s.views)) (effect s command) (effect_names s command))) (after_distinct (names_in command) (names_of s.views) distinct) in
    record {
      load = λ view spec sized.
          let ask : Ask = record { spec = spec; sized = sized } in
          loads s view ask (subst AreDistinct (sym (with_view_names view ask s)) (with_distinct view (names_of s.views) distinct));
      layout = λ view width height. one_moves s view (layout_move width height) distinct;
      clear = λ view. one_moves s view clear_move distinct;
      clear_all = all_act s acts.ClearAll;
      pause = all_act (record s { paused = true }) acts.Pause;
      pause_all = all_act (record s { paused = true }) acts.PauseAll;
      resume = all_act (record s { paused = false }) acts.Resume;
      known = λ view. known_is view s.views;
      made = λ view. ap (λ t. t || ltb (length (names_of s.views)) views_limit) (known_is view s.views) ∙ ap (λ n. is_known view (map tracked_view s.views) || ltb n views_limit) (count_is s.views);
      distinct = next;
    }
