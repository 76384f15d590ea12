-- A walk stops just at the first command that cannot be obeyed.
use Rattle.std.proofs.Common.{append_assoc, ◌≡◌, ℕ, ◌+◌, true, false, cond, List, [], ◌∷◌, ◌++◌, take, Some, None, refl, ap, sym, ◌∙◌}
use Rattle.std.specs.Prelude.{suc}
use Rattle.std.specs.Option.{option_len, option_map}
use Rattle.std.specs.Prelude.{slice_get}
use Rattle.std.proofs.lemmas.Option.{none-some}
use Rattle.request_tracker.specs.declared.views.Ask.{Ask}
use Rattle.request_tracker.specs.Moves.{Move, new_view}
use Rattle.load_cause.specs.declared.causes.Cause.{Cause}
use Rattle.script_lines.specs.declared.commands.Command.{Command}
use Rattle.script_lines.specs.declared.commands.Command.TheVariants.{Load, Layout, Clear, ClearAll, Pause, PauseAll, Resume, Trim, Wait, Show, Dump}
use Rattle.script_lines.specs.Script.{Numbered}
use Rattle.script_walk.specs.Walk.{Step, Begin, WalkView, Outcome, Stage, opening, begin_by, held, moved_view, each_move, gathered, names_of, has_name, names_in, can_obey, Effect, Moves, Gathers, Trims, with_view, effect, after_effect, step, stay, then_step, walk}
use Rattle.script_walk.specs.Ends.{with_name, names_after, bad_command_from}
use Rattle.script_walk.specs.Laws.{StopsAtBadCommand, WalksGoOn}

names-append : (xs : List WalkView) (y : WalkView) → names_of (xs ++ y ∷ []) ≡ names_of xs ++ y.name ∷ []
names-append [] y = refl
names-append (x ∷ xs) y = ap (λ l. x.name ∷ l) (names-append xs y)

pub with_view_names : (name : List ℕ) (ask : Ask) (s : Stage) → names_of (with_view name ask s).views ≡ with_name name (names_of s.views)
with_view_names name ask s =
    let new : WalkView = record { name = name; view = new_view ask; last = None } in
    elim (has_name name (names_of s.views)) as (λ t. names_of (cond t s.views (s.views ++ new ∷ [])) ≡ cond t (names_of s.views) (names_of s.views ++ name ∷ [])) [
      | true ↦ refl
      | false ↦ names-append s.views new
    ]

-- the names that a command leaves, before the views move
abbrev pub SetNames : Stage → List (List ℕ) → Effect → Type 0
SetNames s names (Moves set moves) = names_of set.views ≡ names
SetNames s names (Gathers form shown) = names_of s.views ≡ names
SetNames s names (Trims level) = names_of s.views ≡ names

pub effect_names : (s : Stage) (command : Command) → SetNames s (names_after (names_in command) (names_of s.views)) (effect s command)
effect_names s (Load view spec sized) = with_view_names view (record { spec = spec; sized = sized }) s
effect_names s (Layout view width height) = refl
effect_names s (Clear view) = refl
effect_names s ClearAll = refl
effect_names s Pause = refl
effect_names s PauseAll = refl
effect_names s Resume = refl
effect_names s (Trim level) = refl
effect_names s Wait = refl
effect_names s Show = refl
effect_names s (Dump view) = refl

move_names : (moves : List ℕ → Move Cause) (k g : ℕ) (before : List Begin) (vs : List WalkView) → names_of (each_move moves k g before vs).views ≡ names_of vs
move_names moves k g before [] = refl
move_names moves k g before (v ∷ vs) =
    let begin = begin_by (moves v.name) (k + 1) g v in
    ap (λ l. v.name ∷ l) (move_names moves (k + option_len begin) g (before ++ held (moved_view (moves v.name) begin v)) vs)

gather_names : (o : Outcome) (vs : List WalkView) → names_of (gathered o vs) ≡ names_of vs
gather_names o [] = refl
gather_names o (v ∷ vs) = ap (λ l. v.name ∷ l) (gather_names o vs)

pub after_names : (o : Outcome) (s : Stage) (names : List (List ℕ)) (e : Effect) → SetNames s names e → names_of (after_effect o s e).stage.views ≡ names
after_names o s names (Moves set moves) h = move_names moves set.begun set.gathers [] set.views ∙ h
after_names o s names (Gathers form shown) h = gather_names o s.views ∙ h
after_names o s names (Trims level) h = h

-- the commands before the bad one
record Stops (o : Outcome) (s : Stage) (n : ℕ) (commands : List Numbered) : Type 0 where
  before : ℕ
  line : option_map (λ (first : Numbered). first.line) (slice_get commands before) ≡ Some n
  same : walk o s commands ≡ walk o s (take before commands)
  good : bad_command_from (names_of s.views) (take before commands) ≡ None

stops_from : (o : Outcome) (commands : List Numbered) (s : Stage) (n : ℕ) → bad_command_from (names_of s.views) commands ≡ Some n → Stops o s n commands
stops_from o [] s n e = absurd (none-some _ e)
stops_from o (first ∷ others) s n e =
    let r = step o s first.command in
    let named = names_in first.command in
    let after = names_after named (names_of s.views) in
    elim (can_obey named (names_of s.views)) as (λ t. can_obey named (names_of s.views) ≡ t → cond t (bad_command_from after others) (Some first.line) ≡ Some n → Stops o s n (first ∷ others)) [
      | true ↦ λ yes e.
          let names : names_of r.stage.views ≡ after = after_names o s after (effect s first.command) (effect_names s first.command) in
          let rest = stops_from o others r.stage n (ap (λ l. bad_command_from l others) names ∙ e) in
          record {
            before = suc rest.before;
            line = rest.line;
            same = ap (λ t. cond t (then_step r (walk o r.stage others)) (stay s)) yes ∙ ap (then_step r) rest.same
                ∙ sym (ap (λ t. cond t (then_step r (walk o r.stage (take rest.before others))) (stay s)) yes);
            good = ap (λ t. cond t (bad_command_from after (take rest.before others)) (Some first.line)) yes ∙ ap (λ l. bad_command_from l (take rest.before others)) (sym names) ∙ rest.good;
          }
      | false ↦ λ no e. record { before = 0; line = e; same = ap (λ t. cond t (then_step r (walk o r.stage others)) (stay s)) no; good = refl }
    ] refl e

pub stops_at_bad_command : StopsAtBadCommand
stops_at_bad_command o commands n e =
    let all = stops_from o commands opening n e in
    record { before = all.before; line_is = all.line; walk_is = all.same; none_bad = all.good }

-- ---- behind commands that can be obeyed

record GoesFrom (o : Outcome) (s : Stage) (done left : List Numbered) : Type 0 where
  walk_is : walk o s (done ++ left) ≡ then_step (walk o s done) (walk o (walk o s done).stage left)
  bad_is : bad_command_from (names_of s.views) (done ++ left) ≡ bad_command_from (names_of (walk o s done).stage.views) left

goes_from : (o : Outcome) (done left : List Numbered) (s : Stage) → bad_command_from (names_of s.views) done ≡ None → GoesFrom o s done left
goes_from o [] left s e = record { walk_is = refl; bad_is = refl }
goes_from o (first ∷ done) left s e =
    let r = step o s first.command in
    let named = names_in first.command in
    let after = names_after named (names_of s.views) in
    elim (can_obey named (names_of s.views)) as (λ t. can_obey named (names_of s.views) ≡ t → cond t (bad_command_from after done) (Some first.line) ≡ None → GoesFrom o s (first ∷ done) left) [
      | true ↦ λ yes e.
          let names : names_of r.stage.views ≡ after = after_names o s after (effect s first.command) (effect_names s first.command) in
          let rest = goes_from o done left r.stage (ap (λ l. bad_command_from l done) names ∙ e) in
          let so_far = walk o r.stage done in
          let behind = walk o so_far.stage left in
          let here : walk o s (first ∷ done) ≡ then_step r so_far = ap (λ t. cond t (then_step r so_far) (stay s)) yes in
          record {
            walk_is = ap (λ t. cond t (then_step r (walk o r.stage (done ++ left))) (stay s)) yes ∙ ap (then_step r) rest.walk_is
                ∙ ap (λ l. let w : Step = record { stage = behind.stage; events = l } in w) (sym (append_assoc r.events so_far.events behind.events))
                ∙ sym (ap (λ (w : Step). then_step w (walk o w.stage left)) here);
            bad_is = ap (λ t. cond t (bad_command_from after (done ++ left)) (Some first.line)) yes ∙ ap (λ l. bad_command_from l (done ++ left)) (sym names) ∙ rest.bad_is
                ∙ sym (ap (λ (w : Step). bad_command_from (names_of w.stage.views) left) here);
          }
      | false ↦ λ no e. absurd (none-some _ (sym e))
    ] refl e

pub walks_go_on : WalksGoOn
walks_go_on o done left e =
    let all = goes_from o done left opening e in
    record { walk_is = all.walk_is; bad_is = all.bad_is }
