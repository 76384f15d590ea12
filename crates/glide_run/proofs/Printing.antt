-- Printed lines of views.
use Rattle.std.proofs.Common.{◌≡◌, ◌≢◌, ℕ, ◌+◌, ◌<◌, ◌≤◌, Bool, true, false, cond, ltb, List, [], ◌∷◌, ◌++◌, length, map, Some, None, Option, Ok, Err, Result, refl, ap, sym, subst, ◌∙◌, append_assoc, append-nil, add-one, take, arith, true≢false}
use Rattle.std.specs.Prelude.{⊤, slice_get, position, suc, zero, not, ◌||◌, IfOk, OnOk, OnErr, IsOk, IsErrAnd}
use Rattle.std.specs.List.{list_any, position_or_len}
use Rattle.std.specs.Option.{is_some, option_map, option_to_list}
use Rattle.std.specs.Str.{bytes_eq}
use Rattle.std.specs.Io.KnownBytes.{Appends}
use Rattle.std.proofs.KnownBytes.{Appends-nil, Appends-trans}
use Rattle.std.proofs.lemmas.List.Folds.{list_any-append}
use Rattle.std.proofs.lemmas.Bool.{lt-ltb, ltb-true, ltb-false}
use Rattle.std.proofs.lemmas.Option.{slice_get-map, none-some}
use Rattle.std.proofs.lemmas.Slice.Eq.{bytes_eq-Decides}
use Rattle.outside.specs.Causes.{Rose, HasCause}
use Rattle.outside.specs.declared.sinks.Sink as sinks
use Rattle.outside.specs.declared.sinks.WriteFault.{WriteFault}
use Rattle.outside.specs.declared.sinks.WriteFault.TheVariants as faults
use Rattle.bitmap_kind.specs.Picture.{Picture}
use Rattle.load_cause.specs.declared.causes.Cause.{Cause}
use Rattle.request_tracker.specs.declared.views.View.{View}
use Rattle.request_tracker.specs.declared.views.ViewState.{ViewState}
use Rattle.request_tracker.specs.declared.views.ViewState.TheVariants as states
use Rattle.request_tracker.specs.Moves.{names, place_of, name_at, view_at, state_at}
use Rattle.printed_lines.specs.declared.words.PlainState.{PlainState}
use Rattle.printed_lines.specs.declared.words.PlainState.TheVariants as plain
use Rattle.printed_lines.specs.Printed.{PrintedLine, ShownLine, line_text, lines_text, plain_line, shown_of, shown_text, says_failed}
use Rattle.printed_lines.specs.declared.lines.ShownPicture.{ShownPicture}
use Rattle.printed_lines.specs.Writes.{Writes}
use Rattle.script_walk.specs.Walk.{Begin, Outcome, Form, Pixels, Digest, WalkView, Stage, TraceEvent, Printed, picture_line, result_line, state_line, view_line, printed, print_events, gathered_view, gathered, names_of, has_name}
use Rattle.script_walk.specs.Ends.{lines_in}
use Rattle.script_walk.specs.Tracked.{tracked_view, tracked, AreDistinct}
use Rattle.state_machine.specs.declared.entry.Entry.{Entry as HistoryEntry}
use Rattle.engine_world.specs.declared.events.Note.{Note}
use Rattle.engine_shared.specs.Tokens.{HoldValue}
use Rattle.engine_shared.specs.Caller.{Caller}
use Rattle.fetch_bounds.specs.Follows as followed
use Rattle.fetch_bounds.specs.Parts.{begins_after, TracesJoin}
use Rattle.engine_views.specs.Held.{Held}
use Rattle.engine_views.specs.Following.{standing, Follows, IsShown}
use Rattle.glide_run.specs.inside.Looks.{Asks, TellsWhole}
use Rattle.glide_run.specs.inside.Prints.{plain_state_of, written, failing_in, Printer, printer, IsLastIn, AreLastIn, Prints, PrintsView, PrintsViews}
use Rattle.glide_run.specs.inside.Stops.{stop_of_write}
use Rattle.glide_run.specs.declared.run.Stop.{Stop}
use Rattle.glide_run.specs.declared.run.Stop.TheVariants.{Memory, Input, Write}
use Rattle.glide_run.proofs.Events.{lines-append, text-append}
use Rattle.glide_run.proofs.Telling.{work_append, asks_none, asks_then, asks_as, on_ok}

some_same : {A : Type 0} (x y : A) → Some x ≡ Some y → x ≡ y
some_same x y e = cc

abbrev Entry : Type 0
Entry = List ℕ × View Cause

abbrev state_of : Option Entry → Option (ViewState Cause)
state_of entry = option_map (λ (view : View Cause). view.state) (option_map (λ (entry : Entry). entry.1) entry)

abbrev name_of : Option Entry → Option (List ℕ)
name_of entry = option_map (λ (entry : Entry). entry.0) entry

-- ---- the view at a place

module _ (outcome : Outcome) (s : Stage) (c : Caller) (views : Held) (follows : Follows outcome s (standing c views)) (place : ℕ) (v : WalkView) (at : slice_get s.views place ≡ Some v) where
  entry_is : slice_get views.tracked.views place ≡ Some (v.name, v.view)
  entry_is = ap (λ t. slice_get t.views place) follows.tracked_is ∙ slice_get-map tracked_view s.views place ∙ ap (option_map tracked_view) at

  pub state_is : (state : ViewState Cause) → Some state ≡ state_at place views.tracked.views → v.view.state ≡ state
  state_is state e = some_same v.view.state state (sym (e ∙ ap state_of entry_is))

  pub name_is : (name : List ℕ) → Some name ≡ name_at place views.tracked.views → v.name ≡ name
  name_is name e = some_same v.name name (sym (e ∙ ap name_of entry_is))

-- ---- the line of a view that shows no picture

pub plain_line_is : (outcome : Outcome) (form : Form) (name : List ℕ) (state : ViewState Cause) (last : Option Begin) (is : PlainState)
    → plain_state_of state ≡ Some is → state_line outcome form name state last ≡ Some (plain_line name is)
plain_line_is outcome form name (states.Failed cause) last is e = ap (λ p. Some (plain_line name p)) (some_same (plain.Failed cause) is e)
plain_line_is outcome form name states.Waiting last is e = ap (λ p. Some (plain_line name p)) (some_same plain.Waiting is e)
plain_line_is outcome form name states.Paused last is e = ap (λ p. Some (plain_line name p)) (some_same plain.Paused is e)
plain_line_is outcome form name states.Cleared last is e = ap (λ p. Some (plain_line name p)) (some_same plain.Cleared is e)
plain_line_is outcome form name states.Running last is e = absurd (none-some _ e)
plain_line_is outcome form name states.Complete last is e = absurd (none-some _ e)

pub no_line_is : (outcome : Outcome) (form : Form) (name : List ℕ) (state : ViewState Cause) (last : Option Begin)
    → plain_state_of state ≡ None → state ≢ states.Complete → state_line outcome form name state last ≡ None
no_line_is outcome form name (states.Failed cause) last e not_complete = cc
no_line_is outcome form name states.Waiting last e not_complete = cc
no_line_is outcome form name states.Paused last e not_complete = cc
no_line_is outcome form name states.Cleared last e not_complete = cc
no_line_is outcome form name states.Running last e not_complete = refl
no_line_is outcome form name states.Complete last e not_complete = absurd (not_complete refl)

-- the line of a complete view
shown_line : (outcome : Outcome) (form : Form) (name : List ℕ) (state : ViewState Cause) (last : Option Begin) (begin : Begin) (picture : Picture) → state ≡ states.Complete → last ≡ Some begin → outcome begin ≡ Ok picture
    → state_line outcome form name state last ≡ Some (picture_line form name picture)
shown_line outcome form name state last begin picture complete is came =
    ap (λ t. state_line outcome form name t last) complete ∙ ap (option_map (λ b. result_line form name (outcome b))) is ∙ ap (λ r. Some (result_line form name r)) came

-- whether such a line says failed
abbrev pub is_failed : PlainState → Bool
is_failed (plain.Failed cause) = true
is_failed state = false

pub not_failed : (state : PlainState) → ((cause : Cause) → state ≡ plain.Failed cause → ⊥) → is_failed state ≡ false
not_failed (plain.Failed cause) never = absurd (never cause refl)
not_failed plain.Waiting never = refl
not_failed plain.Paused never = refl
not_failed plain.Cleared never = refl

pub says_failed_is : (name : List ℕ) (state : PlainState) → says_failed (plain_line name state) ≡ is_failed state
says_failed_is name (plain.Failed cause) = refl
says_failed_is name plain.Waiting = refl
says_failed_is name plain.Paused = refl
says_failed_is name plain.Cleared = refl

-- ---- lines that are printed one after the other

-- These lines were written, or a prefix of them and then a fault, and the answer says whether one of them says failed.
pub record Lines {W : Type 0} (sink : sinks.Ghosts W) (lines : List PrintedLine) (old new : W) (result : Result Bool WriteFault) : Type 0 where
  pub writes : Writes sink old new (lines_text lines) (written result)
  pub failing : IfOk result (λ failing. failing ≡ list_any says_failed lines)

one_text : (line : PrintedLine) → lines_text (line ∷ []) ≡ line_text line
one_text line = append-nil (line_text line)

either_false : (b : Bool) → (b || false) ≡ b
either_false true = refl
either_false false = refl

module _ {W : Type 0} (sink : sinks.Ghosts W) (old new : W) where
  -- one line was printed
  pub prints_one : (line : Option PrintedLine) (is : PrintedLine) (failing : Bool) → line ≡ Some is → failing ≡ says_failed is → Writes sink old new (line_text is) (Ok tt)
      → Lines sink (option_to_list line) old new (Ok failing)
  prints_one line is failing e same w =
      let all : Lines sink (is ∷ []) old new (Ok failing) = record { writes = subst (λ t. Writes sink old new t (Ok tt)) (sym (one_text is)) w; failing = same ∙ sym (either_false (says_failed is)) } in
      subst (λ l. Lines sink (option_to_list l) old new (Ok failing)) (sym e) all

  -- or a prefix of it
  pub prints_torn : (line : Option PrintedLine) (is : PrintedLine) {r : Result Bool WriteFault} {fault : WriteFault} → line ≡ Some is → r ≡ Err fault → Writes sink old new (line_text is) (Err fault)
      → Lines sink (option_to_list line) old new r
  prints_torn line is {r} {fault} e same w =
      let all : Lines sink (is ∷ []) old new (Err fault) = record { writes = subst (λ t. Writes sink old new t (Err fault)) (sym (one_text is)) w; failing = tt } in
      subst (λ l. Lines sink (option_to_list l) old new r) (sym e) (subst (Lines sink (is ∷ []) old new) (sym same) all)

pub is_none : {A : Type 0} (o : Option A) → ((x : A) → o ≡ Some x → ⊥) → o ≡ None
is_none None never = refl
is_none (Some x) never = absurd (never x refl)

-- what `?` answers, where it changes no fault
pub err_is : {T E : Type 0} (r : Result T E) {e : E} → IsErrAnd r (λ x. x ≡ e) → r ≡ Err e
err_is (Ok x) none = absurd none
err_is (Err x) same = ap Err same

module _ {W : Type 0} (sink : sinks.Ghosts W) (out : W) where
  wrote_none : Writes sink out out [] (Ok tt)
  wrote_none = record {
    prefix = [];
    rest = [];
    parts = refl;
    added = Appends-nil (sink.written out);
    whole = refl;
    flushed = refl;
    cause = record { later = omega arith; rose = λ e. cc };
  }

  -- nothing was
  pub prints_none : (line : Option PrintedLine) → line ≡ None → Lines sink (option_to_list line) out out (Ok false)
  prints_none line e =
      let all : Lines sink [] out out (Ok false) = record { writes = wrote_none; failing = refl } in
      subst (λ l. Lines sink (option_to_list l) out out (Ok false)) (sym e) all

-- ---- views by name

same_lt : (l n : ℕ) → ltb (1 + l) (suc n) ≡ ltb l n
same_lt l n = elim (ltb l n) as (λ t. ltb l n ≡ t → ltb (1 + l) (suc n) ≡ t) [
  | true ↦ λ e. let less : l < n = ltb-true _ _ e in lt-ltb _ _ (omega (arith, less))
  | false ↦ λ e. elim (ltb (1 + l) (suc n)) as (λ u. ltb (1 + l) (suc n) ≡ u → u ≡ false) [
    | true ↦ λ g. let less : 1 + l < suc n = ltb-true _ _ g in let most : n ≤ l = ltb-false _ _ e in absurd (omega (arith, less, most))
    | false ↦ λ g. refl
  ] refl
] refl

position_here : {A : Type 0} (p : A → Bool) (x : A) (xs : List A) → p x ≡ true → position p (x ∷ xs) ≡ Some 0
position_here p x xs e =
    let l = position_or_len p xs in
    ap (λ t. cond (ltb (cond (not t) (1 + l) 0) (length (x ∷ xs))) (Some (cond (not t) (1 + l) 0)) None) e
    ∙ ap (λ t. cond t (Some 0) None) (lt-ltb 0 (length (x ∷ xs)) (omega arith))

position_next : {A : Type 0} (p : A → Bool) (x : A) (xs : List A) → p x ≡ false → position p (x ∷ xs) ≡ option_map suc (position p xs)
position_next p x xs e =
    let l = position_or_len p xs in
    ap (λ t. cond (ltb (cond (not t) (1 + l) 0) (length (x ∷ xs))) (Some (cond (not t) (1 + l) 0)) None) e
    ∙ ap (λ t. cond t (Some (1 + l)) None) (same_lt l (length xs))
    ∙ elim (ltb l (length xs)) as (λ t. cond t (Some (1 + l)) None ≡ option_map suc (cond t (Some l) None)) [ true ↦ ap Some (omega arith) | false ↦ refl ]

is_some_map : {A B : Type 0} (f : A → B) (o : Option A) → is_some (option_map f o) ≡ is_some o
is_some_map f None = refl
is_some_map f (Some x) = refl

pub has_here : (name other : List ℕ) (ns : List (List ℕ)) → bytes_eq name other ≡ true → has_name name (other ∷ ns) ≡ true
has_here name other ns e = ap is_some (position_here (bytes_eq name) other ns e)

pub has_next : (name other : List ℕ) (ns : List (List ℕ)) → bytes_eq name other ≡ false → has_name name (other ∷ ns) ≡ has_name name ns
has_next name other ns e = ap is_some (position_next (bytes_eq name) other ns e) ∙ is_some_map suc (position (bytes_eq name) ns)

pub same_name : (a b : List ℕ) → bytes_eq a b ≡ true → a ≡ b
same_name a b e = (bytes_eq-Decides a b).0 e

pub own_name : (a : List ℕ) → bytes_eq a a ≡ true
own_name a = (bytes_eq-Decides a a).1 refl

-- a view that is there has its name
pub has_at : (vs : List WalkView) (place : ℕ) (v : WalkView) → slice_get vs place ≡ Some v → has_name v.name (names_of vs) ≡ true
has_at [] place v e = absurd (none-some _ e)
has_at (w ∷ vs) zero v e = has_here v.name w.name (names_of vs) (ap (λ (x : WalkView). bytes_eq v.name x.name) (some_same w v e) ∙ own_name v.name)
has_at (w ∷ vs) (suc place) v e = elim (bytes_eq v.name w.name) as (λ t. bytes_eq v.name w.name ≡ t → has_name v.name (names_of (w ∷ vs)) ≡ true) [
  | true ↦ λ same. has_here v.name w.name (names_of vs) same
  | false ↦ λ other. has_next v.name w.name (names_of vs) other ∙ has_at vs place v e
] refl

module _ (o : Outcome) (form : Form) where
  pub lines_at : (v : WalkView) → lines_in (printed (view_line o form v)) ≡ option_to_list (view_line o form v)
  lines_at v = elim (view_line o form v) as (λ l. lines_in (printed l) ≡ option_to_list l) [ None ↦ refl | Some line ↦ refl ]

  none_named : (name : List ℕ) (vs : List WalkView) → has_name name (names_of vs) ≡ false → print_events o form (bytes_eq name) vs ≡ []
  none_named name [] none = refl
  none_named name (v ∷ vs) none = elim (bytes_eq name v.name) as (λ t. bytes_eq name v.name ≡ t → cond t (printed (view_line o form v)) [] ++ print_events o form (bytes_eq name) vs ≡ []) [
    | true ↦ λ e. absurd (true≢false (sym (has_here name v.name (names_of vs) e) ∙ none))
    | false ↦ λ e. none_named name vs (sym (has_next name v.name (names_of vs) e) ∙ none)
  ] refl

  -- The lines of the views of one name are that of the one that has it.
  pub named_events : (name : List ℕ) (vs : List WalkView) (place : ℕ) (v : WalkView) → AreDistinct (names_of vs) → slice_get vs place ≡ Some v → bytes_eq name v.name ≡ true
      → print_events o form (bytes_eq name) vs ≡ printed (view_line o form v)
  named_events name [] place v distinct at e = absurd (none-some _ at)
  named_events name (w ∷ vs) zero v distinct at e =
      let is : w ≡ v = some_same w v at in
      let same : name ≡ w.name = same_name name v.name e ∙ ap (λ (x : WalkView). x.name) (sym is) in
      let none : has_name name (names_of vs) ≡ false = ap (λ n. has_name n (names_of vs)) same ∙ distinct.0 in
      ap (λ t. cond t (printed (view_line o form w)) [] ++ print_events o form (bytes_eq name) vs) (ap (λ (x : WalkView). bytes_eq name x.name) is ∙ e)
      ∙ ap (λ l. printed (view_line o form w) ++ l) (none_named name vs none)
      ∙ append-nil (printed (view_line o form w)) ∙ ap (λ x. printed (view_line o form x)) is
  named_events name (w ∷ vs) (suc place) v distinct at e = elim (bytes_eq name w.name) as (λ t. bytes_eq name w.name ≡ t
      → cond t (printed (view_line o form w)) [] ++ print_events o form (bytes_eq name) vs ≡ printed (view_line o form v)) [
        | true ↦ λ g.
            let same : w.name ≡ v.name = sym (same_name name w.name g) ∙ same_name name v.name e in
            absurd (true≢false (sym (has_at vs place v at) ∙ ap (λ n. has_name n (names_of vs)) (sym same) ∙ distinct.0))
        | false ↦ λ g. named_events name vs place v distinct.1 at e
      ] refl

  pub named_lines : (name : List ℕ) (vs : List WalkView) (place : ℕ) (v : WalkView) → AreDistinct (names_of vs) → slice_get vs place ≡ Some v → bytes_eq name v.name ≡ true
      → lines_in (print_events o form (bytes_eq name) vs) ≡ option_to_list (view_line o form v)
  named_lines name vs place v distinct at e = ap lines_in (named_events name vs place v distinct at e) ∙ lines_at v

  -- the lines of all views
  abbrev pub all_lines : List WalkView → List PrintedLine
  all_lines vs = lines_in (print_events o form (λ name. true) vs)

  all_next : (v : WalkView) (vs : List WalkView) → all_lines (v ∷ vs) ≡ option_to_list (view_line o form v) ++ all_lines vs
  all_next v vs = lines-append (printed (view_line o form v)) (print_events o form (λ name. true) vs) ∙ ap (λ l. l ++ all_lines vs) (lines_at v)

-- ---- what a call printed of the view at a place

module _ (outcome : Outcome) (s : Stage) (c : Caller) (views : Held) (follows : Follows outcome s (standing c views)) (place : ℕ) (v : WalkView) (at : slice_get s.views place ≡ Some v) where
  -- a view that shows no picture
  pub plain_at : (state : ViewState Cause) (name bytes : List ℕ) (is : PlainState) (form : Form) → Some state ≡ state_at place views.tracked.views → Some name ≡ name_at place views.tracked.views → bytes ≡ name
      → plain_state_of state ≡ Some is → view_line outcome form v ≡ Some (plain_line bytes is)
  plain_at state name bytes is form state_e name_e same e =
      plain_line_is outcome form v.name v.view.state v.last is (ap plain_state_of (state_is outcome s c views follows place v at state state_e) ∙ e)
      ∙ ap (λ n. Some (plain_line n is)) (name_is outcome s c views follows place v at name name_e ∙ sym same)

  -- one that runs
  pub silent_at : (state : ViewState Cause) (form : Form) → Some state ≡ state_at place views.tracked.views → plain_state_of state ≡ None → v.view.state ≢ states.Complete → view_line outcome form v ≡ None
  silent_at state form state_e e not_complete =
      no_line_is outcome form v.name v.view.state v.last (ap plain_state_of (state_is outcome s c views follows place v at state state_e) ∙ e) not_complete

  -- a complete one
  pub picture_at : (name bytes : List ℕ) (load : HoldValue) (form : Form) → Some name ≡ name_at place views.tracked.views → bytes ≡ name
      → (shown : IsShown c outcome v load) → view_line outcome form v ≡ Some (picture_line form bytes shown.shows.ready.picture)
  picture_at name bytes load form name_e same shown =
      shown_line outcome form v.name v.view.state v.last shown.begin shown.shows.ready.picture shown.complete shown.last shown.shows.is
      ∙ ap (λ n. Some (picture_line form n shown.shows.ready.picture)) (name_is outcome s c views follows place v at name name_e ∙ sym same)

-- the `shown` line of a picture
pub digest_text : {W : Type 0} (sink : sinks.Ghosts W) (old new : W) (bytes : List ℕ) (shown : ShownPicture) (picture : Picture) {r : Result ⊤ WriteFault} → shown ≡ shown_of picture
    → Writes sink old new (shown_text bytes shown) r → Writes sink old new (line_text (ShownLine bytes picture)) r
digest_text sink old new bytes shown picture {r} e w = subst (λ x. Writes sink old new (shown_text bytes x) r) e w

-- ---- all views

pub view_in : (vs : List WalkView) (k : ℕ) → k < length vs → (v : WalkView) × (slice_get vs k ≡ Some v)
view_in [] k lt = absurd (omega arith)
view_in (v ∷ vs) zero lt = (v, refl)
view_in (v ∷ vs) (suc k) lt = view_in vs k (omega arith)

module _ (o : Outcome) where
  abbrev shown_lines : List WalkView → List PrintedLine
  shown_lines vs = all_lines o Digest vs

  abbrev line_of : WalkView → List PrintedLine
  line_of v = option_to_list (view_line o Digest v)

  lines_suc : (vs : List WalkView) (k : ℕ) (v : WalkView) → slice_get vs k ≡ Some v → shown_lines (take (suc k) vs) ≡ shown_lines (take k vs) ++ line_of v
  lines_suc [] k v at = absurd (none-some _ at)
  lines_suc (w ∷ vs) zero v at = all_next o Digest w [] ∙ append-nil (line_of w) ∙ ap line_of (some_same w v at)
  lines_suc (w ∷ vs) (suc k) v at =
      all_next o Digest w (take (suc k) vs) ∙ ap (λ l. line_of w ++ l) (lines_suc vs k v at)
      ∙ sym (append_assoc (line_of w) (shown_lines (take k vs)) (line_of v)) ∙ ap (λ l. l ++ line_of v) (sym (all_next o Digest w (take k vs)))

  pub lines_more : (vs : List WalkView) (k : ℕ) (v : WalkView) → slice_get vs k ≡ Some v → all_lines o Digest (take (k + 1) vs) ≡ all_lines o Digest (take k vs) ++ option_to_list (view_line o Digest v)
  lines_more vs k v at = ap (λ n. shown_lines (take n vs)) (add-one k) ∙ lines_suc vs k v at

  -- the lines of all views, round that of one
  pub lines_around : (vs : List WalkView) (k : ℕ) (v : WalkView) → slice_get vs k ≡ Some v → (rest : List PrintedLine) × (all_lines o Digest vs ≡ all_lines o Digest (take k vs) ++ (option_to_list (view_line o Digest v) ++ rest))
  lines_around [] k v at = absurd (none-some _ at)
  lines_around (w ∷ vs) zero v at = (shown_lines vs, all_next o Digest w vs ∙ ap (λ x. line_of x ++ shown_lines vs) (some_same w v at))
  lines_around (w ∷ vs) (suc k) v at =
      let more = lines_around vs k v at in (
        more.0,
        all_next o Digest w vs ∙ ap (λ l. line_of w ++ l) more.1 ∙ sym (append_assoc (line_of w) (shown_lines (take k vs)) (line_of v ++ more.0))
            ∙ ap (λ l. l ++ (line_of v ++ more.0)) (sym (all_next o Digest w (take k vs))),
      )

module _ {W : Type 0} (sink : sinks.Ghosts W) where
  pub printed_none : (out : W) → Lines sink [] out out (Ok false)
  printed_none out = record { writes = wrote_none sink out; failing = refl }

  rose_later : (first mid now : ℕ) → first ≤ mid → Rose mid now → Rose first now
  rose_later first mid now le rose = omega (arith, le, rose)

  whole_of : (r : Result Bool WriteFault) (xs ys : List ℕ) → OnOk (written r) (xs ≡ []) → (IsOk r → ys ≡ []) → OnOk (written r) (xs ++ ys ≡ [])
  whole_of (Ok b) xs ys p q = (λ i. p i ++ q refl i)
  whole_of (Err fault) xs ys p q = tt

  -- lines behind lines
  pub printed_more : (old mid new : W) (first second rest : List PrintedLine) (a : Bool) {r : Result Bool WriteFault} → Lines sink first old mid (Ok a) → Lines sink second mid new r
      → (IsOk r → rest ≡ []) → Writes sink old new (lines_text (first ++ (second ++ rest))) (written r)
  printed_more old mid new first second rest a {r} p q none =
      let u = p.writes in
      let w = q.writes in
      record {
        prefix = lines_text first ++ w.prefix;
        rest = w.rest ++ lines_text rest;
        parts = text-append first (second ++ rest) ∙ ap (λ l. lines_text first ++ l) (text-append second rest ∙ ap (λ l. l ++ lines_text rest) w.parts ∙ append_assoc w.prefix w.rest (lines_text rest))
            ∙ sym (append_assoc (lines_text first) w.prefix (w.rest ++ lines_text rest));
        added = Appends-trans (sink.written old) (sink.written mid) (sink.written new) (lines_text first) w.prefix
            (subst (Appends (sink.written old) (sink.written mid)) (sym (u.parts ∙ ap (λ l. u.prefix ++ l) u.whole ∙ append-nil u.prefix)) u.added) w.added;
        whole = whole_of r (w.rest) (lines_text rest) w.whole (λ is. ap lines_text (none is));
        flushed = w.flushed ∙ u.flushed;
        cause = record { later = omega (arith, u.cause.later, w.cause.later); rose = λ e. rose_later (sink.faults old) (sink.faults mid) (sink.faults new) u.cause.later (w.cause.rose e) };
      }

  pub printed_then : (old mid new : W) (first second : List PrintedLine) (a b : Bool) → Lines sink first old mid (Ok a) → Lines sink second mid new (Ok b) → Lines sink (first ++ second) old new (Ok (a || b))
  printed_then old mid new first second a b p q = record {
    writes = subst (λ l. Writes sink old new (lines_text (first ++ l)) (Ok tt)) (append-nil second) (printed_more old mid new first second [] a p q (λ is. refl));
    failing = (λ i. p.failing i || q.failing i) ∙ sym (list_any-append says_failed first second);
  }

  pub printed_until : (old mid new : W) (first second rest all : List PrintedLine) (a : Bool) {r : Result Bool WriteFault} {fault : WriteFault} → all ≡ first ++ (second ++ rest) → Lines sink first old mid (Ok a)
      → Lines sink second mid new (Err fault) → r ≡ Err fault → Lines sink all old new r
  printed_until old mid new first second rest all a {r} {fault} e p q same =
      let whole : Lines sink (first ++ (second ++ rest)) old new (Err fault) = record { writes = printed_more old mid new first second rest a p q (λ is. cc); failing = tt } in
      subst (Lines sink all old new) (sym same) (subst (λ l. Lines sink l old new (Err fault)) (sym e) whole)

tracked_length : (vs : List WalkView) → length (map tracked_view vs) ≡ length vs
tracked_length [] = refl
tracked_length (v ∷ vs) = ap suc (tracked_length vs)

pub count_is : (outcome : Outcome) (s : Stage) (c : Caller) (views : Held) → Follows outcome s (standing c views) → length views.tracked.views ≡ length s.views
count_is outcome s c views follows = ap (λ t. length t.views) follows.tracked_is ∙ tracked_length s.views

-- ---- the view of a name

no_zero : (o : Option ℕ) → option_map suc o ≡ Some 0 → ⊥
no_zero None e = none-some _ e
no_zero (Some k) e = let h : suc k ≡ 0 = some_same (suc k) 0 e in absurd (omega (arith, h))

one_less : (o : Option ℕ) (k : ℕ) → option_map suc o ≡ Some (suc k) → o ≡ Some k
one_less None k e = absurd (none-some _ e)
one_less (Some j) k e = let h : suc j ≡ suc k = some_same (suc j) (suc k) e in ap Some (omega (arith, h))

position_at : (p : List ℕ → Bool) (xs : List (List ℕ)) (k : ℕ) (x : List ℕ) → position p xs ≡ Some k → slice_get xs k ≡ Some x → p x ≡ true
position_at p [] k x e at = absurd (none-some _ at)
position_at p (y ∷ ys) zero x e at = elim (p y) as (λ t. p y ≡ t → p x ≡ true) [
  | true ↦ λ yes. ap p (sym (some_same y x at)) ∙ yes
  | false ↦ λ no. absurd (no_zero (position p ys) (sym (position_next p y ys no) ∙ e))
] refl
position_at p (y ∷ ys) (suc k) x e at = elim (p y) as (λ t. p y ≡ t → p x ≡ true) [
  | true ↦ λ yes. let h : 0 ≡ suc k = some_same 0 (suc k) (sym (position_here p y ys yes) ∙ e) in absurd (omega (arith, h))
  | false ↦ λ no. position_at p ys k x (one_less (position p ys) k (sym (position_next p y ys no) ∙ e)) at
] refl

tracked_names : (vs : List WalkView) → names (map tracked_view vs) ≡ names_of vs
tracked_names [] = refl
tracked_names (v ∷ vs) = ap (λ l. v.name ∷ l) (tracked_names vs)

-- a gather changes no name
gathered_name : (o : Outcome) (vs : List WalkView) (k : ℕ) (v : WalkView) → slice_get (gathered o vs) k ≡ Some v → slice_get (names_of vs) k ≡ Some v.name
gathered_name o [] k v at = absurd (none-some _ at)
gathered_name o (w ∷ vs) zero v at = ap (λ (x : WalkView). Some x.name) (some_same (gathered_view o w) v at)
gathered_name o (w ∷ vs) (suc k) v at = gathered_name o vs k v at

pub named_at : (o n : Outcome) (s : Stage) (c : Caller) (views : Held) → Follows o s (standing c views) → (name : List ℕ) (place : ℕ) (v : WalkView) → place_of name views.tracked.views ≡ Some place → slice_get (gathered n s.views) place ≡ Some v → bytes_eq name v.name ≡ true
named_at o n s c views follows name place v found at =
    position_at (bytes_eq name) (names_of s.views) place v.name
    (ap (position (bytes_eq name)) (sym (tracked_names s.views)) ∙ ap (λ t. position (bytes_eq name) (names t.views)) (sym follows.tracked_is) ∙ found)
    (gathered_name n s.views place v at)

-- ---- faults

abbrev pub err_in : (T : Type 0) {E : Type 0} → E → Result T E
err_in T e = Err e

not_write : (T P : Type 0) → err_in T Memory ≡ err_in T Write → P
not_write T P e = cc

pub write_cause : {T : Type 0} (a b : ℕ) (r : Result T Stop) (fault : WriteFault) → r ≡ Err (stop_of_write fault) → HasCause a b (err_in Bool fault ≡ err_in Bool faults.Failed) → HasCause a b (r ≡ Err Write)
write_cause {T} a b r faults.Failed e h = record { later = h.later; rose = λ f. h.rose refl }
write_cause {T} a b r faults.Memory e h = record { later = h.later; rose = λ f. not_write T (Rose a b) (sym e ∙ f) }

-- a call that stops for want of memory alone
not_input : (T P : Type 0) → err_in T Input ≡ err_in T Memory → P
not_input T P e = cc

pub memory_alone : {T : Type 0} (r : Result T Stop) → OnErr r (r ≡ Err Memory) → r ≡ Err Input → ⊥
memory_alone {T} r h e = not_input T ⊥ (sym e ∙ subst (λ x. OnErr x (r ≡ Err Memory)) e h)

pub no_cause : {T : Type 0} (a : ℕ) (r : Result T Stop) → OnErr r (r ≡ Err Memory) → HasCause a a (r ≡ Err Write)
no_cause {T} a r h = record { later = omega arith; rose = λ e. not_write T (Rose a a) (sym (subst (λ x. OnErr x (r ≡ Err Memory)) e h) ∙ e) }

-- ---- lines with what is asked of the engine

-- A plain line asks nothing.
plain_told : (begun : List Begin) (name : List ℕ) (state : PlainState) → followed.Follows begun (Printed (plain_line name state) ∷ []) []
plain_told begun name (plain.Failed cause) = tt
plain_told begun name plain.Waiting = tt
plain_told begun name plain.Paused = tt
plain_told begun name plain.Cleared = tt

-- A line that shows a picture asks for that of its view's last begin.
picture_told : (begun : List Begin) (form : Form) (name : List ℕ) (picture : Picture) (last : Option Begin) (begin : Begin) (n : ℕ) (es : List (HistoryEntry Note)) → followed.last_of name begun ≡ last → last ≡ Some begin
    → followed.IsLoadOf begin n → TellsWhole n picture es → followed.Follows begun (Printed (picture_line form name picture) ∷ []) es
picture_told begun Pixels name picture last begin n es known is load told = subst (λ b. followed.Shows b picture followed.AllWork es) (sym (known ∙ is)) (n, load, told)
picture_told begun Digest name picture last begin n es known is load told = subst (λ b. followed.Shows b picture followed.AllWork es) (sym (known ∙ is)) (n, load, told)

module _ {W : Type 0} (sink : sinks.Ghosts W) (held : Held) (outcome : Outcome) (form : Form) (v : WalkView) (old new : Printer W) where
  -- what was printed of a view
  pub prints_view : (r : Result Bool WriteFault) → Lines sink (option_to_list (view_line outcome form v)) old.out new.out r → Asks held followed.AllWork old.caller new.caller
      → OnOk r ((begun : List Begin) → IsLastIn begun v → Asks held (followed.Follows begun (printed (view_line outcome form v))) old.caller new.caller)
      → PrintsView sink held outcome form v old new r
  prints_view (Ok failing) p asks told = record {
    writes = subst (λ l. Writes sink old.out new.out (lines_text l) (Ok tt)) (sym (lines_at outcome form v)) p.writes;
    failing = p.failing ∙ ap (list_any says_failed) (sym (lines_at outcome form v));
    asks = asks;
    told = told;
  }
  prints_view (Err fault) p asks told = record {
    writes = subst (λ l. Writes sink old.out new.out (lines_text l) (Err fault)) (sym (lines_at outcome form v)) p.writes;
    failing = tt;
    asks = asks;
    told = tt;
  }

  -- of one that shows no picture
  pub prints_plain : (r : Result Bool WriteFault) (name : List ℕ) (state : PlainState) → old.caller ≡ new.caller → view_line outcome form v ≡ Some (plain_line name state)
      → Lines sink (option_to_list (view_line outcome form v)) old.out new.out r → PrintsView sink held outcome form v old new r
  prints_plain r name state same e p =
      let none : Asks held (λ es. es ≡ []) old.caller new.caller = subst (λ c. Asks held (λ es. es ≡ []) old.caller c) same (record { later = []; seen = sym (append-nil old.caller.seen); are = refl; opening = refl; no_job = record { runs = refl; fails = refl }; follows = λ o s follows. follows }) in
      let told : (begun : List Begin) → IsLastIn begun v → Asks held (followed.Follows begun (printed (view_line outcome form v))) old.caller new.caller = λ begun known.
      asks_as held (λ es. es ≡ []) (followed.Follows begun (printed (view_line outcome form v)))
      (λ es is. subst (λ l. followed.Follows begun (printed l) es) (sym e) (subst (followed.Follows begun (Printed (plain_line name state) ∷ [])) (sym is) (plain_told begun name state))) old.caller new.caller none in
      prints_view r p (asks_as held (λ es. es ≡ []) followed.AllWork (λ es is. subst followed.AllWork (sym is) tt) old.caller new.caller none) (on_ok _ r told)

  -- of one that runs
  pub prints_silent : old.caller ≡ new.caller → old.out ≡ new.out → view_line outcome form v ≡ None → PrintsView sink held outcome form v old new (Ok false)
  prints_silent same out e =
      let none : Asks held (λ es. es ≡ []) old.caller new.caller = subst (λ c. Asks held (λ es. es ≡ []) old.caller c) same (record { later = []; seen = sym (append-nil old.caller.seen); are = refl; opening = refl; no_job = record { runs = refl; fails = refl }; follows = λ o s follows. follows }) in
      let told : (begun : List Begin) → IsLastIn begun v → Asks held (followed.Follows begun (printed (view_line outcome form v))) old.caller new.caller = λ begun known.
      asks_as held (λ es. es ≡ []) (followed.Follows begun (printed (view_line outcome form v)))
      (λ es is. subst (λ l. followed.Follows begun (printed l) es) (sym e) (subst followed.AllWork (sym is) tt)) old.caller new.caller none in
      prints_view (Ok false) (subst (λ x. Lines sink (option_to_list (view_line outcome form v)) old.out x (Ok false)) out (prints_none sink old.out (view_line outcome form v) e))
      (asks_as held (λ es. es ≡ []) followed.AllWork (λ es is. subst followed.AllWork (sym is) tt) old.caller new.caller none) told

  -- of one that shows a picture
  pub prints_picture : (r : Result Bool WriteFault) (name : List ℕ) (picture : Picture) (load : HoldValue) (shown : IsShown old.caller outcome v load) → v.name ≡ name → view_line outcome form v ≡ Some (picture_line form name picture)
      → Lines sink (option_to_list (view_line outcome form v)) old.out new.out r → Asks held followed.AllWork old.caller new.caller → OnOk r (Asks held (TellsWhole load.number picture) old.caller new.caller)
      → PrintsView sink held outcome form v old new r
  prints_picture (Err fault) name picture load shown same e p asks whole = prints_view (Err fault) p asks tt
  prints_picture (Ok failing) name picture load shown same e p asks whole = prints_view (Ok failing) p asks (λ begun known.
      asks_as held (TellsWhole load.number picture) (followed.Follows begun (printed (view_line outcome form v)))
      (λ es told. subst (λ l. followed.Follows begun (printed l) es) (sym e)
      (picture_told begun form name picture v.last shown.begin load.number es (ap (λ n. followed.last_of n begun) (sym same) ∙ known) shown.last shown.number told)) old.caller new.caller whole)
