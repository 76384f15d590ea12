-- What is read off events of a walk.
use Rattle.std.proofs.Common.{◌≡◌, ℕ, ◌+◌, ◌≤◌, Bool, true, false, cond, List, [], ◌∷◌, ◌++◌, length, Some, None, Option, Ok, Err, Result, refl, ap, sym, ◌∙◌, append_assoc, arith}
use Rattle.std.specs.Prelude.{⊤}
use Rattle.std.specs.Option.{option_len}
use Rattle.bitmap_kind.specs.Picture.{Picture}
use Rattle.cache_key.specs.KeyBytes.{address_of}
use Rattle.request_tracker.specs.Moves.{Move}
use Rattle.load_cause.specs.declared.causes.Cause.{Cause}
use Rattle.load_cause.specs.declared.causes.Cause.TheVariants as causes
use Rattle.printed_lines.specs.Printed.{PrintedLine, line_text, lines_text}
use Rattle.script_walk.specs.Walk.{Begin, WalkView, Outcome, Form, TraceEvent, Dropped, Begun, Ended, Trimmed, Printed, Stage, begin_by, held, all_held, dropped_by, moved_view, move_events, drop_events, begin_events, each_move, running, end_events, view_ends, gather_events, view_line, printed, print_events}
use Rattle.script_walk.specs.Ends.{lines_in}
use Rattle.script_walk.specs.Marks.{begins_in}
use Rattle.script_walk.specs.Laws.{EachEnd, ends_in, source_failures}

abbrev pub Says : Type 1
Says = Begin → Result Picture Cause → Type 0

-- ---- events behind events

pub each_append : (P : Says) (xs ys : List TraceEvent) → EachEnd P xs → EachEnd P ys → EachEnd P (xs ++ ys)
each_append P [] ys hx hy = hy
each_append P (Ended b result ∷ xs) ys hx hy = (hx.0, each_append P xs ys hx.1 hy)
each_append P (Dropped b ∷ xs) ys hx hy = each_append P xs ys hx hy
each_append P (Begun b others ∷ xs) ys hx hy = each_append P xs ys hx hy
each_append P (Trimmed level ∷ xs) ys hx hy = each_append P xs ys hx hy
each_append P (Printed line ∷ xs) ys hx hy = each_append P xs ys hx hy

pub each_map : (P Q : Says) → ((b : Begin) (r : Result Picture Cause) → P b r → Q b r) → (xs : List TraceEvent) → EachEnd P xs → EachEnd Q xs
each_map P Q f [] h = tt
each_map P Q f (Ended b result ∷ xs) h = (f b result h.0, each_map P Q f xs h.1)
each_map P Q f (Dropped b ∷ xs) h = each_map P Q f xs h
each_map P Q f (Begun b others ∷ xs) h = each_map P Q f xs h
each_map P Q f (Trimmed level ∷ xs) h = each_map P Q f xs h
each_map P Q f (Printed line ∷ xs) h = each_map P Q f xs h

pub ends_left : (P : Says) (xs ys : List TraceEvent) → EachEnd P (xs ++ ys) → EachEnd P xs
ends_left P [] ys h = tt
ends_left P (Ended b result ∷ xs) ys h = (h.0, ends_left P xs ys h.1)
ends_left P (Dropped b ∷ xs) ys h = ends_left P xs ys h
ends_left P (Begun b others ∷ xs) ys h = ends_left P xs ys h
ends_left P (Trimmed level ∷ xs) ys h = ends_left P xs ys h
ends_left P (Printed line ∷ xs) ys h = ends_left P xs ys h

pub lines-append : (xs ys : List TraceEvent) → lines_in (xs ++ ys) ≡ lines_in xs ++ lines_in ys
lines-append [] ys = refl
lines-append (Printed line ∷ xs) ys = ap (λ l. line ∷ l) (lines-append xs ys)
lines-append (Ended b result ∷ xs) ys = lines-append xs ys
lines-append (Dropped b ∷ xs) ys = lines-append xs ys
lines-append (Begun b others ∷ xs) ys = lines-append xs ys
lines-append (Trimmed level ∷ xs) ys = lines-append xs ys

pub ends-append : (xs ys : List TraceEvent) → ends_in (xs ++ ys) ≡ ends_in xs + ends_in ys
ends-append [] ys = omega arith
ends-append (Ended b result ∷ xs) ys = omega (arith, ends-append xs ys)
ends-append (Dropped b ∷ xs) ys = ends-append xs ys
ends-append (Begun b others ∷ xs) ys = ends-append xs ys
ends-append (Trimmed level ∷ xs) ys = ends-append xs ys
ends-append (Printed line ∷ xs) ys = ends-append xs ys

abbrev pub made : List TraceEvent → ℕ
made events = length (begins_in events)

pub made-append : (xs ys : List TraceEvent) → made (xs ++ ys) ≡ made xs + made ys
made-append [] ys = omega arith
made-append (Begun b others ∷ xs) ys = omega (arith, made-append xs ys)
made-append (Ended b result ∷ xs) ys = made-append xs ys
made-append (Dropped b ∷ xs) ys = made-append xs ys
made-append (Trimmed level ∷ xs) ys = made-append xs ys
made-append (Printed line ∷ xs) ys = made-append xs ys

pub failures-append : (xs ys : List TraceEvent) → source_failures (xs ++ ys) ≡ source_failures xs ++ source_failures ys
failures-append [] ys = refl
failures-append (Ended b (Ok picture) ∷ xs) ys = failures-append xs ys
failures-append (Ended b (Err causes.Missing) ∷ xs) ys = failures-append xs ys
failures-append (Ended b (Err (causes.Refused refusal)) ∷ xs) ys = failures-append xs ys
failures-append (Ended b (Err causes.Source) ∷ xs) ys = ap (λ l. address_of b.spec.key ∷ l) (failures-append xs ys)
failures-append (Ended b (Err causes.Memory) ∷ xs) ys = failures-append xs ys
failures-append (Ended b (Err causes.Uncached) ∷ xs) ys = failures-append xs ys
failures-append (Dropped b ∷ xs) ys = failures-append xs ys
failures-append (Begun b others ∷ xs) ys = failures-append xs ys
failures-append (Trimmed level ∷ xs) ys = failures-append xs ys
failures-append (Printed line ∷ xs) ys = failures-append xs ys

pub text-append : (xs ys : List PrintedLine) → lines_text (xs ++ ys) ≡ lines_text xs ++ lines_text ys
text-append [] ys = refl
text-append (line ∷ xs) ys = ap (λ l. line_text line ++ l) (text-append xs ys) ∙ sym (append_assoc (line_text line) (lines_text xs) (lines_text ys))

-- ---- events without ends

-- No begin comes to its end.
abbrev pub NoneEnd : List TraceEvent → Type 0
NoneEnd [] = ⊤
NoneEnd (Ended b result ∷ es) = ⊥
NoneEnd (Dropped b ∷ es) = NoneEnd es
NoneEnd (Begun b others ∷ es) = NoneEnd es
NoneEnd (Trimmed level ∷ es) = NoneEnd es
NoneEnd (Printed line ∷ es) = NoneEnd es

none-append : (xs ys : List TraceEvent) → NoneEnd xs → NoneEnd ys → NoneEnd (xs ++ ys)
none-append [] ys hx hy = hy
none-append (Ended b result ∷ xs) ys hx hy = absurd hx
none-append (Dropped b ∷ xs) ys hx hy = none-append xs ys hx hy
none-append (Begun b others ∷ xs) ys hx hy = none-append xs ys hx hy
none-append (Trimmed level ∷ xs) ys hx hy = none-append xs ys hx hy
none-append (Printed line ∷ xs) ys hx hy = none-append xs ys hx hy

pub each_none : (P : Says) (es : List TraceEvent) → NoneEnd es → EachEnd P es
each_none P [] h = tt
each_none P (Ended b result ∷ es) h = absurd h
each_none P (Dropped b ∷ es) h = each_none P es h
each_none P (Begun b others ∷ es) h = each_none P es h
each_none P (Trimmed level ∷ es) h = each_none P es h
each_none P (Printed line ∷ es) h = each_none P es h

pub ends_none : (es : List TraceEvent) → NoneEnd es → ends_in es ≡ 0
ends_none [] h = refl
ends_none (Ended b result ∷ es) h = absurd h
ends_none (Dropped b ∷ es) h = ends_none es h
ends_none (Begun b others ∷ es) h = ends_none es h
ends_none (Trimmed level ∷ es) h = ends_none es h
ends_none (Printed line ∷ es) h = ends_none es h

-- Where none that comes to its end fails by its source, there are no failed fetches.
pub failures_none : (P : Says) → ((b : Begin) → P b (Err causes.Source) → ⊥) → (es : List TraceEvent) → EachEnd P es → source_failures es ≡ []
failures_none P never [] h = refl
failures_none P never (Ended b (Ok picture) ∷ es) h = failures_none P never es h.1
failures_none P never (Ended b (Err causes.Missing) ∷ es) h = failures_none P never es h.1
failures_none P never (Ended b (Err (causes.Refused refusal)) ∷ es) h = failures_none P never es h.1
failures_none P never (Ended b (Err causes.Source) ∷ es) h = absurd (never b h.0)
failures_none P never (Ended b (Err causes.Memory) ∷ es) h = failures_none P never es h.1
failures_none P never (Ended b (Err causes.Uncached) ∷ es) h = failures_none P never es h.1
failures_none P never (Dropped b ∷ es) h = failures_none P never es h
failures_none P never (Begun b others ∷ es) h = failures_none P never es h
failures_none P never (Trimmed level ∷ es) h = failures_none P never es h
failures_none P never (Printed line ∷ es) h = failures_none P never es h

pub failures_of_none : (es : List TraceEvent) → NoneEnd es → source_failures es ≡ []
failures_of_none es h = failures_none (λ b r. ⊥) (λ b never. never) es (each_none (λ b r. ⊥) es h)

-- ---- moves neither end nor print

drops_none : (b : Option Begin) → NoneEnd (drop_events b)
drops_none None = tt
drops_none (Some b) = tt

begins_none : (b : Option Begin) (others : List Begin) → NoneEnd (begin_events b others)
begins_none None others = tt
begins_none (Some b) others = tt

pub moves_end : (moves : List ℕ → Move Cause) (k g : ℕ) (before : List Begin) (vs : List WalkView) → NoneEnd (each_move moves k g before vs).events
moves_end moves k g before [] = tt
moves_end moves k g before (v ∷ vs) =
    let move = moves v.name in
    let begin = begin_by move (k + 1) g v in
    let others = before ++ all_held vs in
    let behind = before ++ held (moved_view move begin v) in
    none-append (move_events move begin others v) (each_move moves (k + option_len begin) g behind vs).events
    (none-append (drop_events (dropped_by move v)) (begin_events begin others) (drops_none (dropped_by move v)) (begins_none begin others))
    (moves_end moves (k + option_len begin) g behind vs)

drops_lines : (b : Option Begin) → lines_in (drop_events b) ≡ []
drops_lines None = refl
drops_lines (Some b) = refl

begins_lines : (b : Option Begin) (others : List Begin) → lines_in (begin_events b others) ≡ []
begins_lines None others = refl
begins_lines (Some b) others = refl

pub moves_lines : (moves : List ℕ → Move Cause) (k g : ℕ) (before : List Begin) (vs : List WalkView) → lines_in (each_move moves k g before vs).events ≡ []
moves_lines moves k g before [] = refl
moves_lines moves k g before (v ∷ vs) =
    let move = moves v.name in
    let begin = begin_by move (k + 1) g v in
    let others = before ++ all_held vs in
    let behind = before ++ held (moved_view move begin v) in
    let rest = (each_move moves (k + option_len begin) g behind vs).events in
    lines-append (move_events move begin others v) rest
    ∙ (λ i. (lines-append (drop_events (dropped_by move v)) (begin_events begin others) ∙ (λ j. drops_lines (dropped_by move v) j ++ begins_lines begin others j)) i ++ moves_lines moves (k + option_len begin) g behind vs i)

-- ---- gathers print nothing and begin nothing

module _ (o : Outcome) where
  came_lines : (b : Begin) (r : Result Picture Cause) → lines_in (end_events b r) ≡ []
  came_lines b (Ok picture) = refl
  came_lines b (Err cause) = refl

  view_lines : (b : Option Begin) → lines_in (view_ends o b) ≡ []
  view_lines None = refl
  view_lines (Some b) = came_lines b (o b)

  pub gather_lines : (vs : List WalkView) → lines_in (gather_events o vs) ≡ []
  gather_lines [] = refl
  gather_lines (v ∷ vs) = lines-append (view_ends o (running v)) (gather_events o vs) ∙ (λ i. view_lines (running v) i ++ gather_lines vs i)

  came_made : (b : Begin) (r : Result Picture Cause) → made (end_events b r) ≡ 0
  came_made b (Ok picture) = refl
  came_made b (Err cause) = refl

  view_made : (b : Option Begin) → made (view_ends o b) ≡ 0
  view_made None = refl
  view_made (Some b) = came_made b (o b)

  pub gather_made : (vs : List WalkView) → made (gather_events o vs) ≡ 0
  gather_made [] = refl
  gather_made (v ∷ vs) = omega (arith, made-append (view_ends o (running v)) (gather_events o vs), view_made (running v), gather_made vs)

  -- ---- prints end nothing and begin nothing

  printed_none : (line : Option PrintedLine) → NoneEnd (printed line)
  printed_none None = tt
  printed_none (Some line) = tt

  pub prints_end : (form : Form) (shown : List ℕ → Bool) (vs : List WalkView) → NoneEnd (print_events o form shown vs)
  prints_end form shown [] = tt
  prints_end form shown (v ∷ vs) = elim (shown v.name) as (λ t. NoneEnd (cond t (printed (view_line o form v)) [] ++ print_events o form shown vs)) [
    | true ↦ none-append (printed (view_line o form v)) (print_events o form shown vs) (printed_none (view_line o form v)) (prints_end form shown vs)
    | false ↦ prints_end form shown vs
  ]

  printed_made : (line : Option PrintedLine) → made (printed line) ≡ 0
  printed_made None = refl
  printed_made (Some line) = refl

  pub prints_made : (form : Form) (shown : List ℕ → Bool) (vs : List WalkView) → made (print_events o form shown vs) ≡ 0
  prints_made form shown [] = refl
  prints_made form shown (v ∷ vs) = elim (shown v.name) as (λ t. made (cond t (printed (view_line o form v)) [] ++ print_events o form shown vs) ≡ 0) [
    | true ↦ omega (arith, made-append (printed (view_line o form v)) (print_events o form shown vs), printed_made (view_line o form v), prints_made form shown vs)
    | false ↦ prints_made form shown vs
  ]

  pub prints_none : (form : Form) (vs : List WalkView) → print_events o form (λ name. false) vs ≡ []
  prints_none form [] = refl
  prints_none form (v ∷ vs) = prints_none form vs
