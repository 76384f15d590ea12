-- What a history that follows a trace has of it: its loads and trims in order, and what was answered.
use Rattle.std.proofs.Common.{List, None, Option, Some, [], ap, cond, false, inl, inr, length, map, refl, subst, sym, true, ℕ, ◌++◌, ◌+◌, ◌∙◌, ◌∷◌, ◌≡◌}
use Rattle.std.proofs.lemmas.Slice.Eq.{bytes_eq-Decides}
use Rattle.std.specs.Str.{bytes_eq}
use Rattle.bitmap_kind.specs.Picture.{Picture}
use Rattle.engine_world.specs.declared.events.Event.{Event}
use Rattle.engine_world.specs.declared.events.Note.{Note}
use Rattle.finite_maps.specs.MapLaws.{not_Some, same_Some}
use Rattle.printed_lines.specs.Printed.{PixelsLine, PrintedLine, ShownLine}
use Rattle.script_walk.specs.Ends.{lines_in}
use Rattle.script_walk.specs.Laws.{EachEnd}
use Rattle.script_walk.specs.Marks.{begins_in}
use Rattle.script_walk.specs.Orderly.{AllIn, In}
use Rattle.script_walk.specs.Walk.{Begin, Begun, Dropped, Ended, Printed, TraceEvent, Trimmed}
use Rattle.state_machine.specs.declared.entry.Entry.{Entry}
use Rattle.fetch_bounds.specs.Answered.{EachPicture, EndsAreAnswered, HasEntry, IsAnswered, LinesAreAnswered, LoadOrder, Order, OrdersAreTheTraces, PiecesAreAnswered, TrimOrder, order_of, orders_in, orders_of}
use Rattle.fetch_bounds.specs.Follows.{AllWork, Follows, IsEndOf, IsLoadBy, IsLookAt, IsPieceOf, IsReleaseOf, IsTrimTo, IsWork, Next, Prints, Reads, ReadsWhole, Rest, Shows, joined, last_of}
use Rattle.engine_world.specs.declared.events.Event.TheVariants as events

-- what is said of the entries that are left, and stays so with one entry more before them
abbrev Kept : Rest → Type 0
Kept D = (e : Entry Note) (es : List (Entry Note)) → D es → D (e ∷ es)

-- The entry that comes next is there, and what is said of those after it is said of all.
next_has : (D : Rest) → Kept D → (Is : Entry Note → Type 0) (rest : Rest) → ((es : List (Entry Note)) → rest es → D es) → (es : List (Entry Note)) → Next Is rest es → HasEntry Is es × D es
next_has D kept Is rest says [] follows = absurd follows
next_has D kept Is rest says (e ∷ es) follows = elim follows [
  | inl h ↦ let there = next_has D kept Is rest says es h.1 in (inr there.0, kept e es there.1)
  | inr h ↦ (inl (h.0, h.1), kept e es (says es h.2))
]

-- ---- loads and trims

no_order : (who : ℕ) (event : Event) → IsWork event → order_of who event ≡ []
no_order who (events.Load spec) is = absurd is
no_order who (events.Trim level) is = absurd is
no_order who event is = refl

orders_work : (es : List (Entry Note)) → AllWork es → orders_of es ≡ []
orders_work [] is = refl
orders_work (e ∷ es) is = ap (λ l. l ++ orders_of es) (no_order e.by e.note.event is.0) ∙ orders_work es is.1

-- these are the orders that are left
abbrev Orders : List (ℕ × Order) → Rest
Orders orders es = orders_of es ≡ orders

next_orders : (first orders : List (ℕ × Order)) (Is : Entry Note → Type 0) (rest : Rest) → ((e : Entry Note) → e.by ≡ 0 → Is e → order_of e.by e.note.event ≡ first) → ((es : List (Entry Note)) → rest es → Orders orders es)
    → (es : List (Entry Note)) → Next Is rest es → Orders (first ++ orders) es
next_orders first orders Is rest here says [] follows = absurd follows
next_orders first orders Is rest here says (e ∷ es) follows = elim follows [
  | inl h ↦ ap (λ l. l ++ orders_of es) (no_order e.by e.note.event h.0) ∙ next_orders first orders Is rest here says es h.1
  | inr h ↦ ap (λ l. l ++ orders_of es) (here e h.0 h.1) ∙ ap (λ l. first ++ l) (says es h.2)
]

work_orders : (orders : List (ℕ × Order)) (Is : Entry Note → Type 0) (rest : Rest) → ((e : Entry Note) → Is e → IsWork e.note.event) → ((es : List (Entry Note)) → rest es → Orders orders es)
    → (es : List (Entry Note)) → Next Is rest es → Orders orders es
work_orders orders Is rest is_work says = next_orders [] orders Is rest (λ e mine is. no_order e.by e.note.event (is_work e is)) says

reads_orders : (orders : List (ℕ × Order)) (n at : ℕ) (pieces : List (List ℕ)) (rest : Rest) → ((es : List (Entry Note)) → rest es → Orders orders es) → (es : List (Entry Note)) → Reads n at pieces rest es → Orders orders es
reads_orders orders n at [] rest says = says
reads_orders orders n at (piece ∷ pieces) rest says = work_orders orders (IsPieceOf n at piece) (Reads n (at + length piece) pieces rest) (λ e is. subst IsWork (sym is.0) tt) (reads_orders orders n (at + length piece) pieces rest says)

shows_orders : (orders : List (ℕ × Order)) (begin : Option Begin) (picture : Picture) (rest : Rest) → ((es : List (Entry Note)) → rest es → Orders orders es) → (es : List (Entry Note)) → Shows begin picture rest es → Orders orders es
shows_orders orders None picture rest says es shows = absurd shows
shows_orders orders (Some begin) picture rest says es shows =
    work_orders orders (IsLookAt shows.0 picture) (ReadsWhole shows.0 picture rest) (λ e is. subst IsWork (sym is.0) tt) (λ es whole. reads_orders orders shows.0 0 whole.0 rest says es whole.2) es shows.2

prints_orders : (orders : List (ℕ × Order)) (begun : List Begin) (line : PrintedLine) (rest : Rest) → ((es : List (Entry Note)) → rest es → Orders orders es) → (es : List (Entry Note)) → Prints begun line rest es → Orders orders es
prints_orders orders begun (ShownLine view picture) rest says = shows_orders orders (last_of view begun) picture rest says
prints_orders orders begun (PixelsLine view picture) rest says = shows_orders orders (last_of view begun) picture rest says
prints_orders orders begun line rest says = says

abbrev by_seat_0 : Order → ℕ × Order
by_seat_0 order = (0, order)

orders_law : (events : List TraceEvent) (begun : List Begin) (es : List (Entry Note)) → Follows begun events es → Orders (map by_seat_0 (orders_in events)) es
orders_law [] begun es follows = orders_work es follows
orders_law (Printed line ∷ events) begun es follows = prints_orders (map by_seat_0 (orders_in events)) begun line (Follows begun events) (orders_law events begun) es follows
orders_law (Dropped b ∷ events) begun es follows = next_orders [] (map by_seat_0 (orders_in events)) (IsReleaseOf b) (Follows begun events) (λ e mine is. ap (order_of e.by) is.2) (orders_law events begun) es follows
orders_law (Begun b others ∷ events) begun es follows =
    next_orders ((0, LoadOrder b.spec) ∷ []) (map by_seat_0 (orders_in events)) (IsLoadBy b) (Follows (b ∷ begun) events) (λ e mine is. ap (order_of e.by) is ∙ ap (λ q. (q, LoadOrder b.spec) ∷ []) mine) (orders_law events (b ∷ begun)) es follows
orders_law (Ended b result ∷ events) begun es follows = work_orders (map by_seat_0 (orders_in events)) (IsEndOf b result) (Follows begun events) (λ e is. subst IsWork (sym is.2) tt) (orders_law events begun) es follows
orders_law (Trimmed level ∷ events) begun es follows =
    next_orders ((0, TrimOrder level) ∷ []) (map by_seat_0 (orders_in events)) (IsTrimTo level) (Follows begun events) (λ e mine is. ap (order_of e.by) is ∙ ap (λ q. (q, TrimOrder level) ∷ []) mine) (orders_law events begun) es follows

pub orders_are_the_traces : OrdersAreTheTraces
orders_are_the_traces events history follows = orders_law events [] history follows

-- ---- ends

-- Each end of these events is answered in these entries.
abbrev Ends : List TraceEvent → Rest
Ends events es = EachEnd (λ begin result. HasEntry (IsEndOf begin result) es) events

ends_kept : (events : List TraceEvent) → Kept (Ends events)
ends_kept [] e es h = tt
ends_kept (Ended b result ∷ events) e es h = (inr h.0, ends_kept events e es h.1)
ends_kept (Dropped b ∷ events) e es h = ends_kept events e es h
ends_kept (Begun b others ∷ events) e es h = ends_kept events e es h
ends_kept (Trimmed level ∷ events) e es h = ends_kept events e es h
ends_kept (Printed line ∷ events) e es h = ends_kept events e es h

-- what is said of the entries after a line's is said of all
reads_kept : (D : Rest) → Kept D → (n at : ℕ) (pieces : List (List ℕ)) (rest : Rest) → ((es : List (Entry Note)) → rest es → D es) → (es : List (Entry Note)) → Reads n at pieces rest es → D es
reads_kept D kept n at [] rest says es reads = says es reads
reads_kept D kept n at (piece ∷ pieces) rest says es reads = (next_has D kept (IsPieceOf n at piece) (Reads n (at + length piece) pieces rest) (reads_kept D kept n (at + length piece) pieces rest says) es reads).1

shows_kept : (D : Rest) → Kept D → (begin : Option Begin) (picture : Picture) (rest : Rest) → ((es : List (Entry Note)) → rest es → D es) → (es : List (Entry Note)) → Shows begin picture rest es → D es
shows_kept D kept None picture rest says es shows = absurd shows
shows_kept D kept (Some begin) picture rest says es shows =
    (next_has D kept (IsLookAt shows.0 picture) (ReadsWhole shows.0 picture rest) (λ es whole. reads_kept D kept shows.0 0 whole.0 rest says es whole.2) es shows.2).1

prints_kept : (D : Rest) → Kept D → (begun : List Begin) (line : PrintedLine) (rest : Rest) → ((es : List (Entry Note)) → rest es → D es) → (es : List (Entry Note)) → Prints begun line rest es → D es
prints_kept D kept begun (ShownLine view picture) rest says = shows_kept D kept (last_of view begun) picture rest says
prints_kept D kept begun (PixelsLine view picture) rest says = shows_kept D kept (last_of view begun) picture rest says
prints_kept D kept begun line rest says = says

ends_law : (events : List TraceEvent) (begun : List Begin) (es : List (Entry Note)) → Follows begun events es → Ends events es
ends_law [] begun es follows = tt
ends_law (Printed line ∷ events) begun es follows = prints_kept (Ends events) (ends_kept events) begun line (Follows begun events) (ends_law events begun) es follows
ends_law (Dropped b ∷ events) begun es follows = (next_has (Ends events) (ends_kept events) (IsReleaseOf b) (Follows begun events) (ends_law events begun) es follows).1
ends_law (Begun b others ∷ events) begun es follows = (next_has (Ends events) (ends_kept events) (IsLoadBy b) (Follows (b ∷ begun) events) (ends_law events (b ∷ begun)) es follows).1
ends_law (Ended b result ∷ events) begun es follows = next_has (Ends events) (ends_kept events) (IsEndOf b result) (Follows begun events) (ends_law events begun) es follows
ends_law (Trimmed level ∷ events) begun es follows = (next_has (Ends events) (ends_kept events) (IsTrimTo level) (Follows begun events) (ends_law events begun) es follows).1

pub ends_are_answered : EndsAreAnswered
ends_are_answered events history follows = ends_law events [] history follows

-- ---- lines

pieces_kept : (n at : ℕ) (pieces : List (List ℕ)) (e : Entry Note) (es : List (Entry Note)) → PiecesAreAnswered es n at pieces → PiecesAreAnswered (e ∷ es) n at pieces
pieces_kept n at [] e es h = tt
pieces_kept n at (piece ∷ pieces) e es h = (inr h.0, pieces_kept n (at + length piece) pieces e es h.1)

-- The pieces are answered, and this is said besides.
abbrev Besides : ℕ → ℕ → List (List ℕ) → Rest → Rest
Besides n at pieces D es = PiecesAreAnswered es n at pieces × D es

reads_has : (D : Rest) → Kept D → (n at : ℕ) (pieces : List (List ℕ)) (rest : Rest) → ((es : List (Entry Note)) → rest es → D es) → (es : List (Entry Note)) → Reads n at pieces rest es → Besides n at pieces D es
reads_has D kept n at [] rest says es reads = (tt, says es reads)
reads_has D kept n at (piece ∷ pieces) rest says es reads =
    let there = next_has (Besides n (at + length piece) pieces D) (λ e es h. (pieces_kept n (at + length piece) pieces e es h.0, kept e es h.1)) (IsPieceOf n at piece) (Reads n (at + length piece) pieces rest)
    (reads_has D kept n (at + length piece) pieces rest says) es reads in
    ((there.0, there.1.0), there.1.1)

module _ (every : List Begin) where
  answered_kept : (view : List ℕ) (picture : Picture) → Kept (λ es. IsAnswered every es view picture)
  answered_kept view picture e es h = record {
    begin = h.begin;
    begun = h.begun;
    of_view = h.of_view;
    load = h.load;
    load_of = h.load_of;
    looked = inr h.looked;
    pieces = h.pieces;
    whole = h.whole;
    read = pieces_kept h.load 0 h.pieces e es h.read;
  }

  -- Each picture of these lines is answered in these entries.
  abbrev Lines : List PrintedLine → Rest
  Lines lines es = EachPicture (IsAnswered every es) lines

  lines_kept : (lines : List PrintedLine) → Kept (Lines lines)
  lines_kept [] e es h = tt
  lines_kept (ShownLine view picture ∷ lines) e es h = (answered_kept view picture e es h.0, lines_kept lines e es h.1)
  lines_kept (PixelsLine view picture ∷ lines) e es h = (answered_kept view picture e es h.0, lines_kept lines e es h.1)
  lines_kept (line ∷ lines) e es h = lines_kept lines e es h

  -- the last begin of a view is one of these, and of the view
  last_is : (view : List ℕ) (begun : List Begin) (b : Begin) → last_of view begun ≡ Some b → In b begun × (b.view ≡ view)
  last_is view [] b e = absurd (not_Some e)
  last_is view (x ∷ begun) b e = elim (bytes_eq x.view view) as (λ t. bytes_eq x.view view ≡ t → cond t (Some x) (last_of view begun) ≡ Some b → In b (x ∷ begun) × (b.view ≡ view)) [
    | true ↦ λ same e.
        let is : x ≡ b = same_Some _ _ e in
        let of_view : x.view ≡ view = (bytes_eq-Decides x.view view).0 same in
        (inl (sym is), ap (λ (o : Begin). o.view) (sym is) ∙ of_view)
    | false ↦ λ other e. let old = last_is view begun b e in (inr old.0, old.1)
  ] refl e

  shows_has : (view : List ℕ) (picture : Picture) (begun : List Begin) (lines : List PrintedLine) (rest : Rest) → AllIn begun every → ((es : List (Entry Note)) → rest es → Lines lines es)
      → (o : Option Begin) → last_of view begun ≡ o → (es : List (Entry Note)) → Shows o picture rest es → IsAnswered every es view picture × Lines lines es
  shows_has view picture begun lines rest all says None last es shows = absurd shows
  shows_has view picture begun lines rest all says (Some b) last es shows =
      let n : ℕ = shows.0 in
      let is = last_is view begun b last in
      let After : Rest = λ es. (pieces : List (List ℕ)) × (joined pieces ≡ picture.bytes) × Besides n 0 pieces (Lines lines) es in
      let there : HasEntry (IsLookAt n picture) es × After es =
      next_has After (λ e es h. (h.0, h.1, (pieces_kept n 0 h.0 e es h.2.0, lines_kept lines e es h.2.1))) (IsLookAt n picture) (ReadsWhole n picture rest)
      (λ es whole. (whole.0, whole.1, reads_has (Lines lines) (lines_kept lines) n 0 whole.0 rest says es whole.2)) es shows.2 in (
        record {
          begin = b;
          begun = all b is.0;
          of_view = is.1;
          load = n;
          load_of = shows.1;
          looked = there.0;
          pieces = there.1.0;
          whole = there.1.1;
          read = there.1.2.0;
        },
        there.1.2.1,
      )

  prints_has : (line : PrintedLine) (begun : List Begin) (lines : List PrintedLine) (rest : Rest) → AllIn begun every → ((es : List (Entry Note)) → rest es → Lines lines es) → (es : List (Entry Note)) → Prints begun line rest es → Lines (line ∷ lines) es
  prints_has (ShownLine view picture) begun lines rest all says es prints = shows_has view picture begun lines rest all says (last_of view begun) refl es prints
  prints_has (PixelsLine view picture) begun lines rest all says es prints = shows_has view picture begun lines rest all says (last_of view begun) refl es prints
  prints_has line begun lines rest all says es prints = says es prints

  lines_law : (events : List TraceEvent) (begun : List Begin) → AllIn begun every → AllIn (begins_in events) every → (es : List (Entry Note)) → Follows begun events es → Lines (lines_in events) es
  lines_law [] begun all left es follows = tt
  lines_law (Printed line ∷ events) begun all left es follows = prints_has line begun (lines_in events) (Follows begun events) all (lines_law events begun all left) es follows
  lines_law (Dropped b ∷ events) begun all left es follows = (next_has (Lines (lines_in events)) (lines_kept (lines_in events)) (IsReleaseOf b) (Follows begun events) (lines_law events begun all left) es follows).1
  lines_law (Begun b others ∷ events) begun all left es follows =
      (next_has (Lines (lines_in events)) (lines_kept (lines_in events)) (IsLoadBy b) (Follows (b ∷ begun) events)
      (lines_law events (b ∷ begun) (λ o o_in. elim o_in [ inl is ↦ left o (inl is) | inr is ↦ all o is ]) (λ o o_in. left o (inr o_in))) es follows).1
  lines_law (Ended b result ∷ events) begun all left es follows = (next_has (Lines (lines_in events)) (lines_kept (lines_in events)) (IsEndOf b result) (Follows begun events) (lines_law events begun all left) es follows).1
  lines_law (Trimmed level ∷ events) begun all left es follows = (next_has (Lines (lines_in events)) (lines_kept (lines_in events)) (IsTrimTo level) (Follows begun events) (lines_law events begun all left) es follows).1

pub lines_are_answered : LinesAreAnswered
lines_are_answered events history follows = lines_law (begins_in events) events [] (λ b is. absurd is) (λ b is. is) history follows
