-- Histories that follow a trace part by part.
use Rattle.std.proofs.Common.{List, None, Option, Some, [], inl, inr, length, ℕ, ◌++◌, ◌+◌, ◌∷◌}
use Rattle.bitmap_kind.specs.Picture.{Picture}
use Rattle.engine_world.specs.declared.events.Note.{Note}
use Rattle.printed_lines.specs.Printed.{PixelsLine, PrintedLine, ShownLine}
use Rattle.script_walk.specs.Walk.{Begin, Begun, Dropped, Ended, Printed, TraceEvent, Trimmed}
use Rattle.script_walk.specs.Worked.{b}
use Rattle.state_machine.specs.declared.entry.Entry.{Entry}
use Rattle.fetch_bounds.specs.Follows.{AllWork, Follows, IsEndOf, IsLoadBy, IsLookAt, IsPieceOf, IsReleaseOf, IsTrimTo, Next, Prints, Reads, ReadsWhole, Rest, Shows, last_of}
use Rattle.fetch_bounds.specs.Parts.{TracesJoin, begins_after}

-- ---- work before

work_append : (xs ys : List (Entry Note)) → AllWork xs → AllWork ys → AllWork (xs ++ ys)
work_append [] ys hx hy = hy
work_append (e ∷ xs) ys hx hy = (hx.0, work_append xs ys hx.1 hy)

next_first : (Is : Entry Note → Type 0) (rest : Rest) (works es : List (Entry Note)) → AllWork works → Next Is rest es → Next Is rest (works ++ es)
next_first Is rest [] es is next = next
next_first Is rest (e ∷ works) es is next = inl (is.0, next_first Is rest works es is.1 next)

shows_first : (begin : Option Begin) (picture : Picture) (rest : Rest) (works es : List (Entry Note)) → AllWork works → Shows begin picture rest es → Shows begin picture rest (works ++ es)
shows_first None picture rest works es is shows = absurd shows
shows_first (Some begin) picture rest works es is shows = (shows.0, shows.1, next_first (IsLookAt shows.0 picture) (ReadsWhole shows.0 picture rest) works es is shows.2)

prints_first : (begun : List Begin) (line : PrintedLine) (rest : Rest) (works es : List (Entry Note)) → AllWork works → (rest es → rest (works ++ es)) → Prints begun line rest es → Prints begun line rest (works ++ es)
prints_first begun (ShownLine view picture) rest works es is kept prints = shows_first (last_of view begun) picture rest works es is prints
prints_first begun (PixelsLine view picture) rest works es is kept prints = shows_first (last_of view begun) picture rest works es is prints
prints_first begun line rest works es is kept prints = kept prints

-- work may stand before all that a trace asks for
follows_first : (events : List TraceEvent) (begun : List Begin) (works es : List (Entry Note)) → AllWork works → Follows begun events es → Follows begun events (works ++ es)
follows_first [] begun works es is follows = work_append works es is follows
follows_first (Printed line ∷ events) begun works es is follows = prints_first begun line (Follows begun events) works es is (follows_first events begun works es is) follows
follows_first (Dropped b ∷ events) begun works es is follows = next_first (IsReleaseOf b) (Follows begun events) works es is follows
follows_first (Begun b others ∷ events) begun works es is follows = next_first (IsLoadBy b) (Follows (b ∷ begun) events) works es is follows
follows_first (Ended b result ∷ events) begun works es is follows = next_first (IsEndOf b result) (Follows begun events) works es is follows
follows_first (Trimmed level ∷ events) begun works es is follows = next_first (IsTrimTo level) (Follows begun events) works es is follows

-- ---- entries after

module _ (later : List (Entry Note)) where
  -- what is said of some entries is said, in other words, of those with the later ones
  abbrev Extends : Rest → Rest → Type 0
  Extends rest longer = (es : List (Entry Note)) → rest es → longer (es ++ later)

  next_join : (Is : Entry Note → Type 0) (rest longer : Rest) → Extends rest longer → Extends (Next Is rest) (Next Is longer)
  next_join Is rest longer join [] next = absurd next
  next_join Is rest longer join (e ∷ es) next = elim next [
    | inl h ↦ inl (h.0, next_join Is rest longer join es h.1)
    | inr h ↦ inr (h.0, h.1, join es h.2)
  ]

  reads_join : (n at : ℕ) (pieces : List (List ℕ)) (rest longer : Rest) → Extends rest longer → Extends (Reads n at pieces rest) (Reads n at pieces longer)
  reads_join n at [] rest longer join = join
  reads_join n at (piece ∷ pieces) rest longer join =
      next_join (IsPieceOf n at piece) (Reads n (at + length piece) pieces rest) (Reads n (at + length piece) pieces longer) (reads_join n (at + length piece) pieces rest longer join)

  shows_join : (begin : Option Begin) (picture : Picture) (rest longer : Rest) → Extends rest longer → Extends (Shows begin picture rest) (Shows begin picture longer)
  shows_join None picture rest longer join es shows = absurd shows
  shows_join (Some begin) picture rest longer join es shows = (
    shows.0,
    shows.1,
    next_join (IsLookAt shows.0 picture) (ReadsWhole shows.0 picture rest) (ReadsWhole shows.0 picture longer)
        (λ es whole. (whole.0, whole.1, reads_join shows.0 0 whole.0 rest longer join es whole.2)) es shows.2,
  )

  prints_join : (begun : List Begin) (line : PrintedLine) (rest longer : Rest) → Extends rest longer → Extends (Prints begun line rest) (Prints begun line longer)
  prints_join begun (ShownLine view picture) rest longer join = shows_join (last_of view begun) picture rest longer join
  prints_join begun (PixelsLine view picture) rest longer join = shows_join (last_of view begun) picture rest longer join
  prints_join begun line rest longer join = join

  follows_join : (first second : List TraceEvent) (begun : List Begin) → Follows (begins_after begun first) second later → Extends (Follows begun first) (Follows begun (first ++ second))
  follows_join [] second begun after = λ es follows. follows_first second begun es later follows after
  follows_join (Printed line ∷ first) second begun after = prints_join begun line (Follows begun first) (Follows begun (first ++ second)) (follows_join first second begun after)
  follows_join (Dropped b ∷ first) second begun after = next_join (IsReleaseOf b) (Follows begun first) (Follows begun (first ++ second)) (follows_join first second begun after)
  follows_join (Begun b others ∷ first) second begun after = next_join (IsLoadBy b) (Follows (b ∷ begun) first) (Follows (b ∷ begun) (first ++ second)) (follows_join first second (b ∷ begun) after)
  follows_join (Ended b result ∷ first) second begun after = next_join (IsEndOf b result) (Follows begun first) (Follows begun (first ++ second)) (follows_join first second begun after)
  follows_join (Trimmed level ∷ first) second begun after = next_join (IsTrimTo level) (Follows begun first) (Follows begun (first ++ second)) (follows_join first second begun after)

pub traces_join : TracesJoin
traces_join begun first second past later follows after = follows_join later first second begun after past follows
