-- How a history that follows a trace is gone through: work is passed over, and then comes the entry that is asked for.
use Rattle.std.proofs.Common.{List, None, Option, Some, [], inl, inr, length, subst, sym, ℕ, ◌+◌, ◌<◌, ◌∷◌, ◌≡◌}
use Rattle.bitmap_kind.specs.Picture.{Picture}
use Rattle.engine_world.specs.Knowledge.{Knowledge, knowledge_with}
use Rattle.engine_world.specs.Permits.{Permits}
use Rattle.engine_world.specs.Steps.{Step}
use Rattle.engine_world.specs.World.{World}
use Rattle.engine_world.specs.declared.events.Note.{Note}
use Rattle.printed_lines.specs.Printed.{PixelsLine, PrintedLine, ShownLine}
use Rattle.script_walk.specs.Walk.{Begin}
use Rattle.state_machine.specs.declared.entry.Entry.{Entry}
use Rattle.fetch_bounds.proofs.Histories.{Goes, Said}
use Rattle.fetch_bounds.specs.Follows.{AllWork, IsLookAt, IsPieceOf, IsWork, Next, Prints, Reads, ReadsWhole, Rest, Shows, last_of}

-- what is said of a state with what the seats know, and of that with the entries that are left
abbrev pub Invariant : Type 1
Invariant = World → (ℕ → Knowledge) → Type 0

abbrev pub Conclusion : Type 1
Conclusion = World → (ℕ → Knowledge) → List (Entry Note) → Type 0

-- An entry leads from a state to another; its seat is served and permitted it; and this is said of the state.
pub record IsStep (P : Said) (w : World) (known : ℕ → Knowledge) (e : Entry Note) (m : World) : Type 0 where
  pub step : Step w e m
  pub served : e.by < length w.limits.quotas
  pub permits : Permits w.content (known e.by) e.note.event
  pub said : P w

abbrev pub known_after : (ℕ → Knowledge) → Entry Note → ℕ → Knowledge
known_after known e = knowledge_with known e.by e.note.event e.note.reply

-- Work keeps the invariant, and adds to the conclusion.
pub record Passes (P : Said) (I : Invariant) (C : Conclusion) : Type 0 where
  pub keeps : (w m : World) (known : ℕ → Knowledge) (e : Entry Note) → I w known → IsStep P w known e m → IsWork e.note.event → I m (known_after known e)
  pub adds : (w m : World) (known : ℕ → Knowledge) (e : Entry Note) (es : List (Entry Note)) → I w known → IsStep P w known e m → IsWork e.note.event
      → C m (known_after known e) es → C w known (e ∷ es)

module _ (P : Said) (I : Invariant) (C : Conclusion) (passes : Passes P I C) (z : World) where
  is_step : (w : World) (known : ℕ → Knowledge) (e : Entry Note) (es : List (Entry Note)) (goes : Goes P w known (e ∷ es) z) → IsStep P w known e goes.0
  is_step w known e es goes = record { step = goes.1; served = goes.2; permits = goes.3; said = goes.4 }

  -- The conclusion follows at such an entry of seat 0,
  abbrev pub AtEntry : (Entry Note → Type 0) → Rest → Type 0
  AtEntry Is rest = (w m : World) (known : ℕ → Knowledge) (e : Entry Note) (es : List (Entry Note)) → I w known → IsStep P w known e m → e.by ≡ 0 → Is e → rest es
      → Goes P m (known_after known e) es z → C w known (e ∷ es)

  -- or of the entries that are left.
  abbrev pub AtRest : Rest → Type 0
  AtRest rest = (w : World) (known : ℕ → Knowledge) (es : List (Entry Note)) → I w known → rest es → Goes P w known es z → C w known es

  pub next_law : (Is : Entry Note → Type 0) (rest : Rest) → AtEntry Is rest → AtRest (Next Is rest)
  next_law Is rest at w known [] i follows goes = absurd follows
  next_law Is rest at w known (e ∷ es) i follows goes =
      let s = is_step w known e es goes in
      elim follows [
        | inl h ↦ passes.adds w goes.0 known e es i s h.0 (next_law Is rest at goes.0 (known_after known e) es (passes.keeps w goes.0 known e i s h.0) h.1 goes.5)
        | inr h ↦ at w goes.0 known e es i s h.0 h.1 h.2 goes.5
      ]

  -- the entry that is asked for is itself work
  pub work_entry : (Is : Entry Note → Type 0) (rest : Rest) → ((e : Entry Note) → Is e → IsWork e.note.event) → AtRest rest → AtRest (Next Is rest)
  work_entry Is rest is_work at =
      next_law Is rest (λ w m known e es i s mine is left goes. passes.adds w m known e es i s (is_work e is) (at m (known_after known e) es (passes.keeps w m known e i s (is_work e is)) left goes))

  reads_law : (n at : ℕ) (pieces : List (List ℕ)) (rest : Rest) → AtRest rest → AtRest (Reads n at pieces rest)
  reads_law n at [] rest end = end
  reads_law n at (piece ∷ pieces) rest end =
      work_entry (IsPieceOf n at piece) (Reads n (at + length piece) pieces rest) (λ e is. subst IsWork (sym is.0) tt) (reads_law n (at + length piece) pieces rest end)

  shows_law : (begin : Option Begin) (picture : Picture) (rest : Rest) → AtRest rest → AtRest (Shows begin picture rest)
  shows_law None picture rest end w known es i shows goes = absurd shows
  shows_law (Some begin) picture rest end w known es i shows goes =
      work_entry (IsLookAt shows.0 picture) (ReadsWhole shows.0 picture rest) (λ e is. subst IsWork (sym is.0) tt)
      (λ w known es i whole goes. reads_law shows.0 0 whole.0 rest end w known es i whole.2 goes) w known es i shows.2 goes

  pub prints_law : (begun : List Begin) (line : PrintedLine) (rest : Rest) → AtRest rest → AtRest (Prints begun line rest)
  prints_law begun (ShownLine view picture) rest end = shows_law (last_of view begun) picture rest end
  prints_law begun (PixelsLine view picture) rest end = shows_law (last_of view begun) picture rest end
  prints_law begun line rest end = end

  -- at the end there is only work
  pub all_work_law : ((w : World) (known : ℕ → Knowledge) → I w known → P w → w ≡ z → C w known []) → AtRest AllWork
  all_work_law end w known [] i works goes = end w known i goes.0 goes.1
  all_work_law end w known (e ∷ es) i works goes =
      let s = is_step w known e es goes in
      passes.adds w goes.0 known e es i s works.0 (all_work_law end goes.0 (known_after known e) es (passes.keeps w goes.0 known e i s works.0) works.1 goes.5)
