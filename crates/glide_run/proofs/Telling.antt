-- Pictures that are told piece by piece.
use Rattle.std.proofs.Common.{◌≡◌, ℕ, ◌+◌, ◌*◌, ◌<◌, ◌≤◌, List, [], ◌∷◌, ◌++◌, length, take, drop, Some, None, Option, Ok, Err, Result, inl, inr, refl, ap, sym, subst, ◌∙◌, append_assoc, append-nil, arith}
use Rattle.std.specs.Prelude.{⊤, min, ◌-◌, IfSome, OnOk}
use Rattle.std.proofs.Math.Seq.{take-add}
use Rattle.std.proofs.lemmas.List.{length-take, length-take-le, length-drop, take_min, take_all, take_at, length-append}
use Rattle.bitmap_kind.specs.Picture.{Picture}
use Rattle.state_machine.specs.declared.entry.Entry.{Entry}
use Rattle.engine_world.specs.declared.events.Event.{Event}
use Rattle.engine_world.specs.declared.events.Event.TheVariants as events
use Rattle.engine_world.specs.declared.events.NotedReply.{NotedReply}
use Rattle.engine_world.specs.declared.events.NotedReply.TheVariants as replies
use Rattle.engine_world.specs.declared.events.Note.{Note}
use Rattle.engine_world.specs.declared.events.Shape.{Shape}
use Rattle.engine_world.specs.EngineMachine.{opening_of}
use Rattle.engine_world.specs.Laws.{IsRelease}
use Rattle.engine_world.specs.Steps.{shape_of, piece_from}
use Rattle.engine_core.specs.declared.replies.Piece.{Piece}
use Rattle.engine_shared.specs.Tokens.{HoldValue}
use Rattle.engine_shared.specs.Caller.{Caller, picture_held, entry_of, IsCall, HasReadyLoad}
use Rattle.engine_shared.specs.CallLaws.{ReadyLoadsStay}
use Rattle.engine_shared.specs.Answers.{IsPiece}
use Rattle.script_walk.specs.Walk.{Outcome, Stage}
use Rattle.fetch_bounds.specs.Follows.{IsWork, AllWork, IsLookAt, IsPieceOf, Next, joined, Reads, ReadsWhole}
use Rattle.engine_views.specs.Held.{Held}
use Rattle.engine_views.specs.Following.{standing, Follows, IsOnWalk}
use Rattle.engine_views.specs.JobRuns.{RunsNoJob}
use Rattle.engine_views.specs.Quiet.{IsQuiet, LeavesViews, QuietCallsLeaveViews}
use Rattle.glide_run.specs.inside.Looks.{Asks, TellsWhole}

-- ---- work

pub work_append : (xs ys : List (Entry Note)) → AllWork xs → AllWork ys → AllWork (xs ++ ys)
work_append [] ys hx hy = hy
work_append (e ∷ xs) ys hx hy = (hx.0, work_append xs ys hx.1 hy)

-- ---- calls that ask, one after the other

pub no_job_then : (a b c : Caller) → RunsNoJob a b → RunsNoJob b c → RunsNoJob a c
no_job_then a b c p q = record { runs = q.runs ∙ p.runs; fails = q.fails ∙ p.fails }

pub asks_none : (held : Held) (c : Caller) → Asks held AllWork c c
asks_none held c = record {
  later = [];
  seen = sym (append-nil c.seen);
  are = tt;
  opening = refl;
  no_job = record { runs = refl; fails = refl };
  follows = λ o s follows. follows;
}

module _ (held : Held) (A B C : List (Entry Note) → Type 0) (join : (xs ys : List (Entry Note)) → A xs → B ys → C (xs ++ ys)) where
  pub asks_then : (old mid new : Caller) → Asks held A old mid → Asks held B mid new → Asks held C old new
  asks_then old mid new p q = record {
    later = p.later ++ q.later;
    seen = q.seen ∙ ap (λ l. l ++ q.later) p.seen ∙ append_assoc old.seen p.later q.later;
    are = join p.later q.later p.are q.are;
    opening = q.opening ∙ p.opening;
    no_job = no_job_then old mid new p.no_job q.no_job;
    follows = λ o s follows. q.follows o s (p.follows o s follows);
  }

pub asks_as : (held : Held) (A B : List (Entry Note) → Type 0) → ((es : List (Entry Note)) → A es → B es) → (old new : Caller) → Asks held A old new → Asks held B old new
asks_as held A B f old new p = record { later = p.later; seen = p.seen; are = f p.later p.are; opening = p.opening; no_job = p.no_job; follows = p.follows }

pub still_on_walk : (held : Held) (A : List (Entry Note) → Type 0) (old new : Caller) → Asks held A old new → IsOnWalk (standing old held) → IsOnWalk (standing new held)
still_on_walk held A old new p w = (w.0, w.1, p.follows w.0 w.1 w.2)

-- what one such call asks
pub asks_once : QuietCallsLeaveViews → (held : Held) (event : Event) (reply : NotedReply) (old new : Caller) → IsQuiet event → IsOnWalk (standing old held) → IsCall old event reply new
    → Asks held (λ es. es ≡ entry_of old event reply ∷ []) old new
asks_once law held event reply old new quiet walk call =
    let leaves = law held event reply old new quiet walk.2.just.owner call in
    record {
      later = entry_of old event reply ∷ [];
      seen = leaves.seen;
      are = refl;
      opening = leaves.opening;
      no_job = leaves.no_job;
      follows = leaves.follows;
    }

-- ---- entries that read pieces

-- Seat 0 was told these pieces, each from where the one before it ends.
abbrev pub AreReads : ℕ → (at : ℕ) → List (List ℕ) → List (Entry Note) → Type 0
AreReads n at [] [] = ⊤
AreReads n at [] (e ∷ es) = ⊥
AreReads n at (piece ∷ pieces) [] = ⊥
AreReads n at (piece ∷ pieces) (e ∷ es) = (e.by ≡ 0) × IsPieceOf n at piece e × AreReads n (at + length piece) pieces es

reads_more : (n at : ℕ) (pieces : List (List ℕ)) (es : List (Entry Note)) (piece : List ℕ) (e : Entry Note) → AreReads n at pieces es → e.by ≡ 0
    → IsPieceOf n (at + length (joined pieces)) piece e → AreReads n at (pieces ++ piece ∷ []) (es ++ e ∷ [])
reads_more n at [] [] piece e r by is = (by, let same : at + 0 ≡ at = omega arith in subst (λ k. IsPieceOf n k piece e) same is, tt)
reads_more n at [] (x ∷ es) piece e r by is = absurd r
reads_more n at (p ∷ ps) [] piece e r by is = absurd r
reads_more n at (p ∷ ps) (x ∷ es) piece e r by is =
    let same : at + length (p ++ joined ps) ≡ at + length p + length (joined ps) = omega (arith, length-append p (joined ps)) in
    (r.0, r.1, reads_more n (at + length p) ps es piece e r.2 by (subst (λ k. IsPieceOf n k piece e) same is))

reads_told : (n at : ℕ) (pieces : List (List ℕ)) (es : List (Entry Note)) → AreReads n at pieces es → Reads n at pieces AllWork es
reads_told n at [] [] r = tt
reads_told n at [] (e ∷ es) r = absurd r
reads_told n at (p ∷ ps) [] r = absurd r
reads_told n at (p ∷ ps) (e ∷ es) r = inr (r.0, r.1, reads_told n (at + length p) ps es r.2)

reads_work : (n at : ℕ) (pieces : List (List ℕ)) (es : List (Entry Note)) → AreReads n at pieces es → AllWork es
reads_work n at [] [] r = tt
reads_work n at [] (e ∷ es) r = absurd r
reads_work n at (p ∷ ps) [] r = absurd r
reads_work n at (p ∷ ps) (e ∷ es) r = (subst IsWork (sym r.1.0) tt, reads_work n (at + length p) ps es r.2)

joined_more : (ps : List (List ℕ)) (p : List ℕ) → joined (ps ++ p ∷ []) ≡ joined ps ++ p
joined_more [] p = append-nil p
joined_more (q ∷ ps) p = ap (λ l. q ++ l) (joined_more ps p) ∙ sym (append_assoc q (joined ps) p)

-- ---- a picture of which so many bytes are told

-- Its size was told, and then its bytes up to a place.
abbrev pub HasRead : ℕ → Picture → (at : ℕ) → List (Entry Note) → Type 0
HasRead n picture at [] = ⊥
HasRead n picture at (e ∷ es) = (e.by ≡ 0) × IsLookAt n picture e × (pieces : List (List ℕ)) × (joined pieces ≡ take at picture.bytes) × AreReads n 0 pieces es

pub read_work : (n : ℕ) (picture : Picture) (at : ℕ) (es : List (Entry Note)) → HasRead n picture at es → AllWork es
read_work n picture at [] r = absurd r
read_work n picture at (e ∷ es) r = (subst IsWork (sym r.1.0) tt, reads_work n 0 r.2 es r.4)

pub read_all : (n : ℕ) (picture : Picture) (at : ℕ) (es : List (Entry Note)) → length picture.bytes ≤ at → HasRead n picture at es → TellsWhole n picture es
read_all n picture at [] le r = absurd r
read_all n picture at (e ∷ es) le r = inr (r.0, r.1, (r.2, r.3 ∙ take_all at picture.bytes le, reads_told n 0 r.2 es r.4))

-- a piece is as many bytes as it has
piece_is : (at : ℕ) (picture : Picture) → take (length (piece_from at picture)) (drop at picture.bytes) ≡ piece_from at picture
piece_is at picture = ap (λ k. take k (drop at picture.bytes)) (length-take 4096 (drop at picture.bytes)) ∙ take_min 4096 (drop at picture.bytes)

pub piece_more : (at : ℕ) (picture : Picture) → take (at + length (piece_from at picture)) picture.bytes ≡ take at picture.bytes ++ piece_from at picture
piece_more at picture = take-add at (length (piece_from at picture)) picture.bytes ∙ ap (λ l. take at picture.bytes ++ l) (piece_is at picture)

pub piece_length : (at : ℕ) (picture : Picture) → at ≤ length picture.bytes → at + length (piece_from at picture) ≤ length picture.bytes
piece_length at picture le = omega (arith, length-take 4096 (drop at picture.bytes), length-drop at picture.bytes, le)

pub piece_some : (at : ℕ) (picture : Picture) → at < length picture.bytes → 0 < length (piece_from at picture)
piece_some at picture lt = omega (arith, length-take 4096 (drop at picture.bytes), length-drop at picture.bytes, lt)

read_more : (n : ℕ) (picture : Picture) (at : ℕ) (es : List (Entry Note)) (e : Entry Note) → at ≤ length picture.bytes → HasRead n picture at es → e.by ≡ 0 → IsPieceOf n at (piece_from at picture) e
    → HasRead n picture (at + length (piece_from at picture)) (es ++ e ∷ [])
read_more n picture at [] e le r by is = absurd r
read_more n picture at (x ∷ es) e le r by is =
    let place : at ≡ 0 + length (joined r.2) = omega (arith, ap length r.3, length-take-le at picture.bytes le) in (
      r.0,
      r.1,
      r.2 ++ piece_from at picture ∷ [],
      joined_more r.2 (piece_from at picture) ∙ ap (λ l. l ++ piece_from at picture) r.3 ∙ sym (piece_more at picture),
      reads_more n 0 r.2 es (piece_from at picture) e r.4 by (subst (λ k. IsPieceOf n k (piece_from at picture) e) place is),
    )

pub piece_few : (at : ℕ) (picture : Picture) → length (piece_from at picture) ≤ 4096
piece_few at picture = omega (arith, length-take 4096 (drop at picture.bytes))

-- what a reply of a piece tells
pub piece_told : (at : ℕ) (picture : Picture) (piece : Piece) → IsPiece at picture piece → take piece.count piece.bytes ≡ piece_from at picture
piece_told at picture piece is = ap (take piece.count) is.bytes ∙ take_at (piece_from at picture) _ piece.count (sym is.count)

pub bytes_more : (at : ℕ) (picture : Picture) (piece : Piece) → IsPiece at picture piece → take (at + piece.count) picture.bytes ≡ take at picture.bytes ++ take piece.count piece.bytes
bytes_more at picture piece is = ap (λ k. take (at + k) picture.bytes) is.count ∙ piece_more at picture ∙ ap (λ l. take at picture.bytes ++ l) (sym (piece_told at picture piece is))

-- which is a part of the picture's bytes
pub piece_taken : (at : ℕ) (picture : Picture) (piece : Piece) → IsPiece at picture piece → take piece.count piece.bytes ≡ take piece.count (drop at picture.bytes)
piece_taken at picture piece is = piece_told at picture piece is ∙ sym (ap (λ k. take k (drop at picture.bytes)) is.count ∙ piece_is at picture)

pub on_ok : {T E : Type 0} (P : Type 0) (r : Result T E) → P → OnOk r P
on_ok P (Ok x) p = p
on_ok P (Err e) p = tt

pub if_is : {A : Type 0} (P : A → Type 0) (o : Option A) (x : A) → o ≡ Some x → IfSome o P → P x
if_is P o x e h = subst (λ t. IfSome t P) e h

pub is_if : {A : Type 0} (P : A → Type 0) (o : Option A) (x : A) → o ≡ Some x → P x → IfSome o P
is_if P o x e h = subst (λ t. IfSome t P) (sym e) h

-- ---- where a picture is being read

-- The picture that a load was ready on is the one that it is ready on, of which the size and the bytes up to a place were told.
pub record Looking (held : Held) (load : HoldValue) (long at : ℕ) (old now : Caller) : Type 0 where
  pub picture : Picture
  pub first : picture_held old load.number ≡ Some picture
  pub long_is : long ≡ length picture.bytes
  pub inside : at ≤ long
  pub ready : HasReadyLoad now load
  pub shows : picture_held now load.number ≡ Some picture
  pub asks : Asks held (HasRead load.number picture at) old now
  pub on_walk : IsOnWalk (standing now held)

some_one : {A : Type 0} (o : Option A) (x y : A) → o ≡ Some x → o ≡ Some y → x ≡ y
some_one o x y e f = let same : Some x ≡ Some y = sym e ∙ f in cc

pub same_picture : (held : Held) (load : HoldValue) (long at : ℕ) (old now : Caller) → (p : Looking held load long at old now) → (picture : Picture) → picture_held old load.number ≡ Some picture → p.picture ≡ picture
same_picture held load long at old now p picture e = some_one (picture_held old load.number) p.picture picture p.first e

module _ (quiet : QuietCallsLeaveViews) (stay : ReadyLoadsStay) (held : Held) (load : HoldValue) where
  -- the size was told
  pub looked : (old now : Caller) (shape : Shape) → IsOnWalk (standing old held) → (ready : HasReadyLoad old load) → IsCall old (events.Look load.number) (replies.Shape shape) now
      → shape ≡ shape_of ready.picture → Looking held load shape.length 0 old now
  looked old now shape walk ready call is =
      let kept = stay old now (events.Look load.number) (replies.Shape shape) load ready call (λ no. no) in
      let asks = asks_once quiet held (events.Look load.number) (replies.Shape shape) old now tt walk call in
      let e = entry_of old (events.Look load.number) (replies.Shape shape) in
      let read : HasRead load.number ready.picture 0 (e ∷ []) = (walk.2.just.owner.who, (refl, ap replies.Shape is), [], refl, tt) in
      record {
        picture = ready.picture;
        first = ready.shows;
        long_is = ap (λ (s : Shape). s.length) is;
        inside = omega arith;
        ready = kept.0;
        shows = kept.1 ∙ ready.shows;
        asks = asks_as held (λ es. es ≡ e ∷ []) (HasRead load.number ready.picture 0) (λ es is. subst (HasRead load.number ready.picture 0) (sym is) read) old now asks;
        on_walk = still_on_walk held (λ es. es ≡ e ∷ []) old now asks walk;
      }

  -- and a piece more
  pub read_on : (long at : ℕ) (old mid now : Caller) (piece : Piece) → (p : Looking held load long at old mid) → IsCall mid (events.Read load.number at) (replies.Piece (take piece.count piece.bytes)) now
      → IsPiece at p.picture piece → Looking held load long (at + piece.count) old now
  read_on long at old mid now piece p call is =
      let reply = replies.Piece (take piece.count piece.bytes) in
      let told = piece_told at p.picture piece is in
      let kept = stay mid now (events.Read load.number at) reply load p.ready call (λ no. no) in
      let asks = asks_once quiet held (events.Read load.number at) reply mid now tt p.on_walk call in
      let e = entry_of mid (events.Read load.number at) reply in
      let n = load.number in
      let more : (xs ys : List (Entry Note)) → HasRead n p.picture at xs → ys ≡ e ∷ [] → HasRead n p.picture (at + piece.count) (xs ++ ys) = λ xs ys read same.
      subst (λ k. HasRead n p.picture k (xs ++ ys)) (ap (λ k. at + k) (sym is.count))
      (subst (λ l. HasRead n p.picture (at + length (piece_from at p.picture)) (xs ++ l)) (sym same)
      (read_more n p.picture at xs e (omega (arith, p.inside, p.long_is)) read p.on_walk.2.just.owner.who (refl, ap replies.Piece told))) in
      record {
        picture = p.picture;
        first = p.first;
        long_is = p.long_is;
        inside = omega (arith, p.long_is, p.inside, is.count, piece_length at p.picture (omega (arith, p.inside, p.long_is)));
        ready = kept.0;
        shows = kept.1 ∙ p.shows;
        asks = asks_then held (HasRead n p.picture at) (λ es. es ≡ e ∷ []) (HasRead n p.picture (at + piece.count)) more old mid now p.asks asks;
        on_walk = still_on_walk held (λ es. es ≡ e ∷ []) mid now asks p.on_walk;
      }

-- all of it was told
pub told_whole : (held : Held) (load : HoldValue) (long at : ℕ) (old now : Caller) → (p : Looking held load long at old now) → long ≤ at → (picture : Picture) → picture_held old load.number ≡ Some picture
    → Asks held (TellsWhole load.number picture) old now
told_whole held load long at old now p le picture e =
    subst (λ x. Asks held (TellsWhole load.number x) old now) (same_picture held load long at old now p picture e)
    (asks_as held (HasRead load.number p.picture at) (TellsWhole load.number p.picture) (λ es. read_all load.number p.picture at es (omega (arith, p.long_is, le))) old now p.asks)

-- in any case it was only asked
pub only_asked : (held : Held) (load : HoldValue) (long at : ℕ) (old now : Caller) → (p : Looking held load long at old now) → Asks held AllWork old now
only_asked held load long at old now p = asks_as held (HasRead load.number p.picture at) AllWork (read_work load.number p.picture at) old now p.asks
