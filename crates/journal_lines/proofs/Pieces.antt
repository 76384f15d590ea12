-- A journal that is read piece by piece says what it says as a whole.
use Rattle.std.proofs.Common.{◌≡◌, ℕ, ◌+◌, ◌-◌, ◌<◌, ◌≤◌, Bool, true, false, cond, ◌&&◌, ◌==◌, nat_le, nat_eq, min, List, [], ◌∷◌, ◌++◌, length, take, drop, Some, None, Ok, Err, Result, IsSome, IfOk, refl, sym, ap, subst, ◌∙◌, append_assoc, append-nil, length-append, arith, codes, zero, suc, leb-true, leb-false, eq-eqb, length-take, length-drop, is_some, not, nat_lt, get_or, unwrap_or}
use Rattle.std.specs.declared.option.Option.{Option}
use Rattle.std.specs.List.{slice_split, onto_first, position, position_or_len}
use Rattle.std.proofs.lemmas.Bool.{eqb-true, ltb-false, and_parts}
use Rattle.std.proofs.lemmas.List.{at_drop_more}
use Rattle.std.proofs.lemmas.List.Quantifiers.{position-Some}
use Rattle.std.specs.Cmp.Lexicographic.{pointwise}
use Rattle.std.specs.Fmt.{decimal}
use Rattle.std.specs.Str.{bytes_eq}
use Rattle.std.proofs.lemmas.Fmt.{length-decimal-le}
use lib.Pointwise.{bytes_decides}
use Rattle.std.proofs.lemmas.List.{take_all, take-append-drop, drop-drop}
use Rattle.std.proofs.lemmas.List.Splits.{slice_split_at, slice_split_none, slice_split-cons_no}
use Rattle.journal_lines.specs.Keys.{is_key}
use Rattle.journal_lines.specs.Lines.{spelled, IsLine, after_word, line_of}
use Rattle.journal_lines.specs.Journal.{Lacks, header, rest_of, onto, onto_read, lines_of, text_lines, after_header}
use Rattle.journal_lines.specs.Replay.{ReplayState, from_header, from_fault, journal_from, Tells, ended_with}
use Rattle.journal_lines.specs.declared.lines.Line.{Line}
use Rattle.journal_lines.specs.declared.lines.Line.TheVariants.{Dirty, Clean, Read, Remove}
use Rattle.journal_lines.specs.declared.lines.Rest.TheVariants.{Whole, Cut}
use Rattle.journal_lines.specs.declared.lines.JournalFault.{JournalFault}
use Rattle.journal_lines.specs.declared.lines.JournalFault.TheVariants.{BadHeader, BadLine}
use Rattle.journal_lines.proofs.Text.{parts_some, all_of, lacks-append}
use Rattle.journal_lines.proofs.Spelling.{line_of-is}

-- ---- the header

after_word-both : (front word text : List ℕ) → after_word (front ++ word) (front ++ text) ≡ after_word word text
after_word-both [] word text = refl
after_word-both (c ∷ front) word text = ap (λ b. cond b (after_word (front ++ word) (front ++ text)) None) (same c) ∙ after_word-both front word text where
  same : (c : ℕ) → (c == c) ≡ true
  same c = eq-eqb c c refl

after_word-apart : (n : ℕ) (word text more : List ℕ) → n ≤ length word → n ≤ length text → pointwise nat_eq (take n text) (take n word) ≡ false → after_word word (text ++ more) ≡ None
after_word-apart zero word text more w t e = cc
after_word-apart (suc n) [] text more w t e = absurd (omega (arith, w))
after_word-apart (suc n) (c ∷ word) [] more w t e = absurd (omega (arith, t))
after_word-apart (suc n) (c ∷ word) (b ∷ text) more w t e =
    elim (b == c) as (λ s. (s && pointwise nat_eq (take n text) (take n word)) ≡ false → cond s (after_word word (text ++ more)) None ≡ None) [
      | true ↦ λ k. after_word-apart n word text more (omega (arith, w)) (omega (arith, t)) k
      | false ↦ λ k. refl
    ] e

-- a text that differs from what is left of the header
pub bad_header : (n : ℕ) (word left more : List ℕ) (s : ReplayState) → n ≤ length word → n ≤ length left → pointwise nat_eq (take n left) (take n word) ≡ false → from_header word s (left ++ more) ≡ Err BadHeader
bad_header zero word left more s w l e = cc
bad_header (suc n) [] left more s w l e = absurd (omega (arith, w))
bad_header (suc n) (c ∷ word) left more s w l e = ap after_header (after_word-apart (suc n) (c ∷ word) left more w l e)

-- a text that goes on as the header does
from_word : (word text : List ℕ) (s : ReplayState) → s.number ≡ 6 → s.begun ≡ [] → after_header (after_word word text) ≡ from_header word s text
from_word [] text s six none = λ i. text_lines (sym six i) (sym none i ++ text)
from_word (c ∷ word) text s six none = refl

pub good_header : (n : ℕ) (word left more : List ℕ) (s t : ReplayState) → take n left ≡ take n word → t.number ≡ s.number → t.begun ≡ s.begun → (0 < length word → (s.number ≡ 6) × (s.begun ≡ []))
    → from_header word s (left ++ more) ≡ from_header (drop n word) t (drop n left ++ more)
good_header zero [] left more s t same number begun fresh = λ i. text_lines (sym number i) (sym begun i ++ (left ++ more))
good_header (suc n) [] left more s t same number begun fresh =
    (λ i. text_lines (sym number i) (sym begun i ++ (sym (take-append-drop (suc n) left) i ++ more)))
    ∙ ap (λ l. text_lines t.number (t.begun ++ ((l ++ drop (suc n) left) ++ more))) same
good_header n (c ∷ word) left more s t same number begun fresh =
    let start = fresh (omega arith) in
    ap after_header ((λ i. after_word (sym (take-append-drop n (c ∷ word)) i) (sym (take-append-drop n left) i ++ more))
    ∙ ap (λ l. after_word (take n (c ∷ word) ++ drop n (c ∷ word)) ((l ++ drop n left) ++ more)) same
    ∙ ap (after_word (take n (c ∷ word) ++ drop n (c ∷ word))) (append_assoc (take n (c ∷ word)) (drop n left) more)
    ∙ after_word-both (take n (c ∷ word)) (drop n (c ∷ word)) (drop n left ++ more))
    ∙ from_word (drop n (c ∷ word)) (drop n left ++ more) t (number ∙ start.0) (begun ∙ start.1)

-- ---- how long a line is

pub short_key : (key : List ℕ) → is_key key ≡ true → length key ≤ 120
short_key key e = leb-true (length key) 120 (and_parts (nat_le 1 (length key)) _ (and_parts _ _ e).0).1

keyed_short : (word key : List ℕ) → length word ≤ 7 → is_key key ≡ true → length (word ++ key) ≤ 127
keyed_short word key short good = omega (arith, short, short_key key good, length-append word key)

spelled_short : (line : Line) → IsLine line → length (spelled line) ≤ 140
spelled_short (Dirty key) h = omega (arith, keyed_short (codes "DIRTY ") key (omega arith) h)
spelled_short (Clean key n) h =
    let number = length-decimal-le 13 n (omega arith) (omega (arith, h.1)) (omega (arith, h.1)) in
    omega (arith, short_key key h.0, number, length-append (codes "CLEAN ") (key ++ 32 ∷ decimal n), length-append key (32 ∷ decimal n))
spelled_short (Read key) h = omega (arith, keyed_short (codes "READ ") key (omega arith) h)
spelled_short (Remove key) h = omega (arith, keyed_short (codes "REMOVE ") key (omega arith) h)

long_no_line : (text : List ℕ) → 140 < length text → line_of text ≡ None
long_no_line text long = by (line_of text) refl where
  by : (o : Option Line) → line_of text ≡ o → o ≡ None
  by None e = refl
  by (Some line) e = let h = line_of-is text line e in absurd (omega (arith, long, spelled_short line h.0, ap length h.1))

-- of a line, 141 bytes tell as much as all
pub line_of-cut : (text : List ℕ) → line_of (take 141 text) ≡ line_of text
line_of-cut text = by (nat_le (length text) 141) refl where
  by : (b : Bool) → nat_le (length text) 141 ≡ b → line_of (take 141 text) ≡ line_of text
  by true e = ap line_of (take_all 141 text (leb-true (length text) 141 e))
  by false e = long_no_line (take 141 text) (omega (arith, leb-false (length text) 141 e, length-take 141 text)) ∙ sym (long_no_line text (omega (arith, leb-false (length text) 141 e)))

-- ---- a line that is begun

-- what stands before a newline goes before the first part
split_behind : (front text : List ℕ) → Lacks 10 front → (h : (p : List ℕ) × (ps : List (List ℕ)) × (slice_split (λ b. b == 10) text ≡ p ∷ ps)) → slice_split (λ b. b == 10) (front ++ text) ≡ (front ++ h.0) ∷ h.1
split_behind [] text lack h = h.2
split_behind (b ∷ front) text lack h = slice_split-cons_no (λ b. b == 10) b (front ++ text) lack.0 ∙ ap (onto_first b) (split_behind front text lack.1 h)

-- of two prefixes that are both too long, each says the same
long_alike : (n : ℕ) (a b p : List ℕ) (ps : List (List ℕ)) → 140 < length a → 140 < length b → lines_of n ((a ++ p) ∷ ps) ≡ lines_of n ((b ++ p) ∷ ps)
long_alike n [] b p ps la lb = absurd (omega (arith, la))
long_alike n (x ∷ a) [] p ps la lb = absurd (omega (arith, lb))
long_alike n (x ∷ a) (y ∷ b) p [] la lb = refl
long_alike n (x ∷ a) (y ∷ b) p (q ∷ ps) la lb =
    ap (λ o. onto_read n o (lines_of (n + 1) (q ∷ ps)))
    (long_no_line ((x ∷ a) ++ p) (omega (arith, la, length-append (x ∷ a) p)) ∙ sym (long_no_line ((y ∷ b) ++ p) (omega (arith, lb, length-append (y ∷ b) p))))

pub lacks-take : (n : ℕ) (xs : List ℕ) → Lacks 10 xs → Lacks 10 (take n xs)
lacks-take zero xs h = tt
lacks-take (suc n) [] h = tt
lacks-take (suc n) (x ∷ xs) h = (h.0, lacks-take n xs h.1)

-- of a line that is begun, 141 bytes tell as much as all
pub begun-cut : (n : ℕ) (front more : List ℕ) → Lacks 10 front → text_lines n (front ++ more) ≡ text_lines n (take 141 front ++ more)
begun-cut n front more lack = by (nat_le (length front) 141) refl where
  parts : (p : List ℕ) × (ps : List (List ℕ)) × (slice_split (λ b. b == 10) more ≡ p ∷ ps)
  parts = parts_some more

  by : (b : Bool) → nat_le (length front) 141 ≡ b → text_lines n (front ++ more) ≡ text_lines n (take 141 front ++ more)
  by true e = ap (λ l. text_lines n (l ++ more)) (sym (take_all 141 front (leb-true (length front) 141 e)))
  by false e =
      ap (lines_of n) (split_behind front more lack parts)
      ∙ long_alike n front (take 141 front) parts.0 parts.1 (omega (arith, leb-false (length front) 141 e)) (omega (arith, leb-false (length front) 141 e, length-take 141 front))
      ∙ ap (lines_of n) (sym (split_behind (take 141 front) more (lacks-take 141 front lack) parts))

-- ---- a line that ends

pub line_ends : (n : ℕ) (front more : List ℕ) → Lacks 10 front → text_lines n (front ++ 10 ∷ more) ≡ onto_read n (line_of front) (text_lines (n + 1) more)
line_ends n front more lack =
    ap (lines_of n) (slice_split_at (λ b. b == 10) front 10 more (all_of 10 front lack) refl)
    ∙ ap (λ ps. lines_of n (front ∷ ps)) (parts_some more).2
    ∙ ap (λ ps. onto_read n (line_of front) (lines_of (n + 1) ps)) (sym (parts_some more).2)

-- ---- where a reader stands

pub from_good : (s : ReplayState) (text : List ℕ) → s.fault ≡ None → journal_from s text ≡ from_header (drop s.header_read header) s text
from_good s text good = ap (λ f. from_fault f s text) good

pub from_lines : (s : ReplayState) (text : List ℕ) → s.fault ≡ None → s.header_read ≡ 31 → journal_from s text ≡ text_lines s.number (s.begun ++ text)
from_lines s text good behind = from_good s text good ∙ ap (λ n. from_header (drop n header) s text) behind

pub from_bad : (s : ReplayState) (text : List ℕ) (fault : JournalFault) → s.fault ≡ Some fault → journal_from s text ≡ Err fault
from_bad s text fault bad = ap (λ f. from_fault f s text) bad

-- what is known after a step that says the same
pub then_tells : (a b c : ReplayState) (left left' left'' : List ℕ) (r : Result (Option Line) JournalFault) → ((more : List ℕ) → journal_from a (left ++ more) ≡ journal_from b (left' ++ more)) → Tells b left' c left'' r → Tells a left c left'' r
then_tells a b c left left' left'' (Ok (Some line)) same tells = λ more. same more ∙ tells more
then_tells a b c left left' left'' (Ok None) same tells = (tells.0, λ more. same more ∙ tells.1 more)
then_tells a b c left left' left'' (Err fault) same tells = (tells.0, λ more. same more ∙ tells.1 more)

-- what is told of a front is told of more
pub tells_front : (a b : ReplayState) (front rest : List ℕ) (r : Result (Option Line) JournalFault) → IfOk r IsSome → Tells a front b [] r → Tells a (front ++ rest) b rest r
tells_front a b front rest (Ok (Some line)) some tells = λ more. ap (journal_from a) (append_assoc front rest more) ∙ tells (rest ++ more)
tells_front a b front rest (Ok None) some tells = cc
tells_front a b front rest (Err fault) some tells = (tells.0, λ more. ap (journal_from a) (append_assoc front rest more) ∙ tells.1 (rest ++ more))

-- what a line's end says: the line, or that it is bad
pub line_read : (s : ReplayState) (front : List ℕ) (o : Option Line) → s.fault ≡ None → s.header_read ≡ 31 → Lacks 10 s.begun → Lacks 10 front → o ≡ line_of (s.begun ++ front) → (more : List ℕ)
    → journal_from s ((front ++ 10 ∷ []) ++ more) ≡ onto_read s.number o (text_lines (s.number + 1) more)
line_read s front o good behind lack lack' is more =
    from_lines s _ good behind
    ∙ ap (text_lines s.number) (ap (λ l. s.begun ++ l) (append_assoc front (10 ∷ []) more) ∙ sym (append_assoc s.begun front (10 ∷ more)))
    ∙ line_ends s.number (s.begun ++ front) more (lacks-append 10 s.begun front lack lack')
    ∙ ap (λ x. onto_read s.number x (text_lines (s.number + 1) more)) (sym is)

-- what a line that goes on says
pub begun_more : (s t : ReplayState) (left : List ℕ) → s.fault ≡ None → s.header_read ≡ 31 → t.fault ≡ s.fault → t.header_read ≡ s.header_read → t.number ≡ s.number → t.begun ≡ take 141 (s.begun ++ left) → Lacks 10 s.begun → Lacks 10 left → (more : List ℕ)
    → journal_from s (left ++ more) ≡ journal_from t more
begun_more s t left good behind fault read number begun lack lack' more =
    from_lines s (left ++ more) good behind
    ∙ ap (text_lines s.number) (sym (append_assoc s.begun left more))
    ∙ begun-cut s.number (s.begun ++ left) more (lacks-append 10 s.begun left lack lack')
    ∙ (λ i. text_lines (sym number i) (sym begun i ++ more))
    ∙ sym (from_lines t more (fault ∙ good) (read ∙ behind))

pub none_of : {A : Type 0} (o : Option A) → is_some o ≡ false → o ≡ None
none_of None e = refl
none_of (Some x) e = cc

-- the line that ends, where it is one
pub good_line : (s t : ReplayState) (front : List ℕ) (o : Option Line) → IsSome o → s.fault ≡ None → s.header_read ≡ 31 → Lacks 10 s.begun → Lacks 10 front → o ≡ line_of (s.begun ++ front)
    → t.fault ≡ s.fault → t.header_read ≡ s.header_read → t.number ≡ s.number + 1 → t.begun ≡ [] → Tells s (front ++ 10 ∷ []) t [] (Ok o)
good_line s t front None some good behind lack lack' is fault read number begun = cc
good_line s t front (Some line) some good behind lack lack' is fault read number begun = λ more.
    line_read s front (Some line) good behind lack lack' is more
    ∙ ap (onto line) ((λ i. text_lines (sym number i) (sym begun i ++ more)) ∙ sym (from_lines t more (fault ∙ good) (read ∙ behind)))

-- and where it is none
pub bad_line : (s : ReplayState) (front : List ℕ) (o : Option Line) → o ≡ None → s.fault ≡ None → s.header_read ≡ 31 → Lacks 10 s.begun → Lacks 10 front → o ≡ line_of (s.begun ++ front) → (more : List ℕ)
    → journal_from s ((front ++ 10 ∷ []) ++ more) ≡ Err (BadLine s.number)
bad_line s front o none good behind lack lack' is more =
    line_read s front o good behind lack lack' is more ∙ ap (λ x. onto_read s.number x (text_lines (s.number + 1) more)) none

-- ---- where nothing is left

ends : (n : ℕ) (begun : List ℕ) → Lacks 10 begun → text_lines n (begun ++ []) ≡ Ok ([], rest_of begun)
ends n begun lack = ap (text_lines n) (append-nil begun) ∙ ap (lines_of n) (slice_split_none (λ b. b == 10) begun (all_of 10 begun lack))

pub ends_whole : (s : ReplayState) → s.fault ≡ None → s.header_read ≡ 31 → Lacks 10 s.begun → s.begun ≡ [] → journal_from s [] ≡ ended_with (Ok Whole)
ends_whole s good behind lack empty = from_lines s [] good behind ∙ ends s.number s.begun lack ∙ ap (λ l. Ok ([], rest_of l)) empty

pub ends_cut : (s : ReplayState) → s.fault ≡ None → s.header_read ≡ 31 → Lacks 10 s.begun → 0 < length s.begun → journal_from s [] ≡ ended_with (Ok Cut)
ends_cut s good behind lack some = from_lines s [] good behind ∙ ends s.number s.begun lack ∙ ap (λ r. Ok ([], r)) (cut s.begun some) where
  cut : (text : List ℕ) → 0 < length text → rest_of text ≡ Cut
  cut [] h = absurd (omega (arith, h))
  cut (b ∷ text) h = refl

no_header : (word : List ℕ) (s : ReplayState) → 0 < length word → from_header word s [] ≡ Err BadHeader
no_header [] s h = absurd (omega (arith, h))
no_header (c ∷ word) s h = refl

pub ends_early : (s : ReplayState) → s.fault ≡ None → s.header_read < 31 → journal_from s [] ≡ ended_with (Err BadHeader)
ends_early s good early = from_good s [] good ∙ no_header (drop s.header_read header) s (omega (arith, early, length-drop s.header_read header))

-- ---- what a step on the header says

pub header_bad : (s : ReplayState) (left : List ℕ) → s.fault ≡ None → s.header_read ≤ 31 → bytes_eq (take (min (31 - s.header_read) (length left)) left) (take (min (31 - s.header_read) (length left)) (drop s.header_read header)) ≡ false → (more : List ℕ)
    → journal_from s (left ++ more) ≡ Err BadHeader
header_bad s left good within differ more =
    from_good s (left ++ more) good
    ∙ bad_header (min (31 - s.header_read) (length left)) (drop s.header_read header) left more s (omega (arith, length-drop s.header_read header)) (omega arith) differ

pub header_good : (s t : ReplayState) (left : List ℕ) (n : ℕ) → s.fault ≡ None → n ≡ min (31 - s.header_read) (length left) → bytes_eq (take n left) (take n (drop s.header_read header)) ≡ true → (s.header_read < 31 → (s.number ≡ 6) × (s.begun ≡ []))
    → t.fault ≡ s.fault → t.header_read ≡ s.header_read + n → t.number ≡ s.number → t.begun ≡ s.begun → (more : List ℕ) → journal_from s (left ++ more) ≡ journal_from t (drop n left ++ more)
header_good s t left n good is same fresh fault read number begun more =
    from_good s (left ++ more) good
    ∙ good_header n (drop s.header_read header) left more s t ((bytes_decides (take n left) (take n (drop s.header_read header))).0 same) number begun (λ some. fresh (omega (arith, some, length-drop s.header_read header)))
    ∙ ap (λ w. from_header w t (drop n left ++ more)) (drop-drop n s.header_read header ∙ ap (λ m. drop m header) (sym read))
    ∙ sym (from_good t (drop n left ++ more) (fault ∙ good))

-- ---- the first newline

abbrev is_newline : ℕ → Bool
is_newline b = b == 10

lacks_below : (text : List ℕ) (i : ℕ) → i ≤ position_or_len is_newline text → Lacks 10 (take i text)
lacks_below [] zero h = tt
lacks_below [] (suc i) h = absurd (omega (arith, h))
lacks_below (b ∷ text) zero h = tt
lacks_below (b ∷ text) (suc i) h =
    elim (b == 10) as (λ t. (b == 10) ≡ t → suc i ≤ cond (not t) (1 + position_or_len is_newline text) 0 → ((b == 10) ≡ false) × Lacks 10 (take i text)) [
      | true ↦ λ e k. absurd (omega (arith, k))
      | false ↦ λ e k. (e, lacks_below text i (omega (arith, k)))
    ] refl h

pub no_newline : (text : List ℕ) → None ≡ position is_newline text → Lacks 10 text
no_newline text none = by (nat_lt (position_or_len is_newline text) (length text)) refl none where
  by : (t : Bool) → nat_lt (position_or_len is_newline text) (length text) ≡ t → None ≡ cond t (Some (position_or_len is_newline text)) None → Lacks 10 text
  by true e k = cc
  by false e k = subst (Lacks 10) (take_all (length text) text (omega arith)) (lacks_below text (length text) (ltb-false (position_or_len is_newline text) (length text) e))

pub before_newline : (text : List ℕ) (i : ℕ) → Some i ≡ position is_newline text → Lacks 10 (take i text)
before_newline text i at = by (nat_lt (position_or_len is_newline text) (length text)) refl at where
  by : (t : Bool) → nat_lt (position_or_len is_newline text) (length text) ≡ t → Some i ≡ cond t (Some (position_or_len is_newline text)) None → Lacks 10 (take i text)
  by true e k = let same : i ≡ position_or_len is_newline text = ap (λ o. unwrap_or o i) k in lacks_below text i (omega (arith, same))
  by false e k = cc

-- the text up to the newline, and what stands after it
pub at_newline : (text : List ℕ) (i : ℕ) → Some i ≡ position is_newline text → text ≡ (take i text ++ 10 ∷ []) ++ drop (i + 1) text
at_newline text i at =
    let here = position-Some is_newline text i 0 (sym at) in
    sym (take-append-drop i text)
    ∙ ap (λ l. take i text ++ l) (at_drop_more (λ l. l) text i 0 here.0 ∙ (λ k. eqb-true (get_or text i 0) 10 here.1 k ∷ drop (i + 1) text))
    ∙ sym (append_assoc (take i text) (10 ∷ []) (drop (i + 1) text))
