-- Lines that are written piece by piece.
use Rattle.std.proofs.Common.{◌≡◌, ℕ, ◌+◌, ◌-◌, ◌/◌, ◌%◌, ◌^◌, ◌≤◌, List, take, drop, [], ◌∷◌, ◌++◌, refl, sym, ap, subst, ◌∙◌, append_assoc, append-nil, arith, Ok, Err}
use Rattle.std.specs.Prelude.{Result, ⊤, OnOk, IsErrAnd, slice_index}
use Rattle.std.proofs.KnownBytes.{Appends-trans, Appends-nil}
use Rattle.std.proofs.lemmas.List.{take-append-drop}
use Rattle.std.proofs.Math.Seq.{take-add}
use Rattle.hex.specs.Hex.{encode_lower, encode_with, lower_digits}
use Rattle.outside.specs.Causes.{HasCause, Rose}
use Rattle.outside.specs.declared.sinks.Sink.{Ghosts}
use Rattle.outside.specs.declared.sinks.WriteFault.{WriteFault}
use Rattle.outside.specs.declared.sinks.WriteFault.TheVariants.{Memory}
use Rattle.outside.specs.declared.sinks.WriteFault.TheVariants as faults
use Rattle.printed_lines.specs.Writes.{Writes, Adds}

-- ---- causes

-- a count that rose in a later part of a call rose in the call
pub rose_later : (first mid now : ℕ) → first ≤ mid → Rose mid now → Rose first now
rose_later first mid now le rose = omega (arith, le, rose)

-- of two calls of which the first succeeds
pub caused_later : (first mid now : ℕ) (none fault : Type 0) → HasCause first mid none → HasCause mid now fault → HasCause first now fault
caused_later first mid now none fault a b = record {
  later = omega (arith, a.later, b.later);
  rose = λ e. rose_later first mid now a.later (b.rose e);
}

-- ---- faults that are handed on

-- what `?` answers, where it changes no fault
pub err_is : {T E : Type 0} (r : Result T E) {e : E} → IsErrAnd r (λ x. x ≡ e) → r ≡ Err e
err_is (Ok x) none = absurd none
err_is (Err x) same = ap Err same

pub at_err : {T E : Type 0} {r : Result T E} {e : E} (P : Type 0) → r ≡ Err e → OnOk r P
at_err P e = subst (λ r. OnOk r P) (sym e) tt

-- ---- hex

pub encode-append : (xs ys : List ℕ) → encode_lower (xs ++ ys) ≡ encode_lower xs ++ encode_lower ys
unfolding encode_with
encode-append [] ys = refl
encode-append (x ∷ xs) ys = ap (λ l. slice_index lower_digits (x / 16) ∷ slice_index lower_digits (x % 16) ∷ l) (encode-append xs ys)

encode-nil : encode_lower [] ≡ []
unfolding encode_with
encode-nil = refl

-- of the bytes before a place, of so many from there on, and of the rest
pub encode_more : (bytes : List ℕ) (at count : ℕ) → encode_lower (take (at + count) bytes) ≡ encode_lower (take at bytes) ++ encode_lower (take count (drop at bytes))
encode_more bytes at count = ap encode_lower (take-add at count bytes) ∙ encode-append (take at bytes) (take count (drop at bytes))

pub encode_parts : (bytes : List ℕ) (at count : ℕ) → encode_lower bytes ≡ encode_lower (take at bytes) ++ encode_lower (take count (drop at bytes)) ++ encode_lower (drop count (drop at bytes))
encode_parts bytes at count =
    ap encode_lower (sym (take-append-drop at bytes)) ∙ encode-append (take at bytes) (drop at bytes)
    ∙ ap (λ l. encode_lower (take at bytes) ++ l) (ap encode_lower (sym (take-append-drop count (drop at bytes))) ∙ encode-append (take count (drop at bytes)) (drop count (drop at bytes)))
    ∙ sym (append_assoc (encode_lower (take at bytes)) (encode_lower (take count (drop at bytes))) (encode_lower (drop count (drop at bytes))))

-- ---- texts of lines

-- a line of which all parts are there
pub parts_text : (start a b c end : List ℕ) → (start ++ (a ++ b)) ++ (c ++ end) ≡ start ++ (a ++ b ++ c) ++ end
parts_text start a b c end = sym (append_assoc (start ++ (a ++ b)) c end) ∙ ap (λ l. l ++ end) (append_assoc start (a ++ b) c)

-- ---- what calls did to their sink

module _ {W : Type 0} {sink : Ghosts W} where
  -- nothing was written, for want of memory
  pub unwritten : {old : W} {text : List ℕ} {r : Result ⊤ WriteFault} → r ≡ Err Memory → Writes sink old old text r
  unwritten {old} {text} e = record {
    prefix = [];
    rest = text;
    parts = refl;
    added = Appends-nil (sink.written old);
    whole = at_err (text ≡ []) e;
    flushed = refl;
    cause = record { later = omega arith; rose = λ failed. let no : Err Memory ≡ Err faults.Failed = sym e ∙ failed in cc };
  }

  -- A line begins.
  pub begun : {old : W} {start line : List ℕ} → line ≡ start → Adds sink (old, start) (old, line) (encode_lower []) (Ok tt)
  begun {old} {start} {line} e = record {
    prefix = [];
    rest = start ++ encode_lower [];
    parts = refl;
    added = Appends-nil (sink.written old);
    left = ap (λ l. start ++ l) encode-nil ∙ append-nil start ∙ sym e;
    flushed = refl;
    cause = record { later = omega arith; rose = λ e. cc };
  }

  -- one text after the other
  pub added_then : {old mid new : W × List ℕ} {first second : List ℕ} {r : Result ⊤ WriteFault}
      → Adds sink old mid first (Ok tt) → Adds sink mid new second r → Adds sink old new (first ++ second) r
  added_then {old} {mid} {new} {first} {second} a b = record {
    prefix = a.prefix ++ b.prefix;
    rest = b.rest;
    parts = sym (append_assoc old.1 first second) ∙ ap (λ l. l ++ second) (a.parts ∙ ap (λ l. a.prefix ++ l) a.left)
        ∙ append_assoc a.prefix mid.1 second ∙ ap (λ l. a.prefix ++ l) b.parts ∙ sym (append_assoc a.prefix b.prefix b.rest);
    added = Appends-trans (sink.written old.0) (sink.written mid.0) (sink.written new.0) a.prefix b.prefix a.added b.added;
    left = b.left;
    flushed = b.flushed ∙ a.flushed;
    cause = caused_later (sink.faults old.0) (sink.faults mid.0) (sink.faults new.0) _ _ a.cause b.cause;
  }

  -- and then the rest of the line, which is written whole
  pub added_last : {old mid new : W} {start line first : List ℕ} {r : Result ⊤ WriteFault} (second : List ℕ)
      → Adds sink (old, start) (mid, line) first (Ok tt) → Writes sink mid new (line ++ second) r → Writes sink old new (start ++ first ++ second) r
  added_last {old} {mid} {new} {start} {line} {first} second a w = record {
    prefix = a.prefix ++ w.prefix;
    rest = w.rest;
    parts = ap (λ l. l ++ second) (a.parts ∙ ap (λ l. a.prefix ++ l) a.left)
        ∙ append_assoc a.prefix line second ∙ ap (λ l. a.prefix ++ l) w.parts ∙ sym (append_assoc a.prefix w.prefix w.rest);
    added = Appends-trans (sink.written old) (sink.written mid) (sink.written new) a.prefix w.prefix a.added w.added;
    whole = w.whole;
    flushed = w.flushed ∙ a.flushed;
    cause = caused_later (sink.faults old) (sink.faults mid) (sink.faults new) _ _ a.cause w.cause;
  }

  -- The line stops within a text, and nothing of what follows is written.
  pub added_part : {old new : W} {start left first : List ℕ} {fault : WriteFault} {r : Result ⊤ WriteFault} (second : List ℕ)
      → r ≡ Err fault → Adds sink (old, start) (new, left) first (Err fault) → Writes sink old new (start ++ first ++ second) r
  added_part {start = start} {first = first} second e a = record {
    prefix = a.prefix;
    rest = a.rest ++ second;
    parts = ap (λ l. l ++ second) a.parts ∙ append_assoc a.prefix a.rest second;
    added = a.added;
    whole = at_err (a.rest ++ second ≡ []) e;
    flushed = a.flushed;
    cause = record { later = a.cause.later; rose = λ failed. a.cause.rose (sym e ∙ failed) };
  }

  pub more_added : {old mid : W × List ℕ} {text other : List ℕ} → text ≡ other → Adds sink old mid other (Ok tt) → Adds sink old mid text (Ok tt)
  more_added {old} {mid} e a = subst (λ l. Adds sink old mid l (Ok tt)) (sym e) a

  pub of_text : {old new : W} {text other : List ℕ} {r : Result ⊤ WriteFault} → text ≡ other → Writes sink old new text r → Writes sink old new other r
  of_text {old} {new} {r = r} e w = subst (λ l. Writes sink old new l r) e w
