-- Texts that are written one after the other.
use Rattle.std.proofs.Common.{◌≡◌, List, ℕ, [], Ok, Err, Result, ◌++◌, refl, ap, sym, subst, ◌∙◌, append_assoc, append-nil}
use Rattle.std.specs.Prelude.{⊤, OnOk, IsOk}
use Rattle.std.specs.Io.KnownBytes.{Appends}
use Rattle.std.proofs.KnownBytes.{Appends-trans, Appends-nil}
use Rattle.outside.specs.declared.sinks.Sink as sinks
use Rattle.outside.specs.declared.sinks.WriteFault.{WriteFault}
use Rattle.printed_lines.specs.Writes.{Writes}
use Rattle.glide_run.specs.Handed.{IsWritten}

module _ {W : Type 0} (sink : sinks.Ghosts W) where
  -- all of a text
  pub wrote_all : (old new : W) (text : List ℕ) (whole : Type 0) → IsWritten sink old new text whole → whole → Appends (sink.written old) (sink.written new) text
  wrote_all old new text whole w all =
      subst (Appends (sink.written old) (sink.written new)) (sym (w.parts ∙ ap (λ l. w.prefix ++ l) (w.all all) ∙ append-nil w.prefix)) w.added

  pub wrote_just : (old new : W) (text : List ℕ) (whole : Type 0) → Appends (sink.written old) (sink.written new) text → IsWritten sink old new text whole
  wrote_just old new text whole added = record { prefix = text; rest = []; parts = sym (append-nil text); added = added; all = λ all. refl }

  pub wrote_nothing : (out : W) → Appends (sink.written out) (sink.written out) []
  wrote_nothing out = Appends-nil (sink.written out)

  -- all of a text, and then a prefix of another
  pub wrote_more : (old mid new : W) (first second : List ℕ) (whole : Type 0) → Appends (sink.written old) (sink.written mid) first → IsWritten sink mid new second whole → IsWritten sink old new (first ++ second) whole
  wrote_more old mid new first second whole p w = record {
    prefix = first ++ w.prefix;
    rest = w.rest;
    parts = ap (λ l. first ++ l) w.parts ∙ sym (append_assoc first w.prefix w.rest);
    added = Appends-trans (sink.written old) (sink.written mid) (sink.written new) first w.prefix p w.added;
    all = w.all;
  }

  -- a prefix of a text is one of a longer text
  pub wrote_less : (old new : W) (first second : List ℕ) (whole less : Type 0) → IsWritten sink old new first whole → (less → whole × (second ≡ [])) → IsWritten sink old new (first ++ second) less
  wrote_less old new first second whole less w none = record {
    prefix = w.prefix;
    rest = w.rest ++ second;
    parts = ap (λ l. l ++ second) w.parts ∙ append_assoc w.prefix w.rest second;
    added = w.added;
    all = λ all. let e = none all in ap (λ l. l ++ second) (w.all e.0) ∙ e.1;
  }

  pub wrote_as : (old new : W) (text other : List ℕ) (whole : Type 0) → text ≡ other → IsWritten sink old new text whole → IsWritten sink old new other whole
  wrote_as old new text other whole e w = subst (λ l. IsWritten sink old new l whole) e w

-- what a call that prints wrote, and a flush behind it kept
module _ {W : Type 0} (sink : sinks.Ghosts W) (old mid new : W) (kept : sink.written new ≡ sink.written mid) (text : List ℕ) where
  whole_at : (r : Result ⊤ WriteFault) (P : Type 0) → OnOk r P → IsOk r → P
  whole_at (Ok u) P h is = h
  whole_at (Err fault) P h is = cc

  pub flushed_text : (whole : Type 0) {r : Result ⊤ WriteFault} → Writes sink old mid text r → (whole → IsOk r) → IsWritten sink old new text whole
  flushed_text whole {r} w is = record { prefix = w.prefix; rest = w.rest; parts = w.parts; added = subst (λ o. Appends (sink.written old) o w.prefix) (sym kept) w.added; all = λ all. whole_at r (w.rest ≡ []) w.whole (is all) }
