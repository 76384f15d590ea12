-- What a call that prints did to its sink. It is this project's own, in the words of a sink.
use Rattle.std.specs.Prelude.{◌≡◌, ℕ, List, [], ◌++◌, Err, Result, OnOk, ⊤}
use Rattle.std.specs.Io.KnownBytes.{Appends}
use Rattle.outside.specs.Causes.{HasCause}
use Rattle.outside.specs.declared.sinks.Sink.{Ghosts}
use Rattle.outside.specs.declared.sinks.WriteFault.{WriteFault}
use Rattle.outside.specs.declared.sinks.WriteFault.TheVariants.{Failed}

module _ {W : Type 0} (sink : Ghosts W) where
  -- A prefix of the text was written, and all of it where the call succeeds. Nothing is flushed, and a failure
  -- has its cause in the sink.
  pub record Writes (old new : W) (text : List ℕ) (result : Result ⊤ WriteFault) : Type 0 where
    pub prefix : List ℕ
    pub rest : List ℕ
    pub parts : text ≡ prefix ++ rest
    pub added : Appends (sink.written old) (sink.written new) prefix
    pub whole : OnOk result (rest ≡ [])
    pub flushed : sink.flushed new ≡ sink.flushed old
    pub cause : HasCause (sink.faults old) (sink.faults new) (result ≡ Err Failed)

  -- A line that is printed piece by piece: its sink, and what of the line is not written yet. The text is
  -- added after that. A prefix of both was written, and where the call succeeds the rest is what is not written
  -- yet.
  pub record Adds (old new : W × List ℕ) (text : List ℕ) (result : Result ⊤ WriteFault) : Type 0 where
    pub prefix : List ℕ
    pub rest : List ℕ
    pub parts : old.1 ++ text ≡ prefix ++ rest
    pub added : Appends (sink.written old.0) (sink.written new.0) prefix
    pub left : OnOk result (rest ≡ new.1)
    pub flushed : sink.flushed new.0 ≡ sink.flushed old.0
    pub cause : HasCause (sink.faults old.0) (sink.faults new.0) (result ≡ Err Failed)
