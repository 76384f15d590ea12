-- The objects that a run is handed, and what it did to them. This project's own, in the words of the outside.
use Rattle.std.specs.Prelude.{◌≡◌, ℕ, List, [], ◌++◌, length, MatchOption, ⊤}
use Rattle.std.specs.Io.KnownBytes.{Appends}
use Rattle.outside.specs.Causes.{Rose}
use Rattle.outside.specs.declared.inputs.Input as inputs
use Rattle.outside.specs.declared.sinks.Sink as sinks
use Rattle.outside.specs.declared.sources.Source as sources

-- an input, a sink and a source at one moment
pub record Handed (I W S : Type 0) : Type 0 where
  pub input : I
  pub out : W
  pub source : S

abbrev pub handed : {I W S : Type 0} → I → W → S → Handed I W S
handed input out source = record { input = input; out = out; source = source }

-- what these objects mean to contracts
pub record Meanings (I W S : Type 0) : Type 1 where
  pub input : inputs.Ghosts I
  pub sink : sinks.Ghosts W
  pub source : sources.Ghosts S

abbrev pub meanings : {I W S : Type 0}
    → inputs.Ghosts I → sinks.Ghosts W → sources.Ghosts S → Meanings I W S
meanings input sink source = record { input = input; sink = sink; source = source }

module _ {W : Type 0} (sink : sinks.Ghosts W) where
  -- A prefix of the text was added to what the sink has, where that is known, and all of it where it is whole.
  pub record IsWritten (old new : W) (text : List ℕ) (whole : Type 0) : Type 0 where
    pub prefix : List ℕ
    pub rest : List ℕ
    pub parts : text ≡ prefix ++ rest
    pub added : Appends (sink.written old) (sink.written new) prefix
    pub all : whole → rest ≡ []

  -- All that was written is flushed.
  abbrev pub IsFlushed : W → Type 0
  IsFlushed out = MatchOption (sink.written out) ⊤ (λ bytes. sink.flushed out ≡ length bytes)

module _ {I W S : Type 0} (m : Meanings I W S) where
  -- No count of faults rose.
  pub record IsStill (old new : Handed I W S) : Type 0 where
    pub input : Rose (m.input.faults old.input) (m.input.faults new.input) → ⊥
    pub sink : Rose (m.sink.faults old.out) (m.sink.faults new.out) → ⊥
    pub source : Rose (m.source.faults old.source) (m.source.faults new.source) → ⊥
