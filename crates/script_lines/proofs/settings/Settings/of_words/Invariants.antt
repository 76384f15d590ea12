use Rattle.std.proofs.Common.{◌≡◌, drop, map}
use Rattle.script_lines.specs.Settings.{and_words, settings_of}
use Rattle.script_lines.proofs.settings.Settings.of_words.Given as goal

abbrev pub invariant-loop-word : goal.invariant-loop-word
invariant-loop-word l = and_words l.settings (map (λ w. w.now) (drop l.word-index l.words)) ≡ settings_of (map (λ w. w.now) l.words)
