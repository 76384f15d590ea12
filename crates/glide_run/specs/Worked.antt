-- Worked scripts and what comes of them, on which the words of the promise are computed where the tests are proved. This
-- project's own.
use Rattle.std.specs.Prelude.{◌≡◌, ℕ, List, [], ◌∷◌, ◌++◌, codes}
use Rattle.std.specs.declared.option.Option.{Option}
use Rattle.std.specs.FinMap.{get}
use Rattle.outside.specs.Content.{Contents}
use Rattle.script_lines.specs.Script.{script_of}
use Rattle.script_walk.specs.Ends.{output, exit_status}
use Rattle.glide_run.specs.Built.{built}
use Rattle.glide_run.specs.Promise.{answer}

-- lines, each with its line feed
abbrev pub text_of : List (List ℕ) → List ℕ
text_of [] = []
text_of (line ∷ lines) = line ++ 10 ∷ text_of lines

-- Under this content the script prints these lines and ends with this status.
pub record ComesTo (content : Contents) (script lines : List (List ℕ)) (status : ℕ) : Type 0 where
  pub printed : output (answer content) (built (script_of (text_of script))) ≡ text_of lines
  pub ended : exit_status (answer content) (built (script_of (text_of script))) ≡ status

-- So it does wherever the picture `red` of version `1` is this text, or where there is none.
abbrev pub Gives : Option (List ℕ) → List (List ℕ) → List (List ℕ) → ℕ → Type 0
Gives text script lines status =
    (content : Contents) → get content (codes "red", codes "1") ≡ text → ComesTo content script lines status

-- a red pixel and a blue one
abbrev pub red_text : List ℕ
red_text = codes "P6 2 1 255 " ++ 255 ∷ 0 ∷ 0 ∷ 0 ∷ 0 ∷ 255 ∷ []

-- the line that loads it in the view `a`
abbrev pub load_a : List ℕ
load_a = codes "load a red 1 2 1 none argb"
