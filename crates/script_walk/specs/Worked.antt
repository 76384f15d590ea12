-- Worked scripts, on which the walk itself is computed where the tests are proved. This project's own.
use Rattle.std.specs.Prelude.{◌≡◌, ℕ, true, false, ◌==◌, List, [], ◌∷◌, ◌++◌, map, codes, if◌then◌else◌, Some, None, Ok, Err, suc, zero}
use Rattle.std.specs.declared.option.Option.{Option}
use Rattle.std.specs.Str.{bytes_eq}
use Rattle.bitmap_kind.specs.Picture.{Picture}
use Rattle.bitmap_kind.specs.declared.bitmaps.Config.TheVariants.{Argb8888, Alpha8}
use Rattle.bitmap_kind.specs.declared.bitmaps.Transform.TheVariants as transforms
use Rattle.bitmap_kind.specs.declared.bitmaps.Rule.TheVariants.{AtLeast}
use Rattle.cache_key.specs.Key.{Key}
use Rattle.cache_key.specs.Room.{empty_spec}
use Rattle.cache_key.specs.declared.load_spec.LoadSpec.{LoadSpec}
use Rattle.load_cause.specs.declared.causes.Cause.TheVariants as causes
use Rattle.script_lines.specs.declared.commands.Command.{Command}
use Rattle.script_lines.specs.declared.commands.Command.TheVariants.{Load, Clear, Wait}
use Rattle.script_lines.specs.declared.commands.Line.{Line}
use Rattle.script_lines.specs.declared.commands.Line.TheVariants.{Says}
use Rattle.script_lines.specs.Script.{Script, script_from}
use Rattle.printed_lines.specs.Printed.{PrintedLine, PixelsLine, ShownLine}
use Rattle.script_walk.specs.Walk.{Begin, trace}
use Rattle.script_walk.specs.Ends.{lines_in, bad_line, exit_status}
use Rattle.script_walk.specs.Marks.{Marks, no_marks, Source, KeyResults, outcome_of, begins_in}
use Rattle.script_walk.specs.Starts.{starts}

-- what `red` comes to, and every other url but `none`: 2 by 1 pixels
abbrev pub red : Picture
red = record { width = 2; height = 1; config = Argb8888; bytes = 255 ∷ 0 ∷ 0 ∷ 255 ∷ 0 ∷ 0 ∷ 255 ∷ 255 ∷ [] }

abbrev pub results : KeyResults
results key = if bytes_eq key.url (codes "none") then Err causes.Missing else Ok red

-- ---- lines of a script

abbrev pub key : List ℕ → (width height : ℕ) → Key
key url width height = record {
  url = url;
  sig = codes "1";
  width = width;
  height = height;
  transform = transforms.Nothing;
  config = Argb8888;
  rule = AtLeast;
}

abbrev pub spec : List ℕ → (width height : ℕ) → LoadSpec
spec url width height = record empty_spec { key = key url width height }

abbrev pub load : List ℕ → List ℕ → Line
load view url = Says (Load view (spec url 2 1) true)

abbrev pub load_unsized : List ℕ → List ℕ → Line
load_unsized view url = Says (Load view (spec url 1 1) false)

abbrev pub load_skip : List ℕ → List ℕ → Line
load_skip view url = Says (Load view (record (spec url 2 1) { skip = true }) true)

abbrev pub load_cached : List ℕ → List ℕ → Line
load_cached view url = Says (Load view (record (spec url 2 1) { cached = true }) true)

abbrev pub says : List Command → List Line
says commands = map Says commands

abbrev pub a : List ℕ
a = codes "a"

abbrev pub b : List ℕ
b = codes "b"

abbrev pub red_a : Line
red_a = load a (codes "red")

abbrev pub red_b : Line
red_b = load b (codes "red")

abbrev pub none_a : Line
none_a = load a (codes "none")

abbrev pub sizeless_a : Line
sizeless_a = load_unsized a (codes "red")

abbrev pub shown : List ℕ → PrintedLine
shown name = ShownLine name red

abbrev pub dumped : List ℕ → PrintedLine
dumped name = PixelsLine name red

-- eight pictures, each loaded in a view of its own, gathered and cleared
abbrev pub one_by_one : ℕ → List Line
one_by_one n = load (n ∷ []) (n ∷ []) ∷ says (Wait ∷ Clear (n ∷ []) ∷ [])

abbrev pub eight : List Line
eight =
    one_by_one 49 ++ one_by_one 50 ++ one_by_one 51 ++ one_by_one 52
    ++ one_by_one 53 ++ one_by_one 54 ++ one_by_one 55 ++ one_by_one 56

-- the first begin fails by its source
abbrev pub first_fails : Marks
first_fails number = if number == 1 then Some Source else None

-- `abc`, as three pixels of alpha
abbrev pub abc : Picture
abc = record { width = 3; height = 1; config = Alpha8; bytes = codes "abc" }

-- ---- what a script comes to

-- what lines ask for
abbrev pub asked : List Line → Script
asked lines = script_from 0 lines

-- With these marks the script prints these lines, and may cost so many fetches under a memory cache of this
-- size.
pub record Gives (marks : Marks) (memory : ℕ) (script : List Line) (lines : List PrintedLine) (fetches : ℕ)
    : Type 0 where
  pub lines_are : lines_in (trace (outcome_of results marks) (asked script).commands) ≡ lines
  pub fetches_are : starts (record {
    results = results;
    marks = marks;
    memory = memory;
    events = trace (outcome_of results marks) (asked script).commands;
  }) ≡ fetches

-- without marks, and under a memory cache of 1,000 bytes
abbrev pub Prints : List Line → List PrintedLine → ℕ → Type 0
Prints script lines fetches = Gives no_marks 1000 script lines fetches

-- the sizes that its begins ask for
abbrev pub sizes_asked : List Begin → List (ℕ × ℕ)
sizes_asked begins = map (λ begin. (begin.spec.key.width, begin.spec.key.height)) begins

abbrev pub Asks : List Line → List (ℕ × ℕ) → Type 0
Asks script sizes = sizes_asked (begins_in (trace (outcome_of results no_marks) (asked script).commands)) ≡ sizes

-- its first bad line, and its status
pub record EndsWith (script : List Line) (bad : Option ℕ) (status : ℕ) : Type 0 where
  pub bad_is : bad_line (asked script) ≡ bad
  pub status_is : exit_status (outcome_of results no_marks) (asked script) ≡ status

-- so many names
abbrev pub names_up_to : ℕ → List (List ℕ)
names_up_to zero = []
names_up_to (suc n) = (n ∷ []) ∷ names_up_to n

-- a line with its line feed
abbrev pub ended : List ℕ → List ℕ
ended line = line ++ 10 ∷ []
