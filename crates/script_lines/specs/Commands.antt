-- The forms of a line, known by its first word. The language is this project's own.
use Rattle.std.specs.Prelude.{◌≡◌, ℕ, ◌≤◌, ◌-◌, Bool, true, false, ◌&&◌, ◌==◌, nat_le, nat_lt, nat_eq, List, [], ◌∷◌, length, take, if◌then◌else◌, Some, None, codes, ⊤}
use Rattle.std.specs.declared.option.Option.{Option}
use Rattle.std.specs.Option.{option_map, option_map_or, unwrap_or}
use Rattle.std.specs.List.{ends_with, list_all}
use Rattle.std.specs.Str.{bytes_eq}
use Rattle.bitmap_kind.specs.declared.bitmaps.Rule.TheVariants.{AtLeast}
use Rattle.cache_key.specs.Key.{Key}
use Rattle.cache_key.specs.Size.{Size, IsSize}
use Rattle.cache_key.specs.declared.load_spec.LoadSpec.{LoadSpec}
use Rattle.cache_key.specs.declared.load_spec.Priority.TheVariants.{Normal}
use Rattle.cache_key.specs.declared.load_spec.Strategy.TheVariants.{Automatic}
use Rattle.script_lines.specs.declared.commands.Command.{Command}
use Rattle.script_lines.specs.declared.commands.Command.TheVariants.{Load, Layout, Clear, ClearAll, Pause, PauseAll, Resume, Trim, Wait, Show, Dump}
use Rattle.script_lines.specs.declared.commands.Line.{Line}
use Rattle.script_lines.specs.declared.commands.Line.TheVariants.{Empty, Unreadable, Says}
use Rattle.script_lines.specs.declared.lines.Asked.{Asked}
use Rattle.script_lines.specs.declared.lines.Wanted.{Wanted}
use Rattle.script_lines.specs.Limits.{line_limit, level_limit}
use Rattle.script_lines.specs.Options.{◌>>=◌}
use Rattle.script_lines.specs.Settings.{settings_of}
use Rattle.script_lines.specs.Words.{words, is_name, is_url, is_sig, sides, level, transform_named, config_named}

-- ---- loads

-- the size that a load names: a width and a height, or none for `- -`, never one alone
abbrev pub no_size : Wanted
no_size = record { width = 1; height = 1; sized = false }

abbrev pub in_size : Size → Wanted
in_size size = record { width = size.0; height = size.1; sized = true }

abbrev pub wanted_of : List ℕ → List ℕ → Option Wanted
wanted_of w h =
    if bytes_eq w (codes "-") && bytes_eq h (codes "-") then Some no_size else option_map in_size (sides w h)

-- what a load asks for besides its texts, where each word is one that its place takes
abbrev pub asked_of : (w h transform config : List ℕ) → (further : List (List ℕ)) → Option Asked
asked_of w h transform config further = do
  wanted ← wanted_of w h
  transform ← transform_named transform
  config ← config_named config
  settings ← settings_of further
  Some record { wanted = wanted; transform = transform; config = config; settings = settings }

-- Where no word says otherwise a load is decoded at least as large as wanted, its priority is normal, and the
-- disk cache keeps what Glide's AUTOMATIC does.
abbrev pub key_of : (url sig : List ℕ) → Asked → Key
key_of url sig asked = record {
  url = url;
  sig = sig;
  width = asked.wanted.width;
  height = asked.wanted.height;
  transform = asked.transform;
  config = asked.config;
  rule = unwrap_or asked.settings.rule AtLeast;
}

abbrev pub spec_of : (url sig : List ℕ) → Asked → LoadSpec
spec_of url sig asked = record {
  key = key_of url sig asked;
  strategy = unwrap_or asked.settings.strategy Automatic;
  priority = unwrap_or asked.settings.priority Normal;
  skip = asked.settings.skip;
  cached = asked.settings.cached;
}

abbrev pub load_asking : (view url sig : List ℕ) → Asked → Command
load_asking view url sig asked = Load view (spec_of url sig asked) asked.wanted.sized

abbrev pub are_texts : (view url sig : List ℕ) → Bool
are_texts view url sig = is_name view && is_url url && is_sig sig

-- `load VIEW URL SIG W H TRANSFORM CONFIG [word ...]`
abbrev pub load_of : List (List ℕ) → Option Command
load_of (view ∷ url ∷ sig ∷ w ∷ h ∷ transform ∷ config ∷ further) =
    if are_texts view url sig
    then option_map (load_asking view url sig) (asked_of w h transform config further)
    else None
load_of words = None

-- ---- other forms

-- `layout VIEW W H`
abbrev pub layout_of : List (List ℕ) → Option Command
layout_of (view ∷ w ∷ h ∷ []) =
    if is_name view then option_map (λ size. Layout view size.0 size.1) (sides w h) else None
layout_of words = None

-- a view's name that stands alone, as in `clear VIEW` and `dump VIEW`
abbrev pub view_of : List (List ℕ) → Option (List ℕ)
view_of (view ∷ []) = if is_name view then Some view else None
view_of words = None

-- `trim N`
abbrev pub trim_of : List (List ℕ) → Option Command
trim_of (n ∷ []) = option_map Trim (level n)
trim_of words = None

-- verbs with no word after them
abbrev pub bare_command : (verb : List ℕ) → Option Command
bare_command verb =
    if bytes_eq verb (codes "clearall") then Some ClearAll
    else if bytes_eq verb (codes "pause") then Some Pause
    else if bytes_eq verb (codes "pauseall") then Some PauseAll
    else if bytes_eq verb (codes "resume") then Some Resume
    else if bytes_eq verb (codes "wait") then Some Wait
    else if bytes_eq verb (codes "show") then Some Show
    else None

abbrev pub bare_of : (verb : List ℕ) → List (List ℕ) → Option Command
bare_of verb [] = bare_command verb
bare_of verb words = None

-- what a verb asks for with the words after it
abbrev pub command_of : (verb : List ℕ) → List (List ℕ) → Option Command
command_of verb words =
    if bytes_eq verb (codes "load") then load_of words
    else if bytes_eq verb (codes "layout") then layout_of words
    else if bytes_eq verb (codes "clear") then option_map Clear (view_of words)
    else if bytes_eq verb (codes "dump") then option_map Dump (view_of words)
    else if bytes_eq verb (codes "trim") then trim_of words
    else bare_of verb words

-- ---- a line

abbrev pub line_saying : Option Command → Line
line_saying command = option_map_or Says command Unreadable

abbrev pub words_line : List (List ℕ) → Line
words_line [] = Empty
words_line (verb ∷ words) = line_saying (command_of verb words)

-- a line whose first byte that is not a space is `#`
abbrev pub is_comment : List (List ℕ) → Bool
is_comment ((byte ∷ bytes) ∷ words) = byte == 35
is_comment words = false

-- a space, or a byte of a word
abbrev pub is_line_byte : ℕ → Bool
is_line_byte byte = nat_le 32 byte && nat_le byte 126

-- a line without one carriage return at its end
abbrev pub trimmed : List ℕ → List ℕ
trimmed line = if ends_with nat_eq line (13 ∷ []) then take (length line - 1) line else line

-- what a line without its ending says
abbrev pub trimmed_line : List ℕ → Line
trimmed_line line =
    if nat_lt line_limit (length line) then Unreadable
    else if is_comment (words line) then Empty
    else if list_all is_line_byte line then words_line (words line)
    else Unreadable

-- what a line says, which may have a carriage return at its end
abbrev pub line_of : List ℕ → Line
line_of line = trimmed_line (trimmed line)

-- ---- what each command keeps

abbrev pub IsName : List ℕ → Type 0
IsName view = is_name view ≡ true

abbrev pub IsCommand : Command → Type 0
IsCommand (Load view spec sized) =
    IsName view × (sized ≡ false → (spec.key.width ≡ 1) × (spec.key.height ≡ 1))
IsCommand (Layout view width height) = IsName view × IsSize (width, height)
IsCommand (Clear view) = IsName view
IsCommand (Trim level) = level ≤ level_limit
IsCommand (Dump view) = IsName view
IsCommand command = ⊤
