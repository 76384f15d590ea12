-- What each command keeps that a line says.
use Rattle.std.proofs.Common.{◌≡◌, ℕ, ◌≤◌, Bool, true, false, cond, ◌&&◌, List, [], ◌∷◌, Some, None, refl, arith}
use Rattle.std.specs.Prelude.{IfSome, nat_le, nat_lt, length, codes, ⊤}
use Rattle.std.specs.declared.option.Option.{Option}
use Rattle.std.specs.Option.{option_map}
use Rattle.std.specs.List.{list_all}
use Rattle.std.specs.Str.{bytes_eq}
use Rattle.std.specs.Str.Parse.{digits_value}
use Rattle.std.proofs.lemmas.Bool.Decides.{nat_tests}
use Rattle.cache_key.specs.Size.{Size, IsSize}
use Rattle.script_lines.specs.declared.commands.Command.{Command}
use Rattle.script_lines.specs.declared.commands.Command.TheVariants.{Load, Layout, Clear, ClearAll, Pause, PauseAll, Resume, Trim, Wait, Show, Dump}
use Rattle.script_lines.specs.declared.commands.Line.{Line}
use Rattle.script_lines.specs.declared.commands.Line.TheVariants.{Empty, Unreadable, Says}
use Rattle.script_lines.specs.declared.lines.Asked.{Asked}
use Rattle.script_lines.specs.declared.lines.Wanted.{Wanted}
use Rattle.script_lines.specs.Limits.{line_limit, level_limit}
use Rattle.script_lines.specs.Options.{◌>>=◌}
use Rattle.script_lines.specs.Words.{words, is_whole, is_name, is_url, is_sig, number_within, side, sides, level, transform_named, config_named}
use Rattle.script_lines.specs.Settings.{settings_of}
use Rattle.script_lines.specs.Commands.{wanted_of, no_size, in_size, asked_of, are_texts, load_asking, load_of, layout_of, view_of, trim_of, bare_command, bare_of, command_of, line_saying, words_line, is_comment, is_line_byte, trimmed, trimmed_line, line_of, IsName, IsCommand}

by_cond : {A : Type 0} (P : A → Type 0) (b : Bool) (x y : A) → (b ≡ true → P x) → P y → P (cond b x y)
by_cond P true x y p q = p refl
by_cond P false x y p q = q

by_bind : {A B : Type 0} (P : A → Type 0) (Q : B → Type 0) (o : Option A) (f : A → Option B) → IfSome o P → ((a : A) → P a → IfSome (f a) Q) → IfSome (o >>= f) Q
by_bind P Q None f p q = tt
by_bind P Q (Some a) f p q = q a p

by_any : {A B : Type 0} (Q : B → Type 0) (o : Option A) (f : A → Option B) → ((a : A) → IfSome (f a) Q) → IfSome (o >>= f) Q
by_any Q None f q = tt
by_any Q (Some a) f q = q a

by_map : {A B : Type 0} (P : A → Type 0) (Q : B → Type 0) (o : Option A) (f : A → B) → IfSome o P → ((a : A) → P a → Q (f a)) → IfSome (option_map f o) Q
by_map P Q None f p q = tt
by_map P Q (Some a) f p q = q a p

both : (a b : Bool) → (a && b) ≡ true → (a ≡ true) × (b ≡ true)
both true b e = (refl, e)
both false b e = cc

le_of : (a b : ℕ) → nat_le a b ≡ true → a ≤ b
le_of a b e = grind (arith, nat_tests)

-- ---- numbers

abbrev pub IsWithin : ℕ → ℕ → ℕ → Type 0
IsWithin least most number = (least ≤ number) × (number ≤ most)

number_kept : (least most : ℕ) (word : List ℕ) → IfSome (number_within least most word) (IsWithin least most)
number_kept least most word =
    by_cond (λ o. IfSome o (IsWithin least most)) (is_whole word && nat_le least (digits_value 10 word) && nat_le (digits_value 10 word) most) (Some (digits_value 10 word)) None
    (λ e.
    let outer = both (is_whole word && nat_le least (digits_value 10 word)) (nat_le (digits_value 10 word) most) e in
    let inner = both (is_whole word) (nat_le least (digits_value 10 word)) outer.0 in
    (le_of least (digits_value 10 word) inner.1, le_of (digits_value 10 word) most outer.1))
    tt

sides_kept : (w h : List ℕ) → IfSome (sides w h) IsSize
sides_kept w h =
    by_bind (IsWithin 1 16384) IsSize (side w) (λ width. side h >>= λ height. Some (width, height)) (number_kept 1 16384 w) (λ width wide.
    by_bind (IsWithin 1 16384) IsSize (side h) (λ height. Some (width, height)) (number_kept 1 16384 h) (λ height high. (wide.0, wide.1, high.0, high.1)))

-- ---- loads

abbrev pub IsWanted : Wanted → Type 0
IsWanted wanted = wanted.sized ≡ false → (wanted.width ≡ 1) × (wanted.height ≡ 1)

any_size : (o : Option Size) → IfSome o (λ size. ⊤)
any_size None = tt
any_size (Some size) = tt

not_sized : (size : Size) → IsWanted (in_size size)
not_sized size none = cc

wanted_kept : (w h : List ℕ) → IfSome (wanted_of w h) IsWanted
wanted_kept w h =
    by_cond (λ o. IfSome o IsWanted) (bytes_eq w (codes "-") && bytes_eq h (codes "-")) (Some no_size) (option_map in_size (sides w h)) (λ e none. (refl, refl))
    (by_map (λ size. ⊤) IsWanted (sides w h) in_size (any_size (sides w h)) (λ size t. not_sized size))

abbrev pub IsAsked : Asked → Type 0
IsAsked asked = IsWanted asked.wanted

asked_kept : (w h transform config : List ℕ) (further : List (List ℕ)) → IfSome (asked_of w h transform config further) IsAsked
asked_kept w h transform config further =
    by_bind IsWanted IsAsked (wanted_of w h) _ (wanted_kept w h) (λ wanted kept.
    by_any IsAsked (transform_named transform) _ (λ transform.
    by_any IsAsked (config_named config) _ (λ config.
    by_any IsAsked (settings_of further) _ (λ settings. kept))))

load_kept : (words : List (List ℕ)) → IfSome (load_of words) IsCommand
load_kept [] = tt
load_kept (a ∷ []) = tt
load_kept (a ∷ b ∷ []) = tt
load_kept (a ∷ b ∷ c ∷ []) = tt
load_kept (a ∷ b ∷ c ∷ d ∷ []) = tt
load_kept (a ∷ b ∷ c ∷ d ∷ e ∷ []) = tt
load_kept (a ∷ b ∷ c ∷ d ∷ e ∷ f ∷ []) = tt
load_kept (view ∷ url ∷ sig ∷ w ∷ h ∷ transform ∷ config ∷ further) =
    by_cond (λ o. IfSome o IsCommand) (are_texts view url sig) (option_map (load_asking view url sig) (asked_of w h transform config further)) None
    (λ texts.
    let named : IsName view = (both (is_name view) (is_url url) (both (is_name view && is_url url) (is_sig sig) texts).0).0 in
    by_map IsAsked IsCommand (asked_of w h transform config further) (load_asking view url sig) (asked_kept w h transform config further) (λ asked kept. (named, kept)))
    tt

-- ---- other forms

layout_kept : (words : List (List ℕ)) → IfSome (layout_of words) IsCommand
layout_kept [] = tt
layout_kept (a ∷ []) = tt
layout_kept (a ∷ b ∷ []) = tt
layout_kept (view ∷ w ∷ h ∷ []) =
    by_cond (λ o. IfSome o IsCommand) (is_name view) (option_map (λ size. Layout view size.0 size.1) (sides w h)) None
    (λ named. by_map IsSize IsCommand (sides w h) (λ size. Layout view size.0 size.1) (sides_kept w h) (λ size kept. (named, kept))) tt
layout_kept (a ∷ b ∷ c ∷ d ∷ more) = tt

view_kept : (words : List (List ℕ)) → IfSome (view_of words) IsName
view_kept [] = tt
view_kept (view ∷ []) = by_cond (λ o. IfSome o IsName) (is_name view) (Some view) None (λ named. named) tt
view_kept (a ∷ b ∷ more) = tt

trim_kept : (words : List (List ℕ)) → IfSome (trim_of words) IsCommand
trim_kept [] = tt
trim_kept (n ∷ []) = by_map (IsWithin 0 1000) IsCommand (level n) Trim (number_kept 0 1000 n) (λ level kept. kept.1)
trim_kept (a ∷ b ∷ more) = tt

abbrev pub IsKept : Option Command → Type 0
IsKept command = IfSome command IsCommand

bare_kept : (verb : List ℕ) → IsKept (bare_command verb)
bare_kept verb =
    by_cond IsKept (bytes_eq verb (codes "clearall")) _ _ (λ e. tt) (
    by_cond IsKept (bytes_eq verb (codes "pause")) _ _ (λ e. tt) (
    by_cond IsKept (bytes_eq verb (codes "pauseall")) _ _ (λ e. tt) (
    by_cond IsKept (bytes_eq verb (codes "resume")) _ _ (λ e. tt) (
    by_cond IsKept (bytes_eq verb (codes "wait")) _ _ (λ e. tt) (
    by_cond IsKept (bytes_eq verb (codes "show")) _ _ (λ e. tt) tt)))))

alone_kept : (verb : List ℕ) (words : List (List ℕ)) → IsKept (bare_of verb words)
alone_kept verb [] = bare_kept verb
alone_kept verb (a ∷ more) = tt

command_kept : (verb : List ℕ) (words : List (List ℕ)) → IsKept (command_of verb words)
command_kept verb words =
    by_cond IsKept (bytes_eq verb (codes "load")) (load_of words) _ (λ e. load_kept words) (
    by_cond IsKept (bytes_eq verb (codes "layout")) (layout_of words) _ (λ e. layout_kept words) (
    by_cond IsKept (bytes_eq verb (codes "clear")) (option_map Clear (view_of words)) _ (λ e. by_map IsName IsCommand (view_of words) Clear (view_kept words) (λ view named. named)) (
    by_cond IsKept (bytes_eq verb (codes "dump")) (option_map Dump (view_of words)) _ (λ e. by_map IsName IsCommand (view_of words) Dump (view_kept words) (λ view named. named)) (
    by_cond IsKept (bytes_eq verb (codes "trim")) (trim_of words) (bare_of verb words) (λ e. trim_kept words) (alone_kept verb words)))))

-- ---- lines

abbrev pub SaysKept : Line → Type 0
SaysKept Empty = ⊤
SaysKept Unreadable = ⊤
SaysKept (Says command) = IsCommand command

saying_kept : (command : Option Command) → IsKept command → SaysKept (line_saying command)
saying_kept None kept = tt
saying_kept (Some command) kept = kept

words_kept : (words : List (List ℕ)) → SaysKept (words_line words)
words_kept [] = tt
words_kept (verb ∷ words) = saying_kept (command_of verb words) (command_kept verb words)

trimmed_kept : (line : List ℕ) → SaysKept (trimmed_line line)
trimmed_kept line =
    by_cond SaysKept (nat_lt line_limit (length line)) Unreadable _ (λ e. tt) (
    by_cond SaysKept (is_comment (words line)) Empty _ (λ e. tt) (
    by_cond SaysKept (list_all is_line_byte line) (words_line (words line)) Unreadable (λ e. words_kept (words line)) tt))

pub line_kept : (line : List ℕ) → SaysKept (line_of line)
line_kept line = trimmed_kept (trimmed line)
