-- The lines of a journal, as the comment at the head of DiskLruCache's source has them: `DIRTY key`, `CLEAN key length`,
-- `READ key`, `REMOVE key`. There a length may be any number; here it is below 2^40 and has one spelling.
use Rattle.std.specs.Prelude.{◌≡◌, ℕ, ◌^◌, ◌<◌, Bool, true, ◌&&◌, ◌||◌, ◌==◌, nat_lt, List, [], ◌∷◌, ◌++◌, length, get_or, Some, None, ⊤, codes, if◌then◌else◌, option_and_then}
use Rattle.std.specs.declared.option.Option.{Option}
use Rattle.std.specs.Option.{option_map}
use Rattle.std.specs.Fmt.{decimal}
use Rattle.std.specs.List.{list_all}
use Rattle.std.specs.Char.{digit_value}
use Rattle.std.specs.Str.Parse.{digits_value}
use Rattle.journal_lines.specs.Keys.{is_key, key_of}
use Rattle.journal_lines.specs.declared.lines.Line.{Line}
use Rattle.journal_lines.specs.declared.lines.Line.TheVariants.{Dirty, Clean, Read, Remove}

-- ---- how a line is written

-- a line without its newline
abbrev pub spelled : Line → List ℕ
spelled (Dirty key) = codes "DIRTY " ++ key
spelled (Clean key length) = codes "CLEAN " ++ (key ++ 32 ∷ decimal length)
spelled (Read key) = codes "READ " ++ key
spelled (Remove key) = codes "REMOVE " ++ key

-- the lengths of a line are below 2^40
abbrev pub HasShortLengths : Line → Type 0
HasShortLengths (Dirty key) = ⊤
HasShortLengths (Clean key length) = length < 2 ^ 40
HasShortLengths (Read key) = ⊤
HasShortLengths (Remove key) = ⊤

-- the lines of the grammar: of keys, with lengths below 2^40
abbrev pub IsLine : Line → Type 0
IsLine (Dirty key) = is_key key ≡ true
IsLine (Clean key length) = (is_key key ≡ true) × (length < 2 ^ 40)
IsLine (Read key) = is_key key ≡ true
IsLine (Remove key) = is_key key ≡ true

-- ---- how a line is read

-- what stands after a word at the start
abbrev pub after_word : List ℕ → List ℕ → Option (List ℕ)
after_word [] text = Some text
after_word (c ∷ word) [] = None
after_word (c ∷ word) (b ∷ text) = if b == c then after_word word text else None

-- what stands before the first space and after it
abbrev pub onto_parts : ℕ → Option (List ℕ × List ℕ) → Option (List ℕ × List ℕ)
onto_parts b None = None
onto_parts b (Some parts) = Some (b ∷ parts.0, parts.1)

abbrev pub at_space : List ℕ → Option (List ℕ × List ℕ)
at_space [] = None
at_space (b ∷ text) = if b == 32 then Some ([], text) else onto_parts b (at_space text)

-- digits, of which the first of several is no zero
abbrev pub is_number : List ℕ → Bool
is_number bytes =
    list_all (λ b. nat_lt (digit_value b) 10) bytes && nat_lt 0 (length bytes)
    && (length bytes == 1 || nat_lt 48 (get_or bytes 0 0))

-- a number below 2^40
abbrev pub length_of : List ℕ → Option ℕ
length_of bytes =
    let value = digits_value 10 bytes in
    if is_number bytes && nat_lt value (2 ^ 40) then Some value else None

-- a key, a space and a length
abbrev pub clean_of : Option (List ℕ × List ℕ) → Option Line
clean_of None = None
clean_of (Some parts) = option_and_then (λ key. option_map (Clean key) (length_of parts.1)) (key_of parts.0)

-- what is read after a word where it is there, and otherwise the other
abbrev pub read_after : Option (List ℕ) → (List ℕ → Option Line) → Option Line → Option Line
read_after None read other = other
read_after (Some rest) read other = read rest

-- the line that this text, without a newline, is
abbrev pub line_of : List ℕ → Option Line
line_of text =
    read_after (after_word (codes "DIRTY ") text) (λ rest. option_map Dirty (key_of rest))
    (read_after (after_word (codes "CLEAN ") text) (λ rest. clean_of (at_space rest))
    (read_after (after_word (codes "READ ") text) (λ rest. option_map Read (key_of rest))
    (read_after (after_word (codes "REMOVE ") text) (λ rest. option_map Remove (key_of rest)) None)))
