-- White space, comments and numbers, after Netpbm's ppm(5), pgm(5) and pbm(5). This project's own is that
-- a comment ends before its line's end, and so parts two numbers (in pbm(5) the line's end belongs to it,
-- and one may stand inside a number), that the bytes 11 and 12 are not white (in pgm(5) they are), that a
-- number is below 2 to the 32nd, and which fault comes first.
use Rattle.std.specs.Prelude.{ℕ, ◌^◌, Bool, false, not, ◌&&◌, ◌||◌, ◌==◌, nat_lt, List, [], ◌∷◌, length, drop, if◌then◌else◌, Ok, Err, Result}
use Rattle.std.specs.List.{take_while, prefix_len}
use Rattle.std.specs.Char.{is_ascii_digit}
use Rattle.std.specs.Str.Parse.{digits_value}
use Rattle.ppm_read.specs.declared.fault.PpmFault.{PpmFault}
use Rattle.ppm_read.specs.declared.fault.PpmFault.TheVariants.{BadNumber, Truncated}

-- a tab, a line feed, a carriage return or a space
abbrev pub is_white : ℕ → Bool
is_white c = c == 9 || c == 10 || c == 13 || c == 32

-- a line feed or a carriage return, before which a comment ends
abbrev pub is_line_end : ℕ → Bool
is_line_end c = c == 10 || c == 13

-- `#`
abbrev pub begins_comment : ℕ → Bool
begins_comment c = c == 35

-- `0` to `9`
abbrev pub is_digit : ℕ → Bool
is_digit = is_ascii_digit

-- the text after all bytes that come and pass this test
abbrev pub rest_after : (ℕ → Bool) → List ℕ → List ℕ
rest_after test text = drop (prefix_len test text) text

-- The text after the white bytes and comments that it begins with. A comment is `#` and all bytes before
-- the next line end, which is white; one that no line end stops takes the whole text.
abbrev mutual
  pub after_gap : List ℕ → List ℕ
  after_gap [] = []
  after_gap (c ∷ rest) = if is_white c then after_gap rest
      else (if begins_comment c then after_comment rest else c ∷ rest)

  pub after_comment : List ℕ → List ℕ
  after_comment [] = []
  after_comment (c ∷ rest) = if is_line_end c then after_gap rest else after_comment rest

-- What is wrong where a byte that has to come does not: the text ends, or another byte stands there.
abbrev pub missing_at : List ℕ → PpmFault
missing_at [] = Truncated
missing_at (c ∷ rest) = BadNumber

-- the text begins with a byte that passes this test
abbrev pub begins_with : (ℕ → Bool) → List ℕ → Bool
begins_with test [] = false
begins_with test (c ∷ rest) = test c

-- the text after a gap, which is one or more white bytes and comments
abbrev pub gap_at : List ℕ → Result (List ℕ) PpmFault
gap_at text = if begins_with (λ c. is_white c || begins_comment c) text then Ok (after_gap text)
    else Err (missing_at text)

-- a number is cut where it ends with the text and may not
abbrev pub is_cut : Bool → List ℕ → Bool
is_cut may_end rest = length rest == 0 && not may_end

-- numbers are below this
abbrev pub number_limit : ℕ
number_limit = 2 ^ 32

-- A number, which is all digits that come, and the text after it. Whether it may end with the text is for
-- the caller to say.
unfoldable pub number_at : Bool → List ℕ → Result (ℕ × List ℕ) PpmFault
number_at may_end text =
    let digits = take_while is_digit text in
    let rest = rest_after is_digit text in
    if length digits == 0 then Err (missing_at text)
    else (if is_cut may_end rest then Err Truncated
    else (if nat_lt (digits_value 10 digits) number_limit then Ok (digits_value 10 digits, rest)
    else Err BadNumber))
