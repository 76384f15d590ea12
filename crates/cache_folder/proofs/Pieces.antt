-- Pieces of a text that is read from its beginning on.
use Rattle.std.proofs.Common.{◌≡◌, ℕ, ◌+◌, ◌≤◌, List, [], ◌++◌, length, take, drop, Some, None, refl, sym, ap, ◌∙◌, append_assoc, append-nil, unwrap_or}
use Rattle.std.specs.Prelude.{Err}
use Rattle.std.proofs.lemmas.List.{take-append-drop, drop-drop, drop_all}
use Rattle.std.specs.declared.option.Option.{Option}
use Rattle.std.specs.Option.{option_map}
use Rattle.journal_lines.specs.Journal.{journal_of}
use Rattle.journal_lines.specs.Replay.{journal_from}
use Rattle.disk_table.specs.Table.{no_entries}
use Rattle.cache_folder.specs.Starts.{applied_all, table_of, table_from}
use Rattle.cache_folder.specs.inside.Reading.{Place, AppliesPiece}
use Rattle.cache_folder.specs.declared.journal_reader.Unread.{Unread}
use Rattle.cache_folder.specs.declared.journal_reader.Unread.TheVariants.{Bad, Refused}

-- what is left of a text is its next piece and the rest
pub piece_left : (text : List ℕ) (at count : ℕ) (buffer more : List ℕ) → take count buffer ≡ take count (drop at text)
    → take count buffer ++ (drop (at + count) text ++ more) ≡ drop at text ++ more
piece_left text at count buffer more is =
    sym (append_assoc (take count buffer) (drop (at + count) text) more)
    ∙ (λ i. (is i ++ sym (drop-drop count at text) i) ++ more)
    ∙ ap (λ l. l ++ more) (take-append-drop count (drop at text))

pub nothing_left : (text : List ℕ) (at : ℕ) (more : List ℕ) → length text ≤ at → drop at text ++ more ≡ more
nothing_left text at more past = ap (λ l. l ++ more) (drop_all at text past)

-- a journal is bad where one of its pieces is
pub bad_piece : (old mid new end : Place) (rest : List ℕ) (e : Unread)
    → ((more : List ℕ) → table_from old.table old.replay (old.left ++ more) ≡ table_from mid.table mid.replay (mid.left ++ (rest ++ more)))
    → AppliesPiece mid new (Err e) → AppliesPiece old end (Err e)
bad_piece old mid new end rest Bad same bad = λ more. same more ∙ bad (rest ++ more)
bad_piece old mid new end rest (Refused fault) same bad = tt

-- a file with this length is there
pub file_found : (o : Option (List ℕ)) (found : Option ℕ) (n : ℕ) → found ≡ option_map length o → found ≡ Some n
    → (text : List ℕ) × (o ≡ Some text) × (length text ≡ n)
file_found None found n is some = let e : None ≡ Some n = sym is ∙ some in cc
file_found (Some text) found n is some = let e : Some (length text) ≡ Some n = sym is ∙ some in (text, refl, ap (λ o. unwrap_or o 0) e)

-- and so the journal that a stream from its beginning says is bad
pub bad_text : (old end : Place) (e : Unread) (text : List ℕ) → old.left ≡ text → old.table ≡ no_entries → journal_from old.replay text ≡ journal_of text
    → AppliesPiece old end (Err e) → e ≡ Bad → table_of (Some text) ≡ None
bad_text old end Bad text is empty start bad same =
    ap (applied_all no_entries) (sym start) ∙ (λ i. table_from (sym empty i) old.replay ((sym (append-nil text) ∙ ap (λ l. l ++ []) (sym is)) i)) ∙ bad []
bad_text old end (Refused fault) text is empty start bad same = cc
