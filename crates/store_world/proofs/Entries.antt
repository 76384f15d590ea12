-- Envelopes are read as they are written, and what the content has is a right entry.
use Rattle.std.proofs.Common.{◌≡◌, ℕ, ◌+◌, ◌<◌, ◌≤◌, ◌^◌, true, false, cond, List, ◌++◌, length, drop, Some, None, refl, sym, ap, subst, ◌∙◌, arith}
use Rattle.std.specs.Prelude.{codes}
use Rattle.std.specs.Int.{w32, to_le_bytes}
use Rattle.std.specs.FinMap.{get}
use Rattle.std.specs.Str.{bytes_eq}
use Rattle.std.proofs.lemmas.List.{length-append, append_assoc, drop_at}
use Rattle.outside.specs.Content.{Contents}
use Rattle.cache_key.specs.declared.bytes.Which.{Which}
use Rattle.cache_key.specs.declared.bytes.Which.TheVariants.{SourceBytes, Outcome}
use Rattle.cache_key.specs.Key.{Key, IsKey}
use Rattle.cache_key.specs.KeyBytes.{address_of, sized, choice_bytes, key_bytes_of}
use Rattle.store_world.specs.Envelopes.{envelope, front_size, payload_of}
use Rattle.store_world.specs.Right.{Pair, IsPayload, entry_of, IsRight}
use Rattle.store_world.proofs.Tables.{same_if, true_if}

-- a text behind its length is read in one way
abbrev pub SizedApart : Type 0
SizedApart = (a b r s : List ℕ) → length a < 2 ^ 32 → length b < 2 ^ 32 → sized a ++ r ≡ sized b ++ s → (a ≡ b) × (r ≡ s)

abbrev word : ℕ → List ℕ
word n = to_le_bytes w32 n

abbrev front_of : List ℕ → List ℕ → List ℕ
front_of bytes payload = codes "GLD1" ++ (word (length bytes) ++ (bytes ++ word (length payload)))

pub unfolded : (bytes payload : List ℕ) → envelope bytes payload ≡ codes "GLD1" ++ (word (length bytes) ++ (bytes ++ (word (length payload) ++ payload)))
unfolded bytes payload = ap (λ l. codes "GLD1" ++ l) (append_assoc (word (length bytes)) bytes (sized payload))

pub drop_front : (bytes payload : List ℕ) → drop (front_size bytes) (envelope bytes payload) ≡ payload
drop_front bytes payload =
    let joined : envelope bytes payload ≡ front_of bytes payload ++ payload = unfolded bytes payload ∙ ap (λ l. codes "GLD1" ++ (word (length bytes) ++ l)) (sym (append_assoc bytes (word (length payload)) payload)) in
    let last : length (word (length payload)) ≡ 4 = refl in
    let long : length (front_of bytes payload) ≡ front_size bytes = omega (arith, length-append bytes (word (length payload)), last) in
    ap (drop (front_size bytes)) joined ∙ drop_at (front_of bytes payload) payload (front_size bytes) long

pub payload_fits : (bytes payload : List ℕ) → payload_of bytes (envelope bytes payload) ≡ Some payload
payload_fits bytes payload =
    let back = drop_front bytes payload in
    ap (λ p. cond (bytes_eq (envelope bytes payload) (envelope bytes p)) (Some p) None) back ∙ ap (λ b. cond b (Some payload) None) (true_if (envelope bytes payload) (envelope bytes payload) refl)

pub payload_only : (bytes text payload : List ℕ) → payload_of bytes text ≡ Some payload → text ≡ envelope bytes payload
payload_only bytes text payload is = elim (bytes_eq text (envelope bytes (drop (front_size bytes) text))) as (λ b. bytes_eq text (envelope bytes (drop (front_size bytes) text)) ≡ b → cond b (Some (drop (front_size bytes) text)) None ≡ Some payload → text ≡ envelope bytes payload) [
  | true ↦ λ b e. let same : drop (front_size bytes) text ≡ payload = cc in sym (same_if (envelope bytes (drop (front_size bytes) text)) text b) ∙ ap (envelope bytes) same
  | false ↦ λ b e. cc
] refl is

pub parts_apart : SizedApart → (a b p q : List ℕ) → length a < 2 ^ 32 → length b < 2 ^ 32 → envelope a p ≡ envelope b q → (a ≡ b) × (p ≡ q)
parts_apart apart a b p q small_a small_b same =
    let both = apart a b (sized p) (sized q) small_a small_b (ap (drop 4) same) in
    (both.0, ap (drop 4) both.1)

-- ---- key bytes are short

sized_length : (text : List ℕ) → length (sized text) ≡ length text + 4
sized_length text = omega (arith, length-append (word (length text)) text, let four : length (word (length text)) ≡ 4 = refl in four)

sized_then : (text more : List ℕ) → length (sized text ++ more) ≡ length text + 4 + length more
sized_then text more = omega (arith, length-append (sized text) more, sized_length text)

longer_by : (front : List ℕ) (w h choice : List ℕ) → length w ≡ 4 → length h ≡ 4 → length choice ≡ 3 → length (front ++ w ++ h ++ choice) ≡ length front + 11
longer_by front w h choice four other three = omega (arith, length-append (front ++ w ++ h) choice, length-append (front ++ w) h, length-append front w, four, other, three)

abbrev texts_of : Key → List ℕ
texts_of key = codes "R" ++ sized key.url ++ sized key.sig

texts_length : (key : Key) → length (texts_of key) ≡ length key.url + length key.sig + 9
texts_length key = omega (arith, length-append key.url (sized key.sig), sized_length key.sig)

outcome_length : (key : Key) → length (key_bytes_of Outcome key) ≡ length (texts_of key) + 11
outcome_length key = longer_by (texts_of key) (to_le_bytes w32 key.width) (to_le_bytes w32 key.height) (choice_bytes key) refl refl refl

small_if : (n u s : ℕ) → n ≡ u + s + 20 → u ≤ 1024 → s ≤ 64 → n < 2 ^ 32
small_if n u s is url sig = omega (arith, is, url, sig)

pub bytes_small : (which : Which) (key : Key) → IsKey key → length (key_bytes_of which key) < 2 ^ 32
bytes_small SourceBytes key is = omega (arith, sized_then key.url (sized key.sig), sized_length key.sig, is.url, is.sig)
bytes_small Outcome key is =
    small_if (length (key_bytes_of Outcome key)) (length key.url) (length key.sig) (outcome_length key ∙ added (length (texts_of key)) (length key.url) (length key.sig) (texts_length key)) is.url is.sig where
      added : (n u s : ℕ) → n ≡ u + s + 9 → n + 11 ≡ u + s + 20
      added n u s e = omega (arith, e)

-- ---- entries

module _ (apart : SizedApart)
    (sources : (a b : Key) → IsKey a → IsKey b → key_bytes_of SourceBytes a ≡ key_bytes_of SourceBytes b → address_of a ≡ address_of b)
    (outcomes : (a b : Key) → IsKey a → IsKey b → key_bytes_of Outcome a ≡ key_bytes_of Outcome b → a ≡ b)
    (kinds : (a b : Key) → key_bytes_of SourceBytes a ≡ key_bytes_of Outcome b → ⊥) where
  same_parts : (a b : Which) (j k : Key) (p q : List ℕ) → IsKey j → IsKey k → entry_of a j p ≡ entry_of b k q → (key_bytes_of a j ≡ key_bytes_of b k) × (p ≡ q)
  same_parts a b j k p q is_j is_k same = parts_apart apart (key_bytes_of a j) (key_bytes_of b k) p q (bytes_small a j is_j) (bytes_small b k is_k) (ap (λ (pair : Pair). pair.1) same)

  pub entry_right : (content : Contents) (which : Which) (key : Key) (payload : List ℕ) → IsKey key → IsPayload content which key payload → IsRight content (entry_of which key payload)
  entry_right content SourceBytes key payload is has SourceBytes other q is_other same =
      let parts = same_parts SourceBytes SourceBytes key other payload q is is_other same in
      ap (get content) (sym (sources key other is is_other parts.0)) ∙ has ∙ ap Some parts.1
  entry_right content SourceBytes key payload is has Outcome other q is_other same = absurd (kinds key other (same_parts SourceBytes Outcome key other payload q is is_other same).0)
  entry_right content Outcome key payload is has SourceBytes other q is_other same = absurd (kinds other key (sym (same_parts Outcome SourceBytes key other payload q is is_other same).0))
  entry_right content Outcome key payload is has Outcome other q is_other same =
      let parts = same_parts Outcome Outcome key other payload q is is_other same in
      subst (λ k. IsPayload content Outcome k q) (outcomes key other is is_other parts.0) (subst (IsPayload content Outcome key) parts.1 has)
