-- A text that begins with a front is that front with what stands after it.
use Rattle.std.proofs.Common.{◌≡◌, ℕ, ◌+◌, ◌-◌, ◌<◌, Bool, true, false, List, ◌++◌, length, take, drop, codes, refl, append_assoc, sym, ap, ◌∙◌, arith, length-append, length-drop}
use Rattle.std.specs.Str.{bytes_eq}
use Rattle.std.specs.Int.{w32, to_le_bytes}
use Rattle.cache_key.specs.KeyBytes.{sized}
use Rattle.store_world.specs.Envelopes.{envelope}
use Rattle.std.proofs.lemmas.Bool.{false_from_ne_true}
use Rattle.std.proofs.lemmas.List.{take-append-drop, take_at}
use Rattle.std.proofs.lemmas.Slice.Eq.{bytes_eq-Decides}

-- two tests that are true together are one
same_tests : (a b : Bool) → (a ≡ true → b ≡ true) → (b ≡ true → a ≡ true) → a ≡ b
same_tests true b there back = sym (there refl)
same_tests false true there back = back refl
same_tests false false there back = refl

front_of : (k : ℕ) (text front : List ℕ) → length front ≡ k → text ≡ front ++ drop k text → take k text ≡ front
front_of k text front size is = ap (take k) is ∙ take_at front (drop k text) k size

pub same_front : (k : ℕ) (text front : List ℕ) → length front ≡ k → bytes_eq (take k text) front ≡ bytes_eq text (front ++ drop k text)
same_front k text front size =
    same_tests _ _
    (λ same. (bytes_eq-Decides text (front ++ drop k text)).1 (sym (take-append-drop k text) ∙ ap (λ l. l ++ drop k text) ((bytes_eq-Decides (take k text) front).0 same)))
    (λ same. (bytes_eq-Decides (take k text) front).1 (front_of k text front size ((bytes_eq-Decides text (front ++ drop k text)).0 same)))

-- a shorter text is none
pub no_front : (k : ℕ) (text front : List ℕ) → length front ≡ k → length text < k → bytes_eq text (front ++ drop k text) ≡ false
no_front k text front size short = false_from_ne_true _ (λ same. let is = ap length ((bytes_eq-Decides text (front ++ drop k text)).0 same) in absurd (omega (arith, is, length-append front (drop k text))))

-- ---- envelopes

-- what stands before the payload
abbrev pub front : List ℕ → ℕ → List ℕ
front bytes payload = codes "GLD1" ++ sized bytes ++ to_le_bytes w32 payload

front_is_long : (bytes : List ℕ) (payload : ℕ) → length (front bytes payload) ≡ length bytes + 12
front_is_long bytes payload = omega (arith, length-append bytes (to_le_bytes w32 payload))

front_at : (bytes text : List ℕ) (payload : ℕ) → payload ≡ length (drop (length bytes + 12) text) → front bytes payload ++ drop (length bytes + 12) text ≡ envelope bytes (drop (length bytes + 12) text)
front_at bytes text payload is =
    ap (λ n. front bytes n ++ drop (length bytes + 12) text) is
    ∙ append_assoc (codes "GLD1" ++ sized bytes) (to_le_bytes w32 (length (drop (length bytes + 12) text))) (drop (length bytes + 12) text)

pub has_front : (bytes text : List ℕ) (payload : ℕ) → payload ≡ length text - (length bytes + 12) → bytes_eq (take (length bytes + 12) text) (front bytes payload) ≡ bytes_eq text (envelope bytes (drop (length bytes + 12) text))
has_front bytes text payload is =
    same_front (length bytes + 12) text (front bytes payload) (front_is_long bytes payload)
    ∙ ap (bytes_eq text) (front_at bytes text payload (is ∙ sym (length-drop (length bytes + 12) text)))
