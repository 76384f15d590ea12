-- Key bytes tell keys apart.
use Rattle.std.proofs.Common.{◌≡◌, ℕ, ◌<◌, ◌^◌, List, [], ◌∷◌, ◌++◌, length, zero, suc, take, drop, refl, ap, sym, ◌∙◌, append_assoc, arith}
use Rattle.std.specs.Int.{to_le_bytes, from_le_bytes, w32}
use Rattle.std.proofs.lemmas.Nat.{from_le_bytes-to_le_bytes_4}
use Rattle.std.proofs.lemmas.List.{take_at, drop_at}
use Rattle.bitmap_kind.specs.declared.bitmaps.Config.{Config}
use Rattle.bitmap_kind.specs.declared.bitmaps.Config.TheVariants.{Argb8888, Rgb565, Alpha8}
use Rattle.bitmap_kind.specs.declared.bitmaps.Transform.{Transform}
use Rattle.bitmap_kind.specs.declared.bitmaps.Transform.TheVariants as transforms
use Rattle.bitmap_kind.specs.declared.bitmaps.Rule.{Rule}
use Rattle.bitmap_kind.specs.declared.bitmaps.Rule.TheVariants.{AtLeast, AtMost}
use Rattle.cache_key.specs.Key.{Key, IsKey}
use Rattle.cache_key.specs.KeyBytes.{address_of, transform_byte, config_byte, rule_byte, sized, choice_bytes, source_bytes, outcome_bytes}

-- ---- fronts

-- two texts whose fronts are of one length
same_fronts : (x y r s : List ℕ) → length x ≡ length y → x ++ r ≡ y ++ s → (x ≡ y) × (r ≡ s)
same_fronts x y r s long same = (
  sym (take_at x r (length x) refl) ∙ ap (take (length x)) same ∙ take_at y s (length x) (sym long),
  sym (drop_at x r (length x) refl) ∙ ap (drop (length x)) same ∙ drop_at y s (length x) (sym long),
)

-- a number of 32 bits is read in one way
same_numbers : (m n : ℕ) (r s : List ℕ) → m < 2 ^ 32 → n < 2 ^ 32 → to_le_bytes w32 m ++ r ≡ to_le_bytes w32 n ++ s → (m ≡ n) × (r ≡ s)
same_numbers m n r s small_m small_n same =
    let both = same_fronts (to_le_bytes w32 m) (to_le_bytes w32 n) r s refl same in (
      sym (from_le_bytes-to_le_bytes_4 m small_m) ∙ ap (from_le_bytes w32) both.0 ∙ from_le_bytes-to_le_bytes_4 n small_n,
      both.1,
    )

-- a length and so many bytes are read in one way
pub same_sized : (a b r s : List ℕ) → length a < 2 ^ 32 → length b < 2 ^ 32 → sized a ++ r ≡ sized b ++ s → (a ≡ b) × (r ≡ s)
same_sized a b r s small_a small_b same =
    let lengths = same_numbers (length a) (length b) (a ++ r) (b ++ s) small_a small_b
    (sym (append_assoc (to_le_bytes w32 (length a)) a r) ∙ same ∙ append_assoc (to_le_bytes w32 (length b)) b s) in
    same_fronts a b r s lengths.0 lengths.1

-- and at the end of a text
same_sized_end : (a b : List ℕ) → sized a ≡ sized b → a ≡ b
same_sized_end a b same = (same_fronts (to_le_bytes w32 (length a)) (to_le_bytes w32 (length b)) a b refl same).1

-- ---- choices

transform_at : ℕ → Transform
transform_at zero = transforms.Nothing
transform_at (suc zero) = transforms.Fit
transform_at (suc (suc zero)) = transforms.Crop
transform_at (suc (suc (suc n))) = transforms.Inside

transform_back : (t : Transform) → transform_at (transform_byte t) ≡ t
unfolding transform_at
transform_back transforms.Nothing = refl
transform_back transforms.Fit = refl
transform_back transforms.Crop = refl
transform_back transforms.Inside = refl

config_at : ℕ → Config
config_at zero = Argb8888
config_at (suc zero) = Rgb565
config_at (suc (suc n)) = Alpha8

config_back : (c : Config) → config_at (config_byte c) ≡ c
unfolding config_at
config_back Argb8888 = refl
config_back Rgb565 = refl
config_back Alpha8 = refl

rule_at : ℕ → Rule
rule_at zero = AtLeast
rule_at (suc n) = AtMost

rule_back : (r : Rule) → rule_at (rule_byte r) ≡ r
unfolding rule_at
rule_back AtLeast = refl
rule_back AtMost = refl

abbrev head_or : ℕ → List ℕ → ℕ
head_or d [] = d
head_or d (b ∷ bs) = b

-- ---- keys

pub sources : (a b : Key) → IsKey a → IsKey b → source_bytes (address_of a) ≡ source_bytes (address_of b) → address_of a ≡ address_of b
sources a b is_a is_b same =
    let urls = same_sized a.url b.url (sized a.sig) (sized b.sig) (omega (arith, is_a.url)) (omega (arith, is_b.url)) (ap (drop 1) same) in
    let sigs = same_sized_end a.sig b.sig urls.1 in
    λ i. (urls.0 i, sigs i)

-- what stands behind the width, behind the signature, and behind the kind
abbrev from_height : Key → List ℕ
from_height key = to_le_bytes w32 key.height ++ choice_bytes key

abbrev from_width : Key → List ℕ
from_width key = to_le_bytes w32 key.width ++ from_height key

from_url : (key : Key) → drop 1 (outcome_bytes key) ≡ sized key.url ++ (sized key.sig ++ from_width key)
from_url key =
    let url = sized key.url in
    let sig = sized key.sig in
    let width = to_le_bytes w32 key.width in
    append_assoc (url ++ sig ++ width) (to_le_bytes w32 key.height) (choice_bytes key)
    ∙ append_assoc (url ++ sig) width (from_height key)
    ∙ append_assoc url sig (from_width key)

pub outcomes : (a b : Key) → IsKey a → IsKey b → outcome_bytes a ≡ outcome_bytes b → a ≡ b
outcomes a b is_a is_b same =
    let urls = same_sized a.url b.url (sized a.sig ++ from_width a) (sized b.sig ++ from_width b) (omega (arith, is_a.url)) (omega (arith, is_b.url)) (sym (from_url a) ∙ ap (drop 1) same ∙ from_url b) in
    let sigs = same_sized a.sig b.sig (from_width a) (from_width b) (omega (arith, is_a.sig)) (omega (arith, is_b.sig)) urls.1 in
    let widths = same_numbers a.width b.width (from_height a) (from_height b) (omega (arith, is_a.width)) (omega (arith, is_b.width)) sigs.1 in
    let heights = same_numbers a.height b.height (choice_bytes a) (choice_bytes b) (omega (arith, is_a.height)) (omega (arith, is_b.height)) widths.1 in
    let choice : (n : ℕ) → head_or 0 (drop n (choice_bytes a)) ≡ head_or 0 (drop n (choice_bytes b)) = λ n. ap (λ l. head_or 0 (drop n l)) heights.1 in
    let transform : a.transform ≡ b.transform = sym (transform_back a.transform) ∙ ap transform_at (choice 0) ∙ transform_back b.transform in
    let config : a.config ≡ b.config = sym (config_back a.config) ∙ ap config_at (choice 1) ∙ config_back b.config in
    let rule : a.rule ≡ b.rule = sym (rule_back a.rule) ∙ ap rule_at (choice 2) ∙ rule_back b.rule in
    λ i. record { url = urls.0 i; sig = sigs.0 i; width = widths.0 i; height = heights.0 i; transform = transform i; config = config i; rule = rule i }

pub kinds : (a b : Key) → source_bytes (address_of a) ≡ outcome_bytes b → ⊥
kinds a b same = let e : 83 ≡ 82 = ap (head_or 0) same in absurd (omega (arith, e))
