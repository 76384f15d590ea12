-- Two keys are the same exactly where all that they have is equal, for proofs about what is found by its key.
use Rattle.std.proofs.Common.{◌≡◌, Bool, true, eqb, refl, subst}
use Rattle.std.specs.Str.{bytes_eq}
use Rattle.std.specs.Bool.{Decides}
use Rattle.std.proofs.lemmas.Bool.{eqb-true, eq-eqb, and_parts, and_from}
use Rattle.std.proofs.lemmas.Slice.Eq.{bytes_eq-Decides}
use Rattle.bitmap_kind.specs.declared.bitmaps.Transform.{Transform}
use Rattle.bitmap_kind.specs.declared.bitmaps.Transform.TheVariants as transforms
use Rattle.bitmap_kind.specs.declared.bitmaps.Rule.{Rule}
use Rattle.bitmap_kind.specs.declared.bitmaps.Rule.TheVariants.{AtLeast, AtMost}
use Rattle.cache_key.specs.Key.{Key, same_key, same_transform, same_config, same_rule}
use Rattle.cache_key.specs.ConfigLaws.{config_is, config_itself}

decided : (b : Bool) (P : Type 0) → Decides b P → b ≡ true → P
decided b P d e = d.0 e

deciding : (b : Bool) (P : Type 0) → Decides b P → P → b ≡ true
deciding b P d p = d.1 p

transform_is : (a b : Transform) → same_transform a b ≡ true → a ≡ b
transform_is transforms.Nothing transforms.Nothing e = refl
transform_is transforms.Nothing transforms.Fit e = Prim.cc
transform_is transforms.Nothing transforms.Crop e = Prim.cc
transform_is transforms.Nothing transforms.Inside e = Prim.cc
transform_is transforms.Fit transforms.Nothing e = Prim.cc
transform_is transforms.Fit transforms.Fit e = refl
transform_is transforms.Fit transforms.Crop e = Prim.cc
transform_is transforms.Fit transforms.Inside e = Prim.cc
transform_is transforms.Crop transforms.Nothing e = Prim.cc
transform_is transforms.Crop transforms.Fit e = Prim.cc
transform_is transforms.Crop transforms.Crop e = refl
transform_is transforms.Crop transforms.Inside e = Prim.cc
transform_is transforms.Inside transforms.Nothing e = Prim.cc
transform_is transforms.Inside transforms.Fit e = Prim.cc
transform_is transforms.Inside transforms.Crop e = Prim.cc
transform_is transforms.Inside transforms.Inside e = refl

transform_itself : (a : Transform) → same_transform a a ≡ true
transform_itself transforms.Nothing = refl
transform_itself transforms.Fit = refl
transform_itself transforms.Crop = refl
transform_itself transforms.Inside = refl

rule_is : (a b : Rule) → same_rule a b ≡ true → a ≡ b
rule_is AtLeast AtLeast e = refl
rule_is AtLeast AtMost e = Prim.cc
rule_is AtMost AtLeast e = Prim.cc
rule_is AtMost AtMost e = refl

rule_itself : (a : Rule) → same_rule a a ≡ true
rule_itself AtLeast = refl
rule_itself AtMost = refl

-- two keys that are the same are equal
pub same_key-is : (a b : Key) → same_key a b ≡ true → a ≡ b
same_key-is a b e =
    let with_rule = and_parts _ (same_rule a.rule b.rule) e in
    let with_config = and_parts _ (same_config a.config b.config) with_rule.0 in
    let with_transform = and_parts _ (same_transform a.transform b.transform) with_config.0 in
    let with_height = and_parts _ (eqb a.height b.height) with_transform.0 in
    let with_width = and_parts _ (eqb a.width b.width) with_height.0 in
    let texts = and_parts (bytes_eq a.url b.url) (bytes_eq a.sig b.sig) with_width.0 in
    let url : a.url ≡ b.url = decided _ _ (bytes_eq-Decides a.url b.url) texts.0 in
    let sig : a.sig ≡ b.sig = decided _ _ (bytes_eq-Decides a.sig b.sig) texts.1 in
    let width : a.width ≡ b.width = eqb-true _ _ with_width.1 in
    let height : a.height ≡ b.height = eqb-true _ _ with_height.1 in
    let transform : a.transform ≡ b.transform = transform_is _ _ with_transform.1 in
    let config : a.config ≡ b.config = config_is _ _ with_config.1 in
    let rule : a.rule ≡ b.rule = rule_is _ _ with_rule.1 in
    λ i. record { url = url i; sig = sig i; width = width i; height = height i; transform = transform i; config = config i; rule = rule i }

-- a key is the same as itself
pub same_key-itself : (a : Key) → same_key a a ≡ true
same_key-itself a =
    and_from _ _ (and_from _ _ (and_from _ _ (and_from _ _ (and_from _ _ (and_from _ _
    (deciding _ _ (bytes_eq-Decides a.url a.url) refl) (deciding _ _ (bytes_eq-Decides a.sig a.sig) refl)) (eq-eqb a.width a.width refl)) (eq-eqb a.height a.height refl))
    (transform_itself a.transform)) (config_itself a.config)) (rule_itself a.rule)

-- equal keys are the same
pub same_key-of : (a b : Key) → a ≡ b → same_key a b ≡ true
same_key-of a b e = subst (λ c. same_key a c ≡ true) e (same_key-itself a)
