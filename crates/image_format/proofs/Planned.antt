-- The plan of a text under a key.
use Rattle.std.proofs.Common.{◌≡◌, ℕ, ◌≤◌, Bool, true, false, List, Ok, Err, Result, if◌then◌else◌, sym, ap, ◌∙◌, arith}
use Rattle.std.specs.Int.{IsPowerOfTwo}
use Rattle.std.proofs.lemmas.Nat.{pow_pos}
use Rattle.bitmap_kind.specs.declared.bitmaps.Rule.{Rule}
use Rattle.sampling.specs.Sample.{sample_of}
use Rattle.sampling.specs.SampleLaws.{EachSampleIsAPower}
use Rattle.picture_rows.specs.Reading.{◌>>=◌}
use Rattle.image_format.specs.declared.plan.Plan.{Plan}
use Rattle.image_format.specs.declared.refusal.Refusal.{Refusal}
use Rattle.image_format.specs.declared.refusal.Refusal.TheVariants.{TooLarge}
use Rattle.image_format.specs.Pictures.{source_size, sampled_size, sample_under, decoded_size, shown_size, is_too_large, plan_under, planned, IsPlanOf}

power_some : (n : ℕ) → IsPowerOfTwo n → 1 ≤ n
power_some n (k, e) = let some = pow_pos k in omega arith

-- each sample is at least 1
pub sample_some : EachSampleIsAPower → (source wanted : ℕ × ℕ) (rule : Rule) → 1 ≤ sample_of source wanted rule
sample_some each source wanted rule = power_some (sample_of source wanted rule) (each source wanted rule)

-- a plan that was made is the one that there is
made_plan : (large : Bool) (made plan : Plan) → (if large then Err TooLarge else Ok made) ≡ Ok plan → plan ≡ made
made_plan true made plan e = absurd (grind (arith, e))
made_plan false made plan e = cc

-- the plan of a text is that of its header's size
pub plan_is : (text : List ℕ) (source : ℕ × ℕ) (plan : Plan) → (of_text : IsPlanOf text plan) → source_size text ≡ Ok source
    → plan ≡ record { sample = sample_under of_text.key source; decoded = decoded_size of_text.key source; target = shown_size of_text.key source; config = of_text.key.config }
unfolding planned
plan_is text source plan of_text header =
    made_plan (is_too_large of_text.key source) _ plan (sym (ap (λ (r : Result (ℕ × ℕ) Refusal). r >>= plan_under of_text.key) header) ∙ of_text.is)

-- its decoded size is that of the source under its sample
pub decoded_is : (text : List ℕ) (source : ℕ × ℕ) (plan : Plan) → IsPlanOf text plan → source_size text ≡ Ok source → plan.decoded ≡ sampled_size plan.sample source
decoded_is text source plan of_text header =
    let is = plan_is text source plan of_text header in
    ap (λ (p : Plan). p.decoded) is ∙ sym (ap (λ (p : Plan). sampled_size p.sample source) is)
