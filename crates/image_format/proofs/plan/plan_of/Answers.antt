use Rattle.std.proofs.Common.{◌≡◌, ℕ, List, Ok, Err, Result, sym, ap, ◌∙◌}
use Rattle.std.specs.Result.{IfOk}
use Rattle.picture_rows.specs.Reading.{◌>>=◌}
use Rattle.cache_key.specs.Key.{Key}
use Rattle.image_format.specs.declared.plan.Plan.{Plan}
use Rattle.image_format.specs.declared.refusal.Refusal.{Refusal}
use Rattle.image_format.specs.Pictures.{planned, plan_under, IsPlanOf}
use Rattle.image_format.proofs.plan.plan_of.Goals as goal

-- what is planned is a plan of the text
plan_of_text : (text : List ℕ) (key : Key) (result : Result Plan Refusal) → planned text key ≡ result → IfOk result (λ plan. IsPlanOf text plan)
plan_of_text text key (Ok plan) is = record { key = key; is = is }
plan_of_text text key (Err refusal) is = tt

pub returns-clause-of_text : goal.returns-clause-of_text
unfolding planned
returns-clause-of_text c =
    plan_of_text c.args.bytes.now c.args.key.now c.plan_under.result
    (ap (λ (r : Result (ℕ × ℕ) Refusal). r >>= plan_under c.args.key.now) (sym c.source_size.ensures.size ∙ c.in_ok-source_size.was) ∙ sym c.plan_under.ensures.plan)
