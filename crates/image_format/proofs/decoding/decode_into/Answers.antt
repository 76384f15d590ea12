use Rattle.std.proofs.Common.{◌≡◌, sym, ap, subst, ◌∙◌, arith}
use Rattle.picture_rows.specs.FullPicture.{full_of}
use Rattle.image_format.specs.declared.plan.Plan.{Plan}
use Rattle.image_format.specs.Pictures.{decoded_under, decoded}
use Rattle.image_format.specs.Answers.{Decodes}
use Rattle.image_format.specs.inside.Rows.{rows_by}
use Rattle.image_format.proofs.Planned.{sample_some, plan_is, decoded_is}
use Rattle.image_format.proofs.decoding.decode_into.Goals as goal

pub decode_rows-requires-clause-sampled : goal.decode_rows-requires-clause-sampled
decode_rows-requires-clause-sampled c =
    let key = c.requires.plan.key in
    let is = plan_is c.args.bytes.now c.in_ok-size.size c.args.plan.now c.requires.plan c.in_ok-size.ensures.header in
    omega (arith, ap (λ (p : Plan). p.sample) is, sample_some c.each_sample_is_a_power.ensures c.in_ok-size.size (key.width, key.height) key.rule)

pub decode_rows-requires-clause-size : goal.decode_rows-requires-clause-size
decode_rows-requires-clause-size c =
    (λ i. (c.requires.width i, c.requires.height i)) ∙ decoded_is c.args.bytes.now c.in_ok-size.size c.args.plan.now c.requires.plan c.in_ok-size.ensures.header

pub returns-clause-decodes : goal.returns-clause-decodes
unfolding decoded
returns-clause-decodes c =
    let plan = c.args.plan.now in
    let rows = rows_by c.in_ok-size.rows in
    let full : decoded_under c.args.target.now.picture.config plan.sample (full_of c.in_ok-size.size rows) ≡ decoded c.args.bytes.now plan =
    λ i. decoded_under (c.requires.config i) plan.sample (sym c.in_ok-size.ensures.full i) in
    subst (λ wanted. Decodes wanted c.decode_rows.result c.decode_rows.new.target.picture) full c.decode_rows.ensures.decodes
