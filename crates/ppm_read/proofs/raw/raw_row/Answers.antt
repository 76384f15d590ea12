use Rattle.ppm_read.proofs.RawRows.{wanted_is, front_of, raw_above, raw_short, raw_whole, samples_whole}
use Rattle.ppm_read.proofs.raw.raw_row.Goals as goal

pub returns-then-has_above : goal.returns-then-has_above
returns-then-has_above c = λ last.
    let front = front_of c.args.head c.args.text.now c.split_at.result.0.now c.sample_length.result c.channel_count.result c.min.result c.sample_length.ensures c.channel_count.ensures c.min.ensures c.split_at.ensures.front in
    raw_above c.args.head last c.args.text.now c.split_at.result.0.now c.has_above.result c.requires.format front c.has_above.ensures c.if-has_above.true

pub returns-then-row-wanted : goal.returns-then-row-wanted
returns-then-row-wanted c = λ last.
    let front = front_of c.args.head c.args.text.now c.split_at.result.0.now c.sample_length.result c.channel_count.result c.min.result c.sample_length.ensures c.channel_count.ensures c.min.ensures c.split_at.ensures.front in
    let wanted = wanted_is c.args.head c.sample_length.result c.channel_count.result c.sample_length.ensures c.channel_count.ensures in
    raw_short c.args.head last c.args.text.now c.split_at.result.0.now c.has_above.result c.requires.format front c.has_above.ensures c.if-has_above.false (rw (← wanted) c.if-row-wanted.true)

pub write_row-requires-clause-row : goal.write_row-requires-clause-row
write_row-requires-clause-row c =
    let front = front_of c.args.head c.args.text.now c.split_at.result.0.now c.sample_length.result c.channel_count.result c.min.result c.sample_length.ensures c.channel_count.ensures c.min.ensures c.split_at.ensures.front in
    let wanted = wanted_is c.args.head c.sample_length.result c.channel_count.result c.sample_length.ensures c.channel_count.ensures in
    samples_whole c.args.head c.args.text.now c.split_at.result.0.now front (rw (← wanted) c.if-row-wanted.false)

pub returns : goal.returns
returns c = λ last.
    let front = front_of c.args.head c.args.text.now c.split_at.result.0.now c.sample_length.result c.channel_count.result c.min.result c.sample_length.ensures c.channel_count.ensures c.min.ensures c.split_at.ensures.front in
    let wanted = wanted_is c.args.head c.sample_length.result c.channel_count.result c.sample_length.ensures c.channel_count.ensures in
    raw_whole c.args.head last c.args.text.now c.split_at.result.0.now _ _ c.has_above.result c.sample_length.result c.channel_count.result c.min.result c.requires.format front c.has_above.ensures c.if-has_above.false
    c.sample_length.ensures c.channel_count.ensures c.min.ensures (rw (← wanted) c.if-row-wanted.false) c.write_row.ensures c.split_at.ensures.back
