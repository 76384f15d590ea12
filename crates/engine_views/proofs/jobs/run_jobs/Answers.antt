use Rattle.std.proofs.Common.{◌≡◌, Bool, true, false, ◌||◌, refl, ap}
use Rattle.load_cause.specs.declared.causes.Cause.TheVariants as causes
use Rattle.decode_job.specs.declared.ends.JobEnd.TheVariants as ends
use Rattle.engine_shared.specs.declared.answers.Next.TheVariants as nexts
use Rattle.engine_views.specs.JobRuns.{worker}
use Rattle.engine_views.proofs.Running.{Laws, laws_of, AsksNext, asks_next, none_yet, one_more, all_run, never_stops}
use Rattle.engine_views.proofs.jobs.run_jobs.Goals as goal

early : (before now : Bool) → before ≡ true → (before || now) ≡ true
early before now told = ap (λ b. b || now) told

late : (before now : Bool) → now ≡ true → (before || now) ≡ true
late true now told = refl
late false now told = told

pub jobs-init : goal.jobs-init
jobs-init g c = none_yet g.S.Source (g.E.EngineCalls.caller c.args.engine.now) c.args.source.now c.requires.owner c.requires.idle

pub jobs-preserved : goal.jobs-preserved
jobs-preserved g c =
    let caller = g.E.EngineCalls.caller in
    let laws : Laws = laws_of c.each_event_keeps_opening.ensures c.each_history_is_sound.ensures.sound c.failures_add_up.ensures.longer c.failures_add_up.ensures.entry c.failures_add_up.ensures.runs in
    let asked : AsksNext c.jobs.room (nexts.Job c.in-Job.pass) (caller c.jobs.engine) (caller c.next_job.new.self) = asks_next _ _ _ _ _ c.in-Job.is c.next_job.ensures.entry in
    let told : c.run_job-end.result.0 ≡ ends.Failed causes.Memory → c.eq-wanting.result ≡ true = λ e. rw e at c.eq-wanting.ensures in
    let one = one_more laws g.S.Source c.jobs.wanting (c.jobs.wanting || c.eq-wanting.result) (worker (caller c.args.engine.now) c.args.source.now) (caller c.jobs.engine) (caller c.next_job.new.self) (caller c.run_job-end.new.engine) c.jobs.source c.run_job-end.new.source c.jobs.room c.in-Job.pass c.run_job-end.result.0
    c.jobs.invariant asked c.run_job-end.ensures.runs c.run_job-end.ensures.over c.run_job-end.ensures.uses c.run_job-end.ensures.cause
    (early c.jobs.wanting c.eq-wanting.result) (λ e. late c.jobs.wanting c.eq-wanting.result (told e)) in
    one.so_far

pub jobs-smaller : goal.jobs-smaller
jobs-smaller g c =
    let caller = g.E.EngineCalls.caller in
    let laws : Laws = laws_of c.each_event_keeps_opening.ensures c.each_history_is_sound.ensures.sound c.failures_add_up.ensures.longer c.failures_add_up.ensures.entry c.failures_add_up.ensures.runs in
    let asked : AsksNext c.jobs.room (nexts.Job c.in-Job.pass) (caller c.jobs.engine) (caller c.next_job.new.self) = asks_next _ _ _ _ _ c.in-Job.is c.next_job.ensures.entry in
    let one = one_more laws g.S.Source c.jobs.wanting true (worker (caller c.args.engine.now) c.args.source.now) (caller c.jobs.engine) (caller c.next_job.new.self) (caller c.run_job-end.new.engine) c.jobs.source c.run_job-end.new.source c.jobs.room c.in-Job.pass c.run_job-end.result.0
    c.jobs.invariant asked c.run_job-end.ensures.runs c.run_job-end.ensures.over c.run_job-end.ensures.uses c.run_job-end.ensures.cause (λ e. refl) (λ e. refl) in
    one.fewer

pub returns-in-Idle : goal.returns-in-Idle
returns-in-Idle g c =
    let caller = g.E.EngineCalls.caller in
    let laws : Laws = laws_of c.each_event_keeps_opening.ensures c.each_history_is_sound.ensures.sound c.failures_add_up.ensures.longer c.failures_add_up.ensures.entry c.failures_add_up.ensures.runs in
    let asked : AsksNext c.jobs.room (nexts.Idle c.in-Idle._back) (caller c.jobs.engine) (caller c.next_job.new.self) = asks_next _ _ _ _ _ c.in-Idle.is c.next_job.ensures.entry in
    all_run laws g.S.Source c.jobs.wanting (worker (caller c.args.engine.now) c.args.source.now) (caller c.jobs.engine) (caller c.next_job.new.self) c.jobs.source c.jobs.room c.in-Idle._back c.jobs.invariant asked

pub returns-in-Closed : goal.returns-in-Closed
returns-in-Closed g c =
    let caller = g.E.EngineCalls.caller in
    let laws : Laws = laws_of c.each_event_keeps_opening.ensures c.each_history_is_sound.ensures.sound c.failures_add_up.ensures.longer c.failures_add_up.ensures.entry c.failures_add_up.ensures.runs in
    let asked : AsksNext c.jobs.room (nexts.Closed c.in-Closed._back) (caller c.jobs.engine) (caller c.next_job.new.self) = asks_next _ _ _ _ _ c.in-Closed.is c.next_job.ensures.entry in
    absurd (never_stops laws g.S.Source c.jobs.wanting (worker (caller c.args.engine.now) c.args.source.now) (caller c.jobs.engine) (caller c.next_job.new.self) c.jobs.source c.jobs.room c.in-Closed._back c.jobs.invariant asked)
