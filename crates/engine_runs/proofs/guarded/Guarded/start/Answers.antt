use Rattle.engine_world.specs.declared.events.Event.TheVariants as events
use Rattle.engine_runs.proofs.Guarding.{loads_stay, is_running, runs_the_same, idle, closed}
use Rattle.engine_runs.proofs.guarded.Guarded.start.Goals as goal

pub invariant_of-self : goal.invariant_of-self
invariant_of-self g c =
    let stay = c.calls_tell_what_they_add.ensures.stay in
    let counts = c.calls_leave_the_rest.ensures.others in
    let e = c.in-Job.ensures.entry in
    let given = c.in-Job.ensures.given in
    is_running c.next_job.new.self c.self.inside.holds.items c.in-Job.pass c.replace.new.self c.replace.ensures.after given.0 given.1.takes given.1.out
    (loads_stay stay counts c.self.inside.engine c.next_job.new.self (events.NextJob c.args.room) e.0 c.self.inside.holds.items e.2 c.self.invariant.loads tt (λ n none. none))

pub invariant_of-self-in-Idle : goal.invariant_of-self-in-Idle
invariant_of-self-in-Idle g c =
    let stay = c.calls_tell_what_they_add.ensures.stay in
    let counts = c.calls_leave_the_rest.ensures.others in
    let e = c.in-Idle.ensures.entry in
    runs_the_same c.self.inside.engine c.next_job.new.self c.self.inside.holds.items c.self.inside.pass
    (idle c.self.inside.engine c.next_job.new.self c.args.room c.in-Idle._back e)
    (loads_stay stay counts c.self.inside.engine c.next_job.new.self (events.NextJob c.args.room) e.0 c.self.inside.holds.items e.2 c.self.invariant.loads tt (λ n none. none))
    c.self.invariant

pub invariant_of-self-in-Closed : goal.invariant_of-self-in-Closed
invariant_of-self-in-Closed g c =
    let stay = c.calls_tell_what_they_add.ensures.stay in
    let counts = c.calls_leave_the_rest.ensures.others in
    let e = c.in-Closed.ensures.entry in
    runs_the_same c.self.inside.engine c.next_job.new.self c.self.inside.holds.items c.self.inside.pass
    (closed c.self.inside.engine c.next_job.new.self c.args.room c.in-Closed._back e)
    (loads_stay stay counts c.self.inside.engine c.next_job.new.self (events.NextJob c.args.room) e.0 c.self.inside.holds.items e.2 c.self.invariant.loads tt (λ n none. none))
    c.self.invariant
