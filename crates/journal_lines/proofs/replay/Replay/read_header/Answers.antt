use Rattle.std.proofs.Common.{◌≡◌, ◌≤◌, ◌<◌, ◌+◌, ◌-◌, [], length, take, drop, min, false, sym, ap, subst, ◌∙◌}
use Rattle.std.specs.Str.{bytes_eq}
use Rattle.journal_lines.specs.Journal.{header}
use Rattle.journal_lines.specs.Replay.{ReplayState}
use Rattle.journal_lines.proofs.Pieces.{header_bad, header_good}
use Rattle.journal_lines.proofs.replay.Replay.read_header.Goals as goal

pub returns-in-None-clause-same : goal.returns-in-None-clause-same
returns-in-None-clause-same c =
    header_bad c.args.self.now c.args.left.now c.requires.good (subst (λ (s : ReplayState). s.header_read ≤ 31) c.self.view_is c.self.invariant.header)
    (subst (λ (s : ReplayState). bytes_eq (take (min (31 - s.header_read) (length c.args.left.now)) c.args.left.now) (take (min (31 - s.header_read) (length c.args.left.now)) (drop s.header_read header)) ≡ false) c.self.view_is (c.in-None.ensures).bad)

pub returns-in-Some-clause-same : goal.returns-in-Some-clause-same
returns-in-Some-clause-same c =
    header_good c.args.self.now (record { read = c.self.inside.read + c.in-Some.count; header_read = c.self.inside.header_read + c.in-Some.count; number = c.self.inside.number; begun = c.self.inside.begun; fault = c.self.inside.fault }) c.args.left.now c.in-Some.count
    c.requires.good
    ((c.in-Some.ensures).good.0 ∙ ap (λ (s : ReplayState). min (31 - s.header_read) (length c.args.left.now)) c.self.view_is)
    ((ap (λ (s : ReplayState). bytes_eq (take c.in-Some.count c.args.left.now) (take c.in-Some.count (drop s.header_read header))) (sym c.self.view_is)) ∙ (c.in-Some.ensures).good.1)
    (subst (λ (s : ReplayState). s.header_read < 31 → (s.number ≡ 6) × (s.begun ≡ [])) c.self.view_is c.self.invariant.in_header)
    (ap (λ (s : ReplayState). s.fault) c.self.view_is) (ap (λ (s : ReplayState). s.header_read + c.in-Some.count) c.self.view_is) (ap (λ (s : ReplayState). s.number) c.self.view_is) (ap (λ (s : ReplayState). s.begun) c.self.view_is)
