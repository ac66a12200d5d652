use Rattle.std.proofs.Common.{◌≡◌, ◌+◌, ◌<◌, length, arith}
use Rattle.crontab_text.specs.Lines.{lines_of}
use Rattle.run_text.specs.Run.{run_of}
use Rattle.job_table.specs.Collect.{HasFaultyMarks, HasFaultyVersion}
use Rattle.job_table.proofs.RunLemmas.{sections_sound}
use Rattle.job_table.proofs.VariantLemmas.{handed_on}
use Rattle.job_table.proofs.VersionMarkLemmas.{next_marked, all_marked, faulty_version}
use Rattle.job_table.proofs.collect.collect_versions.Goals as goal

pub returns-in_err-collect-clause-refused : goal.returns-in_err-collect-clause-refused
returns-in_err-collect-clause-refused c =
    let within : c.loop-version.version < length c.args.run.now.versions.items + 1 = omega (arith, c.args.run.now.versions.ok) in
    handed_on c.from_residual.result c.in_err-collect.field-0.0 (HasFaultyMarks (run_of c.args.run.now) c.loop-version.version) (HasFaultyVersion (run_of c.args.run.now)) c.from_residual.ensures.1
    (λ refusal faulty. faulty_version (run_of c.args.run.now) (1 + length (lines_of c.requires.text)) c.loop-version.version c.loop-version.versions.items refusal
    (sections_sound c.args.run.now c.requires) c.loop-version.invariant within faulty)
    c.in_err-collect.ensures.refused

pub loop-version-preserved : goal.loop-version-preserved
loop-version-preserved c =
    next_marked (run_of c.args.run.now) c.loop-version.version c.loop-version.versions.items c.push.new.self.items c.in_ok-collect.field-0 c.loop-version.invariant
    c.in_ok-collect.ensures.jobs c.in_ok-push.ensures.items

pub returns-clause-jobs : goal.returns-clause-jobs
returns-clause-jobs c =
    let all : c.loop-version.version ≡ length c.args.run.now.versions.items + 1 = omega (arith, c.args.run.now.versions.ok) in
    all_marked (run_of c.args.run.now) c.loop-version.version c.loop-version.versions.items c.loop-version.invariant all
