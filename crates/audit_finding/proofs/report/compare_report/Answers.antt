use Rattle.run_text.specs.Run.{run_of}
use Rattle.run_text.proofs.SoundLemmas.{sound_run}
use Rattle.audit_finding.proofs.report.compare_report.Goals as goal

pub report_of-requires-clause-few : goal.report_of-requires-clause-few
report_of-requires-clause-few c = (sound_run c.requires.run.text (run_of c.args.run.now) c.requires.run.says).replicas.few
