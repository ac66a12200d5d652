use Rattle.std.proofs.Common.{length, map}
use Rattle.anacron_text.specs.TableReader.{anacron_rest_of}
use Rattle.run_text.specs.Run.{section_of, zone_of}
use Rattle.job_table.proofs.AnacrontabLemmas.{Walking}
use Rattle.job_table.proofs.anacrontab.add_anacrontab.Given as goal

abbrev pub invariant-lines : goal.invariant-lines
invariant-lines l = Walking (map zone_of l.zones) (section_of l.section) l.zone l.section.text.now l.lines l.fn.jobs l.jobs

abbrev pub decreases-lines : goal.decreases-lines
decreases-lines l = length (anacron_rest_of l.lines)
