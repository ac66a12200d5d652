use Rattle.std.proofs.Common.{length, map}
use Rattle.crontab_text.specs.TableReader.{rest_of}
use Rattle.run_text.specs.Run.{section_of, zone_of}
use Rattle.job_table.proofs.CrontabLemmas.{Walking}
use Rattle.job_table.proofs.crontab.add_crontab.Given as goal

abbrev pub invariant-lines : goal.invariant-lines
invariant-lines l = Walking (map zone_of l.zones) (section_of l.section) l.fn.style l.section.text.now l.lines l.above l.fn.jobs l.jobs

abbrev pub decreases-lines : goal.decreases-lines
decreases-lines l = length (rest_of l.lines)
