use Rattle.cron_serve.proofs.AuditStatusLemmas.{fails, memory, no_other, noted, passes, read_fault, refused, write_fault}
use Rattle.cron_serve.proofs.laws.a_status_tells_of_an_audit.Goals as goal

pub returns : goal.returns
returns c = record {
  passes = passes;
  fails = fails;
  refused = refused;
  read_fault = read_fault;
  write_fault = write_fault;
  memory = memory;
  no_other = no_other;
  note = noted;
}
