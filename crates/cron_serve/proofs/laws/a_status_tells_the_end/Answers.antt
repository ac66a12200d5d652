use Rattle.cron_serve.proofs.StatusLemmas.{memory, no_other, noted, read_fault, refused, whole, write_fault}
use Rattle.cron_serve.proofs.laws.a_status_tells_the_end.Goals as goal

pub returns : goal.returns
returns c = record {
  whole = whole;
  refused = refused;
  read_fault = read_fault;
  write_fault = write_fault;
  memory = memory;
  no_other = no_other;
  note = noted;
}
