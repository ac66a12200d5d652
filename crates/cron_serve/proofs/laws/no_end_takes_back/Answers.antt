use Rattle.cron_serve.proofs.laws.no_end_takes_back.Goals as goal

pub returns : goal.returns
returns c = record {
  taken = λ output source source' sink sink' end ends. ends.read_on.taken;
  faults = λ output source source' sink sink' end ends. (ends.read_on.later, ends.later);
}
