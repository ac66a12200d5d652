use Rattle.std.proofs.lemmas.Option.{slice_get-get_or}
use Rattle.world_rounds.proofs.LaneLemmas.{all_run}
use Rattle.world_rounds.proofs.lanes.share_rounds.Goals as goal
use Rattle.replica_core.proofs.SteadyLemmas.{on_ok_so as on_ok}

pub run_rounds-requires-clause-may : goal.run_rounds-requires-clause-may
run_rounds-requires-clause-may g c = λ lives borrowed who none within. c.requires.may who _ (slice_get-get_or c.args.members.now who none within)

pub returns : goal.returns
returns g c = record {
  takes = on_ok c.had_memory.result _ _
      (all_run g.D.Disk.view c.args.table.now c.args.book.now c.args.at.0 c.args.members.now c.run_rounds.new.members
      c.run_rounds.ensures.count c.run_rounds.ensures.runs) c.had_memory.ensures;
}
