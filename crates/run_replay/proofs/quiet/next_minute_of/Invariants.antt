use Rattle.run_replay.proofs.MinuteLemmas.{AsksNothingIn}
use Rattle.run_replay.proofs.quiet.next_minute_of.Given as goal

abbrev pub invariant-minutes : goal.invariant-minutes
invariant-minutes l = AsksNothingIn l.table l.first l.minute l.replica.state
