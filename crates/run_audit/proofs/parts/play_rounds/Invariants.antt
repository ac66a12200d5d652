use Rattle.std.proofs.Common.{◌-◌}
use Rattle.script_semantics.specs.Arms.{AreRoundsByArms}
use Rattle.run_audit.proofs.PartLemmas.{LeadsOn}
use Rattle.run_audit.specs.Begins.{BeginsRounds}
use Rattle.run_audit.proofs.parts.play_rounds.Given as goal

abbrev pub invariant-rounds : goal.invariant-rounds
invariant-rounds l =
    LeadsOn l.table (BeginsRounds l.fn.replay.book.members l.table.window l.at.0 l.rounds) (AreRoundsByArms l.fn.replay.book.members l.table.window l.at.0 l.rounds)
    (BeginsRounds l.fn.replay.book.members l.table.window l.at.0 (l.rounds - l._round)) (AreRoundsByArms l.fn.replay.book.members l.table.window l.at.0 (l.rounds - l._round))
    l.fn.replay l.replay l.fn.rest l.rest
