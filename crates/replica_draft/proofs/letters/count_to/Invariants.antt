use Rattle.replica_draft.proofs.SendLemmas.{Counting}
use Rattle.replica_draft.proofs.letters.count_to.Given as goal

abbrev pub invariant-loop-sent : goal.invariant-loop-sent
invariant-loop-sent l = Counting l.me l.member l.sends l.sent-index l.count
