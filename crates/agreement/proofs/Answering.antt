-- What the scheduler answers changes nothing else of a world.
use Rattle.std.proofs.Common.{ℕ, List}
use Rattle.paxos_base.specs.declared.entry.Vote.{Vote}
use Rattle.paxos_base.specs.declared.rows.JobRow.{JobRow}
use Rattle.due_set.specs.Table.{Table}
use Rattle.term_core.specs.declared.term.Term.{Term}
use Rattle.term_core.specs.declared.term.Term.TheVariants.{Follower, Candidate, Leader}
use Rattle.agreement.specs.World.{Doing, World, after_answer}
use Rattle.agreement.proofs.Chosen.{AreKnown}
use Rattle.agreement.proofs.Kept.{Kept}
use Rattle.agreement.proofs.Tables.{Tables}
use Rattle.agreement.proofs.Told.{HasHeard, IsRallied, Told}
use Rattle.agreement.proofs.Whole.{IsWhole}

kept_still : (n : ℕ) (doing : Doing) (w : World) → Kept n w → Kept n (after_answer doing w)
kept_still n doing w kept = record {
  sound = kept.sound;
  members = kept.members;
  speakers = kept.speakers;
  below = kept.below;
  latest = kept.latest;
  stored = kept.stored;
  accepts = kept.accepts;
  proposed = kept.proposed;
  rounds = kept.rounds;
  owns = kept.owns;
  once = kept.once;
}

rallied_still : (n : ℕ) (doing : Doing) (w : World) (prefix ballot first heard : ℕ) (best : List Vote) → IsRallied n w prefix ballot first heard best → IsRallied n (after_answer doing w) prefix ballot first heard best
rallied_still n doing w prefix ballot first heard best rallied = record { up = rallied.up; below = rallied.below; each = rallied.each; backed = rallied.backed }

heard_still : (n : ℕ) (doing : Doing) (w : World) (prefix : ℕ) (term : Term) → HasHeard n w prefix term → HasHeard n (after_answer doing w) prefix term
heard_still n doing w prefix (Follower ended) heard = heard
heard_still n doing w prefix (Candidate ballot first set best) heard = rallied_still n doing w prefix ballot first set best heard
heard_still n doing w prefix (Leader ballot best flight) heard = record {
  heard = heard.heard;
  first = heard.first;
  majority = heard.majority;
  rallied = rallied_still n doing w prefix ballot heard.first heard.heard best heard.rallied;
}

told_still : (n : ℕ) (doing : Doing) (w : World) → Told n w → Told n (after_answer doing w)
told_still n doing w told = record {
  promises = λ q ballot first votes has. let promise = told.promises q ballot first votes has in record { heeds = promise.heeds; backed = promise.backed };
  terms = λ q member. heard_still n doing w _ (w.replicas q).term (told.terms q member);
}

known_still : (n : ℕ) (doing : Doing) (w : World) → AreKnown n w → AreKnown n (after_answer doing w)
known_still n doing w known = record {
  accepted = known.accepted;
  flights = known.flights;
  known = known.known;
  learned = known.learned;
  rows = known.rows;
}

pub whole_still : (n : ℕ) (doing : Doing) (w : World) → IsWhole n w → IsWhole n (after_answer doing w)
whole_still n doing w whole = record {
  kept = kept_still n doing w whole.kept;
  told = told_still n doing w whole.told;
  safe = λ q vote has. let safe = whole.safe q vote has in record { voters = safe.voters; below = safe.below; majority = safe.majority; each = safe.each };
  known = known_still n doing w whole.known;
}

pub tables_still : (n : ℕ) (table : Table) (first : List JobRow) (doing : Doing) (w : World) → Tables n table first w → Tables n table first (after_answer doing w)
tables_still n table first doing w tables = record { bases = tables.bases; snaps = tables.snaps }
