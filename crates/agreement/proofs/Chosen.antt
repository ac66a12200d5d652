-- What is known to be chosen: a leader's flight counts votes that were cast, and what is learned was chosen.
use Rattle.std.proofs.Common.{ℕ, ◌<◌, Some, None, List}
use Rattle.std.specs.List.{Contains}
use Rattle.paxos_base.specs.Members.{AllBelow, HasMember}
use Rattle.paxos_base.specs.declared.entry.Entry.{Entry}
use Rattle.term_core.specs.declared.flight.Flight.{Flight}
use Rattle.term_core.specs.declared.term.Term.{Term}
use Rattle.term_core.specs.declared.term.Term.TheVariants.{Follower, Candidate, Leader}
use Rattle.step_spec.specs.May.{HasSaid}
use Rattle.agreement.specs.Agree.{HasCast}
use Rattle.agreement.specs.World.{CastVote, World}
use Rattle.step_spec.specs.Hear.{known_from}
use Rattle.step_spec.specs.Message.{Accepted, Known}
use Rattle.step_spec.specs.Propose.{vote_of}
use Rattle.agreement.specs.Agree.{IsChosen, LearnsChosen, vote_for}

-- a vote for the slot in the ballot was cast, for some entry
pub record HasVote (cast : List CastVote) (q ballot slot : ℕ) : Type 0 where
  pub entry : Entry
  pub has : HasCast cast q (vote_for slot ballot entry)

-- those that a flight counts have voted for it
pub record AreCounted (n : ℕ) (cast : List CastVote) (ballot : ℕ) (flight : Flight) : Type 0 where
  pub below : AllBelow n flight.accepted
  pub each : (q : ℕ) → HasMember flight.accepted q → HasCast cast q (vote_of ballot flight)

-- what a term counts
abbrev pub Counts : ℕ → List CastVote → Term → Type 0
Counts n cast (Follower ended) = Unit {0}
Counts n cast (Candidate ballot first heard best) = Unit {0}
Counts n cast (Leader ballot best None) = Unit {0}
Counts n cast (Leader ballot best (Some flight)) = AreCounted n cast ballot flight

pub record AreKnown (n : ℕ) (w : World) : Type 0 where
  pub accepted : (q ballot slot : ℕ) → HasSaid w.said q (Accepted ballot slot) → HasVote w.cast q ballot slot
  pub flights : (q : ℕ) → q < n → Counts n w.cast (w.replicas q).term
  pub known : (q slot : ℕ) (entry : Entry) → HasSaid w.said q (Known slot entry) → IsChosen n w.cast slot entry
  pub learned : (q slot : ℕ) (entry : Entry) → Contains (known_from (w.replicas q).kept.base (w.replicas q).learned) (Known slot entry) → IsChosen n w.cast slot entry
  pub rows : LearnsChosen n w
