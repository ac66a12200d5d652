-- How large the numbers of replicas and letters are.
use Rattle.std.specs.Prelude.{ℕ, ◌^◌, ◌<◌, ◌≤◌, ⊤, All, List, Option, None, Some}
use Rattle.std.specs.List.{flat_map}
use Rattle.paxos_base.specs.Ballot.{round_of}
use Rattle.paxos_base.specs.declared.entry.Vote.{Vote}
use Rattle.paxos_base.specs.declared.rows.JobRow.{JobRow}
use Rattle.term_core.specs.declared.flight.Flight.{Flight}
use Rattle.term_core.specs.declared.term.Term.{Term}
use Rattle.term_core.specs.declared.term.Term.TheVariants.{Follower, Candidate, Leader}
use Rattle.due_set.specs.Table.{Table}
use Rattle.paxos_letter.specs.Letters.{Spells}
use Rattle.step_spec.specs.Heard.{packets_of}
use Rattle.step_spec.specs.Message.{Message, Prepare, Promise, Accept, Accepted, Nack, Known, AskFrom, Snap, Lead, Mention}
use Rattle.step_spec.specs.State.{State, prefix_of, promised_in}
use Rattle.step_spec.specs.Step.{IsLaunchTable}
use Rattle.history.specs.Book.{PostedLetter}

-- the vote's round is at most this, and its slot is below it
pub record IsVoteWithin (most : ℕ) (vote : Vote) : Type 0 where
  pub round : round_of vote.ballot ≤ most
  pub slot : vote.slot < most

-- each vote is
abbrev pub AreVotesWithin : ℕ → List Vote → Type 0
AreVotesWithin most votes = All (IsVoteWithin most) votes

-- each count of the rows is at most this
abbrev pub AreRowsWithin : ℕ → List JobRow → Type 0
AreRowsWithin most rows = All (λ row. (row.launched ≤ most) × (row.voided ≤ most)) rows

-- each count of the rows is below this
abbrev pub AreRowsBelow : ℕ → List JobRow → Type 0
AreRowsBelow limit rows = All (λ row. (row.launched < limit) × (row.voided < limit)) rows

-- the slot of a flight is at most this, where there is one
abbrev pub IsFlightWithin : ℕ → Option Flight → Type 0
IsFlightWithin most None = ⊤
IsFlightWithin most (Some flight) = flight.slot ≤ most

-- the round of the ballot that has ended a term is at most this, where one has; and so is that of a candidate's or a leader's
-- ballot, and the slots of its promises, of the votes that bind it and of its flight are
abbrev pub IsTermWithin : ℕ → Term → Type 0
IsTermWithin most (Follower None) = ⊤
IsTermWithin most (Follower (Some ballot)) = round_of ballot ≤ most
IsTermWithin most (Candidate ballot first heard best) = (round_of ballot ≤ most) × (first ≤ most) × AreVotesWithin most best
IsTermWithin most (Leader ballot best flight) = (round_of ballot ≤ most) × AreVotesWithin most best × IsFlightWithin most flight

-- The numbers of a replica: the rounds that it has tried, promised and seen, its votes and its term, its base, the first slot
-- that it has not learned, and the counts of its rows.
pub record IsWithin (most : ℕ) (state : State) : Type 0 where
  pub tried : state.kept.tried ≤ most
  pub promised : round_of (promised_in state.kept) ≤ most
  pub seen : round_of state.seen ≤ most
  pub votes : AreVotesWithin most state.kept.votes
  pub term : IsTermWithin most state.term
  pub base : state.kept.base ≤ most
  pub prefix : prefix_of state ≤ most
  pub rows : AreRowsWithin most state.kept.rows

-- What a replica needs to be at a step so that its numbers fit: the rounds that it has tried and seen, the first slot that it has
-- not learned, and the counts of its launch table are within bounds.
pub record IsSmallReplica (table : Table) (state : State) : Type 0 where
  pub tried : state.kept.tried < 2 ^ 59
  pub seen : round_of state.seen < 2 ^ 59
  pub prefix : prefix_of state < 2 ^ 62
  pub counts : (rows : List JobRow) → IsLaunchTable table state rows → AreRowsBelow (2 ^ 31) rows

-- the numbers that a message names
abbrev pub IsMessageWithin : ℕ → Message → Type 0
IsMessageWithin most (Prepare ballot slot) = (round_of ballot ≤ most) × (slot ≤ most)
IsMessageWithin most (Promise ballot slot votes) = (round_of ballot ≤ most) × (slot ≤ most) × AreVotesWithin most votes
IsMessageWithin most (Accept vote) = IsVoteWithin most vote
IsMessageWithin most (Accepted ballot slot) = (round_of ballot ≤ most) × (slot ≤ most)
IsMessageWithin most (Nack ballot promised) = (round_of ballot ≤ most) × (round_of promised ≤ most)
IsMessageWithin most (Known slot entry) = slot ≤ most
IsMessageWithin most (AskFrom slot) = slot ≤ most
IsMessageWithin most (Snap slot rows) = (slot ≤ most) × AreRowsWithin most rows
IsMessageWithin most (Lead ballot slot) = (round_of ballot ≤ most) × (slot ≤ most)
IsMessageWithin most (Mention ballot) = round_of ballot ≤ most

-- the letter spells messages whose numbers are at most this
pub record SpellsWithin (members most : ℕ) (letter : PostedLetter) : Type 0 where
  pub messages : List Message
  pub spells : Spells members letter.from (flat_map packets_of messages) letter.bytes
  pub within : All (IsMessageWithin most) messages
