-- A leader's proposal on its way: who has accepted it, what it comes to in a round, and when it is learned.
-- Source: "Paxos Made Simple", section 2.3.
use Rattle.std.specs.Prelude.{◌≡◌, ◌⊎◌, ℕ, ◌+◌, ◌<◌, false, List, ◌∷◌, None, Some}
use Rattle.paxos_base.specs.Members.{HasMember, has_majority}
use Rattle.paxos_base.specs.Vote.{votes_from}
use Rattle.paxos_base.specs.declared.entry.Entry.{Entry}
use Rattle.paxos_base.specs.declared.entry.Vote.{Vote}
use Rattle.paxos_base.specs.declared.rows.JobRow.{JobRow}
use Rattle.due_set.specs.Table.{IsSound}
use Rattle.launch_machine.specs.Clerk.{Applies}
use Rattle.term_core.specs.declared.flight.Flight.{Flight}
use Rattle.step_spec.specs.Message.{Accept, Accepted}
use Rattle.step_spec.specs.State.{Identity, State}
use Rattle.agreement.specs.Agree.{vote_for}
use Rattle.synchronous_rounds.specs.Cluster.{Cluster}
use Rattle.synchronous_rounds.specs.LedAlone.{IsLeading, IsLedAlone, Occurs, Progress}

-- A proposal: the leader that makes it, at its prefix, bound by these votes; the entry, the launch table after it; and for how many
-- ticks it has waited.
pub record Proposal : Type 0 where
  pub self : Identity
  pub at : Progress
  pub best : List Vote
  pub entry : Entry
  pub later : List JobRow
  pub applies : Applies at.table at.rows entry later
  pub waited : ℕ

-- the vote that it asks for
abbrev pub asked_vote : Proposal → Vote
asked_vote proposal = vote_for proposal.at.prefix proposal.at.ballot proposal.entry

-- the flight is that proposal; these have accepted it, among them the leader, and they are no majority
pub record IsFlight (proposal : Proposal) (flight : Flight) : Type 0 where
  pub slot : flight.slot ≡ proposal.at.prefix
  pub entry : flight.entry ≡ proposal.entry
  pub few : has_majority proposal.self.members flight.accepted ≡ false
  pub own : HasMember flight.accepted proposal.self.me
  pub waited : flight.waited ≡ proposal.waited

-- the replica leads, with the proposal as its flight
pub record Proposes (proposal : Proposal) (flight : Flight) (state : State) : Type 0 where
  pub leading : IsLeading proposal.best (Some flight) proposal.at state
  pub flies : IsFlight proposal flight

-- how far the leader is once the proposal is learned
abbrev pub learned_by : Proposal → Progress
learned_by proposal = record proposal.at { rows = proposal.later; prefix = proposal.at.prefix + 1 }

-- the same with another base
abbrev pub with_base : ℕ → Progress → Progress
with_base base at = record at { base = base }

-- ---- among all

-- all others are asked for their votes
abbrev pub IsAsked : (members leader : ℕ) → Vote → Cluster → Type 0
IsAsked members leader vote cluster =
    (who : ℕ) → who < members → (who ≡ leader → ⊥) → Occurs (cluster.mails who) leader (Accept vote)

-- all others have accepted it, and say so
abbrev pub IsAccepted : (members leader ballot slot : ℕ) → Cluster → Type 0
IsAccepted members leader ballot slot cluster =
    (who : ℕ) → who < members → (who ≡ leader → ⊥) → Occurs (cluster.mails leader) who (Accepted ballot slot)

-- a vote binds the leader to propose something, or what it proposes changes the launch table
abbrev pub IsNeeded : Proposal → Type 0
IsNeeded proposal =
    ((vote : Vote) × (others : List Vote) × (votes_from proposal.at.prefix proposal.best ≡ vote ∷ others))
    ⊎ (proposal.later ≡ proposal.at.rows → ⊥)

-- **One leads alone, and its proposal is under way.**
pub record IsUnderWay (proposal : Proposal) (flight : Flight) (cluster : Cluster) : Type 0 where
  pub led_alone : IsLedAlone proposal.self.members proposal.self.me proposal.at.ballot proposal.at.prefix cluster
  pub proposes : Proposes proposal flight (cluster.replicas proposal.self.me)
  pub needed : IsNeeded proposal
  pub alone : cluster.waits proposal.self.me ≡ None
  pub early : proposal.waited < 3
  pub sound : IsSound proposal.at.table

-- the proposal, where its leader has this base and it has waited for so many ticks
abbrev pub waiting : (base waited : ℕ) → Proposal → Proposal
waiting base waited proposal = record proposal { at = with_base base proposal.at; waited = waited }
