-- What a leader without a flight begins at a tick.
use Rattle.std.specs.Prelude.{◌≡◌, ℕ, ◌+◌, ◌<◌, ◌≤◌, true, List, [], ◌∷◌, None, ℤ}
use Rattle.paxos_base.specs.Vote.{votes_from}
use Rattle.paxos_base.specs.declared.entry.Entry.{Entry}
use Rattle.paxos_base.specs.declared.entry.Vote.{Vote}
use Rattle.paxos_base.specs.declared.rows.JobRow.{JobRow}
use Rattle.cluster_sched.specs.declared.row.SchedRow.{SchedRow}
use Rattle.launch_machine.specs.Answers.{IsIntent}
use Rattle.launch_machine.specs.Clerk.{Applies}
use Rattle.launch_machine.specs.declared.machine.Intent.TheVariants.{Call, Rest}
use Rattle.term_core.specs.declared.flight.Flight.{Flight}
use Rattle.step_spec.specs.Message.{Lead}
use Rattle.step_spec.specs.Propose.{is_open}
use Rattle.step_spec.specs.State.{Identity}
use Rattle.agreement.specs.Transition.{identity_of}
use Rattle.synchronous_rounds.specs.Cluster.{Advice, Cluster, calls_at}
use Rattle.synchronous_rounds.specs.Flights.{IsAsked, IsNeeded, Proposal, Proposes, asked_vote, with_base}
use Rattle.synchronous_rounds.specs.LedAlone.{IsLeading, Occurs, Progress}

-- an entry for a leader's prefix, and the launch table after it
pub record NextEntry (at : Progress) : Type 0 where
  pub entry : Entry
  pub later : List JobRow
  pub applies : Applies at.table at.rows entry later

-- the leader's proposal of an entry, after so many ticks
abbrev pub proposal_of : Identity → List Vote → (at : Progress) → NextEntry at → ℕ → Proposal
proposal_of self best at next waited =
    record {
      self = self;
      at = at;
      best = best;
      entry = next.entry;
      later = next.later;
      applies = next.applies;
      waited = waited;
    }

-- It proposes an entry that is needed, all others are asked for their votes, and no call is made.
pub record HasProposed (members leader : ℕ) (best : List Vote) (at : Progress) (now : ℤ) (advice : ℕ → Advice) (cluster next : Cluster) : Type 0 where
  pub entry : NextEntry at
  pub needed : IsNeeded (proposal_of (identity_of members leader) best at entry 0)
  pub asked : IsAsked members leader (asked_vote (proposal_of (identity_of members leader) best at entry 0)) next
  pub flight : Flight
  pub proposes : Proposes (proposal_of (identity_of members leader) best at entry 0) flight (next.replicas leader)
  pub uncalled : calls_at members now advice cluster leader ≡ []

-- its base was due to rise, and is its prefix now
pub record HasRebased (members leader : ℕ) (best : List Vote) (at : Progress) (now : ℤ) (advice : ℕ → Advice) (cluster next : Cluster) : Type 0 where
  pub due : at.base + 64 ≤ at.prefix
  pub leading : IsLeading best None (with_base at.prefix at) (next.replicas leader)
  pub uncalled : calls_at members now advice cluster leader ≡ []

-- it calls the scheduler for a launch that is open
pub record HasAskedForCall (members leader : ℕ) (best : List Vote) (at : Progress) (now : ℤ) (advice : ℕ → Advice) (cluster next : Cluster) : Type 0 where
  pub leading : IsLeading best None at (next.replicas leader)
  pub free : votes_from at.prefix best ≡ []
  pub row : SchedRow
  pub called : calls_at members now advice cluster leader ≡ row ∷ []
  pub asked : (advice leader).plan.intent ≡ Call row.name.job row.name.at row.kind
  pub open_there : is_open row.name.job row.name.at at.rows ≡ true

-- its launch table asks for nothing, and no vote binds it: it says to all others that it leads, and how far it has learned
pub record HasIdled (members leader : ℕ) (best : List Vote) (at : Progress) (now : ℤ) (advice : ℕ → Advice) (cluster next : Cluster) : Type 0 where
  pub leading : IsLeading best None at (next.replicas leader)
  pub free : votes_from at.prefix best ≡ []
  pub asked : (advice leader).plan.intent ≡ Rest
  pub rests : IsIntent at.table at.rows now Rest
  pub told : (who : ℕ) → who < members → (who ≡ leader → ⊥) → Occurs (next.mails who) leader (Lead at.ballot at.prefix)
  pub uncalled : calls_at members now advice cluster leader ≡ []

-- what a leader that is so far, without a flight, begins at the tick of a round
pub data Begins (members leader : ℕ) (best : List Vote) (at : Progress) (now : ℤ) (advice : ℕ → Advice) (cluster next : Cluster) : Type 0 where
  proposes : HasProposed members leader best at now advice cluster next → Begins members leader best at now advice cluster next
  rebases : HasRebased members leader best at now advice cluster next → Begins members leader best at now advice cluster next
  calls : HasAskedForCall members leader best at now advice cluster next → Begins members leader best at now advice cluster next
  rests : HasIdled members leader best at now advice cluster next → Begins members leader best at now advice cluster next
