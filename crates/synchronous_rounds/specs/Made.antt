-- What a campaign does to replicas between two rounds.
use Rattle.std.specs.Prelude.{ℕ, ◌==◌, List, ◌++◌, if◌then◌else◌}
use Rattle.paxos_base.specs.Vote.{votes_from}
use Rattle.paxos_base.specs.declared.entry.Vote.{Vote}
use Rattle.paxos_base.specs.declared.rows.JobRow.{JobRow}
use Rattle.due_set.specs.Table.{Table}
use Rattle.step_spec.specs.Act.{Act}
use Rattle.step_spec.specs.Folds.{after_acts, sent_to}
use Rattle.step_spec.specs.Propose.{next_ballot}
use Rattle.step_spec.specs.State.{State, prefix_of}
use Rattle.step_spec.specs.Step.{Campaign, step}
use Rattle.agreement.specs.Transition.{identity_of}
use Rattle.synchronous_rounds.specs.Cluster.{Cluster, letter_from}
use Rattle.synchronous_rounds.specs.LedAlone.{Progress}

-- the acts of a campaign of one of the replicas
abbrev pub campaign_acts : (members candidate : ℕ) → Cluster → List Act
campaign_acts members candidate cluster = step (identity_of members candidate) Campaign (cluster.replicas candidate)

-- the replicas once that one has campaigned, and what it says is the last letter of each mail
abbrev pub after_campaign : (members candidate : ℕ) → Cluster → Cluster
after_campaign members candidate cluster =
    record {
      replicas = λ who. if who == candidate then after_acts (campaign_acts members candidate cluster) (cluster.replicas candidate) else cluster.replicas who;
      waits = cluster.waits;
      mails = λ who. cluster.mails who ++ letter_from candidate (sent_to candidate who (campaign_acts members candidate cluster));
    }

-- how far the replica is then, in its next ballot, with this launch table
abbrev pub campaigned_at : Table → List JobRow → (me : ℕ) → State → Progress
campaigned_at table rows me state =
    record { ballot = next_ballot me state; table = table; rows = rows; prefix = prefix_of state; base = state.kept.base }

-- its own votes, from its prefix on
abbrev pub own_votes : State → List Vote
own_votes state = votes_from (prefix_of state) state.kept.votes
