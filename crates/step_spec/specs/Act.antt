-- What a replica does, one act a change of the protocol ("Paxos Made Simple", sections 2.2 to 2.4 and 3).
use Rattle.std.specs.Prelude.{ℕ, ◌+◌, ◌-◌, max, None, Some, List, [], ◌∷◌, ◌++◌, drop}
use Rattle.paxos_base.specs.Durable.{after_delta}
use Rattle.paxos_base.specs.Members.{only_member, with_member}
use Rattle.paxos_base.specs.Vote.{votes_from}
use Rattle.paxos_base.specs.declared.durable.Delta.{Delta}
use Rattle.paxos_base.specs.declared.durable.Delta.TheVariants.{Tried, Promised, Voted, Base}
use Rattle.paxos_base.specs.declared.entry.Entry.{Entry}
use Rattle.paxos_base.specs.declared.entry.Vote.{Vote}
use Rattle.paxos_base.specs.declared.rows.JobRow.{JobRow}
use Rattle.term_core.specs.Best.{best_of}
use Rattle.term_core.specs.Term.{accepted_by, after_advance, after_ballot, after_proposal, after_tick}
use Rattle.term_core.specs.declared.term.Term.{Term}
use Rattle.term_core.specs.declared.term.Term.TheVariants.{Candidate, Leader}
use Rattle.cluster_sched.specs.declared.row.SchedRow.{SchedRow}
use Rattle.step_spec.specs.Message.{Message, Whom}
use Rattle.step_spec.specs.State.{State, prefix_of, started}

-- what a step does, act by act
pub data Act : Type 0 where
  -- hears of a ballot
  Observe : (ballot : ℕ) → Act
  -- stands for leader in a ballot of its own, and promises it
  Stand : (me ballot : ℕ) → Act
  -- as a candidate, counts a promise and its votes
  Gather : (from : ℕ) → (votes : List Vote) → Act
  -- as a candidate, becomes the leader
  TakeLead : Act
  -- promises a ballot
  Pledge : (ballot : ℕ) → Act
  -- votes for another's proposal
  Cast : (vote : Vote) → Act
  -- as the leader, proposes an entry, and votes for it
  Propose : (me : ℕ) → (vote : Vote) → Act
  -- as the leader, counts a vote for its proposal
  Count : (from : ℕ) → Act
  -- as the leader, waits for votes one tick more
  Wait : Act
  -- learns what was chosen at a slot
  Learn : (slot : ℕ) → (entry : Entry) → Act
  -- takes these rows in place of the entries below a slot
  Rebase : (slot : ℕ) → (rows : List JobRow) → Act
  -- calls the scheduler
  Call : (row : SchedRow) → Act
  -- sends a message
  Send : (whom : Whom) → (message : Message) → Act
  -- starts again after a stop
  Restart : (me : ℕ) → Act

-- the state with a change of what is on the disk
abbrev pub with_delta : Delta → State → State
with_delta delta state = record state { kept = after_delta delta state.kept }

-- the state with another term
abbrev pub with_term : Term → State → State
with_term term state = record state { term = term }

-- the term of a candidate of the ballot, which has promised it itself
abbrev pub own_candidacy : ℕ → ℕ → State → Term
own_candidacy me ballot state =
    Candidate ballot (prefix_of state) (only_member me) (votes_from (prefix_of state) state.kept.votes)

-- a candidate that one more has promised, with these votes
abbrev pub after_gathering : ℕ → List Vote → Term → Term
after_gathering from votes (Candidate ballot first heard best) = Candidate ballot first (with_member from heard) (best_of best votes)
after_gathering from votes term = term

-- a candidate that leads from now on
abbrev pub as_leader : Term → Term
as_leader (Candidate ballot first heard best) = Leader ballot best None
as_leader term = term

-- a leader whose flight one more has accepted
abbrev pub after_counting : ℕ → Term → Term
after_counting from (Leader ballot best (Some flight)) = Leader ballot best (Some (accepted_by from flight))
after_counting from term = term

-- the state with one more entry learned; a flight below the first slot that is not learned is over
abbrev pub after_learning : Entry → State → State
after_learning entry state =
    record state { learned = state.learned ++ entry ∷ []; term = after_advance (prefix_of state + 1) state.term }

-- the state with the rows below a slot in place of their entries
abbrev pub after_rebase : ℕ → List JobRow → State → State
after_rebase slot rows state =
    record {
      kept = after_delta (Base slot rows) state.kept;
      learned = drop (slot - state.kept.base) state.learned;
      term = after_advance slot state.term;
      seen = state.seen;
    }

-- the state after an act
unfoldable pub after_act : Act → State → State
after_act (Observe ballot) state = record state { seen = max state.seen ballot; term = after_ballot ballot state.term }
after_act (Stand me ballot) state = with_term (own_candidacy me ballot state) (with_delta (Tried ballot) state)
after_act (Gather from votes) state = with_term (after_gathering from votes state.term) state
after_act TakeLead state = with_term (as_leader state.term) state
after_act (Pledge ballot) state = with_delta (Promised ballot) state
after_act (Cast vote) state = with_delta (Voted vote) state
after_act (Propose me vote) state = with_term (after_proposal vote.slot vote.entry me state.term) (with_delta (Voted vote) state)
after_act (Count from) state = with_term (after_counting from state.term) state
after_act Wait state = with_term (after_tick state.term) state
after_act (Learn slot entry) state = after_learning entry state
after_act (Rebase slot rows) state = after_rebase slot rows state
after_act (Call row) state = state
after_act (Send whom message) state = state
after_act (Restart me) state = started me state.kept
