-- What a replica of the log knows. Source: "Paxos Made Simple", section 3; the base is this project's.
use Rattle.std.specs.Prelude.{ℕ, ◌+◌, max, None, List, [], length, unwrap_or}
use Rattle.paxos_base.specs.Ballot.{ballot_number}
use Rattle.paxos_base.specs.declared.durable.Durable.{Durable}
use Rattle.paxos_base.specs.declared.entry.Entry.{Entry}
use Rattle.term_core.specs.declared.term.Term.{Term}
use Rattle.term_core.specs.declared.term.Term.TheVariants.{Follower}

-- Which replica it is, and of how many: they are numbered from 0.
pub record Identity : Type 0 where
  pub me : ℕ
  pub members : ℕ

-- What it keeps on its disk; and what it loses when it stops: the entries that it has learned from its base on, its term
-- as a proposer, and the highest ballot that it has seen.
pub record State : Type 0 where
  pub kept : Durable
  pub learned : List Entry
  pub term : Term
  pub seen : ℕ

-- the first slot whose entry it has not learned
abbrev pub prefix_of : State → ℕ
prefix_of state = state.kept.base + length state.learned

-- the number of the ballot that is promised, or 0, which is below each ballot's
abbrev pub promised_in : Durable → ℕ
promised_in kept = unwrap_or kept.promised 0

-- a replica that starts, for the first time or again, with what is on its disk
abbrev pub started : ℕ → Durable → State
started me kept =
    record { kept = kept; learned = []; term = Follower None; seen = max (promised_in kept) (ballot_number kept.tried me) }
