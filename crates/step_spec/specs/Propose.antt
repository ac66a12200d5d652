-- How a replica comes to lead, and what a leader proposes.
-- Source: "Paxos Made Simple", sections 2.2, 2.4 and 3; "Reliable Cron across the Planet".
use Rattle.std.specs.Prelude.{ℕ, ◌+◌, max, nat_le, Bool, false, ◌&&◌, List, [], ◌∷◌, Option, None, Some, ℤ, if◌then◌else◌, slice_get}
use Rattle.std.specs.Option.{is_some}
use Rattle.std.specs.Ordering.{int_eq}
use Rattle.paxos_base.specs.Ballot.{ballot_number, round_of}
use Rattle.paxos_base.specs.Members.{has_majority, only_member}
use Rattle.paxos_base.specs.Vote.{vote_at, votes_from}
use Rattle.paxos_base.specs.declared.entry.Entry.{Entry}
use Rattle.paxos_base.specs.declared.entry.Entry.TheVariants.{Noop, Start, End, Table as TableEntry}
use Rattle.paxos_base.specs.declared.entry.Kind.{Kind}
use Rattle.paxos_base.specs.declared.entry.Vote.{Vote}
use Rattle.paxos_base.specs.declared.rows.JobRow.{JobRow}
use Rattle.term_core.specs.Term.{is_fourth}
use Rattle.term_core.specs.declared.flight.Flight.{Flight}
use Rattle.term_core.specs.declared.term.Term.{Term}
use Rattle.term_core.specs.declared.term.Term.TheVariants.{Follower, Candidate, Leader}
use Rattle.launch_machine.specs.declared.machine.Intent.{Intent}
use Rattle.launch_machine.specs.declared.machine.Intent.TheVariants as intent
use Rattle.step_spec.specs.Act.{Act, Stand, TakeLead, Propose, Wait, Learn, Rebase, Call, Send}
use Rattle.step_spec.specs.Message.{Prepare, Accept, Known, Lead, Others, Outside}
use Rattle.step_spec.specs.State.{State, Identity, prefix_of}

-- A candidate leads once a majority has promised.
abbrev pub lead_if : ℕ → ℕ → List Act
lead_if members heard = if has_majority members heard then TakeLead ∷ [] else []

-- a ballot of its own, above its own earlier ones and above each that it has seen
abbrev pub next_ballot : ℕ → State → ℕ
next_ballot me state = ballot_number (max state.kept.tried (round_of state.seen) + 1) me

-- **Campaign.** The replica stands for leader in its next ballot, and asks all for promises and for their votes from its
-- prefix on. Where it alone is a majority, it leads at once.
unfoldable pub campaign : Identity → State → List Act
campaign self state =
    Stand self.me (next_ballot self.me state) ∷ Send Others (Prepare (next_ballot self.me state) (prefix_of state))
    ∷ lead_if self.members (only_member self.me)

-- An entry is chosen once a majority has voted for it: the leader learns it and tells all.
abbrev pub choose_if : ℕ → ℕ → ℕ → Entry → List Act
choose_if members accepted slot entry =
    if has_majority members accepted then Learn slot entry ∷ Send Others (Known slot entry) ∷ [] else []

-- **Propose.** The leader votes for its proposal and asks all for their votes. Where it alone is a majority, the entry is
-- chosen at once.
unfoldable pub propose : Identity → Vote → List Act
propose self vote =
    Propose self.me vote ∷ Send Others (Accept vote) ∷ choose_if self.members (only_member self.me) vote.slot vote.entry

-- A leader is free in what it proposes but where a vote binds it ("Paxos Made Simple", section 2.2).
abbrev pub bound_by : Option Vote → Entry → Entry
bound_by None entry = entry
bound_by (Some vote) entry = vote.entry

-- what a leader without a flight proposes at its prefix, where it would propose the entry
abbrev pub proposal : ℕ → List Vote → ℕ → Entry → Vote
proposal ballot best prefix entry = record { slot = prefix; ballot = ballot; entry = bound_by (vote_at prefix best) entry }

-- a flight as a vote of its leader's
abbrev pub vote_of : ℕ → Flight → Vote
vote_of ballot flight = record { slot = flight.slot; ballot = ballot; entry = flight.entry }

-- A leader with a flight waits for votes. At each fourth tick it asks again those that have not voted.
abbrev pub wait : ℕ → Flight → List Act
wait ballot flight =
    Wait ∷ (if is_fourth flight then Send (Outside flight.accepted) (Accept (vote_of ballot flight)) ∷ [] else [])

-- A leader whom no vote binds does what its launch table asks for: it calls the scheduler for a launch that is open, or
-- proposes to start one, or to adopt the next version of the table; else it says that it leads.
abbrev pub follow_intent : Identity → ℤ → Intent → ℕ → List Vote → State → List Act
follow_intent self now (intent.Call job at kind) ballot best state =
    Call (record { name = record { job = job; at = at }; kind = kind; now = record { 0 = now }; by = self.me }) ∷ []
follow_intent self now (intent.Start job at) ballot best state = propose self (proposal ballot best (prefix_of state) (Start job at now))
follow_intent self now (intent.Adopt version) ballot best state = propose self (proposal ballot best (prefix_of state) (TableEntry version now))
follow_intent self now intent.Rest ballot best state = Send Others (Lead ballot (prefix_of state)) ∷ []

-- A leader that votes still bind at its prefix or behind it proposes what they ask for, and a no-op where there is none.
abbrev pub lead_on : Identity → ℤ → Intent → ℕ → List Vote → State → List Vote → List Act
lead_on self now intent ballot best state [] = follow_intent self now intent ballot best state
lead_on self now intent ballot best state (bound ∷ others) = propose self (proposal ballot best (prefix_of state) Noop)

-- a tick of a replica of this term
abbrev pub tick_of : Identity → ℤ → Intent → State → Term → List Act
tick_of self now intent state (Follower ended) = []
tick_of self now intent state (Candidate ballot first heard best) = []
tick_of self now intent state (Leader ballot best (Some flight)) = wait ballot flight
tick_of self now intent state (Leader ballot best None) =
    lead_on self now intent ballot best state (votes_from (prefix_of state) best)

-- so many entries were learned since the base that the launch table takes their place
abbrev pub is_long : State → Bool
is_long state = nat_le (state.kept.base + 64) (prefix_of state)

-- **Tick**, at a clock reading, where the launch table has these rows and asks for this.
unfoldable pub tick : Identity → ℤ → List JobRow → Intent → State → List Act
tick self now rows intent state =
    if is_long state then Rebase (prefix_of state) rows ∷ [] else tick_of self now intent state state.term

-- the instant is the one that is there
abbrev pub is_at : ℤ → Option ℤ → Bool
is_at at None = false
is_at at (Some other) = int_eq other at

-- the row has a launch that is open, due at this instant
abbrev pub is_row_open : ℤ → Option JobRow → Bool
is_row_open at None = false
is_row_open at (Some row) = is_some row.open_now && is_at at row.cursor

-- the job's launch that is due at this instant is open
abbrev pub is_open : ℕ → ℤ → List JobRow → Bool
is_open job at rows = is_row_open at (slice_get rows job)

-- the end of a launch that is open is proposed, unless a vote binds
abbrev pub end_if : Identity → ℕ → List Vote → State → Entry → Bool → List Vote → List Act
end_if self ballot best state entry open_now [] = if open_now then propose self (proposal ballot best (prefix_of state) entry) else []
end_if self ballot best state entry open_now (bound ∷ others) = []

-- an answer to a replica of this term
abbrev pub answer_of : Identity → State → Entry → Bool → Term → List Act
answer_of self state entry open_now (Follower ended) = []
answer_of self state entry open_now (Candidate ballot first heard best) = []
answer_of self state entry open_now (Leader ballot best (Some flight)) = []
answer_of self state entry open_now (Leader ballot best None) =
    end_if self ballot best state entry open_now (votes_from (prefix_of state) best)

-- **Answer** of the scheduler, by the rows of the launch table: a leader that is free to propose proposes the end of a launch
-- that is open.
unfoldable pub answer : Identity → ℕ → ℤ → Kind → List JobRow → State → List Act
answer self job at kind rows state = answer_of self state (End job at kind) (is_open job at rows) state.term
