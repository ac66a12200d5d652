-- A proposer's term: what each call makes of it ("Paxos Made Simple", sections 2.2 to 2.4 and 3).
use Rattle.std.specs.Prelude.{ℕ, ◌+◌, ◌==◌, nat_le, nat_lt, Bool, true, false, ◌&&◌, Option, None, Some, Result, Ok, Err, List, [], if◌then◌else◌}
use Rattle.paxos_base.specs.Members.{has_majority, only_member, with_member}
use Rattle.paxos_base.specs.declared.entry.Entry.{Entry}
use Rattle.paxos_base.specs.declared.entry.Vote.{Vote}
use Rattle.term_core.specs.Best.{best_of}
use Rattle.term_core.specs.declared.fault.ProposeFault.{ProposeFault}
use Rattle.term_core.specs.declared.fault.ProposeFault.TheVariants.{NotLeader, Busy}
use Rattle.term_core.specs.declared.flight.Flight.{Flight}
use Rattle.term_core.specs.declared.term.Term.{Term}
use Rattle.term_core.specs.declared.term.Term.TheVariants.{Follower, Candidate, Leader}

-- the term is a leader's
abbrev pub is_leader : Term → Bool
is_leader (Leader ballot best flight) = true
is_leader term = false

-- the term of a ballot that these have promised: a leader's once they are a majority
abbrev pub candidacy : ℕ → ℕ → ℕ → ℕ → List Vote → Term
candidacy members ballot first heard best =
    if has_majority members heard then Leader ballot best None else Candidate ballot first heard best

-- a candidate of the ballot has asked for promises from the first slot on
abbrev pub has_asked : ℕ → ℕ → Term → Bool
has_asked ballot first (Candidate own from heard best) = (own == ballot) && (from == first)
has_asked ballot first term = false

-- the best votes of a candidate or a leader
abbrev pub best_votes : Term → List Vote
best_votes (Follower ended) = []
best_votes (Candidate ballot first heard best) = best
best_votes (Leader ballot best flight) = best

-- a candidate that one more has promised, with these best votes
abbrev pub gathered : ℕ → ℕ → List Vote → Term → Term
gathered members from best (Candidate ballot first heard old) = candidacy members ballot first (with_member from heard) best
gathered members from best term = term

-- a promise counts for the candidate that asked for it, and for nobody else
abbrev pub after_promise : ℕ → ℕ → ℕ → ℕ → List Vote → Term → Term
after_promise members from ballot first votes term =
    if has_asked ballot first term then gathered members from (best_of (best_votes term) votes) term else term

-- a higher ballot ends a candidate's or a leader's term
abbrev pub is_ended_by : ℕ → Term → Bool
is_ended_by seen (Follower ended) = false
is_ended_by seen (Candidate ballot first heard best) = nat_lt ballot seen
is_ended_by seen (Leader ballot best flight) = nat_lt ballot seen

-- the term after it has heard of a ballot: it says which one ended it
abbrev pub after_ballot : ℕ → Term → Term
after_ballot seen term = if is_ended_by seen term then Follower (Some seen) else term

-- what a proposal is answered: a leader without a flight takes it up under its ballot
abbrev pub answer_to_proposal : Term → Result ℕ ProposeFault
answer_to_proposal (Follower ended) = Err (NotLeader ended)
answer_to_proposal (Candidate ballot first heard best) = Err (NotLeader None)
answer_to_proposal (Leader ballot best None) = Ok ballot
answer_to_proposal (Leader ballot best (Some flight)) = Err (Busy flight.slot)

-- a flight that begins: the proposer accepts its own proposal
abbrev pub new_flight : ℕ → Entry → ℕ → Flight
new_flight slot entry me = record { slot = slot; entry = entry; accepted = only_member me; waited = 0 }

-- the term after a proposal: only a leader without a flight takes it up
abbrev pub after_proposal : ℕ → Entry → ℕ → Term → Term
after_proposal slot entry me (Leader ballot best None) = Leader ballot best (Some (new_flight slot entry me))
after_proposal slot entry me term = term

-- a flight that one more has accepted
abbrev pub accepted_by : ℕ → Flight → Flight
accepted_by from flight = record flight { accepted = with_member from flight.accepted }

-- the flight goes on until a majority has accepted it
abbrev pub still_open : ℕ → Flight → Option Flight
still_open members flight = if has_majority members flight.accepted then None else Some flight

-- the vote that a majority has cast, once the flight is accepted so
abbrev pub vote_chosen : ℕ → ℕ → Flight → Option Vote
vote_chosen members ballot flight =
    if has_majority members flight.accepted
    then Some (record { slot = flight.slot; ballot = ballot; entry = flight.entry })
    else None

-- an acceptance counts for the flight of its ballot and slot, and for no other
abbrev pub after_accepted : ℕ → ℕ → ℕ → ℕ → Term → Term
after_accepted members from ballot slot (Leader own best (Some flight)) =
    if (own == ballot) && (flight.slot == slot)
    then Leader own best (still_open members (accepted_by from flight))
    else Leader own best (Some flight)
after_accepted members from ballot slot term = term

-- what an acceptance has chosen
abbrev pub chosen_by : ℕ → ℕ → ℕ → ℕ → Term → Option Vote
chosen_by members from ballot slot (Leader own best (Some flight)) =
    if (own == ballot) && (flight.slot == slot) then vote_chosen members own (accepted_by from flight) else None
chosen_by members from ballot slot term = None

-- this tick is the flight's fourth since it began or was last sent again
abbrev pub is_fourth : Flight → Bool
is_fourth flight = nat_le 4 (flight.waited + 1)

-- a flight after a tick: at the fourth the count begins again
abbrev pub ticked : Flight → Flight
ticked flight = record flight { waited = if is_fourth flight then 0 else flight.waited + 1 }

-- the term after a tick: only a flight counts it
abbrev pub after_tick : Term → Term
after_tick (Leader ballot best (Some flight)) = Leader ballot best (Some (ticked flight))
after_tick term = term

-- who has accepted the flight, at each fourth tick
abbrev pub answer_to_tick : Term → Option ℕ
answer_to_tick (Leader ballot best (Some flight)) = if is_fourth flight then Some flight.accepted else None
answer_to_tick term = None

-- a flight below the first slot that is not learned is over
abbrev pub flight_from : ℕ → Flight → Option Flight
flight_from prefix flight = if nat_lt flight.slot prefix then None else Some flight

-- the term after more has been learned: below this slot no flight goes on
abbrev pub after_advance : ℕ → Term → Term
after_advance prefix (Leader ballot best (Some flight)) = Leader ballot best (flight_from prefix flight)
after_advance prefix term = term
