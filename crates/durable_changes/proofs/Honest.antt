-- Replicas that hear only what was said propose anew.
use Rattle.std.proofs.Common.{◌≡◌, ℕ, ◌≤◌, ◌<◌, Option, None, Some, List, refl, arith, IsTrue}
use Rattle.std.specs.List.{Contains}
use Rattle.std.proofs.lemmas.Bool.{eqb-true}
use Rattle.std.proofs.lemmas.List.Elements.{All-contains_itself}
use Rattle.due_set.specs.Table.{Table}
use Rattle.paxos_base.specs.Vote.{vote_at}
use Rattle.paxos_base.specs.declared.entry.Vote.{Vote}
use Rattle.paxos_base.specs.declared.rows.JobRow.{JobRow}
use Rattle.term_core.specs.declared.term.Term.{Term}
use Rattle.term_core.specs.declared.term.Term.TheVariants.{Follower, Candidate, Leader}
use Rattle.step_spec.specs.Hear.{is_vote_of}
use Rattle.step_spec.specs.State.{State, prefix_of}
use Rattle.step_spec.proofs.VoteLemmas.{found_vote}
use Rattle.agreement.specs.Agree.{HasCast}
use Rattle.agreement.specs.Transition.{AreTransitions, Transition, after_transitions}
use Rattle.agreement.specs.World.{World, first_world}
use Rattle.agreement.proofs.Growing.{found_there}
use Rattle.agreement.proofs.Kept.{Kept, Owns}
use Rattle.agreement.proofs.Transitions.{first_followed, transitions_followed}
use Rattle.durable_changes.specs.Anew.{HasNoVoteIn, ProposesAnew}

-- a vote in the ballot stands at the slot
vote_in : (ballot slot : ℕ) (votes : List Vote) (found : Option Vote) → vote_at slot votes ≡ found → IsTrue (is_vote_of ballot found) → (vote : Vote) × (vote_at slot votes ≡ Some vote) × (vote.ballot ≡ ballot)
vote_in ballot slot votes None is cast = absurd (cc cast)
vote_in ballot slot votes (Some vote) is cast = (vote, is, eqb-true vote.ballot ballot cast)

-- a leader has cast each vote in its ballot, and those below its prefix alone where nothing is in flight
anew_of : (n : ℕ) (w : World) (by : ℕ) → Kept n w → (term : Term) → Owns w.cast by (prefix_of (w.replicas by)) term → HasNoVoteIn (w.replicas by).kept (prefix_of (w.replicas by)) term
anew_of n w by kept (Follower ended) owns = tt
anew_of n w by kept (Candidate ballot first heard best) owns = tt
anew_of n w by kept (Leader ballot best (Some flight)) owns = tt
anew_of n w by kept (Leader ballot best None) owns = λ cast.
    let state : State = w.replicas by in
    let slot = prefix_of state in
    let found = vote_in ballot slot state.kept.votes (vote_at slot state.kept.votes) refl cast in
    let at = (found_vote (Contains state.kept.votes) slot state.kept.votes found.0 (All-contains_itself state.kept.votes) found.1).0 in
    let has : HasCast w.cast by found.0 = kept.stored by found.0 (found_there slot state.kept.votes found.0 found.1) in
    let below = owns found.0 has found.2 in
    omega (arith, at, below)

pub proposes_anew : (members : ℕ) (table : Table) (rows : List JobRow) (transitions : List Transition) (by : ℕ) → members ≤ 7 → AreTransitions members table (first_world rows) transitions → by < members
    → ProposesAnew ((after_transitions members transitions (first_world rows)).replicas by)
proposes_anew members table rows transitions by few may member =
    let w = after_transitions members transitions (first_world rows) in
    let kept = (transitions_followed members table rows (first_world rows) transitions few (first_followed members table rows) may).whole.kept in
    anew_of members w by kept (w.replicas by).term (kept.owns by member)
