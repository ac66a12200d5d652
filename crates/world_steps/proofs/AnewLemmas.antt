-- A replica of a legal book proposes anew.
use Rattle.std.proofs.Common.{ℕ, ◌<◌, ◌≤◌, List, sym, subst}
use Rattle.due_set.specs.Table.{Table}
use Rattle.launch_machine.specs.Clerk.{first_rows}
use Rattle.durable_changes.specs.Anew.{ProposesAnew}
use Rattle.durable_changes.proofs.Honest.{proposes_anew}
use Rattle.step_spec.specs.State.{State}
use Rattle.history.proofs.Reached.{reaches}
use Rattle.history.specs.Book.{Row, standing_after}
use Rattle.history.specs.Legal.{IsLegal}
use Rattle.replica_core.specs.Replica.{ReplicaState}
use Rattle.world_law.specs.Book.{BookState, StandsBehind}
use Rattle.world_law.specs.Replicas.{StandsAt}

pub anew_by_rows : (members : ℕ) (table : Table) (rows : List Row) (who : ℕ) → members ≤ 7 → IsLegal members table rows → who < members
    → ProposesAnew ((standing_after members (first_rows table) rows).replicas who)
anew_by_rows members table rows who few legal member =
    let reached = reaches members table rows legal in
    subst (λ (state : State). ProposesAnew state) (reached.matches.replicas who) (proposes_anew members table (first_rows table) reached.turns who few reached.are member)

pub anew_at : (table : Table) (rows : List Row) (book : BookState) (replica : ReplicaState) → book.members ≤ 7 → StandsBehind table rows book → StandsAt table rows book replica → ProposesAnew replica.state
anew_at table rows book replica few behind at =
    subst (λ (state : State). ProposesAnew state) (sym at.state) (anew_by_rows book.members table rows replica.identity.me few behind.legal at.member)
