-- A turn leaves the replicas that do not take it where they stood.
use Rattle.std.proofs.Common.{◌≡◌, ◌≢◌, ℕ, Bool, Some, List, [], ◌∷◌, ◌++◌, refl, ap, ◌∙◌, sym}
use Rattle.due_set.specs.Table.{Table}
use Rattle.launch_machine.specs.Clerk.{first_rows}
use Rattle.paxos_base.specs.declared.durable.Durable.{Durable}
use Rattle.step_spec.specs.State.{State}
use Rattle.step_spec.specs.Step.{Event}
use Rattle.step_spec.specs.declared.out.OutLetter.{OutLetter}
use Rattle.history.specs.Book.{Row, Standing, after_row, standing_after, turn_of}
use Rattle.history.specs.declared.turn.Turn.{Turn}
use Rattle.history.specs.declared.turn.Turn.TheVariants.{Did, Stopped, Restarted, Arrived}
use Rattle.history.proofs.Keeping.{stands_next}
use Rattle.replica_core.specs.Replica.{ReplicaState}
use Rattle.world_law.specs.Book.{BookState, standing_behind}
use Rattle.world_law.specs.Replicas.{StandsAt, StandsStopped}
use Rattle.history.proofs.FrontLemmas.{replica_there}
use Rattle.history.proofs.Standings.{fact_there, is_another}

pub others_run : (n : ℕ) (s : Standing) (turn : Turn) (event : Event) (letters : List OutLetter) (other : ℕ) → turn_of turn ≢ Some other
    → (after_row n s turn event letters).runs other ≡ s.runs other
unfolding after_row
others_run n s (Did who cause made) event letters other differs = refl
others_run n s (Stopped who cause kept) event letters other differs = fact_there who _ s.runs other (is_another who other differs)
others_run n s (Restarted who) event letters other differs = fact_there who _ s.runs other (is_another who other differs)
others_run n s (Arrived number) event letters other differs = refl

pub others_stay : (n : ℕ) (s : Standing) (turn : Turn) (event : Event) (letters : List OutLetter) (other : ℕ) → turn_of turn ≢ Some other
    → (after_row n s turn event letters).replicas other ≡ s.replicas other
unfolding after_row
others_stay n s (Did who cause made) event letters other differs = replica_there who _ s.replicas other (is_another who other differs)
others_stay n s (Stopped who cause kept) event letters other differs = replica_there who _ s.replicas other (is_another who other differs)
others_stay n s (Restarted who) event letters other differs = refl
others_stay n s (Arrived number) event letters other differs = refl

arrival_stays : (n : ℕ) (s : Standing) (turn : Turn) (number : ℕ) (event : Event) (letters : List OutLetter) → turn ≡ Arrived number
    → ((after_row n s turn event letters).runs ≡ s.runs) × ((after_row n s turn event letters).replicas ≡ s.replicas)
unfolding after_row
arrival_stays n s turn number event letters is = rw is (refl, refl)

-- who has the state that it had and runs as it did stands where it did
stands_on : (table : Table) (rows : List Row) (row : Row) (book after : BookState) (other : ReplicaState) → after.members ≡ book.members
    → (after_row book.members (standing_behind table rows book) row.turn row.event row.letters).runs other.identity.me ≡ (standing_behind table rows book).runs other.identity.me
    → (after_row book.members (standing_behind table rows book) row.turn row.event row.letters).replicas other.identity.me
    ≡ (standing_behind table rows book).replicas other.identity.me
    → StandsAt table rows book other → StandsAt table (rows ++ row ∷ []) after other
stands_on table rows row book after other members runs stays at = record {
  identity = rw members at.identity;
  member = rw members at.member;
  runs = ap (λ (s : Standing). s.runs other.identity.me) next ∙ runs ∙ at.runs;
  state = at.state ∙ sym stays ∙ sym (ap (λ (s : Standing). s.replicas other.identity.me) next);
  of_table = at.of_table;
}
  where
    next : standing_behind table (rows ++ row ∷ []) after ≡ after_row book.members (standing_behind table rows book) row.turn row.event row.letters
    next = ap (λ n. standing_after n (first_rows table) (rows ++ row ∷ [])) members ∙ stands_next book.members (first_rows table) rows row

pub others_stand : (table : Table) (rows : List Row) (row : Row) (book after : BookState) (other : ReplicaState) → after.members ≡ book.members
    → turn_of row.turn ≢ Some other.identity.me → StandsAt table rows book other → StandsAt table (rows ++ row ∷ []) after other
others_stand table rows row book after other members differs at =
    stands_on table rows row book after other members
    (others_run book.members (standing_behind table rows book) row.turn row.event row.letters other.identity.me differs)
    (others_stay book.members (standing_behind table rows book) row.turn row.event row.letters other.identity.me differs) at

pub all_stand : (table : Table) (rows : List Row) (row : Row) (number : ℕ) (book after : BookState) (other : ReplicaState) → after.members ≡ book.members
    → row.turn ≡ Arrived number → StandsAt table rows book other → StandsAt table (rows ++ row ∷ []) after other
all_stand table rows row number book after other members is at =
    let stay = arrival_stays book.members (standing_behind table rows book) row.turn number row.event row.letters is in
    stands_on table rows row book after other members (ap (λ (runs : ℕ → Bool). runs other.identity.me) stay.0)
    (ap (λ (replicas : ℕ → State). replicas other.identity.me) stay.1) at

-- ---- the same of a replica that is stopped

stopped_on : (table : Table) (rows : List Row) (row : Row) (book after : BookState) (who : ℕ) (kept : Durable) → after.members ≡ book.members
    → (after_row book.members (standing_behind table rows book) row.turn row.event row.letters).runs who ≡ (standing_behind table rows book).runs who
    → (after_row book.members (standing_behind table rows book) row.turn row.event row.letters).replicas who ≡ (standing_behind table rows book).replicas who
    → StandsStopped table rows book who kept → StandsStopped table (rows ++ row ∷ []) after who kept
stopped_on table rows row book after who kept members runs stays at =
    let next : standing_behind table (rows ++ row ∷ []) after ≡ after_row book.members (standing_behind table rows book) row.turn row.event row.letters =
    ap (λ n. standing_after n (first_rows table) (rows ++ row ∷ [])) members ∙ stands_next book.members (first_rows table) rows row in
    record {
      member = rw members at.member;
      stopped = ap (λ (s : Standing). s.runs who) next ∙ runs ∙ at.stopped;
      state = ap (λ (s : Standing). s.replicas who) next ∙ stays ∙ at.state;
    }

pub others_stopped : (table : Table) (rows : List Row) (row : Row) (book after : BookState) (who : ℕ) (kept : Durable) → after.members ≡ book.members → turn_of row.turn ≢ Some who
    → StandsStopped table rows book who kept → StandsStopped table (rows ++ row ∷ []) after who kept
others_stopped table rows row book after who kept members differs at =
    stopped_on table rows row book after who kept members
    (others_run book.members (standing_behind table rows book) row.turn row.event row.letters who differs)
    (others_stay book.members (standing_behind table rows book) row.turn row.event row.letters who differs) at

pub all_stopped : (table : Table) (rows : List Row) (row : Row) (number : ℕ) (book after : BookState) (who : ℕ) (kept : Durable) → after.members ≡ book.members → row.turn ≡ Arrived number
    → StandsStopped table rows book who kept → StandsStopped table (rows ++ row ∷ []) after who kept
all_stopped table rows row number book after who kept members is at =
    let stay = arrival_stays book.members (standing_behind table rows book) row.turn number row.event row.letters is in
    stopped_on table rows row book after who kept members (ap (λ (runs : ℕ → Bool). runs who) stay.0) (ap (λ (replicas : ℕ → State). replicas who) stay.1) at
