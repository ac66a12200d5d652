-- A replica whose turn it isn't is as it was.
use Rattle.std.proofs.Common.{◌≡◌, ◌≢◌, ℕ, List, [], ◌∷◌, ◌++◌, Option, Some, None, refl, ap, ◌∙◌, sym, subst}
use Rattle.due_set.specs.Table.{Table}
use Rattle.launch_machine.specs.Clerk.{first_rows}
use Rattle.paxos_base.specs.declared.durable.Durable.{Durable}
use Rattle.step_spec.specs.State.{State}
use Rattle.step_spec.specs.Step.{Event}
use Rattle.step_spec.specs.declared.out.OutLetter.{OutLetter}
use Rattle.history.specs.Book.{Row, Standing, after_row, standing_after, turn_of}
use Rattle.history.specs.declared.turn.Turn.{Turn}
use Rattle.history.specs.declared.turn.Turn.TheVariants.{Did, Stopped, Restarted, Arrived}
use Rattle.history.proofs.Keeping.{stands_next}
use Rattle.replica_core.specs.Replica.{ReplicaState}
use Rattle.world_law.specs.Book.{BookState, standing_behind}
use Rattle.world_tests.specs.Seat.{IsWhereLeft, IsSeated, SeatState}
use Rattle.history.proofs.FrontLemmas.{replica_there}
use Rattle.history.proofs.Standings.{fact_there, is_another}

-- what stands after one row more
pub next_stands : (table : Table) (rows : List Row) (row : Row) (book after : BookState) → after.members ≡ book.members
    → standing_behind table (rows ++ row ∷ []) after ≡ after_row book.members (standing_behind table rows book) row.turn row.event row.letters
next_stands table rows row book after members =
    ap (λ n. standing_after n (first_rows table) (rows ++ row ∷ [])) members ∙ stands_next book.members (first_rows table) rows row

-- nothing of a replica has changed
record IsUnmoved (before after : Standing) (who : ℕ) : Type 0 where
  pub replicas : after.replicas who ≡ before.replicas who
  pub runs : after.runs who ≡ before.runs who
  pub waits : after.waits who ≡ before.waits who

others_unmoved : (n : ℕ) (s : Standing) (turn : Turn) (event : Event) (letters : List OutLetter) (other : ℕ) → turn_of turn ≢ Some other
    → IsUnmoved s (after_row n s turn event letters) other
unfolding after_row
others_unmoved n s (Did who cause made) event letters other differs = record {
  replicas = replica_there who _ s.replicas other (is_another who other differs);
  runs = refl;
  waits = fact_there who _ s.waits other (is_another who other differs);
}
others_unmoved n s (Stopped who cause kept) event letters other differs = record {
  replicas = replica_there who _ s.replicas other (is_another who other differs);
  runs = fact_there who _ s.runs other (is_another who other differs);
  waits = fact_there who _ s.waits other (is_another who other differs);
}
others_unmoved n s (Restarted who) event letters other differs = record { replicas = refl; runs = fact_there who _ s.runs other (is_another who other differs); waits = refl }
others_unmoved n s (Arrived number) event letters other differs = record { replicas = refl; runs = refl; waits = refl }

arrival_unmoved : (n : ℕ) (s : Standing) (turn : Turn) (number : ℕ) (event : Event) (letters : List OutLetter) (other : ℕ) → turn ≡ Arrived number
    → IsUnmoved s (after_row n s turn event letters) other
unfolding after_row
arrival_unmoved n s turn number event letters other is = rw is (record { replicas = refl; runs = refl; waits = refl })

-- so it is seated as it was
seated_on : (table : Table) (rows later : List Row) (book after : BookState) (who : ℕ) (seat : SeatState) → after.members ≡ book.members
    → IsUnmoved (standing_behind table rows book) (standing_behind table later after) who → IsSeated table rows book who seat → IsSeated table later after who seat
seated_on table rows later book after who seat members unmoved seated = record {
  member = rw members seated.member;
  members = seated.members ∙ sym members;
  kept = ap (λ (s : State). s.kept) unmoved.replicas ∙ seated.kept;
  waits = unmoved.waits ∙ seated.waits;
  left = go seat.durable seat.running seated.left;
}
  where
    go : (durable : Durable) (running : Option ReplicaState) → IsWhereLeft table rows book who durable running → IsWhereLeft table later after who durable running
    go durable (Some replica) left = record {
      me = left.me;
      stands = record {
        identity = rw members left.stands.identity;
        member = rw members left.stands.member;
        runs = ap (standing_behind table later after).runs left.me ∙ unmoved.runs ∙ sym (ap (standing_behind table rows book).runs left.me) ∙ left.stands.runs;
        state =
            left.stands.state ∙ ap (standing_behind table rows book).replicas left.me ∙ sym unmoved.replicas
            ∙ sym (ap (standing_behind table later after).replicas left.me);
        of_table = left.stands.of_table;
      };
    }
    go durable None left = record { runs = unmoved.runs ∙ left.runs; state = unmoved.replicas ∙ left.state }

pub others_seated : (table : Table) (rows : List Row) (row : Row) (book after : BookState) (who : ℕ) (seat : SeatState) → after.members ≡ book.members
    → turn_of row.turn ≢ Some who → IsSeated table rows book who seat → IsSeated table (rows ++ row ∷ []) after who seat
others_seated table rows row book after who seat members differs =
    seated_on table rows (rows ++ row ∷ []) book after who seat members
    (subst (λ s. IsUnmoved (standing_behind table rows book) s who) (sym (next_stands table rows row book after members))
    (others_unmoved book.members (standing_behind table rows book) row.turn row.event row.letters who differs))

pub all_seated : (table : Table) (rows : List Row) (row : Row) (number : ℕ) (book after : BookState) (who : ℕ) (seat : SeatState) → after.members ≡ book.members
    → row.turn ≡ Arrived number → IsSeated table rows book who seat → IsSeated table (rows ++ row ∷ []) after who seat
all_seated table rows row number book after who seat members is =
    seated_on table rows (rows ++ row ∷ []) book after who seat members
    (subst (λ s. IsUnmoved (standing_behind table rows book) s who) (sym (next_stands table rows row book after members))
    (arrival_unmoved book.members (standing_behind table rows book) row.turn number row.event row.letters who is))
