-- Turns of a replica that stops, and that starts again.
use Rattle.std.proofs.Common.{◌≡◌, ◌⊎◌, ℕ, ◌<◌, Bool, true, false, List, [], ◌∷◌, ◌++◌, Option, None, Some, refl, sym, ap, ◌∙◌, subst, inl, inr, append-nil as append_nil}
use Rattle.due_set.specs.Table.{Table}
use Rattle.launch_machine.specs.Clerk.{first_rows}
use Rattle.paxos_base.specs.declared.durable.Delta.{Delta}
use Rattle.paxos_base.specs.declared.durable.Durable.{Durable}
use Rattle.step_spec.specs.Folds.{deltas_of}
use Rattle.step_spec.specs.State.{State, started}
use Rattle.step_spec.specs.Step.{Event, step}
use Rattle.step_spec.specs.Step as heard
use Rattle.step_spec.specs.declared.out.OutLetter.{OutLetter}
use Rattle.agreement.specs.Transition.{identity_of}
use Rattle.history.specs.Book.{Row, Standing, acts_at, after_row, durable_after, kept_at, standing_after, vote_of_delta}
use Rattle.history.specs.declared.turn.Cause.{Cause}
use Rattle.history.specs.declared.turn.Turn.{Turn}
use Rattle.history.specs.declared.turn.Turn.TheVariants.{Stopped, Restarted}
use Rattle.history.proofs.Acts.{with_here}
use Rattle.history.proofs.Keeping.{stands_next}
use Rattle.replica_core.specs.Commit.{kept_after}
use Rattle.replica_core.specs.Replica.{ReplicaState}
use Rattle.replica_core.specs.Step.{IsEventOf, IsInputInside, IsOfTable}
use Rattle.replica_core.specs.declared.input.Input.{Input}
use Rattle.world_law.specs.Book.{BookState, StandsBehind, standing_behind}
use Rattle.world_law.specs.Replicas.{IsInputOf, IsRestartOf, IsStopOf, StandsAt, StandsStopped}
use Rattle.world_law.proofs.Steps.{takes_turn}
use Rattle.history.proofs.Standings.{fact_here}

-- ---- what stands after such a turn

after_stopped : (n : ℕ) (s : Standing) (who : ℕ) (cause : Option Cause) (kept : Bool) (event : Event) (letters : List OutLetter)
    → ((after_row n s (Stopped who cause kept) event letters).runs who ≡ false) × ((after_row n s (Stopped who cause kept) event letters).replicas who ≡ started who (kept_at n s who event kept))
unfolding after_row
after_stopped n s who cause kept event letters = (fact_here who false s.runs, with_here who (started who (kept_at n s who event kept)) s.replicas)

after_restarted : (n : ℕ) (s : Standing) (who : ℕ) (event : Event) (letters : List OutLetter)
    → ((after_row n s (Restarted who) event letters).runs who ≡ true) × ((after_row n s (Restarted who) event letters).replicas who ≡ s.replicas who)
unfolding after_row
after_restarted n s who event letters = (fact_here who true s.runs, refl)

next_to : (table : Table) (rows : List Row) (book after : BookState) (row : Row) → after.members ≡ book.members
    → standing_behind table (rows ++ row ∷ []) after ≡ after_row book.members (standing_behind table rows book) row.turn row.event row.letters
next_to table rows book after row members =
    ap (λ n. standing_after n (first_rows table) (rows ++ row ∷ [])) members ∙ stands_next book.members (first_rows table) rows row

stops_to : (table : Table) (rows : List Row) (book after : BookState) (who : ℕ) (cause : Option Cause) (kept : Bool) (durable : Durable) (row : Row) → who < book.members → row.turn ≡ Stopped who cause kept
    → kept_at book.members (standing_behind table rows book) who row.event kept ≡ durable → after.members ≡ book.members → StandsStopped table (rows ++ row ∷ []) after who durable
stops_to table rows book after who cause kept durable row member turn is members =
    let s = standing_behind table rows book in
    let did = after_stopped book.members s who cause kept row.event row.letters in
    let next : standing_behind table (rows ++ row ∷ []) after ≡ after_row book.members s (Stopped who cause kept) row.event row.letters =
    next_to table rows book after row members ∙ ap (λ (turn : Turn). after_row book.members s turn row.event row.letters) turn in
    record {
      member = rw members member;
      stopped = ap (λ (one : Standing). one.runs who) next ∙ did.0;
      state = ap (λ (one : Standing). one.replicas who) next ∙ did.1 ∙ ap (started who) is;
    }

-- ---- a stop within a step

abbrev row_stopped : ℕ → Option Cause → Bool → Event → Option Delta → Row
row_stopped who cause kept event None = record { turn = Stopped who cause kept; event = event; letters = []; votes = []; learnt = [] }
row_stopped who cause kept event (Some change) = record { turn = Stopped who cause kept; event = event; letters = []; votes = vote_of_delta change; learnt = [] }

module _ (table : Table) (rows : List Row) (book : BookState) (cause : Cause) (input : Input) (old : ReplicaState) (event : Event) (change : Delta) (behind : StandsBehind table rows book) (at : StandsAt table rows book old) (is : IsInputOf (standing_behind table rows book) book old.identity.me cause input) (inside : IsInputInside table input) (told : IsEventOf table old input event) (changes : deltas_of (step old.identity event old.state) ≡ change ∷ []) where
  abbrev s : Standing
  s = standing_behind table rows book

  changes_at : deltas_of (acts_at book.members s old.identity.me event) ≡ change ∷ []
  changes_at =
      sym (ap (λ self. deltas_of (step self event old.state)) at.identity ∙ ap (λ state. deltas_of (step (identity_of book.members old.identity.me) event state)) at.state) ∙ changes

  kept_with : kept_at book.members s old.identity.me event true ≡ kept_after (Some change) old.state.kept
  kept_with = ap (λ deltas. durable_after deltas (s.replicas old.identity.me).kept) changes_at ∙ ap (λ (state : State). kept_after (Some change) state.kept) (sym at.state)

  kept_without : kept_at book.members s old.identity.me event false ≡ old.state.kept
  kept_without = ap (λ (state : State). state.kept) (sym at.state)

  with_change : IsStopOf table rows book old.identity.me (Some cause) (Some change) (kept_after (Some change) old.state.kept)
  with_change =
      let row = row_stopped old.identity.me (Some cause) true event (Some change) in
      record {
        row = row;
        is = record { turn_is = refl; letters = refl; votes = sym (append_nil (vote_of_delta change)); learnt = refl };
        may = (takes_turn table rows book cause input old event behind at is inside told, record { delta = change; changes = changes_at; letters = refl; votes = refl; learnt = refl });
        stands = λ after members. stops_to table rows book after old.identity.me (Some cause) true (kept_after (Some change) old.state.kept) row at.member refl kept_with members;
      }

  without_change : IsStopOf table rows book old.identity.me (Some cause) None (kept_after None old.state.kept)
  without_change =
      let row = row_stopped old.identity.me (Some cause) false event None in
      record {
        row = row;
        is = record { turn_is = refl; letters = refl; votes = refl; learnt = refl };
        may = (takes_turn table rows book cause input old event behind at is inside told, record { delta = change; changes = changes_at; letters = refl; votes = refl; learnt = refl });
        stands = λ after members. stops_to table rows book after old.identity.me (Some cause) false old.state.kept row at.member refl kept_without members;
      }

  pub stop_within : (answer : Option Delta) → (answer ≡ Some change) ⊎ (answer ≡ None) → IsStopOf table rows book old.identity.me (Some cause) answer (kept_after answer old.state.kept)
  stop_within answer (inl kept) = subst (λ (a : Option Delta). IsStopOf table rows book old.identity.me (Some cause) a (kept_after a old.state.kept)) (sym kept) with_change
  stop_within answer (inr lost) = subst (λ (a : Option Delta). IsStopOf table rows book old.identity.me (Some cause) a (kept_after a old.state.kept)) (sym lost) without_change

-- ---- a stop between two steps, and a start

pub stop_between : (table : Table) (rows : List Row) (book : BookState) (old : ReplicaState) → StandsAt table rows book old → IsStopOf table rows book old.identity.me None None old.state.kept
stop_between table rows book old at =
    let row = row_stopped old.identity.me None false heard.Campaign None in
    record {
      row = row;
      is = record { turn_is = refl; letters = refl; votes = refl; learnt = refl };
      may = (at.member, at.runs, refl, record { letters = refl; votes = refl; learnt = refl });
      stands = λ after members. stops_to table rows book after old.identity.me None false old.state.kept row at.member refl (ap (λ (state : State). state.kept) (sym at.state)) members;
    }

pub restarts : (table : Table) (rows : List Row) (book : BookState) (kept : Durable) (new : ReplicaState) → StandsStopped table rows book new.identity.me kept → new.identity ≡ identity_of book.members new.identity.me
    → new.state ≡ started new.identity.me kept → IsOfTable table new → IsRestartOf table rows book new
restarts table rows book kept new at identity state of_table =
    let row : Row = record { turn = Restarted new.identity.me; event = heard.Campaign; letters = []; votes = []; learnt = [] } in
    let s = standing_behind table rows book in
    let did = after_restarted book.members s new.identity.me heard.Campaign [] in
    record {
      row = row;
      is = record { turn_is = refl; letters = refl; votes = refl; learnt = refl };
      may = (at.member, at.stopped, record { letters = refl; votes = refl; learnt = refl });
      stands = λ after members. record {
        identity = rw members identity;
        member = rw members at.member;
        runs = ap (λ (one : Standing). one.runs new.identity.me) (next_to table rows book after row members) ∙ did.0;
        state = state ∙ sym at.state ∙ sym did.1 ∙ sym (ap (λ (one : Standing). one.replicas new.identity.me) (next_to table rows book after row members));
        of_table = of_table;
      };
    }
