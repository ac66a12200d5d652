-- Replicas that start again.
use Rattle.std.proofs.Common.{◌≡◌, ℕ, zero, suc, ◌<◌, true, false, List, [], ◌∷◌, ◌++◌, length, None, Some, refl, sym, ap, ◌∙◌, subst, inl, inr, arith, if◌then◌else◌}
use Rattle.std.specs.List.{Contains, insert, remove, slice_get}
use Rattle.std.proofs.Math.ListN.{set}
use Rattle.std.proofs.lemmas.List.{length-set}
use Rattle.std.proofs.lemmas.Option.{slice_get_within}
use Rattle.disk_model.specs.View.{DiskView}
use Rattle.due_set.specs.Table.{Table}
use Rattle.step_spec.specs.State.{Identity, started}
use Rattle.step_spec.specs.Step.{Event}
use Rattle.step_spec.specs.declared.out.OutLetter.{OutLetter}
use Rattle.agreement.specs.Transition.{identity_of}
use Rattle.history.specs.Book.{Row, Standing, after_row, turn_of}
use Rattle.history.specs.declared.turn.Turn.TheVariants.{Restarted}
use Rattle.paxos_base.specs.declared.durable.Durable.{Durable}
use Rattle.replica_node.specs.Node.{replica_of, store_of}
use Rattle.script_semantics.specs.Commands.{Plain}
use Rattle.script_semantics.specs.Situation.{Restart, Situation, after_turn, arms_after, bases_kept, changes_in, fates_after, latest_after, mails_after}
use Rattle.world_law.proofs.Stops.{restarts}
use Rattle.world_law.specs.Book.{BookState, IsRowOf, standing_behind}
use Rattle.world_law.specs.Replicas.{IsRestartOf, StandsAt, StandsStopped, change_alone}
use Rattle.world_steps.proofs.AfterTurn.{leaves_other}
use Rattle.world_steps.specs.Steps.{IsNodeStopped}
use Rattle.world_rounds.proofs.AfterTurn.{member_stays}
use Rattle.world_rounds.proofs.Halts.{goes_alone, has_same}
use Rattle.world_rounds.proofs.Worlds.{set_cases}
use Rattle.world_rounds.specs.Alone.{HasJoinedAlone, HasStartedAgain, IsAlone}
use Rattle.world_steps.specs.Parts.{IsSentTo, armed_in}
use Rattle.world_rounds.specs.World.{GoesOnBy, IsMemberAhead, IsWorld, IsWorldAt}
use Rattle.world_rounds.specs.declared.member.Member.{Member}
use Rattle.world_steps.specs.Nodes.{bases_behind}
use Rattle.replica_node.specs.Kept.{area_by}
use Rattle.replica_store.specs.Store.{area_of}
use Rattle.world_steps.proofs.Bases.{bases_same}
use Rattle.history.specs.declared.turn.Turn.{Turn}
use Rattle.world_rounds.specs.declared.world.World.{World}
use Rattle.history.proofs.Standings.{fact_here, is_no_turn_of}

-- an element that is taken out, and another put into its place
pub put_back : {X : Type 0} (xs : List X) (i : ℕ) (y : X) → i < length xs → insert (remove xs i) i y ≡ set xs i y
put_back [] i y below = absurd (omega arith)
put_back (x ∷ xs) zero y below = refl
put_back (x ∷ xs) (suc i) y below = ap (λ more. x ∷ more) (put_back xs i y (omega arith))

restart_runs : (n : ℕ) (s : Standing) (who : ℕ) (event : Event) (letters : List OutLetter) → (after_row n s (Restarted who) event letters).runs who ≡ true
unfolding after_row
restart_runs n s who event letters = fact_here who true s.runs

restart_waits : (n : ℕ) (s : Standing) (who : ℕ) (event : Event) (letters : List OutLetter) → (after_row n s (Restarted who) event letters).waits who ≡ s.waits who
unfolding after_row
restart_waits n s who event letters = refl

module _ {D : Type 0} (view : DiskView D) (table : Table) where
  -- what a replica that is stopped keeps
  pub node_stopped : (rows : List Row) (world : World D) (situation : Situation) (who : ℕ) (member : Member D) → IsWorldAt view table rows world situation
      → slice_get world.members.items who ≡ Some member → member.mail.runs ≡ false
      → ((standing_behind table rows world.book).runs who ≡ false) × IsNodeStopped view table world.book.members (standing_behind table rows world.book) (bases_behind table rows world.book who) who [] member.node
  node_stopped rows world situation who member is there runs =
      let ahead = is.ahead.each who member there in
      let stopped : (standing_behind table rows world.book).runs who ≡ false = sym (ap (λ (s : Standing). s.runs who) is.ahead.at.standing) ∙ sym ahead.mail.runs ∙ runs in
      (stopped, ahead.stopped stopped)

  -- a replica that is stopped can start again, in a turn of its own
  pub record CanRestart (rows : List Row) (world : World D) (who : ℕ) (next : Member D) : Type 0 where
    pub row : Row
    pub alone : IsAlone table rows world.book (Restarted who) None row
    pub stands : (after : BookState) → after.members ≡ world.book.members → StandsAt table (rows ++ row ∷ []) after (replica_of next.node)

  can_restart : (rows : List Row) (world : World D) (situation : Situation) (who : ℕ) (member next : Member D) → IsWorldAt view table rows world situation
      → slice_get world.members.items who ≡ Some member → member.mail.runs ≡ false → HasStartedAgain view table world.book.members who member next
      → CanRestart rows world who next
  can_restart rows world situation who member next is there runs again = record {
    row = start.row;
    alone = record {
      behind = is.ahead.at.behind;
      rest = is.ahead.at.rest;
      call = refl;
      is = subst (λ who. IsRowOf (Restarted who) (change_alone None) start.row) me start.is;
      may = start.may;
    };
    stands = start.stands;
  }
    where
      me : (replica_of next.node).identity.me ≡ who
      me = ap (λ (self : Identity). self.me) again.identity

      kept : Durable
      kept = (replica_of member.node).state.kept

      stopped : StandsStopped table rows world.book who kept
      stopped =
          let node = node_stopped rows world situation who member is there runs in
          let within : who < length world.members.items = slice_get_within world.members.items who member there in
          record { member = rw (sym is.ahead.count) within; stopped = node.0; state = node.1.kept }

      start : IsRestartOf table rows world.book (replica_of next.node)
      start =
          restarts table rows world.book kept (replica_of next.node) (subst (λ who. StandsStopped table rows world.book who kept) (sym me) stopped)
          (again.identity ∙ ap (identity_of world.book.members) (sym me)) (again.state ∙ ap (λ who. started who kept) (sym me)) again.at_rest.of_table

  pub may_restart : (world : World D) (who : ℕ) (member next : Member D) → IsWorld view table world → slice_get world.members.items who ≡ Some member → member.mail.runs ≡ false
      → HasStartedAgain view table world.book.members who member next → (rows : List Row) × (row : Row) × IsAlone table rows world.book (Restarted who) None row
  may_restart world who member next is there runs again =
      let can = can_restart is.rows world is.situation who member next is.is there runs again in (is.rows, can.row, can.alone)

  pub restart_goes : (world new : World D) (who : ℕ) (member next : Member D) → slice_get world.members.items who ≡ Some member → member.mail.runs ≡ false
      → HasStartedAgain view table world.book.members who member next
      → new.members.items ≡ set world.members.items who next → new.cuts ≡ world.cuts → new.latest ≡ world.latest
      → ((rows : List Row) (row : Row) → IsAlone table rows world.book (Restarted who) None row → HasJoinedAlone table rows world.book new.book row)
      → GoesOnBy view table (Plain world.book.members (λ situation. if situation.standing.runs who then [] else Restart who ∷ []) (λ situation. situation)) world new
  restart_goes world new who member next there runs again members cuts latest joins = λ rows situation is.
      let can = can_restart rows world situation who member next is there runs again in
      let joined = joins rows can.row can.alone in
      let stands : situation.standing.runs who ≡ false = sym (is.ahead.each who member there).mail.runs ∙ runs in
      goes_alone view table rows world new situation can.row (Restart who) (λ situation. if situation.standing.runs who then [] else Restart who ∷ []) is joined can.alone.is.turn_is
      (rw stands refl) (ap length members ∙ length-set world.members.items who next) cuts
      (ap (λ minute. minute.0) latest ∙ is.ahead.latest ∙ sym (ap (λ turn. latest_after turn situation.latest) can.alone.is.turn_is))
      (λ k x found. elim (set_cases world.members.items who next k x (subst (λ members. slice_get members k ≡ Some x) members found)) [
        | inl here ↦
            subst (λ k. IsMemberAhead view table (rows ++ can.row ∷ []) new.book (after_turn world.book.members situation can.row) k [] x) (sym here.0)
            (subst (λ x. IsMemberAhead view table (rows ++ can.row ∷ []) new.book (after_turn world.book.members situation can.row) who [] x) (sym here.1)
            (mine rows situation is can joined))
        | inr other ↦
            member_stays view table rows can.row world.book new.book situation k [] x is.ahead.at joined.members (has_same world.book new.book joined.letters)
            (leaves_other world.book.members situation can.row k (is_no_turn_of can.row.turn who k (ap turn_of can.alone.is.turn_is) other.0)) (is.ahead.each k x other.1)
      ])
      (λ k x found. elim (set_cases world.members.items who next k x (subst (λ members. slice_get members k ≡ Some x) members found)) [
        | inl here ↦ ap (λ (x : Member D). x.steps.items) here.1 ∙ ap (λ steps. steps.items) again.steps ∙ is.idle who member there
        | inr other ↦ is.idle k x other.1
      ])
    where
      me : (replica_of next.node).identity.me ≡ who
      me = ap (λ (self : Identity). self.me) again.identity

      -- its store goes on in the area that it had
      area : (rows : List Row) (situation : Situation) → IsWorldAt view table rows world situation → (can : CanRestart rows world who next)
          → HasJoinedAlone table rows world.book new.book can.row → area_of (store_of next.node) ≡ area_by (bases_behind table (rows ++ can.row ∷ []) new.book who)
      area rows situation is can joined =
          let node = (node_stopped rows world situation who member is there runs).1 in
          again.area ∙ node.at_rest.rests.selects ∙ node.disk.area
          ∙ ap area_by (sym (ap (λ (counts : ℕ → ℕ). counts who) (bases_same table rows can.row world.book new.book joined.members
          (λ changes counts. ap (λ (turn : Turn). bases_kept turn changes counts) can.alone.is.turn_is))))

      mine : (rows : List Row) (situation : Situation) → IsWorldAt view table rows world situation → (can : CanRestart rows world who next)
          → HasJoinedAlone table rows world.book new.book can.row
          → IsMemberAhead view table (rows ++ can.row ∷ []) new.book (after_turn world.book.members situation can.row) who [] next
      mine rows situation is can joined =
          let was = is.ahead.each who member there in
          let turn = can.alone.is.turn_is in
          let stands = can.stands new.book joined.members in
          record {
            mail = record {
              runs =
                  again.runs
                  ∙ sym (ap (λ turn. (after_row world.book.members situation.standing turn can.row.event can.row.letters).runs who) turn
                  ∙ restart_runs world.book.members situation.standing who can.row.event can.row.letters);
              letters_are = ap (λ turn. mails_after turn situation.mails who) turn ∙ was.mail.letters_are ∙ sym (ap (λ letters. letters.items) again.letters);
              skew = again.skew ∙ was.mail.skew;
              small = rw again.skew was.mail.small;
              fate = again.fate ∙ was.mail.fate ∙ sym (ap (λ turn. fates_after turn situation.fates who) turn);
              waits =
                  again.waits ∙ was.mail.waits
                  ∙ sym (ap (λ turn. (after_row world.book.members situation.standing turn can.row.event can.row.letters).waits who) turn
                  ∙ restart_waits world.book.members situation.standing who can.row.event can.row.letters);
              arm =
                  ap armed_in again.arm ∙ was.mail.arm
                  ∙ sym (ap (λ (turn : Turn). arms_after turn (changes_in world.book.members situation.standing can.row.turn can.row.event) situation.arms who) turn);
              sent = λ number has. subst (λ letters. IsSentTo letters who number) (sym joined.letters) (was.mail.sent number (subst (λ letters. Contains letters.items number) again.letters has));
            };
            running = λ running. record {
              at_rest = again.at_rest;
              trusted = again.trusted;
              disk = record { reliable = again.reliable; clean = again.clean; area = area rows situation is can joined };
              first = replica_of next.node;
              stands = stands;
              me = me;
              took = refl;
            };
            stopped = λ stopped.
                let here : (standing_behind table (rows ++ can.row ∷ []) new.book).runs who ≡ true =
                subst (λ who. (standing_behind table (rows ++ can.row ∷ []) new.book).runs who ≡ true) me stands.runs in
                absurd (let e : true ≡ false = sym here ∙ stopped in cc);
          }
