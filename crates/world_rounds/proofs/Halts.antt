-- Turns that are no steps.
use Rattle.std.proofs.Common.{List, None, Option, Some, [], ap, append-nil as append_nil, arith, false, if◌then◌else◌, inl, inr, length, refl, subst, sym, true, ℕ, ◌++◌, ◌-◌, ◌∙◌, ◌∷◌, ◌≡◌}
use Rattle.std.specs.List.{Contains, slice_get}
use Rattle.std.proofs.Math.ListN.{set}
use Rattle.std.proofs.lemmas.List.{length-set}
use Rattle.disk_model.specs.View.{DiskView}
use Rattle.due_set.specs.Table.{Table}
use Rattle.paxos_base.specs.declared.durable.Delta.{Delta}
use Rattle.step_spec.specs.State.{started}
use Rattle.step_spec.specs.Step.{Event}
use Rattle.step_spec.specs.declared.out.OutLetter.{OutLetter}
use Rattle.agreement.specs.Transition.{identity_of}
use Rattle.history.specs.Book.{Row, Standing, after_row, turn_of}
use Rattle.history.specs.declared.turn.Turn.{Turn}
use Rattle.history.specs.declared.turn.Turn.TheVariants.{Stopped}
use Rattle.replica_core.specs.Replica.{ReplicaState}
use Rattle.replica_core.specs.declared.out.StepOut.{StepOut}
use Rattle.script_semantics.specs.Commands.{Plain}
use Rattle.script_semantics.specs.Situation.{IsTurnFor, Situation, arms_after, bases_kept, changes_in, fates_after, Stop, Task, after_turn, delivered, latest_after, letters_for, mails_after}
use Rattle.step_spec.proofs.Lists.{nothing_in}
use Rattle.world_law.proofs.Stops.{stop_between}
use Rattle.world_law.proofs.Called.{alike_stands}
use Rattle.world_law.specs.Book.{BookState, Commits, IsSameBook, IsNext, IsRowOf, StandsBehind, letter_rows, standing_behind}
use Rattle.history.specs.Legal.{MayFollow}
use Rattle.world_law.specs.Replicas.{IsStopOf, change_alone}
use Rattle.world_steps.specs.Nodes.{IsDiskAt, bases_behind}
use Rattle.world_steps.specs.Parts.{armed_in}
use Rattle.world_steps.proofs.Bases.{bases_same}
use Rattle.world_steps.proofs.AfterTurn.{leaves_other}
use Rattle.world_steps.specs.Steps.{IsNodeAhead, IsNodeStopped}
use Rattle.world_steps.specs.Turns.{HasLetters, IsHalted}
use Rattle.world_rounds.proofs.AfterTurn.{member_stays}
use Rattle.world_rounds.proofs.Delivery.{same_mails}
use Rattle.world_rounds.proofs.RoundsOfAll.{posted_so_far}
use Rattle.world_rounds.proofs.Worlds.{set_cases, world_on}
use Rattle.world_rounds.specs.Alone.{HasJoinedAlone, IsAlone}
use Rattle.world_rounds.specs.World.{GoesOnBy, IsMemberAhead, IsWorld, IsWorldAt, none_taken}
use Rattle.world_rounds.specs.declared.member.Member.{Member}
use Rattle.world_rounds.specs.declared.world.World.{World}
use Rattle.history.proofs.Standings.{fact_here, is_no_turn_of}

pub has_same : (old new : BookState) → new.letters ≡ old.letters → HasLetters old.letters new
has_same old new same = λ number letter there. ap (λ letters. slice_get letters number) same ∙ there

-- a turn that may come next in a book may come in the book with more room
pub next_alone : (table : Table) (rows : List Row) (book during : BookState) (turn : Turn) (change : Option Delta) (row : Row) (out : StepOut) → IsSameBook during book
    → IsAlone table rows book turn change row → out ≡ change_alone change → IsNext table during turn out
next_alone table rows book during turn change row out alike alone same = record {
  rows = rows;
  behind = alike_stands table rows book during alike alone.behind;
  row = row;
  is = subst (λ (o : StepOut). IsRowOf turn o row) (sym same) alone.is;
  may = rw alike.members alone.may;
}

none_posted : (from : Option ℕ) (turn : ℕ) → letter_rows from turn [] ≡ []
none_posted None turn = refl
none_posted (Some from) turn = refl

pub joined_alone : (table : Table) (rows : List Row) (book during after : BookState) (turn : Turn) (change : Option Delta) (row : Row) (out : StepOut) → IsSameBook during book
    → IsAlone table rows book turn change row → out ≡ change_alone change → Commits turn out.letters during after
    → ((rows : List Row) (row : Row) → StandsBehind table rows during → IsRowOf turn out row
    → MayFollow during.members table (standing_behind table rows during) row.turn row → StandsBehind table (rows ++ row ∷ []) after)
    → HasJoinedAlone table rows book after row
unfolding next_alone
joined_alone table rows book during after turn change row out alike alone same commits added =
    let next = next_alone table rows book during turn change row out alike alone same in
    record {
      behind = added rows row next.behind next.is next.may;
      rest = commits.pending;
      members = commits.members ∙ alike.members;
      letters =
          commits.posted ∙ ap (λ (o : StepOut). during.letters ++ letter_rows (turn_of turn) (length during.turns) o.letters) same
          ∙ ap (λ more. during.letters ++ more) (none_posted (turn_of turn) (length during.turns)) ∙ append_nil during.letters
          ∙ alike.letters;
    }

stop_runs : (n : ℕ) (s : Standing) (who : ℕ) (event : Event) (letters : List OutLetter) → (after_row n s (Stopped who None false) event letters).runs who ≡ false
unfolding after_row
stop_runs n s who event letters = fact_here who false s.runs

stop_waits : (n : ℕ) (s : Standing) (who : ℕ) (event : Event) (letters : List OutLetter) → (after_row n s (Stopped who None false) event letters).waits who ≡ None
unfolding after_row
stop_waits n s who event letters = fact_here who None s.waits

module _ {D : Type 0} (view : DiskView D) (table : Table) where
  -- the world after one turn that posts no letter, and after its command
  pub goes_alone : (rows : List Row) (world new : World D) (situation : Situation) (row : Row) (task : Task) (tasks : Situation → List Task) → IsWorldAt view table rows world situation
      → HasJoinedAlone table rows world.book new.book row → IsTurnFor situation.fates task row.turn → tasks situation ≡ task ∷ []
      → length new.members.items ≡ length world.members.items → new.cuts ≡ world.cuts → new.latest.0 ≡ latest_after row.turn situation.latest
      → ((k : ℕ) (member : Member D) → slice_get new.members.items k ≡ Some member
      → IsMemberAhead view table (rows ++ row ∷ []) new.book (after_turn world.book.members situation row) k [] member)
      → ((k : ℕ) (member : Member D) → slice_get new.members.items k ≡ Some member → member.steps.items ≡ [])
      → (more : List Row) × (after : Situation) × Plain world.book.members tasks (λ s. s) situation more after × IsWorldAt view table (rows ++ more) new after
  goes_alone rows world new situation row task tasks is joined turn asks count cuts latest each idle = (
    row ∷ [],
    ends,
    record {
      front = row ∷ [];
      middle = ends;
      back = [];
      parts = refl;
      one = rw asks (record { turns = (turn, refl); is = refl });
      two = record { none = refl; is = refl };
    },
    same_mails view table (rows ++ row ∷ []) new after (λ who. after.mails who ++ letters_for after (length situation.standing.posted) who)
        (λ who. rw (none_left who) (sym (append_nil (after.mails who)))) base,
  )
    where
      after : Situation
      after = after_turn world.book.members situation row

      ends : Situation
      ends = delivered (length situation.standing.posted) after

      base : IsWorldAt view table (rows ++ row ∷ []) new after
      base = record {
        ahead = world_on view table rows world new situation none_taken none_taken row is.ahead joined.behind joined.rest joined.members count cuts latest each;
        idle = idle;
      }

      posted : length after.standing.posted ≡ length situation.standing.posted
      posted =
          sym (posted_so_far view table (rows ++ row ∷ []) new after base) ∙ ap length joined.letters ∙ posted_so_far view table rows world situation is

      none_left : (who : ℕ) → letters_for after (length situation.standing.posted) who ≡ []
      none_left who = let e : length after.standing.posted - length situation.standing.posted ≡ 0 = omega (arith, posted) in rw e refl

  -- a replica that runs can stop, in a turn of its own
  pub record CanStop (rows : List Row) (world : World D) (who : ℕ) (member : Member D) : Type 0 where
    pub row : Row
    pub alone : IsAlone table rows world.book (Stopped who None false) None row
    pub stopped : (after : BookState) → after.members ≡ world.book.members → (standing_behind table (rows ++ row ∷ []) after).runs who ≡ false
    pub node : (after : BookState) → after.members ≡ world.book.members
        → IsNodeStopped view table after.members (standing_behind table (rows ++ row ∷ []) after) (bases_behind table (rows ++ row ∷ []) after who) who [] member.node

  can_stop : (rows : List Row) (world : World D) (situation : Situation) (who : ℕ) (member : Member D) → IsWorldAt view table rows world situation
      → slice_get world.members.items who ≡ Some member → member.mail.runs ≡ true → CanStop rows world who member
  can_stop rows world situation who member is there runs = record {
    row = stop.row;
    alone = record { behind = is.ahead.at.behind; rest = is.ahead.at.rest; call = refl; is = stop.is; may = stop.may };
    stopped = λ after members. (stop.stands after members).stopped;
    node = λ after members. record {
      at_rest = node.at_rest;
      trusted = node.trusted;
      disk = subst (λ (count : ℕ). IsDiskAt view count member.node) (sym (ap (λ (counts : ℕ → ℕ). counts who) (bases_same table rows stop.row world.book after members none_kept))) node.disk;
      identity = ap (λ (r : ReplicaState). r.identity) node.took ∙ node.stands.identity ∙ ap (identity_of world.book.members) node.me ∙ ap (λ n. identity_of n who) (sym members);
      none = refl;
      kept = (stop.stands after members).state ∙ ap (λ (r : ReplicaState). started who r.state.kept) (sym node.took);
    };
  }
    where
      ahead : IsMemberAhead view table rows world.book situation who [] member
      ahead = is.ahead.each who member there

      node : IsNodeAhead view table rows world.book who [] member.node
      node = ahead.running (sym (ap (λ (s : Standing). s.runs who) is.ahead.at.standing) ∙ sym ahead.mail.runs ∙ runs)

      stop : IsStopOf table rows world.book who None None node.first.state.kept
      stop = subst (λ who. IsStopOf table rows world.book who None None node.first.state.kept) node.me (stop_between table rows world.book node.first node.stands)

      none_kept : (changes : List Delta) (counts : ℕ → ℕ) → bases_kept stop.row.turn changes counts ≡ counts
      none_kept changes counts = ap (λ (turn : Turn). bases_kept turn changes counts) stop.is.turn_is

  pub may_stop : (world : World D) (who : ℕ) (member : Member D) → IsWorld view table world → slice_get world.members.items who ≡ Some member → member.mail.runs ≡ true
      → (rows : List Row) × (row : Row) × IsAlone table rows world.book (Stopped who None false) None row
  may_stop world who member is there runs = let can = can_stop is.rows world is.situation who member is.is there runs in (is.rows, can.row, can.alone)

  pub stop_goes : (world new : World D) (who : ℕ) (member next : Member D) → slice_get world.members.items who ≡ Some member → member.mail.runs ≡ true
      → ((rows : List Row) (row : Row) → IsAlone table rows world.book (Stopped who None false) None row → HasJoinedAlone table rows world.book new.book row)
      → new.members.items ≡ set world.members.items who next → next.node ≡ member.node → next.steps ≡ member.steps → IsHalted member.mail next.mail
      → new.cuts ≡ world.cuts → new.latest ≡ world.latest
      → GoesOnBy view table (Plain world.book.members (λ situation. if situation.standing.runs who then Stop who ∷ [] else []) (λ situation. situation)) world new
  stop_goes world new who member next there runs joins members node steps halted cuts latest = λ rows situation is.
      let can = can_stop rows world situation who member is there runs in
      let joined = joins rows can.row can.alone in
      let stands : situation.standing.runs who ≡ true = sym (is.ahead.each who member there).mail.runs ∙ runs in
      goes_alone rows world new situation can.row (Stop who) (λ situation. if situation.standing.runs who then Stop who ∷ [] else []) is joined can.alone.is.turn_is (rw stands refl)
      (ap length members ∙ length-set world.members.items who next) cuts
      (ap (λ minute. minute.0) latest ∙ is.ahead.latest ∙ sym (ap (λ turn. latest_after turn situation.latest) can.alone.is.turn_is))
      (λ k x found. elim (set_cases world.members.items who next k x (subst (λ members. slice_get members k ≡ Some x) members found)) [
        | inl here ↦
            subst (λ k. IsMemberAhead view table (rows ++ can.row ∷ []) new.book (after_turn world.book.members situation can.row) k [] x) (sym here.0)
            (subst (λ x. IsMemberAhead view table (rows ++ can.row ∷ []) new.book (after_turn world.book.members situation can.row) who [] x) (sym here.1)
            (mine rows situation is can joined))
        | inr other ↦
            member_stays view table rows can.row world.book new.book situation k [] x is.ahead.at joined.members (has_same world.book new.book joined.letters)
            (leaves_other world.book.members situation can.row k (is_no_turn_of can.row.turn who k (ap turn_of can.alone.is.turn_is) other.0)) (is.ahead.each k x other.1)
      ])
      (λ k x found. elim (set_cases world.members.items who next k x (subst (λ members. slice_get members k ≡ Some x) members found)) [
        | inl here ↦ ap (λ (x : Member D). x.steps.items) here.1 ∙ ap (λ steps. steps.items) steps ∙ is.idle who member there
        | inr other ↦ is.idle k x other.1
      ])
    where
      mine : (rows : List Row) (situation : Situation) → IsWorldAt view table rows world situation → (can : CanStop rows world who member)
          → HasJoinedAlone table rows world.book new.book can.row
          → IsMemberAhead view table (rows ++ can.row ∷ []) new.book (after_turn world.book.members situation can.row) who [] next
      mine rows situation is can joined =
          let was = is.ahead.each who member there in
          let turn = can.alone.is.turn_is in
          record {
            mail = record {
              runs =
                  halted.runs
                  ∙ sym (ap (λ turn. (after_row world.book.members situation.standing turn can.row.event can.row.letters).runs who) turn
                  ∙ stop_runs world.book.members situation.standing who can.row.event can.row.letters);
              letters_are = ap (λ turn. mails_after turn situation.mails who) turn ∙ fact_here who [] situation.mails ∙ sym halted.letters;
              skew = halted.skew ∙ was.mail.skew;
              small = rw halted.skew was.mail.small;
              fate = halted.fate ∙ was.mail.fate ∙ sym (ap (λ turn. fates_after turn situation.fates who) turn);
              waits =
                  halted.waits
                  ∙ sym (ap (λ turn. (after_row world.book.members situation.standing turn can.row.event can.row.letters).waits who) turn
                  ∙ stop_waits world.book.members situation.standing who can.row.event can.row.letters);
              arm =
                  ap armed_in halted.arm
                  ∙ sym (ap (λ (turn : Turn). arms_after turn (changes_in world.book.members situation.standing can.row.turn can.row.event) situation.arms who) turn
                  ∙ fact_here who None situation.arms);
              sent = λ number has. nothing_in (subst (λ items. Contains items number) halted.letters has);
            };
            running = λ running. absurd (let e : true ≡ false = sym running ∙ can.stopped new.book joined.members in cc);
            stopped = λ stopped. rw node (can.node new.book joined.members);
          }
