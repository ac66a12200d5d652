-- A world goes on by a turn.
use Rattle.std.proofs.Common.{◌≡◌, ◌≢◌, ◌⊎◌, ℕ, zero, suc, List, [], ◌∷◌, ◌++◌, length, ℤ, ◌≤ℤ◌, Option, None, Some, IfSome, refl, sym, ap, ◌∙◌, subst, inl, inr, arith}
use Rattle.std.specs.List.{slice_get}
use Rattle.std.specs.Option.{option_to_list}
use Rattle.std.proofs.Math.ListN.{set}
use Rattle.std.proofs.lemmas.Int.{clamps, ints}
use Rattle.std.proofs.lemmas.List.{length-set}
use Rattle.disk_model.specs.View.{DiskView}
use Rattle.due_set.specs.Table.{Table}
use Rattle.history.specs.Book.{Row, turn_of, with_fact}
use Rattle.history.specs.declared.turn.CallRow.{CallRow}
use Rattle.history.specs.declared.turn.Cause.{Cause}
use Rattle.history.specs.declared.turn.Cause.TheVariants.{Answer, Campaign, Hear, Tick}
use Rattle.history.specs.declared.turn.Turn.{Turn}
use Rattle.history.specs.declared.turn.Turn.TheVariants.{Arrived, Did, Restarted, Stopped}
use Rattle.replica_core.specs.Replica.{ReplicaState}
use Rattle.script_semantics.specs.Situation.{Situation, after_turn, calls_for, is_cut, latest_after, latest_with}
use Rattle.world_law.specs.Book.{StandsBehind}
use Rattle.world_steps.proofs.AfterTurn.{leaves_other, next_step, stands_after}
use Rattle.world_steps.proofs.Bases.{bases_then}
use Rattle.world_steps.specs.Steps.{IsNodeAhead, causes_of}
use Rattle.world_steps.specs.Turns.{HasJoinedAt, IsNextStep, MayJoin, noted}
use Rattle.world_steps.specs.declared.steps.Taken.{Taken}
use Rattle.world_rounds.proofs.AfterTurn.{member_did, member_stays, runs_ahead}
use Rattle.world_rounds.specs.Taking.{HasTakenTurns, tasks_by}
use Rattle.world_rounds.specs.World.{IsMemberAhead, IsWorldAhead}
use Rattle.world_rounds.specs.declared.member.Member.{Member}
use Rattle.world_rounds.specs.declared.world.World.{World}
use Rattle.history.proofs.Standings.{fact_here, fact_there, is_no_turn_of}

-- what is found in a list with another element at one place
pub set_cases : {X : Type 0} (xs : List X) (i : ℕ) (y : X) (k : ℕ) (x : X) → slice_get (set xs i y) k ≡ Some x → ((k ≡ i) × (x ≡ y)) ⊎ ((k ≢ i) × (slice_get xs k ≡ Some x))
set_cases [] i y k x is = absurd cc
set_cases (z ∷ xs) zero y zero x is = inl (refl, cc)
set_cases (z ∷ xs) zero y (suc k) x is = inr (λ same. omega arith, is)
set_cases (z ∷ xs) (suc i) y zero x is = inr (λ same. omega arith, is)
set_cases (z ∷ xs) (suc i) y (suc k) x is = elim (set_cases xs i y k x is) [
  | inl here ↦ inl (ap suc here.0, here.1)
  | inr there ↦ inr (λ same. there.0 (omega arith), there.1)
]

-- the latest clock reading is no earlier after a cause, or after a turn
later_with : (low : ℤ) (cause : Cause) (latest : ℤ) → low ≤ℤ latest → low ≤ℤ latest_with cause latest
later_with low Campaign latest since = since
later_with low (Tick now) latest since = omega (arith, ints, clamps)
later_with low (Hear letter) latest since = since
later_with low Answer latest since = since

later_reading : (low : ℤ) (turn : Turn) (latest : ℤ) → low ≤ℤ latest → low ≤ℤ latest_after turn latest
later_reading low (Did who cause made) latest since = later_with low cause latest since
later_reading low (Stopped who (Some cause) kept) latest since = later_with low cause latest since
later_reading low (Stopped who None kept) latest since = since
later_reading low (Restarted who) latest since = since
later_reading low (Arrived late) latest since = since

module _ {D : Type 0} (view : DiskView D) (table : Table) where
  -- the world after one turn, by its replicas
  pub world_on : (rows : List Row) (world after : World D) (situation : Situation) (steps left : ℕ → List Taken) (row : Row) → IsWorldAhead view table rows world situation steps
      → StandsBehind table (rows ++ row ∷ []) after.book → after.book.pending ≡ None → after.book.members ≡ world.book.members
      → length after.members.items ≡ length world.members.items → after.cuts ≡ world.cuts → after.latest.0 ≡ latest_after row.turn situation.latest
      → ((k : ℕ) (member : Member D) → slice_get after.members.items k ≡ Some member
      → IsMemberAhead view table (rows ++ row ∷ []) after.book (after_turn world.book.members situation row) k (left k) member)
      → IsWorldAhead view table (rows ++ row ∷ []) after (after_turn world.book.members situation row) left
  world_on rows world after situation steps left row ahead behind rest members count cuts latest each = record {
    at = record {
      sound = ahead.at.sound;
      behind = behind;
      rest = rest;
      few = rw members ahead.at.few;
      standing = sym (stands_after table rows row world.book after.book situation ahead.at members);
      since = later_reading table.window.from.0 row.turn situation.latest ahead.at.since;
      bases = bases_then table rows row world.book after.book situation ahead.at members;
    };
    count = count ∙ ahead.count ∙ sym members;
    each = each;
    cuts = λ from to. ap (λ cuts. is_cut from to cuts.items) cuts ∙ ahead.cuts from to;
    latest = latest;
  }

  pub world_did : (rows : List Row) (world after : World D) (situation : Situation) (ahead_by : ℕ → List Taken) (who : ℕ) (taken : Taken) (more : List Taken) (member : Member D) (made : Option CallRow)
      → IsWorldAhead view table rows world situation ahead_by → ahead_by who ≡ taken ∷ more → slice_get world.members.items who ≡ Some member
      → ((rows : List Row) (old new : ReplicaState) → IsNextStep table rows world.book who taken old new → HasJoinedAt table rows world.book after.book who taken made new) → IfSome made (λ call. call.fate ≡ member.mail.fate)
      → after.members.items ≡ set world.members.items who (record member { mail = noted made (calls_for (option_to_list taken.out.delta)) member.mail }) → after.cuts ≡ world.cuts
      → after.latest.0 ≡ latest_with taken.cause world.latest.0
      → HasTakenTurns view table world.book.members rows situation (tasks_by who (causes_of (taken ∷ []))) (with_fact who more ahead_by) after
  world_did rows world after situation ahead_by who taken more member made ahead mine there joins fated members cuts latest =
      record {
        members_are = joined.joined.members;
        more = joined.row ∷ [];
        turns = (record { made = made; is = joined.joined.turn; fate = subst (λ becomes. IfSome made (λ call. call.fate ≡ becomes)) ahead_mine.mail.fate fated }, refl);
        ahead =
            world_on rows world after situation ahead_by (with_fact who more ahead_by) joined.row ahead joined.joined.behind joined.joined.rest joined.joined.members
            (ap length members ∙ length-set world.members.items who _) cuts
            (latest ∙ ap (latest_with taken.cause) ahead.latest ∙ sym (ap (λ turn. latest_after turn situation.latest) joined.joined.turn)) each;
      }
    where
      ahead_mine : IsMemberAhead view table rows world.book situation who (taken ∷ more) member
      ahead_mine = subst (λ steps. IsMemberAhead view table rows world.book situation who steps member) mine (ahead.each who member there)

      node : IsNodeAhead view table rows world.book who (taken ∷ more) member.node
      node = ahead_mine.running (runs_ahead view table rows world.book situation who taken more member ahead_mine)

      joined : HasJoinedAt table rows world.book after.book who taken made node.took.0
      joined = joins rows node.first node.took.0 (next_step view table rows world.book situation who taken more member.node ahead.at node)

      here : (x : Member D) → x ≡ record member { mail = noted made (calls_for (option_to_list taken.out.delta)) member.mail }
          → IsMemberAhead view table (rows ++ joined.row ∷ []) after.book (after_turn world.book.members situation joined.row) who (with_fact who more ahead_by who) x
      here x is =
          subst (λ x. IsMemberAhead view table (rows ++ joined.row ∷ []) after.book (after_turn world.book.members situation joined.row) who (with_fact who more ahead_by who) x) (sym is)
          (subst (λ steps. IsMemberAhead view table (rows ++ joined.row ∷ []) after.book (after_turn world.book.members situation joined.row) who steps
          (record member { mail = noted made (calls_for (option_to_list taken.out.delta)) member.mail }))
          (sym (fact_here who more ahead_by)) (member_did view table rows world.book after.book situation who taken more made member ahead.at ahead_mine node joined))

      other : (k : ℕ) (x : Member D) → k ≢ who → slice_get world.members.items k ≡ Some x
          → IsMemberAhead view table (rows ++ joined.row ∷ []) after.book (after_turn world.book.members situation joined.row) k (with_fact who more ahead_by k) x
      other k x differs found =
          subst (λ steps. IsMemberAhead view table (rows ++ joined.row ∷ []) after.book (after_turn world.book.members situation joined.row) k steps x)
          (sym (fact_there who more ahead_by k differs))
          (member_stays view table rows joined.row world.book after.book situation k (ahead_by k) x ahead.at joined.joined.members joined.joined.has
          (leaves_other world.book.members situation joined.row k (is_no_turn_of joined.row.turn who k (ap turn_of joined.joined.turn) differs)) (ahead.each k x found))

      each : (k : ℕ) (x : Member D) → slice_get after.members.items k ≡ Some x
          → IsMemberAhead view table (rows ++ joined.row ∷ []) after.book (after_turn world.book.members situation joined.row) k (with_fact who more ahead_by k) x
      each k x found = elim (set_cases world.members.items who _ k x (subst (λ members. slice_get members k ≡ Some x) members found)) [
        | inl mine ↦ subst (λ k. IsMemberAhead view table (rows ++ joined.row ∷ []) after.book (after_turn world.book.members situation joined.row) k (with_fact who more ahead_by k) x) (sym mine.0) (here x mine.1)
        | inr theirs ↦ other k x theirs.0 theirs.1
      ]

pub some_same : {X : Type 0} (found : Option X) (one other : X) → found ≡ Some one → found ≡ Some other → one ≡ other
some_same found one other a b = cc

-- a step of a replica that is ahead may become a turn
pub may_join : {D : Type 0} (view : DiskView D) (table : Table) (rows : List Row) (world : World D) (situation : Situation) (ahead_by : ℕ → List Taken)
    (who : ℕ) (taken : Taken) (more : List Taken) (member : Member D) → IsWorldAhead view table rows world situation ahead_by → ahead_by who ≡ taken ∷ more
    → slice_get world.members.items who ≡ Some member → MayJoin table world.book who taken
may_join view table rows world situation ahead_by who taken more member ahead mine there =
    let mine_ahead = subst (λ steps. IsMemberAhead view table rows world.book situation who steps member) mine (ahead.each who member there) in
    let node = mine_ahead.running (runs_ahead view table rows world.book situation who taken more member mine_ahead) in
    record { rows = rows; old = node.first; new = node.took.0; next = next_step view table rows world.book situation who taken more member.node ahead.at node }
