-- A node that takes a step beside a book.
use Rattle.std.proofs.Common.{◌≡◌, ℕ, ◌+◌, ◌<◌, ◌≤◌, ◌^◌, List, [], ◌∷◌, ◌++◌, length, Option, None, Some, refl, sym, ap, ◌∙◌, subst, arith, append-nil as append_nil}
use Rattle.std.proofs.lemmas.List.{length-map}
use Rattle.std.proofs.lemmas.List.Concat.{flat_map-append}
use Rattle.std.specs.Option.{option_to_list}
use Rattle.disk_model.specs.View.{DiskView}
use Rattle.cluster_sched.specs.declared.row.SchedRow.{SchedRow}
use Rattle.due_set.specs.Table.{Table}
use Rattle.paxos_base.specs.declared.durable.Delta.{Delta}
use Rattle.step_spec.specs.Step.{IsLaunchTable}
use Rattle.history.specs.Book.{Row}
use Rattle.history.specs.declared.turn.Cause.{Cause}
use Rattle.history.proofs.BookLemmas.{replicas_small}
use Rattle.history.specs.Numbers.{IsSmallReplica}
use Rattle.replica_core.specs.Replica.{IsSmall, ReplicaState}
use Rattle.replica_core.specs.Step.{Steps}
use Rattle.replica_core.specs.declared.input.Input.{Input}
use Rattle.replica_core.specs.declared.out.StepOut.{StepOut}
use Rattle.replica_node.proofs.ArmLemmas.{area_by_bases}
use Rattle.replica_node.specs.Kept.{IsNodeClean, area_by, area_for}
use Rattle.replica_node.specs.Node.{IsChangeOf, IsNodeAtRest, disk_of, replica_of, store_of}
use Rattle.replica_node.specs.Reliable.{IsReliable}
use Rattle.replica_node.specs.declared.node.Node.{Node}
use Rattle.replica_store.specs.Store.{area_of}
use Rattle.script_semantics.specs.Situation.{bases_with}
use Rattle.world_law.specs.Book.{BookState, standing_behind}
use Rattle.world_law.specs.declared.letter.LetterRow.{LetterRow}
use Rattle.world_steps.specs.Nodes.{bases_behind}
use Rattle.world_steps.proofs.Bases.{bases_more}
use Rattle.world_steps.proofs.Foreseen.{Foreseen, foresee}
use Rattle.world_steps.specs.Steps.{IsBeside, TookStep, changes_of, TookSteps, WasToldOf, waits_behind, waits_in}
use Rattle.world_steps.specs.declared.steps.Taken.{Taken}

none_behind : (steps : List Taken) → waits_behind steps None ≡ None
none_behind [] = refl
none_behind (taken ∷ more) = refl

-- one step more
pub took_next : (table : Table) (letters : List LetterRow) (waits : Option SchedRow) (who : ℕ) (steps : List Taken) (taken : Taken) (old middle new : ReplicaState)
    → TookSteps table letters waits who steps old middle → TookStep table letters (waits_behind steps waits) who taken middle new
    → TookSteps table letters waits who (steps ++ taken ∷ []) old new
took_next table letters waits who [] taken old middle new took step = (new, subst (λ r. TookStep table letters waits who taken r new) took step, refl)
took_next table letters waits who (first ∷ more) taken old middle new took step =
    (took.0, took.1, took_next table letters None who more taken took.0 middle new took.2 (subst (λ w. TookStep table letters w who taken middle new) (sym (none_behind more)) step))

-- the area that a change leads to is that of the bases with it
pub area_with : (change : Option Delta) (bases : ℕ) → area_for change (area_by bases) ≡ area_by (bases_with (option_to_list change) bases)
area_with None bases = refl
area_with (Some change) bases = area_by_bases bases change

-- the change of a step
pub change_in : (table : Table) (input : Input) (old new : ReplicaState) (out : StepOut) → Steps table input old new out → IsChangeOf table input old out.delta
change_in table input old new out steps = record { event = steps.event; event_is = steps.event_is; change_is = steps.took.delta }

-- the changes with those of one step more
pub changes_next : (steps : List Taken) (taken : Taken) → changes_of (steps ++ taken ∷ []) ≡ changes_of steps ++ option_to_list taken.out.delta
changes_next steps taken = flat_map-append (λ (t : Taken). option_to_list t.out.delta) steps (taken ∷ []) ∙ ap (λ (last : List Delta). changes_of steps ++ last) (append_nil (option_to_list taken.out.delta))

module _ {D : Type 0} (view : DiskView D) where
  -- a node ahead of a book is small
  pub ahead_small : (table : Table) (rows : List Row) (book : BookState) (who : ℕ) (steps : List Taken) (node : Node D)
      → IsBeside view table rows book who steps node → length book.turns < 2 ^ 31 → length steps < 2 ^ 31
      → IsSmall (replica_of node).state (replica_of node).machine.rows
  ahead_small table rows book who steps node beside turns more =
      record { tried = small.tried; seen = small.seen; prefix = small.prefix; counts = small.counts (replica_of node).machine.rows launches }
    where
      count : length rows < 2 ^ 31
      count = omega (arith, ap length beside.behind.turns, length-map rows (λ (row : Row). row.turn))

      now : Foreseen table book.members (length rows) book.letters (waits_in table rows book who) who beside.ahead.first
      now = record {
        rows = rows;
        book = book;
        behind = beside.behind;
        rest = beside.rest;
        members_are = refl;
        stands = beside.ahead.stands;
        me = beside.ahead.me;
        count = refl;
        has = λ number letter there. there;
        waiting = λ row is. is;
      }

      seen_later : (late : Option SchedRow) × Foreseen table book.members (length rows + length steps) book.letters late who (replica_of node)
      seen_later = foresee table book.members (length rows) book.letters (waits_in table rows book who) who steps beside.ahead.first (replica_of node) beside.few now beside.ahead.took

      later : Foreseen table book.members (length rows + length steps) book.letters seen_later.0 who (replica_of node)
      later = seen_later.1

      few_later : later.book.members ≤ 7
      few_later = rw later.members_are beside.few

      turns_later : length later.rows < 2 ^ 59
      turns_later =
          let same : length later.rows ≡ length rows + length steps = later.count in
          let most : length rows < 2 ^ 31 = count in omega arith

      stood : IsSmallReplica table ((standing_behind table later.rows later.book).replicas (replica_of node).identity.me)
      stood = replicas_small later.book.members table later.rows (replica_of node).identity.me few_later beside.sound later.behind.legal turns_later later.stands.member

      small : IsSmallReplica table (replica_of node).state
      small = subst (λ state. IsSmallReplica table state) (sym later.stands.state) stood

      launches : IsLaunchTable table (replica_of node).state (replica_of node).machine.rows
      launches = later.stands.of_table.rows

  -- and is one step more ahead of it after the next
  pub beside_next : (table : Table) (rows : List Row) (book : BookState) (who : ℕ) (steps : List Taken) (old new : Node D) (cause : Cause) (input : Input) (out : StepOut)
      → IsBeside view table rows book who steps old → WasToldOf table rows book who steps cause input → IsNodeAtRest view table new → view.honest (disk_of new)
      → IsReliable (view.told (disk_of new)) → IsNodeClean view new → area_of (store_of new) ≡ area_for out.delta (area_of (store_of old))
      → Steps table input (replica_of old) (replica_of new) out → IsBeside view table rows book who (steps ++ record { cause = cause; out = out } ∷ []) new
  beside_next table rows book who steps old new cause input out beside told rest trusted reliable clean area stepped = record {
    sound = beside.sound;
    behind = beside.behind;
    rest = beside.rest;
    few = beside.few;
    ahead = record {
      at_rest = rest;
      trusted = trusted;
      disk = record { reliable = reliable; clean = clean; area = area_is };
      first = beside.ahead.first;
      stands = beside.ahead.stands;
      me = beside.ahead.me;
      took =
          took_next table book.letters (waits_in table rows book who) who steps (record { cause = cause; out = out }) beside.ahead.first (replica_of old) (replica_of new)
          beside.ahead.took (record { input = input; is_told = told.is_told; inside = told.inside; steps = stepped });
    };
  }
    where
      bases : ℕ
      bases = bases_behind table rows book who

      area_is : area_of (store_of new) ≡ area_by (bases_with (changes_of (steps ++ record { cause = cause; out = out } ∷ [])) bases)
      area_is =
          area ∙ ap (area_for out.delta) beside.ahead.disk.area ∙ area_with out.delta (bases_with (changes_of steps) bases)
          ∙ ap area_by (sym (bases_more (changes_of steps) (option_to_list out.delta) bases) ∙ ap (λ (changes : List Delta). bases_with changes bases) (sym (changes_next steps (record { cause = cause; out = out }))))
