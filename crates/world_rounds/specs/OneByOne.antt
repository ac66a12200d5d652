-- Turns that are taken one by one: each step of a replica becomes a turn before the next one is taken. Its disk may be armed.
use Rattle.std.specs.Prelude.{◌≡◌, ℕ, Bool, true, false, ⊤, List, [], ◌∷◌, ◌++◌, drop, Option, Some, IsSome, if◌then◌else◌, slice_get, slice_set}
use Rattle.std.specs.Option.{option_to_list}
use Rattle.zone_minutes.specs.Window.{IsInWindow}
use Rattle.zone_minutes.specs.declared.minute.Window.{Window}
use Rattle.cluster_sched.specs.declared.row.SchedRow.{SchedRow}
use Rattle.disk_model.specs.declared.armed.Arm.{Arm}
use Rattle.disk_model.specs.View.{DiskView}
use Rattle.due_set.specs.Table.{Table}
use Rattle.paxos_base.specs.declared.durable.Delta.{Delta}
use Rattle.history.specs.Book.{Row}
use Rattle.history.specs.declared.turn.Cause.{Cause}
use Rattle.history.specs.declared.turn.Cause.TheVariants.{Campaign, Tick, Hear, Answer}
use Rattle.history.specs.declared.turn.Turn.{Turn}
use Rattle.history.specs.declared.turn.Turn.TheVariants.{Stopped}
use Rattle.replica_node.specs.Node.{replica_of}
use Rattle.script_semantics.specs.Arms.{AreTurnsByArms, IsEnough, IsTurnByArm, is_task_of}
use Rattle.script_semantics.specs.Situation.{Do, Situation, Task, after_turn, after_turns}
use Rattle.world_law.specs.Book.{BookState}
use Rattle.world_law.specs.declared.letter.LetterRow.{LetterRow}
use Rattle.world_steps.specs.Parts.{IsSentTo, armed_in}
use Rattle.world_steps.specs.Stops.{HasStopped, IsAttached}
use Rattle.world_steps.specs.declared.armed.Outcome.{Outcome}
use Rattle.world_steps.specs.declared.armed.Outcome.TheVariants as outcome
use Rattle.world_rounds.specs.Rounds.{IsMemberIdle}
use Rattle.world_rounds.specs.World.{IsMemberAhead, IsWorldAt}
use Rattle.world_rounds.specs.declared.member.Member.{Member}
use Rattle.world_rounds.specs.declared.world.World.{World}

-- ---- one step

-- by these letters, and with this answer that waits for it, a replica can be told of the cause
abbrev pub CanTell : List LetterRow → Option SchedRow → (who : ℕ) → Cause → Type 0
CanTell letters waits who Campaign = ⊤
CanTell letters waits who (Tick now) = ⊤
CanTell letters waits who (Hear number) = IsSentTo letters who number
CanTell letters waits who Answer = IsSome waits

-- the cause may come next in the situation: a letter to be heard is the first of the mail
abbrev pub MayBeNext : Window → Situation → (who : ℕ) → Cause → Type 0
MayBeNext window situation who Campaign = ⊤
MayBeNext window situation who (Tick now) = IsInWindow window now.0
MayBeNext window situation who (Hear number) = (rest : List ℕ) × (situation.mails who ≡ number ∷ rest)
MayBeNext window situation who Answer = IsSome (situation.standing.waits who)

-- a replica that runs may take a step for the cause
pub record MayStepFor (window : Window) (situation : Situation) (who : ℕ) (cause : Cause) : Type 0 where
  pub runs : situation.standing.runs who ≡ true
  pub next : MayBeNext window situation who cause

-- so it may beside a book, by some rows
pub record MayTakeBeside {D : Type 0} (view : DiskView D) (table : Table) (book : BookState) (who : ℕ) (cause : Cause) (member : Member D) : Type 0 where
  pub rows : List Row
  pub situation : Situation
  pub idle : IsMemberIdle view table rows book situation who member
  pub may : MayStepFor table.window situation who cause

-- a letter that is heard leaves the mail, as the first of it
abbrev pub letters_behind : Cause → List ℕ → List ℕ
letters_behind (Hear number) letters = drop 1 letters
letters_behind cause letters = letters

-- the disk has stopped within the step, and no step waits to become a turn
pub record HasBroken {D : Type 0} (view : DiskView D) (table : Table) (rows : List Row) (book : BookState) (situation : Situation) (who : ℕ)
    (cause : Cause) (answer : Option Delta) (new : Member D) : Type 0 where
  pub arm : Arm
  pub armed : armed_in (Some arm) ≡ situation.arms who
  pub stopped : HasStopped table rows book who cause arm answer (replica_of new.node).state.kept
  pub attached : IsAttached view table rows book who answer new.node
  pub none : new.steps.items ≡ []

-- what came of the step: the replica is a step ahead of the book, or its disk has stopped
abbrev pub EndsStep : {D : Type 0} → DiskView D → Table → List Row → BookState → Situation → (who : ℕ) → Cause → Outcome → (new : Member D) → Type 0
EndsStep view table rows book situation who cause (outcome.Taken taken) new =
    (taken.cause ≡ cause) × IsEnough (situation.arms who) (option_to_list taken.out.delta) × IsMemberAhead view table rows book situation who (taken ∷ []) new
EndsStep view table rows book situation who cause (outcome.Stopped answer) new =
    HasBroken view table rows book situation who cause answer new

-- what the step leaves as it was: the list of steps, where it was taken, and what is set for the replica, where its disk has stopped
abbrev pub KeepsRest : {D : Type 0} → Outcome → (old new : Member D) → Type 0
KeepsRest (outcome.Taken taken) old new = new.steps ≡ old.steps
KeepsRest (outcome.Stopped answer) old new = new.mail ≡ old.mail

-- the disk of a replica of the world has stopped within a step: all else is as before the step
pub record MayCommitStopped {D : Type 0} (view : DiskView D) (table : Table) (rows : List Row) (world : World D) (situation : Situation) (who : ℕ)
    (cause : Cause) (arm : Arm) (answer : Option Delta) : Type 0 where
  pub before : World D
  pub is : IsWorldAt view table rows before situation
  pub may : MayStepFor table.window situation who cause
  pub armed : armed_in (Some arm) ≡ situation.arms who
  pub old : Member D
  pub there : slice_get before.members.items who ≡ Some old
  pub new : Member D
  pub members : world.members.items ≡ slice_set before.members.items who new
  pub stopped : HasStopped table rows before.book who cause arm answer (replica_of new.node).state.kept
  pub attached : IsAttached view table rows before.book who answer new.node
  pub mail : new.mail ≡ old.mail
  pub steps : new.steps.items ≡ []
  pub book : world.book ≡ before.book
  pub cuts : world.cuts ≡ before.cuts
  pub latest : world.latest ≡ before.latest

-- ---- one turn

-- the replica goes on after the turn
abbrev pub goes_on : Turn → Bool
goes_on (Stopped who cause kept) = false
goes_on turn = true

-- The world has taken the turn of a replica's step, and no letter of it has joined a mail yet.
pub record HasStepped {D : Type 0} (view : DiskView D) (table : Table) (members : ℕ) (rows : List Row) (situation : Situation) (who : ℕ)
    (cause : Cause) (goes : Bool) (new : World D) : Type 0 where
  pub row : Row
  pub turn : IsTurnByArm members situation (Do who cause) row
  pub goes_is : goes_on row.turn ≡ goes
  pub at : IsWorldAt view table (rows ++ row ∷ []) new (after_turn members situation row)

-- ---- the turns of one replica

-- the tasks are all the replica's
abbrev pub AreTasksOf : ℕ → List Task → Type 0
AreTasksOf who [] = ⊤
AreTasksOf who (task ∷ tasks) = (is_task_of who task ≡ true) × AreTasksOf who tasks

-- The rows are the turns of some tasks of a replica, which goes on or has stopped within one: whatever tasks of it come behind these, the
-- turns of them are those that follow, or none.
abbrev pub LeadsOn : ℕ → (who : ℕ) → Situation → List Task → List Row → Bool → Type 0
LeadsOn members who situation tasks rows goes =
    (more : List Task) (rest : List Row) → AreTasksOf who more → AreTurnsByArms members (after_turns members situation rows) (if goes then more else []) rest
    → AreTurnsByArms members situation (tasks ++ more) (rows ++ rest)

-- The world has taken such turns. Where the replica goes on it runs.
pub record IsLed {D : Type 0} (view : DiskView D) (table : Table) (members : ℕ) (rows : List Row) (situation : Situation) (who : ℕ)
    (tasks : List Task) (goes : Bool) (new : World D) : Type 0 where
  pub more : List Row
  pub leads : LeadsOn members who situation tasks more goes
  pub at : IsWorldAt view table (rows ++ more) new (after_turns members situation more)
  pub runs : goes ≡ true → (after_turns members situation more).standing.runs who ≡ true

-- so it has, and where the replica goes on its mail is as it was
pub record IsLedOn {D : Type 0} (view : DiskView D) (table : Table) (members : ℕ) (rows : List Row) (situation : Situation) (who : ℕ)
    (tasks : List Task) (goes : Bool) (new : World D) : Type 0 where
  pub led : IsLed view table members rows situation who tasks goes new
  pub mail : goes ≡ true → (after_turns members situation led.more).mails who ≡ situation.mails who

-- ---- the turns of all

-- the world has taken the turns of these tasks, and no letter of them has joined a mail yet
pub record HasPassed {D : Type 0} (view : DiskView D) (table : Table) (members : ℕ) (rows : List Row) (situation : Situation) (tasks : List Task)
    (new : World D) : Type 0 where
  pub more : List Row
  pub turns : AreTurnsByArms members situation tasks more
  pub at : IsWorldAt view table (rows ++ more) new (after_turns members situation more)
