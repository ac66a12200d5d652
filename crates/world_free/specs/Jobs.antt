-- What the thread of a replica knows between its turns, and when it has taken a step that is no turn yet.
use Rattle.std.specs.Option.{option_to_list}
use Rattle.std.specs.Prelude.{◌≡◌, ◌⊎◌, ℕ, ◌<◌, ◌^◌, true, false, List, [], ◌++◌, length, Option, None, Some, slice_get}
use Rattle.disk_model.specs.declared.armed.Arm.{Arm}
use Rattle.disk_model.specs.View.{DiskView}
use Rattle.paxos_base.specs.declared.durable.Delta.{Delta}
use Rattle.step_spec.specs.State.{started}
use Rattle.agreement.specs.Transition.{identity_of}
use Rattle.history.specs.Book.{Row}
use Rattle.history.specs.declared.turn.Cause.{Cause}
use Rattle.replica_core.specs.Replica.{ReplicaState}
use Rattle.replica_node.specs.Node.{IsNodeAtRest, disk_of, replica_of}
use Rattle.replica_node.specs.declared.node.Node.{Node}
use Rattle.script_semantics.specs.Arms.{IsEnough}
use Rattle.script_semantics.specs.Free.{GoesFreely, after_all_posted, next_cause}
use Rattle.script_semantics.specs.Situation.{Situation, bases_with, is_cut}
use Rattle.turn_book.specs.Turns.{opening_of}
use Rattle.world_law.specs.Book.{BookState, StandsBehind}
use Rattle.world_law.specs.declared.row.BookRow.{BookRow}
use Rattle.world_steps.specs.Nodes.{IsDiskAt, IsNodeOf}
use Rattle.world_steps.specs.Parts.{IsBookAt, IsMailOf}
use Rattle.world_steps.specs.Stops.{HasStopped, IsAttached}
use Rattle.world_steps.specs.Turns.{IsNextStep}
use Rattle.world_steps.specs.declared.armed.Outcome.{Outcome}
use Rattle.world_steps.specs.declared.armed.Outcome.TheVariants.{Taken, Stopped}
use Rattle.world_steps.specs.declared.steps.Taken.{Taken as Step}
use Rattle.world_free.specs.Mails.{IsMailIn, IsStoppedMailIn}
use Rattle.world_free.specs.Plan.{ArePlayed, FreePlan, SharedBook, course_in, plan_of}
use Rattle.world_free.specs.Seats.{IsSeatAt}
use Rattle.world_free.specs.declared.job.FreeJob.{FreeJob}
use Rattle.world_free.specs.declared.job.Setting.{Setting}

-- ---- the part

-- The shared book is that of the plan: it has its table and began with its book, behind which rows stand in the plan's situation; there
-- are as many replicas, and letters are lost as there.
pub record IsOfPlan (plan : FreePlan) (book : SharedBook) : Type 0 where
  pub key : (opening_of book).key.value ≡ plan.table
  pub state : (opening_of book).state.value ≡ plan.book
  pub rows : List Row
  pub at : IsBookAt plan.table rows plan.book plan.situation
  pub cuts : (from to : ℕ) → is_cut from to plan.cuts ≡ is_cut from to plan.situation.cuts
  pub members : plan.members ≡ plan.book.members

-- some rows of the part have what these have, and stand behind a book at rest of few turns
pub record ArePlayedRows (plan : FreePlan) (after : List BookRow) : Type 0 where
  pub begun : List Row
  pub more : List Row
  pub are : ArePlayed plan after begun more
  pub book : BookState
  pub behind : StandsBehind plan.table (begun ++ more) book
  pub rest : book.pending ≡ None
  pub members : book.members ≡ plan.book.members
  pub few : length book.turns < 2 ^ 31

-- the situation after these rows of the part
abbrev pub situation_in : FreePlan → List Row → Situation
situation_in plan more = after_all_posted plan.book.members plan.situation more

-- A replica has gone freely by these rows, of which the last is its own, if there are any; it has had so many turns, and runs.
pub record HasGone (plan : FreePlan) (who taken : ℕ) (more : List Row) : Type 0 where
  pub goes : GoesFreely plan.book.members plan.table.window plan.at plan.turns who plan.situation more
  pub taken_is : (course_in plan who more).taken ≡ taken
  pub last : (course_in plan who more).seen ≡ situation_in plan more
  pub runs : (situation_in plan more).standing.runs who ≡ true

-- A replica has gone freely by these rows, and has stopped in the last of its own.
pub record HasStoppedFreely (plan : FreePlan) (who : ℕ) (more : List Row) : Type 0 where
  pub goes : GoesFreely plan.book.members plan.table.window plan.at plan.turns who plan.situation more
  pub last : (course_in plan who more).seen ≡ situation_in plan more
  pub stopped : (situation_in plan more).standing.runs who ≡ false

-- ---- between two turns

-- the node of a replica
pub record IsNodeFit {D : Type 0} (view : DiskView D) (plan : FreePlan) (who : ℕ) (node : Node D) : Type 0 where
  pub at_rest : IsNodeAtRest view plan.table node
  pub trusted : view.honest (disk_of node)
  pub identity : (replica_of node).identity ≡ identity_of plan.book.members who
  pub member : who < plan.book.members

-- **What the thread of a replica that runs has, after so many turns**: whatever rows of the part have what its seat has seen, the replica has
-- gone freely by them, its node and its disk are where they leave them, and its mail is the one that they leave.
pub record IsRunner {D : Type 0} (view : DiskView D) (plan : FreePlan) (book : SharedBook) (who taken : ℕ) (job : FreeJob D) : Type 0 where
  pub of_plan : IsOfPlan plan book
  pub node : IsNodeFit view plan who job.node
  pub after : List BookRow
  pub seat : IsSeatAt book who after job.seat
  pub some : ArePlayedRows plan after
  pub gone : (begun more : List Row) → ArePlayed plan after begun more → HasGone plan who taken more
  pub state : (begun more : List Row) → ArePlayed plan after begun more → (replica_of job.node).state ≡ (situation_in plan more).standing.replicas who
  pub disk : (begun more : List Row) → ArePlayed plan after begun more → IsDiskAt view ((situation_in plan more).bases who) job.node
  pub mail : (begun more : List Row) → ArePlayed plan after begun more → IsMailIn (situation_in plan more) who job.mail

-- ---- with a step that is no turn yet

-- **The replica has taken a step, for the cause that was next**: the node is one step ahead of all that the seat has seen, and its disk
-- had calls enough left for the save of the step's change.
pub record IsStepper {D : Type 0} (view : DiskView D) (plan : FreePlan) (book : SharedBook) (who taken : ℕ) (step : Step) (job : FreeJob D) : Type 0 where
  pub of_plan : IsOfPlan plan book
  pub node : IsNodeFit view plan who job.node
  pub after : List BookRow
  pub seat : IsSeatAt book who after job.seat
  pub some : ArePlayedRows plan after
  pub left : taken < plan.turns
  pub old : ReplicaState
  pub next : IsNextStep plan.table (some.begun ++ some.more) some.book who step old (replica_of job.node)
  pub gone : (begun more : List Row) → ArePlayed plan after begun more → HasGone plan who taken more
  pub cause : (begun more : List Row) → ArePlayed plan after begun more
      → step.cause ≡ next_cause plan.table.window plan.at who taken (situation_in plan more)
  pub saved : (begun more : List Row) → ArePlayed plan after begun more → IsEnough ((situation_in plan more).arms who) (option_to_list step.out.delta)
  pub disk : (begun more : List Row) → ArePlayed plan after begun more
      → IsDiskAt view (bases_with (option_to_list step.out.delta) ((situation_in plan more).bases who)) job.node
  pub mail : (begun more : List Row) → ArePlayed plan after begun more → IsMailIn (situation_in plan more) who job.mail

-- **The disk of the replica has stopped within the step for the cause that was next**, and the node was attached again; the stop is no turn
-- yet.
pub record IsStopper {D : Type 0} (view : DiskView D) (plan : FreePlan) (book : SharedBook) (who taken : ℕ) (cause : Cause) (change : Option Delta)
    (job : FreeJob D) : Type 0 where
  pub of_plan : IsOfPlan plan book
  pub after : List BookRow
  pub seat : IsSeatAt book who after job.seat
  pub some : ArePlayedRows plan after
  pub left : taken < plan.turns
  pub arm : Arm
  pub armed : job.mail.mail.arm ≡ Some arm
  pub stop : HasStopped plan.table (some.begun ++ some.more) some.book who cause arm change (replica_of job.node).state.kept
  pub attached : IsAttached view plan.table (some.begun ++ some.more) some.book who change job.node
  pub gone : (begun more : List Row) → ArePlayed plan after begun more → HasGone plan who taken more
  pub cause_is : (begun more : List Row) → ArePlayed plan after begun more
      → cause ≡ next_cause plan.table.window plan.at who taken (situation_in plan more)
  pub mail : (begun more : List Row) → ArePlayed plan after begun more → IsMailIn (situation_in plan more) who job.mail

-- what came of the step for a cause: it was taken, or the disk has stopped within it
abbrev pub HasTried : {D : Type 0} → (view : DiskView D) → (plan : FreePlan) → (book : SharedBook) → (who taken : ℕ) → Cause → Outcome → FreeJob D → Type 0
HasTried view plan book who taken cause (Taken step) job = IsStepper view plan book who taken step job
HasTried view plan book who taken cause (Stopped change) job = IsStopper view plan book who taken cause change job

-- ---- a replica that is stopped

-- **The replica has stopped within the part**: whatever rows of the part have what its seat has seen, the last of its own is the stop; its
-- node keeps what they leave it, and nothing is on its way to it.
pub record IsBroken {D : Type 0} (view : DiskView D) (plan : FreePlan) (book : SharedBook) (who : ℕ) (job : FreeJob D) : Type 0 where
  pub of_plan : IsOfPlan plan book
  pub node : IsNodeFit view plan who job.node
  pub after : List BookRow
  pub seat : IsSeatAt book who after job.seat
  pub halted : job.mail.mail.runs ≡ false
  pub started_with : (replica_of job.node).state ≡ started who (replica_of job.node).state.kept
  pub broken : (begun more : List Row) → ArePlayed plan after begun more → HasStoppedFreely plan who more
  pub kept : (begun more : List Row) → ArePlayed plan after begun more
      → (situation_in plan more).standing.replicas who ≡ started who (replica_of job.node).state.kept
  pub disk : (begun more : List Row) → ArePlayed plan after begun more → IsDiskAt view ((situation_in plan more).bases who) job.node
  pub mail : (begun more : List Row) → ArePlayed plan after begun more → IsStoppedMailIn (situation_in plan more) who job.mail.mail

-- the thread has done nothing: the node and the mail are as the part began
pub record HasNotBegun {D : Type 0} (view : DiskView D) (plan : FreePlan) (book : SharedBook) (who : ℕ) (job : FreeJob D) : Type 0 where
  pub seat : IsSeatAt book who [] job.seat
  pub node : (rows : List Row) → IsBookAt plan.table rows plan.book plan.situation → IsNodeOf view plan.table rows plan.book who job.node
  pub mail : IsMailOf plan.book.letters plan.situation who [] job.mail.mail

-- ---- jobs

-- **The job of a replica after so many turns, where it runs**; one that is stopped has been so since the part began, or has stopped within
-- it.
pub record IsJobAt {D : Type 0} (view : DiskView D) (plan : FreePlan) (book : SharedBook) (who taken : ℕ) (job : FreeJob D) : Type 0 where
  pub running : job.mail.mail.runs ≡ true → IsRunner view plan book who taken job
  pub stopped : job.mail.mail.runs ≡ false → HasNotBegun view plan book who job ⊎ IsBroken view plan book who job

-- each replica's job is so
abbrev pub AreJobsAt : {D : Type 0} → (view : DiskView D) → (plan : FreePlan) → (book : SharedBook) → (taken : ℕ) → List (FreeJob D) → Type 0
AreJobsAt {D = D} view plan book taken jobs =
    (who : ℕ) (job : FreeJob D) → slice_get jobs who ≡ Some job → IsJobAt view plan book who taken job

-- each replica's job has had all its turns, of a part that began in this situation
abbrev pub HaveRun : {D : Type 0} → (view : DiskView D) → SharedBook → Setting → Situation → List (FreeJob D) → Type 0
HaveRun view book setting situation jobs =
    AreJobsAt view (plan_of (opening_of book).key.value book situation setting) book setting.turns jobs
