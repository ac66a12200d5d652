-- A step of a replica: what it is told, and what comes of it.
use Rattle.std.specs.Prelude.{◌≡◌, ℕ, ◌<◌, ◌≤◌, ◌^◌, List, [], length, Option, None, Some, Result, Ok, Err, ⊤, ℤ}
use Rattle.std.specs.Option.{option_map, option_to_list}
use Rattle.launch_machine.specs.Clerk.{table_size}
use Rattle.paxos_letter.specs.Letters.{letter_fault_of}
use Rattle.paxos_letter.specs.declared.fault.LetterFault.{LetterFault}
use Rattle.term_core.specs.Term.{best_votes}
use Rattle.zone_minutes.specs.Window.{IsInWindow}
use Rattle.due_set.specs.Table.{Table}
use Rattle.launch_machine.specs.Answers.{IsIntent}
use Rattle.launch_machine.specs.Machine.{StandsFor}
use Rattle.step_spec.specs.Act.{Act}
use Rattle.step_spec.specs.Folds.{after_acts, calls_of, deltas_of, learnt_of}
use Rattle.step_spec.specs.Hear.{hear_all, not_yet}
use Rattle.step_spec.specs.Letters.{IsHeardAs}
use Rattle.step_spec.specs.Message.{Message}
use Rattle.step_spec.specs.State.{prefix_of}
use Rattle.step_spec.specs.Step.{Event, IsLaunchTable, Plan, step}
use Rattle.step_spec.specs.Step as told
use Rattle.replica_draft.specs.Draft.{delta_of, done, drafted, with_best}
use Rattle.replica_draft.specs.Letters.{AreLettersFrom}
use Rattle.replica_core.specs.Replica.{IsSteadyAt, Makes, ReplicaState, own_identity, idle_in, fixed_in, replica_of_core, state_of, new_votes_of}
use Rattle.replica_draft.specs.declared.draft.Draft.{Draft}
use Rattle.replica_core.specs.declared.input.Input.{Input}
use Rattle.replica_core.specs.declared.input.Input.TheVariants.{Campaign, Tick, Hear, Answer}
use Rattle.replica_core.specs.declared.input.StepFault.{StepFault}
use Rattle.replica_core.specs.declared.input.StepFault.TheVariants.{Letter, OutOfMemory}
use Rattle.replica_core.specs.declared.out.StepOut.{StepOut}
use Rattle.replica_core.specs.declared.parts.Core.{Core}
use Rattle.replica_core.specs.declared.replica.Planned.{Planned}

-- one replica is as another, but for the room that it has
pub record IsSameReplica (one other : ReplicaState) : Type 0 where
  pub identity : one.identity ≡ other.identity
  pub state : one.state ≡ other.state
  pub machine : one.machine ≡ other.machine

-- the replica is one of this table of jobs: its launch table is one of that table, and has the rows that its state comes to
pub record IsOfTable (table : Table) (replica : ReplicaState) : Type 0 where
  pub stands : StandsFor table replica.machine
  pub rows : IsLaunchTable table replica.state replica.machine.rows

-- the launch table asks for this at a clock reading
pub record IsAskedFor (table : Table) (replica : ReplicaState) (now : ℤ) (plan : Plan) : Type 0 where
  pub rows : plan.rows ≡ replica.machine.rows
  pub intent : IsIntent table plan.rows now plan.intent

-- the event that an input is to the replica, with what its launch table says to that
abbrev pub IsEventOf : Table → ReplicaState → Input → Event → Type 0
IsEventOf table replica Campaign event = event ≡ told.Campaign
IsEventOf table replica (Tick now) event = (plan : Plan) × IsAskedFor table replica now.0 plan × (event ≡ told.Tick now.0 plan)
IsEventOf table replica (Hear bytes) event =
    (from : ℕ) × (messages : List Message) × IsHeardAs replica.identity.members (table_size table) bytes.now from messages × (event ≡ told.Hear from messages)
IsEventOf table replica (Answer job at kind) event = event ≡ told.Answer job at kind replica.machine.rows

-- a tick's clock reading is in the window
abbrev pub IsInputInside : Table → Input → Type 0
IsInputInside table (Tick now) = IsInWindow table.window now.0
IsInputInside table input = ⊤

-- what comes of acts: the state after them, with its launch table, and what they store, send, learn and call
pub record Takes (table : Table) (old new : ReplicaState) (acts : List Act) (out : StepOut) : Type 0 where
  pub identity : new.identity ≡ old.identity
  pub state : new.state ≡ after_acts acts old.state
  pub of_table : IsOfTable table new
  pub delta : deltas_of acts ≡ option_to_list out.delta
  pub letters : AreLettersFrom old.identity acts out.letters
  pub learnt : out.learnt ≡ learnt_of acts
  pub call : calls_of acts ≡ option_to_list out.call

-- a step of the replica at an input
pub record Steps (table : Table) (input : Input) (old new : ReplicaState) (out : StepOut) : Type 0 where
  pub event : Event
  pub event_is : IsEventOf table old input event
  pub took : Takes table old new (step old.identity event old.state) out

-- a draft does just what the replica does at an input
pub record MakesStep (table : Table) (input : Input) (core : Core) (draft : Draft) : Type 0 where
  pub event : Event
  pub event_is : IsEventOf table (replica_of_core core) input event
  pub makes : Makes core (step (own_identity core) event (state_of core)) draft

-- a draft does just what the replica does at a letter
pub record HearsLetter (table : Table) (bytes : List ℕ) (core : Core) (draft : Draft) : Type 0 where
  pub from : ℕ
  pub messages : List Message
  pub heard : IsHeardAs core.members (table_size table) bytes from messages
  pub makes : Makes core (hear_all (own_identity core) from messages not_yet (state_of core)) draft

-- a step is planned that does these acts
pub record Plans (replica : ReplicaState) (acts : List Act) (planned : Planned) : Type 0 where
  pub makes : drafted (fixed_in replica) planned.draft ≡ done acts (idle_in replica)
  pub letters : AreLettersFrom replica.identity acts planned.effects.letters
  pub delta : planned.effects.delta ≡ option_map delta_of planned.draft.change

-- a step of the replica at an input is planned
pub record PlansStep (table : Table) (input : Input) (replica : ReplicaState) (planned : Planned) : Type 0 where
  pub event : Event
  pub event_is : IsEventOf table replica input event
  pub plans : Plans replica (step replica.identity event replica.state) planned

-- a step of the replica in which nothing is planned yet
pub record IsUnplanned (replica : ReplicaState) (planned : Planned) : Type 0 where
  pub stands : drafted (fixed_in replica) planned.draft ≡ idle_in replica
  pub best : planned.draft.best ≡ None
  pub change : planned.draft.change ≡ None
  pub call : planned.draft.call ≡ None
  pub learnt : planned.draft.learnt.items ≡ []
  pub term : with_best (best_votes replica.state.term) planned.draft.term ≡ replica.state.term

-- a planned step can be taken by a replica that is as this one, but for its room: there is room for it, and what it brings is fit
pub record CanTake (table : Table) (replica : ReplicaState) (planned : Planned) : Type 0 where
  pub votes : new_votes_of planned.draft.change ≤ replica.votes_room
  pub entries : length planned.draft.learnt.items ≤ replica.entries_room
  pub delta : planned.effects.delta ≡ option_map delta_of planned.draft.change
  pub steady : IsSteadyAt table replica.machine replica.state.kept.base (prefix_of replica.state) planned.draft
  pub few : length planned.draft.learnt.items < 2 ^ 31

-- the first rule that the bytes of a letter break
abbrev pub fault_in : ℕ → Input → Option LetterFault
fault_in members (Hear bytes) = letter_fault_of members bytes.now
fault_in members input = None

-- the rule that an answer says a letter breaks, where it says so
abbrev pub fault_told : {X : Type 0} → Result X StepFault → Option LetterFault
fault_told (Ok answer) = None
fault_told (Err (Letter fault)) = Some fault
fault_told (Err OutOfMemory) = None
