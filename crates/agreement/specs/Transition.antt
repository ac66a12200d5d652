-- Transitions of replicas: what one does at an event, also where it is stopped in the midst of it, and how it starts again.
use Rattle.std.specs.Prelude.{◌≡◌, ℕ, ◌<◌, ⊤, Bool, true, false, Option, None, Some, List, [], ◌∷◌, ◌++◌}
use Rattle.std.specs.List.{filter}
use Rattle.paxos_base.specs.declared.entry.Kind.{Kind}
use Rattle.due_set.specs.Table.{Table}
use Rattle.step_spec.specs.Act.{Act, Send, Restart}
use Rattle.step_spec.specs.May.{TellsWhatWasSaid}
use Rattle.step_spec.specs.State.{Identity}
use Rattle.step_spec.specs.Step.{Event, IsPlanned, step}
use Rattle.agreement.specs.World.{Doing, World, after_all, doings_of}

-- the act is not a message that leaves
abbrev pub is_silent : Act → Bool
is_silent (Send whom message) = false
is_silent act = true

-- A replica takes an event, and its call may be answered; or it is stopped while it takes one, after the first so many of its acts, and before any of its
-- messages leaves; or it starts again, with what is on its disk and nothing else.
pub data Transition : Type 0 where
  Did : (by : ℕ) → (event : Event) → (answer : Option Kind) → Transition
  Stopped : (by : ℕ) → (event : Event) → (front back : List Act) → Transition
  Restarted : (by : ℕ) → Transition

-- who a replica is, of so many
abbrev pub identity_of : ℕ → ℕ → Identity
identity_of members by = record { me = by; members = members }

-- the acts of a transition
abbrev pub acts_of : (members : ℕ) → Transition → World → List Act
acts_of members (Did by event answer) world = step (identity_of members by) event (world.replicas by)
acts_of members (Stopped by event front back) world = filter is_silent front
acts_of members (Restarted by) world = Restart by ∷ []

-- who has the transition
abbrev pub done_by : Transition → ℕ
done_by (Did by event answer) = by
done_by (Stopped by event front back) = by
done_by (Restarted by) = by

-- the event of a transition; a start has none
abbrev pub event_of : Transition → Option Event
event_of (Did by event answer) = Some event
event_of (Stopped by event front back) = Some event
event_of (Restarted by) = None

-- what the scheduler answers in a transition
abbrev pub answer_in : Transition → Option Kind
answer_in (Did by event answer) = answer
answer_in (Stopped by event front back) = None
answer_in (Restarted by) = None

-- what is done in a transition
abbrev pub doings_in : (members : ℕ) → Transition → World → List Doing
doings_in members transition world = doings_of (done_by transition) (event_of transition) (answer_in transition) (acts_of members transition world)

-- the world after a transition
abbrev pub after_transition : ℕ → Transition → World → World
after_transition members transition world = after_all (doings_in members transition world) world

-- the world after some transitions
abbrev pub after_transitions : ℕ → List Transition → World → World
after_transitions members [] world = world
after_transitions members (transition ∷ transitions) world = after_transitions members transitions (after_transition members transition world)

-- the replica may take the event: its launch table says so, each message that it hears was said, and its scheduler has
-- answered what it takes for answered
pub record MayTake (members : ℕ) (table : Table) (world : World) (by : ℕ) (event : Event) : Type 0 where
  pub member : by < members
  pub planned : IsPlanned table (world.replicas by) event
  pub heard : TellsWhatWasSaid (record { self = identity_of members by; table = table; event = Some event; said = world.said; answered = world.answered }) event

-- a transition that may come next
abbrev pub MayCome : ℕ → Table → World → Transition → Type 0
MayCome members table world (Did by event answer) = MayTake members table world by event
MayCome members table world (Stopped by event front back) =
    MayTake members table world by event × (step (identity_of members by) event (world.replicas by) ≡ front ++ back)
MayCome members table world (Restarted by) = by < members

-- transitions of which each may come where it does
abbrev pub AreTransitions : ℕ → Table → World → List Transition → Type 0
AreTransitions members table world [] = ⊤
AreTransitions members table world (transition ∷ transitions) =
    MayCome members table world transition × AreTransitions members table (after_transition members transition world) transitions
