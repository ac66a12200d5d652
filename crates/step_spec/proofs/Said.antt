-- For whatever a replica is told there is a setting in which it was said.
use Rattle.std.proofs.Common.{ℕ, ◌<◌, List, [], ◌∷◌, Some, refl}
use Rattle.std.specs.Prelude.{Contains, map}
use Rattle.std.specs.List.{AllByRecursion}
use Rattle.due_set.specs.Table.{Table}
use Rattle.step_spec.specs.Coherent.{IsCoherent}
use Rattle.step_spec.specs.Folds.{after_acts}
use Rattle.step_spec.specs.May.{AllMay, Ending, Saying, Setting, TellsWhatWasSaid, WasSaid}
use Rattle.step_spec.specs.Message.{Message, Prepare, Promise, Accept, Accepted, Nack, Known, AskFrom, Snap, Lead, Mention}
use Rattle.step_spec.specs.State.{Identity, State}
use Rattle.step_spec.specs.Step.{Event, Campaign, Tick, Hear, Answer, IsPlanned, step}
use Rattle.step_spec.proofs.LineLemmas.{acts_sound, step_may}
use Rattle.due_set.proofs.Rising.{Contains-head as in_first, Contains-tail as in_rest}

-- what was said where this is heard: the message itself, and a promise for the mention of one of its votes
abbrev meant_by : Message → Message
meant_by (Mention ballot) = Promise ballot 0 []
meant_by message = message

abbrev said_by : ℕ → Message → Saying
said_by from message = record { by = from; message = meant_by message }

abbrev said_in : Event → List Saying
said_in (Hear from messages) = map (said_by from) messages
said_in event = []

abbrev answered_in : Identity → Event → List Ending
answered_in self (Answer job at kind rows) = record { to = self.me; job = job; at = at; kind = kind } ∷ []
answered_in self event = []

-- the setting in which an event was told truly
abbrev pub setting_of : Identity → Table → Event → Setting
setting_of self table event = record { self = self; table = table; event = Some event; said = said_in event; answered = answered_in self event }

was_said : (said : List Saying) (from : ℕ) (message : Message) → Contains said (said_by from message) → WasSaid said from message
was_said said from (Prepare ballot slot) there = there
was_said said from (Promise ballot slot votes) there = there
was_said said from (Accept vote) there = there
was_said said from (Accepted ballot slot) there = there
was_said said from (Nack ballot promised) there = there
was_said said from (Known slot entry) there = there
was_said said from (AskFrom slot) there = there
was_said said from (Snap slot rows) there = there
was_said said from (Lead ballot slot) there = there
was_said said from (Mention ballot) there = (0, [], there)

all_said : (said : List Saying) (from : ℕ) (messages : List Message) → ((saying : Saying) → Contains (map (said_by from) messages) saying → Contains said saying)
    → AllByRecursion (WasSaid said from) messages
all_said said from [] within = tt
all_said said from (message ∷ messages) within = (
  was_said said from message (within (said_by from message) (in_first (said_by from message) (map (said_by from) messages))),
  all_said said from messages (λ saying there. within saying (in_rest (said_by from message) (map (said_by from) messages) saying there)),
)

-- what an event tells was said in its setting
told_truly : (self : Identity) (table : Table) (event : Event) → TellsWhatWasSaid (setting_of self table event) event
told_truly self table Campaign = tt
told_truly self table (Tick now plan) = tt
told_truly self table (Hear from messages) = all_said (map (said_by from) messages) from messages (λ saying there. there)
told_truly self table (Answer job at kind rows) = in_first (record { to = self.me; job = job; at = at; kind = kind }) []

-- so each act of its step may be done there
pub step_may_be_done : (self : Identity) (table : Table) (event : Event) (state : State) → self.me < 8 → IsCoherent self state → IsPlanned table state event
    → AllMay (setting_of self table event) state (step self event state)
step_may_be_done self table event state few coherent planned = step_may (setting_of self table event) state event refl few coherent planned (told_truly self table event)

pub stays_coherent : (self : Identity) (table : Table) (event : Event) (state : State) → self.me < 8 → IsCoherent self state → IsPlanned table state event
    → IsCoherent self (after_acts (step self event state) state)
stays_coherent self table event state few coherent planned =
    acts_sound (setting_of self table event) state (step self event state) coherent (step_may_be_done self table event state few coherent planned)
