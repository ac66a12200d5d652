-- What a list of acts comes to: the state after it, what is to be stored, sent, learned and called.
use Rattle.std.specs.Prelude.{ℕ, List, [], ◌∷◌, if◌then◌else◌}
use Rattle.std.specs.List.{flat_map, range_with_len}
use Rattle.paxos_base.specs.declared.durable.Delta.{Delta}
use Rattle.paxos_base.specs.declared.durable.Delta.TheVariants.{Tried, Promised, Voted, Base}
use Rattle.cluster_sched.specs.declared.row.SchedRow.{SchedRow}
use Rattle.step_spec.specs.Act.{Act, Stand, Pledge, Cast, Propose, Learn, Rebase, Call, Send, after_act}
use Rattle.step_spec.specs.Message.{Message, Snap, goes_to}
use Rattle.step_spec.specs.State.{State, Identity}
use Rattle.step_spec.specs.declared.out.LearntRow.{LearntRow}

-- the state after some acts
abbrev pub after_acts : List Act → State → State
after_acts [] state = state
after_acts (act ∷ acts) state = after_acts acts (after_act act state)

-- what an act changes on the disk
unfoldable pub deltas_by : Act → List Delta
deltas_by (Stand me ballot) = Tried ballot ∷ []
deltas_by (Pledge ballot) = Promised ballot ∷ []
deltas_by (Cast vote) = Voted vote ∷ []
deltas_by (Propose me vote) = Voted vote ∷ []
deltas_by (Rebase slot rows) = Base slot rows ∷ []
deltas_by act = []

-- what some acts change on the disk, in order
abbrev pub deltas_of : List Act → List Delta
deltas_of acts = flat_map deltas_by acts

-- what an act learns
unfoldable pub learnt_by : Act → List LearntRow
learnt_by (Learn slot entry) = record { slot = slot; entry = entry } ∷ []
learnt_by act = []

-- what some acts learn, in order
abbrev pub learnt_of : List Act → List LearntRow
learnt_of acts = flat_map learnt_by acts

-- the launch tables that an act sends
unfoldable pub copies_by : Act → List Message
copies_by (Send whom (Snap slot rows)) = Snap slot rows ∷ []
copies_by act = []

-- the launch tables that some acts send, in order
abbrev pub copies_of : List Act → List Message
copies_of acts = flat_map copies_by acts

-- the scheduler's calls of an act
unfoldable pub calls_by : Act → List SchedRow
calls_by (Call row) = row ∷ []
calls_by act = []

-- the scheduler's calls of some acts, in order
abbrev pub calls_of : List Act → List SchedRow
calls_of acts = flat_map calls_by acts

-- what an act sends to a replica
unfoldable pub sent_by : (me member : ℕ) → Act → List Message
sent_by me member (Send whom message) = if goes_to me whom member then message ∷ [] else []
sent_by me member act = []

-- what some acts send to a replica, in order
abbrev pub sent_to : (me member : ℕ) → List Act → List Message
sent_to me member acts = flat_map (sent_by me member) acts

-- a letter: to whom, and what it says
pub record Addressed : Type 0 where
  pub to : ℕ
  pub messages : List Message

-- the letter to a replica, where anything is said to it
abbrev pub letter_of : ℕ → List Message → List Addressed
letter_of to [] = []
letter_of to (message ∷ messages) = record { to = to; messages = message ∷ messages } ∷ []

-- the letters of some acts: to each replica at most one, in the order of their numbers
abbrev pub letters_of : Identity → List Act → List Addressed
letters_of self acts = flat_map (λ member. letter_of member (sent_to self.me member acts)) (range_with_len 0 self.members)
