-- Replicas and what they have done: any of them, in any order, acts that may be done where they are.
use Rattle.std.specs.Prelude.{ℕ, ◌==◌, ◌<◌, ⊤, Option, None, Some, List, [], ◌∷◌, ◌++◌, map, if◌then◌else◌}
use Rattle.paxos_base.specs.declared.durable.Durable.{Durable}
use Rattle.paxos_base.specs.declared.entry.Entry.{Entry}
use Rattle.paxos_base.specs.declared.entry.Kind.{Kind}
use Rattle.paxos_base.specs.declared.entry.Vote.{Vote}
use Rattle.paxos_base.specs.declared.rows.JobRow.{JobRow}
use Rattle.due_set.specs.Table.{Table}
use Rattle.step_spec.specs.Act.{Act, Cast, Propose, Learn, Call, Send, after_act}
use Rattle.step_spec.specs.May.{May, Ending, Saying}
use Rattle.step_spec.specs.State.{State, started}
use Rattle.step_spec.specs.Step.{Event}

-- a vote, and who cast it
pub record CastVote : Type 0 where
  pub by : ℕ
  pub vote : Vote

-- an entry that was learned for a slot, and by whom
pub record Learning : Type 0 where
  pub by : ℕ
  pub slot : ℕ
  pub entry : Entry

-- what each replica knows, and all that was cast, said, learned and answered by the scheduler so far
pub record World : Type 0 where
  pub replicas : ℕ → State
  pub cast : List CastVote
  pub said : List Saying
  pub learned : List Learning
  pub answered : List Ending

-- what a replica keeps before it has done anything
abbrev pub fresh : List JobRow → Durable
fresh rows = record { tried = 0; promised = None; votes = []; base = 0; rows = rows }

-- the world before anything was done
abbrev pub first_world : List JobRow → World
first_world rows = record { replicas = λ me. started me (fresh rows); cast = []; said = []; learned = []; answered = [] }

-- the votes with those of an act
abbrev pub cast_after : ℕ → Act → List CastVote → List CastVote
cast_after by (Cast vote) cast = cast ++ record { by = by; vote = vote } ∷ []
cast_after by (Propose me vote) cast = cast ++ record { by = by; vote = vote } ∷ []
cast_after by act cast = cast

-- what was said, with what an act says
abbrev pub said_after : ℕ → Act → List Saying → List Saying
said_after by (Send whom message) said = said ++ record { by = by; message = message } ∷ []
said_after by act said = said

-- what was learned, with what an act learns
abbrev pub learned_after : ℕ → Act → List Learning → List Learning
learned_after by (Learn slot entry) learned = learned ++ record { by = by; slot = slot; entry = entry } ∷ []
learned_after by act learned = learned

-- what was answered, with the answer to a call, where an act is one that was answered
abbrev pub answered_after : ℕ → Act → Option Kind → List Ending → List Ending
answered_after by (Call row) (Some kind) answered =
    answered ++ record { to = by; job = row.name.job; at = row.name.at; kind = kind } ∷ []
answered_after by act answer answered = answered

-- the replicas with one of them changed
abbrev pub with_replica : ℕ → State → (ℕ → State) → ℕ → State
with_replica by state replicas other = if other == by then state else replicas other

-- the world after an act of a replica, before the scheduler answers
unfoldable pub after_doing : ℕ → Act → World → World
after_doing by act world =
    record {
      replicas = with_replica by (after_act act (world.replicas by)) world.replicas;
      cast = cast_after by act world.cast;
      said = said_after by act world.said;
      learned = learned_after by act world.learned;
      answered = world.answered;
    }

-- An act, who does it, and at what event, or at none where it starts; and what the scheduler says that the launch came to, where
-- the act is a call that is answered.
pub record Doing : Type 0 where
  pub by : ℕ
  pub event : Option Event
  pub act : Act
  pub answer : Option Kind

-- the world once the scheduler has answered
abbrev pub after_answer : Doing → World → World
after_answer doing world = record world { answered = answered_after doing.by doing.act doing.answer world.answered }

-- the world after what is done
abbrev pub after_done : Doing → World → World
after_done doing world = after_answer doing (after_doing doing.by doing.act world)

-- the world after some acts
abbrev pub after_all : List Doing → World → World
after_all [] world = world
after_all (doing ∷ doings) world = after_all doings (after_done doing world)

-- one of so many replicas does an act that it may do, by what was said and answered so far
pub record MayDo (members : ℕ) (table : Table) (world : World) (doing : Doing) : Type 0 where
  pub member : doing.by < members
  pub may : May (record {
    self = record { me = doing.by; members = members };
    table = table;
    event = doing.event;
    said = world.said;
    answered = world.answered;
  })
      (world.replicas doing.by) doing.act

-- each of some acts may be done where it is
abbrev pub AllMayDo : ℕ → Table → World → List Doing → Type 0
AllMayDo members table world [] = ⊤
AllMayDo members table world (doing ∷ doings) =
    MayDo members table world doing × AllMayDo members table (after_done doing world) doings

-- the acts of one replica at an event, one after another, of which a call has this answer
abbrev pub doings_of : ℕ → Option Event → Option Kind → List Act → List Doing
doings_of by event answer acts = map (λ act. record { by = by; event = event; act = act; answer = answer }) acts
