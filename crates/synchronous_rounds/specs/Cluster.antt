-- Rounds while all replicas run and no letter is lost: each has its part of a round by itself, from its own state and mail.
use Rattle.std.specs.Prelude.{ℕ, ◌<◌, ⊤, List, [], ◌∷◌, ◌++◌, map, Option, None, Some, ℤ}
use Rattle.std.specs.List.{flat_map, range_with_len}
use Rattle.paxos_base.specs.declared.rows.JobRow.{JobRow}
use Rattle.due_set.specs.Table.{Table}
use Rattle.cluster_sched.specs.declared.row.SchedRow.{SchedRow}
use Rattle.step_spec.specs.Coherent.{IsCoherent}
use Rattle.step_spec.specs.Folds.{after_acts, calls_of, sent_to}
use Rattle.step_spec.specs.Heard.{heard_as}
use Rattle.step_spec.specs.Message.{Message}
use Rattle.step_spec.specs.State.{Identity, State}
use Rattle.step_spec.specs.Step.{Event, Tick, Hear, Answer, Plan, IsPlanned, step}
use Rattle.agreement.specs.Transition.{identity_of}

-- a letter, as it is heard
pub record HeardLetter : Type 0 where
  pub from : ℕ
  pub messages : List Message

-- the replicas between two rounds, the answers that wait for them, and their mails
pub record Cluster : Type 0 where
  pub replicas : ℕ → State
  pub waits : ℕ → Option SchedRow
  pub mails : ℕ → List HeardLetter

-- what a replica's launch table says in a round: its rows for an answer that waits, and what it asks for at the tick
pub record Advice : Type 0 where
  pub rows : List JobRow
  pub plan : Plan

-- an answer that waits is taken
abbrev pub answer_events : Option SchedRow → List JobRow → List Event
answer_events None rows = []
answer_events (Some row) rows = Answer row.name.job row.name.at row.kind rows ∷ []

-- the letters of a mail are heard, in order
abbrev pub hear_events : List HeardLetter → List Event
hear_events mail = map (λ letter. Hear letter.from letter.messages) mail

-- the events of a replica in a round: an answer, its mail, and a tick
abbrev pub events_of : ℤ → Advice → Option SchedRow → List HeardLetter → List Event
events_of now advice waits mail = answer_events waits advice.rows ++ (hear_events mail ++ Tick now advice.plan ∷ [])

-- the replica after some events
abbrev pub after_events : Identity → List Event → State → State
after_events self [] state = state
after_events self (event ∷ events) state = after_events self events (after_acts (step self event state) state)

-- what is said to a replica in one step, as it hears it: one letter, or none where nothing is said
abbrev pub letter_from : ℕ → List Message → List HeardLetter
letter_from from [] = []
letter_from from (message ∷ messages) = record { from = from; messages = flat_map heard_as (message ∷ messages) } ∷ []

-- the letters to a replica, of some events
abbrev pub letters_to : Identity → ℕ → List Event → State → List HeardLetter
letters_to self member [] state = []
letters_to self member (event ∷ events) state =
    letter_from self.me (sent_to self.me member (step self event state))
    ++ letters_to self member events (after_acts (step self event state) state)

-- the events of one of the replicas
abbrev pub events_at : ℤ → (ℕ → Advice) → Cluster → ℕ → List Event
events_at now advice cluster who = events_of now (advice who) (cluster.waits who) (cluster.mails who)

-- a replica as its clock ticks, once it has taken its answer and heard its mail
abbrev pub before_tick : ℕ → (ℕ → Advice) → Cluster → ℕ → State
before_tick members advice cluster who =
    after_events (identity_of members who)
    (answer_events (cluster.waits who) (advice who).rows ++ hear_events (cluster.mails who)) (cluster.replicas who)

-- what its tick calls the scheduler for
abbrev pub calls_at : ℕ → ℤ → (ℕ → Advice) → Cluster → ℕ → List SchedRow
calls_at members now advice cluster who =
    calls_of (step (identity_of members who) (Tick now (advice who).plan) (before_tick members advice cluster who))

-- **A round**: all have their parts at once, and then their letters are in the mails. The answers that wait after it come of the
-- scheduler.
abbrev pub cluster_round : ℕ → ℤ → (ℕ → Advice) → (ℕ → Option SchedRow) → Cluster → Cluster
cluster_round members now advice answers cluster =
    record {
      replicas = λ who. after_events (identity_of members who) (events_at now advice cluster who) (cluster.replicas who);
      waits = answers;
      mails = λ who. flat_map
          (λ other. letters_to (identity_of members other) who (events_at now advice cluster other) (cluster.replicas other))
          (range_with_len 0 members);
    }

-- the launch table of the replica says what each event has of it
abbrev pub ArePlanned : Identity → Table → List Event → State → Type 0
ArePlanned self table [] state = ⊤
ArePlanned self table (event ∷ events) state =
    IsPlanned table state event × ArePlanned self table events (after_acts (step self event state) state)

-- The round may be one of a legal book: each replica is coherent, and the advice is what its launch table says.
pub record IsAdvised (members : ℕ) (table : Table) (now : ℤ) (advice : ℕ → Advice) (cluster : Cluster) : Type 0 where
  pub coherent : (who : ℕ) → who < members → IsCoherent (identity_of members who) (cluster.replicas who)
  pub planned : (who : ℕ) → who < members
      → ArePlanned (identity_of members who) table (events_at now advice cluster who) (cluster.replicas who)
