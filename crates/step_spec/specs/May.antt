-- When a replica may do what: the guard of each act, on its state and on what was said. Source: "Paxos Made Simple".
use Rattle.std.specs.Prelude.{◌≡◌, ◌⊎◌, ℕ, ◌<◌, ◌≤◌, ⊤, All, List, [], ◌∷◌, Option, None, Some, Contains, IsTrue, ℤ}
use Rattle.std.specs.List.{AllByRecursion}
use Rattle.paxos_base.specs.Ballot.{member_of, round_of}
use Rattle.paxos_base.specs.Members.{has_majority}
use Rattle.paxos_base.specs.Vote.{vote_at, votes_from}
use Rattle.paxos_base.specs.declared.entry.Entry.{Entry}
use Rattle.paxos_base.specs.declared.entry.Entry.TheVariants.{Noop, Start, End, Table as TableEntry}
use Rattle.paxos_base.specs.declared.entry.Kind.{Kind}
use Rattle.paxos_base.specs.declared.entry.Vote.{Vote}
use Rattle.term_core.specs.declared.flight.Flight.{Flight}
use Rattle.term_core.specs.declared.term.Term.{Term}
use Rattle.term_core.specs.declared.term.Term.TheVariants.{Follower, Candidate, Leader}
use Rattle.paxos_base.specs.declared.rows.JobRow.{JobRow}
use Rattle.cluster_sched.specs.declared.row.SchedRow.{SchedRow}
use Rattle.due_set.specs.Table.{Table}
use Rattle.launch_machine.specs.Answers.{IsIntent}
use Rattle.launch_machine.specs.declared.machine.Intent.TheVariants as intent
use Rattle.step_spec.specs.Step.{Event, Campaign, Tick, Hear, Answer, IsLaunchTable}
use Rattle.step_spec.specs.Act.{Act, Observe, Stand, Gather, TakeLead, Pledge, Cast, Propose, Count, Wait, Learn, Rebase, Call, Send, Restart, after_act}
use Rattle.step_spec.specs.Hear.{is_vote_of, known_from}
use Rattle.step_spec.specs.Message.{Message, Prepare, Promise, Accept, Accepted, Nack, Known, AskFrom, Snap, Lead, Mention, ballot_in}
use Rattle.step_spec.specs.Propose.{bound_by, is_open}
use Rattle.step_spec.specs.State.{State, Identity, prefix_of, promised_in}

-- a message, and who said it
pub record Saying : Type 0 where
  pub by : ℕ
  pub message : Message

-- the replica that the scheduler has told, and what it told: a launch, and what it came to
pub record Ending : Type 0 where
  pub to : ℕ
  pub job : ℕ
  pub at : ℤ
  pub kind : Kind

-- A replica, the table of jobs, the event that the replica acts on, or none where it starts, what was said so far by any replica,
-- and what the scheduler has answered.
pub record Setting : Type 0 where
  pub self : Identity
  pub table : Table
  pub event : Option Event
  pub said : List Saying
  pub answered : List Ending

-- the replica has said so
abbrev pub HasSaid : List Saying → ℕ → Message → Type 0
HasSaid said by message = Contains said (record { by = by; message = message })

-- some message that was said names the ballot; 0 is none
pub data IsNamed (said : List Saying) (ballot : ℕ) : Type 0 where
  none_named : ballot ≡ 0 → IsNamed said ballot
  by_saying : (saying : Saying) → Contains said saying → ballot_in saying.message ≡ ballot → IsNamed said ballot

-- what was heard of a replica was said by it; a mention comes of a promise
abbrev pub WasSaid : List Saying → ℕ → Message → Type 0
WasSaid said from (Mention ballot) = (slot : ℕ) × (votes : List Vote) × HasSaid said from (Promise ballot slot votes)
WasSaid said from message = HasSaid said from message

-- it was told to campaign, and takes up a ballot of its own that is above all that it has tried and promised
pub record MayStand (setting : Setting) (state : State) (me ballot : ℕ) : Type 0 where
  pub told : setting.event ≡ Some Campaign
  pub is_me : me ≡ setting.self.me
  pub own : member_of ballot ≡ setting.self.me
  pub higher : state.kept.tried < round_of ballot
  pub above : promised_in state.kept < ballot

-- it is a candidate, and was promised its ballot with these votes
pub record MayGather (said : List Saying) (state : State) (from : ℕ) (votes : List Vote) : Type 0 where
  pub ballot : ℕ
  pub first : ℕ
  pub heard : ℕ
  pub best : List Vote
  pub candidate : state.term ≡ Candidate ballot first heard best
  pub promise : HasSaid said from (Promise ballot first votes)

-- it is a candidate whose ballot a majority has promised
pub record MayLead (self : Identity) (state : State) : Type 0 where
  pub ballot : ℕ
  pub first : ℕ
  pub heard : ℕ
  pub best : List Vote
  pub candidate : state.term ≡ Candidate ballot first heard best
  pub majority : IsTrue (has_majority self.members heard)

-- the term is a follower's
abbrev pub IsFollower : Term → Type 0
IsFollower (Follower ended) = ⊤
IsFollower (Candidate ballot first heard best) = ⊥
IsFollower (Leader ballot best flight) = ⊥

-- the term is not that of another ballot
abbrev pub HasNoOther : ℕ → Term → Type 0
HasNoOther ballot (Follower ended) = ⊤
HasNoOther ballot (Candidate own first heard best) = own ≡ ballot
HasNoOther ballot (Leader own best flight) = own ≡ ballot

-- the ballot is above the promised one and has been seen, and the replica competes with none
pub record MayPledge (state : State) (ballot : ℕ) : Type 0 where
  pub above : promised_in state.kept < ballot
  pub seen : ballot ≤ state.seen
  pub follower : IsFollower state.term

-- It was asked for the vote, at a slot from its base on, has promised no higher ballot, competes in no other, and has not voted
-- there in this one.
pub record MayCast (said : List Saying) (state : State) (vote : Vote) : Type 0 where
  pub from : ℕ
  pub asked : HasSaid said from (Accept vote)
  pub from_base : state.kept.base ≤ vote.slot
  pub promised : promised_in state.kept ≤ vote.ballot
  pub seen : vote.ballot ≤ state.seen
  pub alone : HasNoOther vote.ballot state.term
  pub first : IsTrue (is_vote_of vote.ballot (vote_at vote.slot state.kept.votes)) → ⊥

-- the launch table asks for the start of a launch
pub record MayBeStarted (setting : Setting) (state : State) (job : ℕ) (at now : ℤ) : Type 0 where
  pub rows : List JobRow
  pub rows_are : IsLaunchTable setting.table state rows
  pub asked : IsIntent setting.table rows now (intent.Start job at)

-- the launch table asks for the adoption of a version of the table of jobs
pub record MayBeAdopted (setting : Setting) (state : State) (version : ℕ) (now : ℤ) : Type 0 where
  pub rows : List JobRow
  pub rows_are : IsLaunchTable setting.table state rows
  pub asked : IsIntent setting.table rows now (intent.Adopt version)

-- the launch is open, and the scheduler has answered what it came to
pub record MayEnd (setting : Setting) (state : State) (job : ℕ) (at : ℤ) (kind : Kind) : Type 0 where
  pub rows : List JobRow
  pub rows_are : IsLaunchTable setting.table state rows
  pub open_there : IsTrue (is_open job at rows)
  pub answered : Contains setting.answered (record { to = setting.self.me; job = job; at = at; kind = kind })

-- the entries that a leader may propose of its own accord
abbrev pub MayEnter : Setting → State → Entry → Type 0
MayEnter setting state Noop = ⊤
MayEnter setting state (Start job at now) = MayBeStarted setting state job at now
MayEnter setting state (End job at kind) = MayEnd setting state job at kind
MayEnter setting state (TableEntry version now) = MayBeAdopted setting state version now

-- it leads, has nothing in flight, and proposes at its prefix what its votes bind it to, or else an entry of its own accord
pub record MayPropose (setting : Setting) (state : State) (me : ℕ) (vote : Vote) : Type 0 where
  pub is_me : me ≡ setting.self.me
  pub best : List Vote
  pub leader : state.term ≡ Leader vote.ballot best None
  pub slot : vote.slot ≡ prefix_of state
  pub entry : Entry
  pub may : MayEnter setting state entry
  pub bound : vote.entry ≡ bound_by (vote_at (prefix_of state) best) entry

-- it leads, and was told that its proposal was accepted
pub record MayCount (said : List Saying) (state : State) (from : ℕ) : Type 0 where
  pub ballot : ℕ
  pub best : List Vote
  pub flight : Flight
  pub leader : state.term ≡ Leader ballot best (Some flight)
  pub accepted : HasSaid said from (Accepted ballot flight.slot)

-- a majority has accepted the leader's proposal
pub record IsCounted (self : Identity) (state : State) (slot : ℕ) (entry : Entry) : Type 0 where
  pub ballot : ℕ
  pub best : List Vote
  pub flight : Flight
  pub leader : state.term ≡ Leader ballot best (Some flight)
  pub slot_is : flight.slot ≡ slot
  pub entry_is : flight.entry ≡ entry
  pub majority : IsTrue (has_majority self.members flight.accepted)

-- the next slot's entry was told by one who knows it, or was chosen just now
pub record MayLearn (self : Identity) (said : List Saying) (state : State) (slot : ℕ) (entry : Entry) : Type 0 where
  pub next : slot ≡ prefix_of state
  pub known : ((from : ℕ) × HasSaid said from (Known slot entry)) ⊎ IsCounted self state slot entry

-- the term is that of a leader of the ballot
abbrev pub LeadsIn : ℕ → Term → Type 0
LeadsIn ballot (Follower ended) = ⊥
LeadsIn ballot (Candidate own first heard best) = ⊥
LeadsIn ballot (Leader own best flight) = own ≡ ballot

-- the term is that of a candidate of the ballot, which asks for votes from the slot on
abbrev pub StandsIn : ℕ → ℕ → Term → Type 0
StandsIn ballot slot (Follower ended) = ⊥
StandsIn ballot slot (Candidate own first heard best) = (own ≡ ballot) × (first ≡ slot)
StandsIn ballot slot (Leader own best flight) = ⊥

-- a promise tells all votes from its first slot on, none of them of its ballot or a higher one
pub record MayPromise (state : State) (ballot first : ℕ) (votes : List Vote) : Type 0 where
  pub promised : promised_in state.kept ≡ ballot
  pub kept_all : state.kept.base ≤ first
  pub votes_are : votes ≡ votes_from first state.kept.votes
  pub lower : All (λ vote. vote.ballot < ballot) votes

-- it has voted at the slot, in the ballot that it has promised
pub record HasAccepted (state : State) (ballot slot : ℕ) : Type 0 where
  pub promised : promised_in state.kept ≡ ballot
  pub entry : Entry
  pub voted : vote_at slot state.kept.votes ≡ Some (record { slot = slot; ballot = ballot; entry = entry })

-- when a message may be sent; a mention comes with a promise alone
abbrev pub MaySend : State → Message → Type 0
MaySend state (Prepare ballot slot) = (promised_in state.kept ≡ ballot) × StandsIn ballot slot state.term
MaySend state (Promise ballot slot votes) = MayPromise state ballot slot votes
MaySend state (Accept vote) = (vote_at vote.slot state.kept.votes ≡ Some vote) × LeadsIn vote.ballot state.term
MaySend state (Accepted ballot slot) = HasAccepted state ballot slot
MaySend state (Nack ballot promised) = (promised ≡ promised_in state.kept) × (ballot ≤ promised)
MaySend state (Known slot entry) = Contains (known_from state.kept.base state.learned) (Known slot entry)
MaySend state (AskFrom slot) = slot ≡ prefix_of state
MaySend state (Snap slot rows) = (slot ≡ state.kept.base) × (rows ≡ state.kept.rows)
MaySend state (Lead ballot slot) = (slot ≡ prefix_of state) × LeadsIn ballot state.term
MaySend state (Mention ballot) = ⊥

-- Rows come in the place of the entries below a slot where they are the replica's own launch table at its prefix, or another's
-- that was told.
pub record MayRebase (setting : Setting) (state : State) (slot : ℕ) (rows : List JobRow) : Type 0 where
  pub up : prefix_of state ≤ slot
  pub rows_of : ((slot ≡ prefix_of state) × IsLaunchTable setting.table state rows) ⊎ ((from : ℕ) × HasSaid setting.said from (Snap slot rows))

-- it starts, as itself
pub record MayRestart (setting : Setting) (me : ℕ) : Type 0 where
  pub told : setting.event ≡ None
  pub is_me : me ≡ setting.self.me

-- its launch table asks for the call of a launch that is open
pub record MayCallFor (setting : Setting) (state : State) (row : SchedRow) : Type 0 where
  pub by : row.by ≡ setting.self.me
  pub rows : List JobRow
  pub rows_are : IsLaunchTable setting.table state rows
  pub asked : IsIntent setting.table rows row.now.0 (intent.Call row.name.job row.name.at row.kind)

-- when a replica may do what
unfoldable pub May : Setting → State → Act → Type 0
May setting state (Observe ballot) = IsNamed setting.said ballot
May setting state (Stand me ballot) = MayStand setting state me ballot
May setting state (Gather from votes) = MayGather setting.said state from votes
May setting state TakeLead = MayLead setting.self state
May setting state (Pledge ballot) = MayPledge state ballot
May setting state (Cast vote) = MayCast setting.said state vote
May setting state (Propose me vote) = MayPropose setting state me vote
May setting state (Count from) = MayCount setting.said state from
May setting state Wait = ⊤
May setting state (Learn slot entry) = MayLearn setting.self setting.said state slot entry
May setting state (Rebase slot rows) = MayRebase setting state slot rows
May setting state (Call row) = MayCallFor setting state row
May setting state (Send whom message) = MaySend state message
May setting state (Restart me) = MayRestart setting me

-- each of some acts may be done where it is
abbrev pub AllMay : Setting → State → List Act → Type 0
AllMay setting state [] = ⊤
AllMay setting state (act ∷ acts) = May setting state act × AllMay setting (after_act act state) acts

-- what an event tells was said: the messages of a letter by its sender, an answer by the scheduler
abbrev pub TellsWhatWasSaid : Setting → Event → Type 0
TellsWhatWasSaid setting Campaign = ⊤
TellsWhatWasSaid setting (Tick now plan) = ⊤
TellsWhatWasSaid setting (Hear from messages) = AllByRecursion (WasSaid setting.said from) messages
TellsWhatWasSaid setting (Answer job at kind rows) = Contains setting.answered (record { to = setting.self.me; job = job; at = at; kind = kind })
