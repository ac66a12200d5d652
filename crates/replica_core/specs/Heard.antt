-- How a packet is heard: as a message, or as a part of one before it.
use Rattle.std.specs.Prelude.{◌≡◌, ℕ, ◌+◌, ◌^◌, ◌<◌, ◌≤◌, nat_lt, Bool, true, false, List, [], Option, None, Some, length, take, ⊤}
use Rattle.std.specs.List.{flat_map}
use Rattle.launch_machine.specs.Clerk.{table_size}
use Rattle.paxos_base.specs.declared.rows.TableSize.{TableSize}
use Rattle.paxos_base.specs.Rows.{OpenHaveCursors, RowsStand}
use Rattle.paxos_base.specs.declared.rows.JobRow.{JobRow}
use Rattle.paxos_letter.specs.declared.packet.Packet.{Packet}
use Rattle.paxos_letter.specs.declared.packet.Packet.TheVariants as packet
use Rattle.step_spec.specs.Act.{Act}
use Rattle.step_spec.specs.Hear.{Once, hear, line}
use Rattle.due_set.specs.Table.{Table}
use Rattle.learner_core.specs.Learner as learned
use Rattle.step_spec.specs.Heard.{row_in, vote_in}
use Rattle.step_spec.specs.Letters.{is_small}
use Rattle.step_spec.specs.Message.{Message, Prepare, Promise, Accept, Accepted, Nack, Known, AskFrom, Snap, Lead, Mention}
use Rattle.step_spec.specs.State.{State, Identity, prefix_of}
use Rattle.replica_draft.specs.Draft.{done, drafted, has_copied}
use Rattle.replica_core.specs.Replica.{IsDraftSteady, IsWhole, changes_of_draft, fixed_of}
use Rattle.launch_machine.specs.Machine.{CountsBelow}
use Rattle.replica_draft.specs.declared.draft.Draft.{Draft}
use Rattle.replica_core.specs.declared.parts.Core.{Core}

-- the message that a packet is heard as, with the packets behind it: a row of a copy is heard with its copy alone
abbrev pub message_in : Packet → List Packet → Option Message
message_in (packet.Prepare ballot slot) rest = Some (Prepare ballot slot)
message_in (packet.Promise ballot slot count) rest = Some (Promise ballot slot (flat_map vote_in (take count rest)))
message_in (packet.OldVote ballot slot cast entry) rest = Some (Mention ballot)
message_in (packet.Accept ballot slot entry) rest = Some (Accept (record { slot = slot; ballot = ballot; entry = entry }))
message_in (packet.Accepted ballot slot) rest = Some (Accepted ballot slot)
message_in (packet.Nack ballot promised) rest = Some (Nack ballot promised)
message_in (packet.Known slot entry) rest = Some (Known slot entry)
message_in (packet.AskFrom slot) rest = Some (AskFrom slot)
message_in (packet.Snap slot count) rest = Some (Snap slot (flat_map row_in (take count rest)))
message_in (packet.SnapRow slot row) rest = None
message_in (packet.Lead ballot slot) rest = Some (Lead ballot slot)

-- the ballot that a packet names to all who hear it, or 0
abbrev pub ballot_named : Packet → ℕ
ballot_named (packet.Prepare ballot slot) = ballot
ballot_named (packet.Promise ballot slot count) = ballot
ballot_named (packet.OldVote ballot slot cast entry) = ballot
ballot_named (packet.Accept ballot slot entry) = ballot
ballot_named (packet.Accepted ballot slot) = ballot
ballot_named (packet.Nack ballot promised) = promised
ballot_named (packet.Known slot entry) = 0
ballot_named (packet.AskFrom slot) = 0
ballot_named (packet.Snap slot count) = 0
ballot_named (packet.SnapRow slot row) = 0
ballot_named (packet.Lead ballot slot) = ballot

-- what was done once in a letter so far, by whether an entry behind the next one was told, and by what the draft sends
abbrev pub once_in : Bool → Draft → Once
once_in asked draft = record { asked = asked; copied = has_copied draft }

-- what a packet asks for, once its ballot was observed
abbrev pub line_in : Identity → ℕ → Option Message → Once → State → List Act
line_in self from None once state = []
line_in self from (Some message) once state = line self from message once state

-- what is done when a packet is heard
abbrev pub hear_in : Identity → ℕ → Option Message → Once → State → List Act
hear_in self from None once state = []
hear_in self from (Some message) once state = hear self from message once state

-- a packet tells an entry behind the next one
abbrev pub shows_gap_in : Packet → State → Bool
shows_gap_in (packet.Known slot entry) state = nat_lt (prefix_of state) slot
shows_gap_in packet state = false

-- how many changes of what is on the disk a packet asks for: a Prepare, an Accept and a copy of the rows ask for one
abbrev pub changes_asked : Packet → ℕ
changes_asked (packet.Prepare ballot slot) = 1
changes_asked (packet.Accept ballot slot entry) = 1
changes_asked (packet.Snap slot count) = 1
changes_asked packet = 0

-- the rows of a message are those of a table of so many jobs, each open one with a cursor, and their counts are within the bounds
pub record AreRowsOf (size : TableSize) (rows : List JobRow) : Type 0 where
  pub stand : RowsStand rows size
  pub cursors : OpenHaveCursors rows
  pub counts : CountsBelow (2 ^ 31) rows

-- a message that brings a launch table has a row for each job and the table's own
abbrev pub BringsRows : TableSize → Message → Type 0
BringsRows size (Snap slot rows) = AreRowsOf size rows
BringsRows size message = ⊤

-- the same of a message, if there is one
abbrev pub BringsRowsIn : TableSize → Option Message → Type 0
BringsRowsIn size None = ⊤
BringsRowsIn size (Some message) = BringsRows size message

-- a replica hears a packet of a letter from another, behind which these follow: its numbers are within the bounds and its rows are
-- those of the table of jobs, and the draft has no change of what is on the disk yet where the packet asks for one
pub record CanHear (table : Table) (core : Core) (draft : Draft) (from : ℕ) (packet : Packet) (rest : List Packet) : Type 0 where
  pub whole : IsWhole core
  pub prefix : learned.learned_prefix core.learner < 2 ^ 62
  pub member : from < core.members
  pub small : is_small (table_size table) packet ≡ true
  pub rows : BringsRowsIn (table_size table) (message_in packet rest)
  pub once : changes_of_draft draft.change + changes_asked packet ≤ 1
  pub steady : IsDraftSteady table core draft
  pub short : length draft.learnt.items < 2 ^ 31

-- a draft of a replica goes on by the acts that its state asks for
abbrev pub HearsBy : Core → Draft → Draft → (State → List Act) → Type 0
HearsBy core old new acts =
    drafted (fixed_of core) new ≡ done (acts (drafted (fixed_of core) old).state) (drafted (fixed_of core) old)
