-- The letters of a step, by their packets.
use Rattle.std.specs.Prelude.{◌≡◌, ℕ, IsTrue, List, map, ⊤, Some, slice_get}
use Rattle.std.specs.List.{AllByRecursion, AllZip, filter}
use Rattle.paxos_base.specs.Rows.{OpenHasCursor, OpenHaveCursors}
use Rattle.paxos_base.specs.declared.rows.JobRow.{JobRow}
use Rattle.paxos_letter.specs.Groups.{keep_groups, no_group}
use Rattle.paxos_letter.specs.Rules.{keeps_kind, keeps_members}
use Rattle.paxos_letter.specs.Spelling.{fields_of}
use Rattle.paxos_letter.specs.declared.packet.Packet.{Packet}
use Rattle.paxos_letter.specs.declared.packet.Packet.TheVariants.{SnapRow}
use Rattle.step_spec.specs.Act.{Act, Send}
use Rattle.step_spec.specs.Folds.{letters_of}
use Rattle.step_spec.specs.Letters.{IsSpelled}
use Rattle.step_spec.specs.Message.{Message, Mention, Snap, Whom, goes_to}
use Rattle.step_spec.specs.State.{Identity}
use Rattle.step_spec.specs.Step.{Event}
use Rattle.step_spec.specs.Step as told
use Rattle.step_spec.specs.declared.out.OutLetter.{OutLetter}
use Rattle.replica_draft.specs.Draft.{said_of}

-- the packets that go to a replica, in order
abbrev pub packets_to : (me member : ℕ) → List (Whom × Packet) → List Packet
packets_to me member said = map (λ (sent : Whom × Packet). sent.1) (filter (λ (sent : Whom × Packet). goes_to me sent.0 member) said)

-- the packets that go to each replica keep the rules of groups
abbrev pub KeepGroups : (me : ℕ) → List (Whom × Packet) → Type 0
KeepGroups me said = (member : ℕ) → IsTrue (keep_groups no_group (map (fields_of me) (packets_to me member said)))

-- each packet keeps the rules that packets keep by themselves in a letter, of seven replicas at most
pub record AllKeep (me : ℕ) (packets : List Packet) : Type 0 where
  pub kinds : AllByRecursion (λ packet. IsTrue (keeps_kind (fields_of me packet))) packets
  pub members_keep : AllByRecursion (λ packet. IsTrue (keeps_members 7 me (fields_of me packet))) packets

-- where the packet is a row whose job is open, the row has a cursor
abbrev pub HasCursor : Packet → Type 0
HasCursor (SnapRow slot row) = OpenHasCursor row
HasCursor packet = ⊤

-- the rows that are sent have cursors where their jobs are open
abbrev pub HaveCursors : List (Whom × Packet) → Type 0
HaveCursors said = AllByRecursion (λ (sent : Whom × Packet). HasCursor sent.1) said

-- rows that a snapshot can carry: each stands at its job's number, and has a cursor where its job is open
pub record IsCopyable (rows : List JobRow) : Type 0 where
  pub in_order : (k : ℕ) (row : JobRow) → slice_get rows k ≡ Some row → row.job ≡ k
  pub cursors : OpenHaveCursors rows

-- so are the rows of a message, where it has some
abbrev pub IsCopyableIn : Message → Type 0
IsCopyableIn (Snap slot rows) = IsCopyable rows
IsCopyableIn message = ⊤

-- and those that an event brings
abbrev pub BringsCopyable : Event → Type 0
BringsCopyable (told.Tick now plan) = IsCopyable plan.rows
BringsCopyable (told.Hear from messages) = AllByRecursion IsCopyableIn messages
BringsCopyable event = ⊤

-- a message is told in packets, as each is but a mention
abbrev pub IsInPackets : Message → Type 0
IsInPackets (Mention ballot) = ⊥
IsInPackets message = ⊤

-- an act sends no mention
abbrev pub IsSpoken : Act → Type 0
IsSpoken (Send whom message) = IsInPackets message
IsSpoken act = ⊤

-- none of some acts sends a mention
abbrev pub AreSpoken : List Act → Type 0
AreSpoken acts = AllByRecursion IsSpoken acts

-- The letters are those of some acts. Each ballot in them is of one of seven members; a disk doesn't say of how many its ballots are.
abbrev pub AreLettersFrom : Identity → List Act → List OutLetter → Type 0
AreLettersFrom self acts letters = AllZip (IsSpelled 7 self.me) (letters_of self acts) letters

-- the letters are those of all acts that send these packets
abbrev pub Carry : Identity → List (Whom × Packet) → List OutLetter → Type 0
Carry self said letters = (acts : List Act) → said ≡ said_of acts → AreSpoken acts → AreLettersFrom self acts letters
