-- A step that is being planned, in the words of the protocol.
use Rattle.std.specs.Prelude.{◌≡◌, ℕ, ◌+◌, Bool, true, false, Option, None, Some, List, [], ◌∷◌, ◌++◌, map, unwrap_or}
use Rattle.std.specs.List.{flat_map, list_any}
use Rattle.paxos_base.specs.Durable.{after_delta}
use Rattle.paxos_base.specs.declared.durable.Delta.{Delta}
use Rattle.paxos_base.specs.declared.durable.Delta.TheVariants.{Tried, Promised, Voted, Base}
use Rattle.paxos_base.specs.declared.durable.Durable.{Durable}
use Rattle.paxos_base.specs.declared.entry.Entry.{Entry}
use Rattle.paxos_base.specs.declared.entry.Vote.{Vote}
use Rattle.paxos_base.specs.declared.rows.JobRow.{JobRow}
use Rattle.paxos_letter.specs.declared.packet.Packet.{Packet}
use Rattle.paxos_letter.specs.declared.packet.Packet.TheVariants as packet
use Rattle.launch_machine.specs.Machine.{Launches}
use Rattle.term_core.specs.Term.{after_advance}
use Rattle.term_core.specs.declared.term.Term.{Term}
use Rattle.term_core.specs.declared.term.Term.TheVariants.{Follower, Candidate, Leader}
use Rattle.cluster_sched.specs.declared.row.SchedRow.{SchedRow}
use Rattle.step_spec.specs.Act.{Act, Send}
use Rattle.step_spec.specs.Folds.{after_acts, calls_of, deltas_of, learnt_of}
use Rattle.step_spec.specs.Heard.{packets_of}
use Rattle.step_spec.specs.Message.{Whom, Known, Only, Others, Outside}
use Rattle.step_spec.specs.State.{State}
use Rattle.step_spec.specs.declared.out.LearntRow.{LearntRow}
use Rattle.replica_draft.specs.declared.change.Change.{Change}
use Rattle.replica_draft.specs.declared.change.Change.TheVariants as change
use Rattle.replica_draft.specs.declared.draft.Draft.{Draft}
use Rattle.replica_draft.specs.declared.draft.Sent.{Sent}
use Rattle.replica_draft.specs.declared.draft.Target.{Target}
use Rattle.replica_draft.specs.declared.draft.Target.TheVariants as target

-- what a draft doesn't change: what the replica keeps, has learned, and the votes that bind its term
pub record FixedParts : Type 0 where
  pub durable : Durable
  pub learned : List Entry
  pub best : List Vote

-- a step so far: the state that it leads to, and what is to be stored, learned, sent and called
pub record Desk : Type 0 where
  pub state : State
  pub deltas : List Delta
  pub learnt : List LearntRow
  pub said : List (Whom × Packet)
  pub calls : List SchedRow

-- to whom a packet goes, in the words of the protocol
abbrev pub meant : Target → Whom
meant (target.Only member) = Only member
meant target.Others = Others
meant (target.Outside set) = Outside set

-- a packet that is sent
abbrev pub said_in : Sent → Whom × Packet
said_in sent = (meant sent.target, sent.packet)

-- the packets of an act
unfoldable pub said_by : Act → List (Whom × Packet)
said_by (Send whom message) = map (λ (packet : Packet). (whom, packet)) (packets_of message)
said_by act = []

-- the packets of some acts, in order
abbrev pub said_of : List Act → List (Whom × Packet)
said_of acts = flat_map said_by acts

-- a term with these votes
abbrev pub with_best : List Vote → Term → Term
with_best best (Follower ended) = Follower ended
with_best best (Candidate ballot first heard none) = Candidate ballot first heard best
with_best best (Leader ballot none flight) = Leader ballot best flight

-- the change of what is on the disk that a change of a draft is
abbrev pub delta_of : Change → Delta
delta_of (change.Tried ballot) = Tried ballot
delta_of (change.Promised ballot) = Promised ballot
delta_of (change.Voted vote) = Voted vote
delta_of (change.Rebased rebased) = Base rebased.slot rebased.rows

-- what is kept after a change, where there is one
abbrev pub durable_of : Option Change → Durable → Durable
durable_of None kept = kept
durable_of (Some change) kept = after_delta (delta_of change) kept

-- the change, where there is one
abbrev pub deltas_in : Option Change → List Delta
deltas_in None = []
deltas_in (Some change) = delta_of change ∷ []

-- the call, where there is one
abbrev pub calls_in : Option SchedRow → List SchedRow
calls_in None = []
calls_in (Some row) = row ∷ []

-- the entries that a draft has learned
abbrev pub entries_in : List LearntRow → List Entry
entries_in rows = map (λ (row : LearntRow). row.entry) rows

-- the entries that a replica has from its base on, with those that a draft has learned: behind a new base the latter alone
abbrev pub learned_with : Option Change → List Entry → List LearntRow → List Entry
learned_with (Some (change.Rebased rebased)) learned rows = rebased.since
learned_with (Some (change.Tried ballot)) learned rows = learned ++ entries_in rows
learned_with (Some (change.Promised ballot)) learned rows = learned ++ entries_in rows
learned_with (Some (change.Voted vote)) learned rows = learned ++ entries_in rows
learned_with None learned rows = learned ++ entries_in rows

-- a change with one more entry learned
abbrev pub with_learned : Entry → Option Change → Option Change
with_learned entry (Some (change.Rebased rebased)) = Some (change.Rebased (record rebased { since = rebased.since ++ entry ∷ [] }))
with_learned entry (Some (change.Tried ballot)) = Some (change.Tried ballot)
with_learned entry (Some (change.Promised ballot)) = Some (change.Promised ballot)
with_learned entry (Some (change.Voted vote)) = Some (change.Voted vote)
with_learned entry None = None

-- the packet begins a snapshot
abbrev pub begins_copy : Packet → Bool
begins_copy (packet.Snap slot count) = true
begins_copy other = false

-- a draft sends a snapshot
abbrev pub has_copied : Draft → Bool
has_copied draft = list_any (λ (sent : Sent). begins_copy sent.packet) draft.sends.items

-- what a draft stands for
abbrev pub drafted : FixedParts → Draft → Desk
drafted kept draft =
    record {
      state = record {
        kept = durable_of draft.change kept.durable;
        learned = learned_with draft.change kept.learned draft.learnt.items;
        term = with_best (unwrap_or draft.best kept.best) draft.term;
        seen = draft.seen;
      };
      deltas = deltas_in draft.change;
      learnt = draft.learnt.items;
      said = map said_in draft.sends.items;
      calls = calls_in draft.call;
    }

-- a step with some acts more
abbrev pub done : List Act → Desk → Desk
done acts desk =
    record {
      state = after_acts acts desk.state;
      deltas = desk.deltas ++ deltas_of acts;
      learnt = desk.learnt ++ learnt_of acts;
      said = desk.said ++ said_of acts;
      calls = desk.calls ++ calls_of acts;
    }

-- a draft goes on by these acts, whatever replica it is of
abbrev pub Goes : Draft → Draft → List Act → Type 0
Goes old new acts = (kept : FixedParts) → drafted kept new ≡ done acts (drafted kept old)

-- a draft is as it was, but for what is sent
pub record SendsOnly (old new : Draft) : Type 0 where
  pub seen : new.seen ≡ old.seen
  pub term : new.term ≡ old.term
  pub best : new.best ≡ old.best
  pub change : new.change ≡ old.change
  pub learnt : new.learnt.items ≡ old.learnt.items
  pub call : new.call ≡ old.call

-- a draft has learned an entry, and is else as it was; a flight below the next slot is over
pub record LearnsNext (old new : Draft) (slot : ℕ) (entry : Entry) : Type 0 where
  pub seen : new.seen ≡ old.seen
  pub term : new.term ≡ after_advance (slot + 1) old.term
  pub best : new.best ≡ old.best
  pub change : new.change ≡ with_learned entry old.change
  pub learnt : new.learnt.items ≡ old.learnt.items ++ record { slot = slot; entry = entry } ∷ []
  pub sends : map said_in new.sends.items ≡ map said_in old.sends.items
  pub call : new.call ≡ old.call

-- a draft has taken a launch table in the place of all entries below a slot, with a machine of it or none, and is else as it was;
-- a flight below the slot is over
pub record TakesRows (old new : Draft) (slot : ℕ) (rows : List JobRow) (machine : Option Launches) : Type 0 where
  pub seen : new.seen ≡ old.seen
  pub term : new.term ≡ after_advance slot old.term
  pub best : new.best ≡ old.best
  pub change : new.change ≡ Some (change.Rebased (record { slot = slot; rows = rows; since = []; machine = machine }))
  pub learnt : new.learnt.items ≡ old.learnt.items
  pub sends : map said_in new.sends.items ≡ map said_in old.sends.items
  pub call : new.call ≡ old.call

-- what some acts send was put behind what was there
abbrev pub HasSent : List Sent → List Sent → List Act → Type 0
HasSent old new acts = map said_in new ≡ map said_in old ++ said_of acts

-- a draft has learned an entry, and told all
pub record Chooses (old new : Draft) (slot : ℕ) (entry : Entry) : Type 0 where
  pub middle : Draft
  pub learns : LearnsNext old middle slot entry
  pub told : Goes middle new (Send Others (Known slot entry) ∷ [])
  pub sends : SendsOnly middle new
