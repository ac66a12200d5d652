-- What a letter that was read is heard as, and what of a draft its letters need.
use Rattle.std.proofs.Common.{◌≡◌, ◌↔◌, ℕ, ◌<◌, ltb, true, false, List, [], ◌∷◌, map, Option, Some, None, Ok, Err, refl, sym, ap, ◌∙◌, ℤ, Bor}
use Rattle.std.proofs.lemmas.Bool.{and_parts, ltb-true}
use Rattle.launch_machine.specs.Clerk.{table_size}
use Rattle.paxos_base.specs.declared.rows.TableSize.{TableSize}
use Rattle.paxos_letter.specs.Letters.{Spells}
use Rattle.paxos_letter.specs.declared.fault.LetterFault.{LetterFault}
use Rattle.paxos_letter.specs.Spelling.{fields_of}
use Rattle.paxos_letter.specs.declared.packet.Packet.{Packet}
use Rattle.due_set.specs.Table.{Table}
use Rattle.step_spec.specs.Hear.{hear_all, not_yet}
use Rattle.step_spec.specs.Letters.{heard_in, is_small_letter}
use Rattle.step_spec.specs.Step.{Event, Plan, step}
use Rattle.step_spec.specs.Step as told
use Rattle.step_spec.specs.Propose.{answer, campaign, tick}
use Rattle.paxos_base.specs.declared.entry.Kind.{Kind}
use Rattle.zone_minutes.specs.declared.minute.Minute.{Minute}
use Rattle.launch_machine.specs.Answers.{IsIntent}
use Rattle.launch_machine.specs.declared.machine.Intent.{Intent}
use Rattle.replica_core.specs.declared.input.Input.TheVariants as input
use Rattle.replica_draft.specs.Draft.{drafted, said_in, said_of}
use Rattle.replica_core.specs.Replica.{Makes, own_identity, idle_desk, fixed_of, replica_of_core, state_of}
use Rattle.replica_core.specs.Step.{HearsLetter, IsEventOf, IsOfTable, MakesStep}
use Rattle.replica_core.specs.declared.input.Input.{Input}
use Rattle.replica_core.proofs.TableLemmas.{all-rows-heard, all-rows-sent, copyable, numbered-before}
use Rattle.replica_draft.specs.Letters.{BringsCopyable, IsCopyable}
use Rattle.replica_draft.proofs.LetterLemmas.{CanBeSent, step-letters}
use Rattle.paxos_base.specs.Rows.{OpenHaveCursors, row_count}
use Rattle.replica_draft.specs.declared.draft.Draft.{Draft}
use Rattle.replica_core.specs.declared.parts.Core.{Core}
use Rattle.replica_draft.proofs.DraftLemmas.{done-nil}
use Rattle.paxos_letter.proofs.LetterLemmas.{fields_of-from as named}

-- a letter that was read is from one of the replicas
pub read-from : (members from : ℕ) (packets : List Packet) (bytes : List ℕ) → Spells members from packets bytes → from < members
read-from members from [] bytes spells = absurd (spells.letter.some refl)
read-from members from (packet ∷ packets) bytes spells =
    let parts = and_parts _ _ spells.letter.members_keep.0 in
    let below : ltb (fields_of from packet).from members ≡ true = (and_parts _ _ parts.0).0 in
    ltb-true from members (rw (named from packet) at below)

-- a letter beyond the bounds is heard as one without messages
pub hears-nothing : (size : TableSize) (from : ℕ) (packets : List Packet) (core : Core) (draft : Draft) → is_small_letter size packets ≡ false → drafted (fixed_of core) draft ≡ idle_desk core
    → Makes core (hear_all (own_identity core) from (heard_in size packets) not_yet (state_of core)) draft
unfolding hear_all
hears-nothing size from packets core draft large idle = rw large (idle ∙ sym (done-nil (idle_desk core)))

-- a letter that was read is heard
pub hears-letter : (table : Table) (size : TableSize) (from : ℕ) (packets : List Packet) (bytes : List ℕ) (core : Core) (draft : Draft) → Spells core.members from packets bytes
    → size ≡ table_size table → Makes core (hear_all (own_identity core) from (heard_in size packets) not_yet (state_of core)) draft → HearsLetter table bytes core draft
hears-letter table size from packets bytes core draft spells jobs_are makes =
    record {
      from = from;
      messages = heard_in size packets;
      heard = record { packets = packets; spells = spells; heard = ap (λ count. heard_in count packets) jobs_are };
      makes = makes;
    }

-- what is said in a draft that makes acts is what they say
pub said-made : (core : Core) (event : Event) (draft : Draft) → Makes core (step (own_identity core) event (state_of core)) draft
    → map said_in draft.sends.items ≡ said_of (step (own_identity core) event (state_of core))
said-made core event draft makes = ap (λ desk. desk.said) makes

-- what each input has the replica do is a step

pub campaign-step : (table : Table) (core : Core) (draft : Draft) → Makes core (campaign (own_identity core) (state_of core)) draft → MakesStep table input.Campaign core draft
unfolding step
campaign-step table core draft makes = record { event = told.Campaign; event_is = refl; makes = makes }

pub tick-step : (table : Table) (now : Minute) (core : Core) (draft : Draft) (intent : Intent) → IsIntent table core.machine.rows now.0 intent
    → Makes core (tick (own_identity core) now.0 core.machine.rows intent (state_of core)) draft → MakesStep table (input.Tick now) core draft
unfolding step
tick-step table now core draft intent is_intent makes =
    let plan : Plan = record { rows = core.machine.rows; intent = intent } in
    record { event = told.Tick now.0 plan; event_is = (plan, record { rows = refl; intent = is_intent }, refl); makes = makes }

pub hear-step : (table : Table) (bytes : Bor (List ℕ)) (core : Core) (draft : Draft) → HearsLetter table bytes.now core draft → MakesStep table (input.Hear bytes) core draft
unfolding step
hear-step table bytes core draft hears =
    record { event = told.Hear hears.from hears.messages; event_is = (hears.from, hears.messages, hears.heard, refl); makes = hears.makes }

pub answer-step : (table : Table) (job : ℕ) (at : ℤ) (kind : Kind) (core : Core) (draft : Draft)
    → Makes core (answer (own_identity core) job at kind core.machine.rows (state_of core)) draft → MakesStep table (input.Answer job at kind) core draft
unfolding step
answer-step table job at kind core draft makes = record { event = told.Answer job at kind core.machine.rows; event_is = refl; makes = makes }

-- ---- The rows that are sent

-- the rows of an event of the replica can be sent
event-copyable : (table : Table) (core : Core) (given : Input) (event : Event) → IsCopyable core.machine.rows → IsEventOf table (replica_of_core core) given event → BringsCopyable event
event-copyable table core input.Campaign event rows is = rw is tt
event-copyable table core (input.Tick now) event rows (plan, asked, is) = rw (is, asked.rows) rows
event-copyable table core (input.Hear bytes) event rows (from, messages, heard, is) =
    rw is (all-rows-sent (table_size table) messages (all-rows-heard core.members (table_size table) bytes.now from messages heard))
event-copyable table core (input.Answer job at kind) event rows is = rw is tt

-- so what a step says can be sent
pub made-letters : (table : Table) (given : Input) (core : Core) (draft : Draft) → IsOfTable table (replica_of_core core) → MakesStep table given core draft → OpenHaveCursors core.rows → OpenHaveCursors core.machine.rows
    → (event : Event) → Makes core (step (own_identity core) event (state_of core)) draft → BringsCopyable event
    → CanBeSent (own_identity core) (step (own_identity core) event (state_of core)) (map said_in draft.sends.items)
made-letters table given core draft of_table made here there event makes brings =
    let numbered = numbered-before table core.rows core.learner.entries core.machine.rows of_table.rows of_table.stands.rows.numbered in
    step-letters (own_identity core) event (state_of core) (map said_in draft.sends.items) (copyable core.rows (row_count (table_size table)) numbered here) brings (said-made core event draft makes)

pub made-copyable : (table : Table) (given : Input) (core : Core) (draft : Draft) → IsOfTable table (replica_of_core core) → (made : MakesStep table given core draft) → OpenHaveCursors core.machine.rows → BringsCopyable made.event
made-copyable table given core draft of_table made there =
    event-copyable table core given made.event (copyable core.machine.rows (row_count (table_size table)) of_table.stands.rows.numbered there) made.event_is

-- ---- The fault of a letter

-- a letter that is read has no fault
pub no-fault : {X : Type 0} (letter : X) (first : Option LetterFault) → ((fault : LetterFault) → (Ok letter ≡ Err fault) ↔ (first ≡ Some fault)) → None ≡ first
no-fault letter None is = refl
no-fault letter (Some fault) is = let e = (is fault).1 refl in absurd cc
