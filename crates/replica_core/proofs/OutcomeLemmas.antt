-- What comes of a step is settled by the replica and by what it is told.
use Rattle.std.proofs.Common.{◌≡◌, ℕ, Option, None, Some, List, ℤ, refl, sym, ap, subst, ◌∙◌}
use Rattle.std.specs.Option.{option_to_list}
use Rattle.paxos_base.specs.declared.rows.JobRow.{JobRow}
use Rattle.paxos_letter.proofs.LetterLemmas.{letter_again}
use Rattle.paxos_letter.proofs.PacketBack.{same_packets}
use Rattle.paxos_letter.specs.Letters.{Spells}
use Rattle.paxos_letter.specs.declared.packet.Packet.{Packet}
use Rattle.due_set.specs.Table.{Table}
use Rattle.launch_machine.specs.Answers.{IsIntent}
use Rattle.launch_machine.specs.declared.machine.Intent.{Intent}
use Rattle.launch_machine.proofs.ClerkLemmas.{AppliesAll-same}
use Rattle.launch_machine.specs.Clerk.{AppliesAll, table_size}
use Rattle.launch_machine.specs.Machine.{Launches}
use Rattle.step_spec.specs.Act.{Act}
use Rattle.step_spec.specs.Letters.{IsHeardAs, heard_in}
use Rattle.step_spec.specs.State.{Identity, State}
use Rattle.step_spec.specs.Step.{Event, Plan, step}
use Rattle.step_spec.specs.Step as told
use Rattle.replica_draft.proofs.OneLemmas.{same-letters}
use Rattle.replica_core.specs.Outcome.{IsSameOutcome}
use Rattle.replica_core.specs.Replica.{ReplicaState}
use Rattle.replica_core.specs.Step.{IsSameReplica, IsAskedFor, IsEventOf, Steps, Takes}
use Rattle.replica_core.specs.declared.input.Input.{Input}
use Rattle.replica_core.specs.declared.input.Input.TheVariants as input
use Rattle.replica_core.specs.declared.out.StepOut.{StepOut}
use Rattle.launch_machine.proofs.IntentLemmas.{one_intent}

-- ---- The event

abbrev plan_with : List JobRow → Intent → Plan
plan_with rows intent = record { rows = rows; intent = intent }

same_plan : (a b : Plan) → a.rows ≡ b.rows → a.intent ≡ b.intent → a ≡ b
same_plan a b rows intent =
    ap (λ (rows : List JobRow). plan_with rows a.intent) rows ∙ ap (plan_with b.rows) intent

one_plan : (table : Table) (replica : ReplicaState) (now : ℤ) (a b : Plan) → IsAskedFor table replica now a → IsAskedFor table replica now b → a ≡ b
one_plan table replica now a b one other =
    let rows : b.rows ≡ a.rows = other.rows ∙ sym one.rows in
    same_plan a b (sym rows) (one_intent table a.rows now a.intent b.intent one.intent (subst (λ (rows : List JobRow). IsIntent table rows now b.intent) rows other.intent))

-- bytes are of one letter
one_letter : (members from another : ℕ) (packets others : List Packet) (bytes : List ℕ) → Spells members from packets bytes → Spells members another others bytes
    → (from ≡ another) × (packets ≡ others)
one_letter members from another packets others bytes spells again =
    let one = letter_again members from packets bytes spells in
    let two = letter_again members another others bytes again in
    (sym one.sender ∙ two.sender, same_packets from another packets others (sym one.fields ∙ two.fields))

pub one_event : (table : Table) (replica : ReplicaState) (given : Input) (a b : Event) → IsEventOf table replica given a → IsEventOf table replica given b → a ≡ b
one_event table replica input.Campaign a b one other = one ∙ sym other
one_event table replica (input.Tick now) a b (plan, asked, one) (again, asked_again, other) =
    one ∙ ap (told.Tick now.0) (one_plan table replica now.0 plan again asked asked_again) ∙ sym other
one_event table replica (input.Hear bytes) a b (from, messages, heard, one) (another, others, again, other) =
    let same = one_letter replica.identity.members from another heard.packets again.packets bytes.now heard.spells again.spells in
    let said : messages ≡ others = heard.heard ∙ ap (heard_in (table_size table)) same.1 ∙ sym again.heard in
    one ∙ rw (same.0, said) (sym other)
one_event table replica (input.Answer job at kind) a b one other = one ∙ sym other

-- ---- The outcome

same_option : {X : Type 0} (a b : Option X) → option_to_list a ≡ option_to_list b → a ≡ b
same_option None None e = refl
same_option None (Some y) e = absurd cc
same_option (Some x) None e = absurd cc
same_option (Some x) (Some y) e = cc

same_acts : (table : Table) (old one other : ReplicaState) (acts : List Act) (first second : StepOut) → Takes table old one acts first → Takes table old other acts second
    → IsSameOutcome one other first second
same_acts table old one other acts first second a b =
    let state : one.state ≡ other.state = a.state ∙ sym b.state in
    record {
      identity = a.identity ∙ sym b.identity;
      state = state;
      rows = AppliesAll-same table one.state.kept.rows one.state.learned one.machine.rows other.machine.rows a.of_table.rows
          (subst (λ (state : State). AppliesAll table state.kept.rows state.learned other.machine.rows) (sym state) b.of_table.rows);
      delta = same_option first.delta second.delta (sym a.delta ∙ b.delta);
      letters = same-letters old.identity acts first.letters second.letters a.letters b.letters;
      learnt = a.learnt ∙ sym b.learnt;
      call = same_option first.call second.call (sym a.call ∙ b.call);
    }

-- what two steps of one replica come to
from_one : (table : Table) (given : Input) (old one other : ReplicaState) (first second : StepOut) → Steps table given old one first → Steps table given old other second
    → IsSameOutcome one other first second
from_one table given old one other first second a b =
    let event = one_event table old given a.event b.event a.event_is b.event_is in
    same_acts table old one other (step old.identity b.event old.state) first second
    (subst (λ (event : Event). Takes table old one (step old.identity event old.state) first) event a.took) b.took

-- ---- Replicas that are alike

event_alike : (table : Table) (old other : ReplicaState) (given : Input) (event : Event) → IsSameReplica old other → IsEventOf table other given event → IsEventOf table old given event
event_alike table old other input.Campaign event alike is = is
event_alike table old other (input.Tick now) event alike (plan, asked, is) =
    (plan, record { rows = asked.rows ∙ sym (ap (λ (machine : Launches). machine.rows) alike.machine); intent = asked.intent }, is)
event_alike table old other (input.Hear bytes) event alike (from, messages, heard, is) =
    let members : other.identity.members ≡ old.identity.members = sym (ap (λ (identity : Identity). identity.members) alike.identity) in
    (from, messages, subst (λ (members : ℕ). IsHeardAs members (table_size table) bytes.now from messages) members heard, is)
event_alike table old other (input.Answer job at kind) event alike is =
    is ∙ ap (told.Answer job at kind) (sym (ap (λ (machine : Launches). machine.rows) alike.machine))

took_alike : (table : Table) (old other new : ReplicaState) (event : Event) (out : StepOut) → IsSameReplica old other → Takes table other new (step other.identity event other.state) out
    → Takes table old new (step old.identity event old.state) out
took_alike table old other new event out alike took =
    record {
      identity = took.identity ∙ sym alike.identity;
      state = rw (alike.identity, alike.state) took.state;
      of_table = took.of_table;
      delta = rw (alike.identity, alike.state) took.delta;
      letters = rw (alike.identity, alike.state) took.letters;
      learnt = rw (alike.identity, alike.state) took.learnt;
      call = rw (alike.identity, alike.state) took.call;
    }

pub one_outcome : (table : Table) (given : Input) (old other one two : ReplicaState) (first second : StepOut) → IsSameReplica old other → Steps table given old one first
    → Steps table given other two second → IsSameOutcome one two first second
one_outcome table given old other one two first second alike a b =
    from_one table given old one two first second a
    (record { event = b.event; event_is = event_alike table old other given b.event alike b.event_is; took = took_alike table old other two b.event second alike b.took })
