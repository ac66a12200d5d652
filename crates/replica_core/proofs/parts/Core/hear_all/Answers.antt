use Rattle.std.proofs.Common.{◌<◌, ◌^◌, arith, length, refl}
use Rattle.std.proofs.lemmas.Bool.{and_parts, ltb-true}
use Rattle.launch_machine.specs.Clerk.{table_size}
use Rattle.step_spec.specs.Heard.{messages_of}
use Rattle.step_spec.specs.Letters.{IsHeardAs}
use Rattle.replica_core.proofs.HearLemmas.{first-rows, hearing-all, hearing-next, hearing-none, once-now}
use Rattle.replica_core.proofs.LeadLemmas.{begun-ready, own-prefix}
use Rattle.replica_core.proofs.OnceLemmas.{read-once}
use Rattle.replica_core.proofs.PlanLemmas.{read-from}
use Rattle.replica_core.proofs.TableLemmas.{all-rows-heard}
use Rattle.replica_core.specs.Replica.{changes_of_draft}
use Rattle.replica_core.proofs.parts.Core.hear_all.Goals as goal

pub loop-packet-init : goal.loop-packet-init
loop-packet-init c =
    let from = c.args.letter.now.from in
    let packets = c.args.letter.now.packets in
    let bytes = c.requires.letter.0 in
    let heard : IsHeardAs c.args.self.now.members (table_size c.args.table.now) bytes from (messages_of packets) =
    record { packets = packets; spells = c.requires.letter.1; heard = rw c.requires.bounds refl } in
    rw (c.from-from.ensures, c.packets-packets.ensures)
    (hearing-none c.args.table.now c.args.self.now from packets c.args.draft.now c.requires.idle.stands
    (begun-ready c.args.self.now c.args.draft.now c.requires.whole c.requires.idle.term c.requires.idle.change c.requires.idle.learnt c.args.table.now).steady
    c.requires.idle.change c.requires.idle.learnt
    (read-once c.args.self.now.members from packets bytes c.requires.letter.1)
    (all-rows-heard c.args.self.now.members (table_size c.args.table.now) bytes from (messages_of packets) heard)
    (and_parts _ _ c.requires.bounds).1)

pub hear-requires : goal.hear-requires
hear-requires c =
    let hearing = rw c.in-Some.ensures.steps at c.loop-packet.invariant in
    let few : length c.args.letter.now.packets < 2 ^ 31 = ltb-true (length c.args.letter.now.packets) (2 ^ 31) (and_parts _ _ c.requires.bounds).0 in
    let past = hearing.few in
    record {
      whole = c.requires.whole;
      prefix = rw (own-prefix c.args.self.now c.requires.whole) c.requires.small.prefix;
      member = rw c.from-from.ensures (read-from c.args.self.now.members c.args.letter.now.from c.args.letter.now.packets c.requires.letter.0 c.requires.letter.1);
      small = (and_parts _ _ hearing.small).0;
      rows = (first-rows (table_size c.args.table.now) c.in-Some.packet c.next.new.self hearing.rows).0;
      once = once-now c.in-Some.packet c.next.new.self (changes_of_draft c.loop-packet.draft.change) hearing.once;
      steady = hearing.steady;
      short = omega (arith, few, past);
    }

pub loop-packet-preserved-then-asked : goal.loop-packet-preserved-then-asked
loop-packet-preserved-then-asked c =
    hearing-next c.args.table.now c.args.self.now c.from-from.result c.args.letter.now.packets c.next.new.self c.in-Some.packet c.loop-packet.asked c.loop-packet.asked c.loop-packet.draft c.hear.new.draft
    (rw c.in-Some.ensures.steps at c.loop-packet.invariant) (rw c.if-asked.true refl) c.in_ok-hear.ensures.does c.in_ok-hear.ensures.steady c.in_ok-hear.ensures.once c.in_ok-hear.ensures.few

pub loop-packet-preserved : goal.loop-packet-preserved
loop-packet-preserved c =
    hearing-next c.args.table.now c.args.self.now c.from-from.result c.args.letter.now.packets c.next.new.self c.in-Some.packet c.loop-packet.asked c.shows_gap-gap.result c.loop-packet.draft c.hear.new.draft
    (rw c.in-Some.ensures.steps at c.loop-packet.invariant) (rw c.if-asked.false c.shows_gap-gap.ensures) c.in_ok-hear.ensures.does c.in_ok-hear.ensures.steady c.in_ok-hear.ensures.once c.in_ok-hear.ensures.few

pub returns-clause-makes : goal.returns-clause-makes
returns-clause-makes c =
    rw (← c.from-from.ensures) (hearing-all c.args.table.now c.args.self.now c.from-from.result c.args.letter.now.packets c.loop-packet.asked c.loop-packet.draft (rw c.in_default.ensures.steps.0 at c.loop-packet.invariant))
