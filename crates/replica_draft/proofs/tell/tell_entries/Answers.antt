use Rattle.std.proofs.Common.{arith, ap, map, ◌∙◌, refl, get_or}
use Rattle.std.proofs.lemmas.List.{map-append, take_all}
use Rattle.paxos_base.specs.declared.entry.Entry.TheVariants.{Noop}
use Rattle.replica_draft.specs.Draft.{said_in}
use Rattle.replica_draft.proofs.DraftLemmas.{says-next}
use Rattle.replica_draft.proofs.tell.tell_entries.Goals as goal

pub loop-entry-preserved : goal.loop-entry-preserved
loop-entry-preserved c =
    let at = c.loop-entry.invariant.0 in (
      omega (arith, at),
      says-next c.args.sends.now.items c.loop-entry.sends.items c.push.new.self.items c.args.to c.args.first c.loop-entry.entry-index c.args.entries.now Noop (get_or c.args.entries.now c.loop-entry.entry-index Noop) c.loop-entry-test.true refl
          c.loop-entry.invariant.1 (rw (← at) (ap (map said_in) c.in_ok-push.ensures.ok ∙ map-append said_in c.loop-entry.sends.items _)),
    )

pub returns : goal.returns
returns c = rw (take_all c.loop-entry.entry-index c.args.entries.now c.loop-entry-test.false) at c.loop-entry.invariant.1
