use Rattle.replica_core.proofs.parts.Core.prepare.Goals as goal

pub returns-clause-planned : goal.returns-clause-planned
returns-clause-planned c =
    let made = c.in_ok-draft.ensures.makes in
    record { event = made.event; event_is = made.event_is; plans = record { makes = made.makes; letters = c.in_ok-letters.ensures.letters c.args.table.now c.args.input c.requires.of_table made; delta = c.in_ok-delta.ensures } }
