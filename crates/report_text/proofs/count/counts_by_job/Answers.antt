use Rattle.std.proofs.Common.{rules, ◌<◌, ◌^◌, length, get_or, set, pos, ap, ◌∙◌}
use Rattle.std.proofs.lemmas.List.{get_or_default}
use Rattle.paxos_base.specs.declared.entry.Kind.TheVariants.{Launch}
use Rattle.cluster_sched.specs.declared.row.SchedRow.{SchedRow}
use Rattle.report_text.specs.Counts.{counted}
use Rattle.report_text.specs.declared.count.Counts.{Counts}
use Rattle.report_text.proofs.CountLemmas.{no_counts, counts_more, room_for_more}
use Rattle.report_text.proofs.count.counts_by_job.Goals as goal

-- what a read past the end would give
abbrev default_row : SchedRow
default_row = record { name = record { job = 0; at = pos 0 }; kind = Launch; now = record { 0 = pos 0 }; by = 0 }

pub loop-row-init : goal.loop-row-init
loop-row-init c = c.in_ok-counts.ensures.items_if_clones_equal (λ y is. is) ∙ no_counts c.args.jobs

pub with_one_more-requires-clause-launched : goal.with_one_more-requires-clause-launched
with_one_more-requires-clause-launched c =
    let held = c.args.held.now in
    let i = c.loop-row.row-index in
    let row = get_or held i default_row in
    let few : length held < 2 ^ 64 = search rules in
    rw c.index.ensures (room_for_more held i c.args.jobs row.name.job c.loop-row.counts.items c.index.result.now c.loop-row-test.true few (c.requires i default_row c.loop-row-test.true) c.loop-row.invariant).0

pub with_one_more-requires-clause-voided : goal.with_one_more-requires-clause-voided
with_one_more-requires-clause-voided c =
    let held = c.args.held.now in
    let i = c.loop-row.row-index in
    let row = get_or held i default_row in
    let few : length held < 2 ^ 64 = search rules in
    rw c.index.ensures (room_for_more held i c.args.jobs row.name.job c.loop-row.counts.items c.index.result.now c.loop-row-test.true few (c.requires i default_row c.loop-row-test.true) c.loop-row.invariant).1

pub loop-row-preserved : goal.loop-row-preserved
loop-row-preserved c =
    let held = c.args.held.now in
    let i = c.loop-row.row-index in
    let row = get_or held i default_row in
    let old = c.loop-row.counts.items in
    counts_more held i row c.args.jobs old _ c.index.result.now c.loop-row-test.true (get_or_default held i _ _ c.loop-row-test.true) (c.requires i default_row c.loop-row-test.true) c.loop-row.invariant
    (ap (λ (v : Counts). set old row.name.job v) (c.with_one_more.ensures ∙ ap (counted row.kind) c.index.ensures))
