use Rattle.std.proofs.Common.{◌+◌, map, refl, subst, arith}
use Rattle.crontab_text.specs.LineBody.{body_of}
use Rattle.crontab_text.specs.Reader.{ReadsLine}
use Rattle.run_text.specs.Run.{section_of, zone_of}
use Rattle.job_table.specs.Collect.{RefusesSection, RefusesMarks, line_marks}
use Rattle.job_table.proofs.CrontabLemmas.{walking_first, walking_next, walked, next_says, next_within, line_refused}
use Rattle.job_table.proofs.VariantLemmas.{handed_on}
use Rattle.job_table.proofs.crontab.add_crontab.Goals as goal

pub lines-init : goal.lines-init
lines-init c =
    walking_first (map zone_of c.args.zones.now) (section_of c.args.section.now) c.args.style c.args.section.now.text.now c.new-lines.result _ c.args.jobs.now c.requires.named refl c.requires.number
    c.new-lines.ensures

pub said-line-requires : goal.said-line-requires
said-line-requires c =
    next_says (map zone_of c.args.zones.now) (section_of c.args.section.now) c.args.style c.args.section.now.text.now c.lines.lines c.next.new.self c.lines.above c.args.jobs.now c.lines.jobs c.in-Some.read c.requires.said c.lines.invariant c.in-Some.ensures.line

pub overflow_add-at : goal.overflow_add-at
overflow_add-at c =
    let reads = subst (ReadsLine c.lines.lines c.next.new.self) c.said-line.ensures c.in-Some.ensures.line in
    let within = next_within (map zone_of c.args.zones.now) (section_of c.args.section.now) c.args.style c.args.section.now.text.now c.lines.lines c.next.new.self c.lines.above c.args.jobs.now c.lines.jobs c.said-line.result c.lines.invariant reads in
    omega (arith, within.0, c.requires.lines)

pub add_line-requires-clause-entries : goal.add_line-requires-clause-entries
add_line-requires-clause-entries c =
    let reads = subst (ReadsLine c.lines.lines c.next.new.self) c.said-line.ensures c.in-Some.ensures.line in
    let within = next_within (map zone_of c.args.zones.now) (section_of c.args.section.now) c.args.style c.args.section.now.text.now c.lines.lines c.next.new.self c.lines.above c.args.jobs.now c.lines.jobs c.said-line.result c.lines.invariant reads in
    omega (arith, within.1, c.requires.lines)

pub returns-in_err-above-clause-refused : goal.returns-in_err-above-clause-refused
returns-in_err-above-clause-refused c =
    let zones = map zone_of c.args.zones.now in
    let reads = subst (ReadsLine c.lines.lines c.next.new.self) c.said-line.ensures c.in-Some.ensures.line in
    handed_on c.from_residual.result c.in_err-above.field-0.0
    (RefusesMarks zones c.lines.jobs (line_marks zones c.args.section.now.label.now c.lines.above.zone (c.args.section.now.line + c.said-line.result.number) (c.lines.above.entries + 1) (body_of c.said-line.result.body)))
    (RefusesSection zones c.args.jobs.now (section_of c.args.section.now)) c.from_residual.ensures.1
    (λ refusal refuses. line_refused zones (section_of c.args.section.now) c.args.style c.args.section.now.text.now c.lines.lines c.next.new.self c.lines.above (c.args.section.now.line + c.said-line.result.number) c.args.jobs.now c.lines.jobs c.said-line.result refusal
    c.requires.style c.requires.said refl c.lines.invariant reads refl refuses)
    c.in_err-above.ensures.refused

pub lines-preserved : goal.lines-preserved
lines-preserved c =
    let reads = subst (ReadsLine c.lines.lines c.next.new.self) c.said-line.ensures c.in-Some.ensures.line in
    walking_next (map zone_of c.args.zones.now) (section_of c.args.section.now) c.args.style c.args.section.now.text.now c.lines.lines c.next.new.self c.lines.above c.in_ok-above.above (c.args.section.now.line + c.said-line.result.number) c.args.jobs.now c.lines.jobs c.add_line.new.jobs c.said-line.result
    c.lines.invariant reads refl c.in_ok-above.ensures.below c.in_ok-above.ensures.added

pub returns-clause-added : goal.returns-clause-added
returns-clause-added c =
    walked (map zone_of c.args.zones.now) (section_of c.args.section.now) c.args.style c.args.section.now.text.now c.lines.lines c.lines.above c.args.jobs.now c.lines.jobs c.requires.style c.lines.invariant (c.in_default.ensures.end.0 refl) refl
