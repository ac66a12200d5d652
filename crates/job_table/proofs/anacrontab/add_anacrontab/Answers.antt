use Rattle.std.proofs.Common.{◌+◌, List, map, refl, subst, arith}
use Rattle.std.specs.Prelude.{IfOk}
use Rattle.anacron_text.specs.Limits.{IsBodyWithin}
use Rattle.anacron_text.specs.LineBody.{anacron_body_of}
use Rattle.anacron_text.specs.Reader.{ReadsAnacronLine}
use Rattle.run_text.specs.Run.{NamedZone, section_of, zone_of}
use Rattle.job_table.specs.Collect.{RefusesSection, RefusesMarks}
use Rattle.job_table.specs.Marks.{anacron_mark}
use Rattle.job_table.proofs.AnacrontabLemmas.{walking_first, walking_next, walked, next_says, next_within, line_refused}
use Rattle.job_table.proofs.VariantLemmas.{handed_on}
use Rattle.job_table.proofs.anacrontab.add_anacrontab.Goals as goal

pub lines-init : goal.lines-init
lines-init c =
    walking_first (map zone_of c.args.zones.now) (section_of c.args.section.now) c.args.zone c.args.section.now.text.now c.new-lines.result c.args.jobs.now c.requires.named c.requires.said c.new-lines.ensures

pub said-line-requires : goal.said-line-requires
said-line-requires c =
    next_says (map zone_of c.args.zones.now) (section_of c.args.section.now) c.args.zone c.args.section.now.text.now c.lines.lines c.next.new.self c.args.jobs.now c.lines.jobs c.in-Some.read c.lines.invariant c.in-Some.ensures.line

pub overflow_add-at : goal.overflow_add-at
overflow_add-at c =
    let reads = subst (ReadsAnacronLine c.lines.lines c.next.new.self) c.said-line.ensures c.in-Some.ensures.line in
    let within = next_within (map zone_of c.args.zones.now) (section_of c.args.section.now) c.args.zone c.args.section.now.text.now c.lines.lines c.next.new.self c.args.jobs.now c.lines.jobs c.said-line.result c.lines.invariant reads in
    omega (arith, within, c.requires.lines)

pub add_line-requires : goal.add_line-requires
add_line-requires c = subst (λ r. IfOk r (λ l. IsBodyWithin l.body)) c.said-line.ensures c.in-Some.ensures.within

pub returns-in_err-add_line-clause-refused : goal.returns-in_err-add_line-clause-refused
returns-in_err-add_line-clause-refused c =
    let zones = map zone_of c.args.zones.now in
    let reads = subst (ReadsAnacronLine c.lines.lines c.next.new.self) c.said-line.ensures c.in-Some.ensures.line in
    handed_on c.from_residual.result c.in_err-add_line.field-0.0
    (λ refusal. (named : List NamedZone) → RefusesMarks named c.lines.jobs (anacron_mark c.args.section.now.label.now c.args.zone (c.args.section.now.line + c.said-line.result.number) (anacron_body_of c.said-line.result.body)) refusal)
    (RefusesSection zones c.args.jobs.now (section_of c.args.section.now)) c.from_residual.ensures.1
    (λ refusal refuses. line_refused zones (section_of c.args.section.now) c.args.zone c.args.section.now.text.now c.lines.lines c.next.new.self (c.args.section.now.line + c.said-line.result.number) c.args.jobs.now c.lines.jobs c.said-line.result refusal
    c.requires.style c.requires.number refl c.lines.invariant reads refl (refuses zones))
    c.in_err-add_line.ensures.refused

pub lines-preserved : goal.lines-preserved
lines-preserved c =
    let reads = subst (ReadsAnacronLine c.lines.lines c.next.new.self) c.said-line.ensures c.in-Some.ensures.line in
    walking_next (map zone_of c.args.zones.now) (section_of c.args.section.now) c.args.zone c.args.section.now.text.now c.lines.lines c.next.new.self (c.args.section.now.line + c.said-line.result.number) c.args.jobs.now c.lines.jobs c.add_line.new.jobs
    c.said-line.result c.lines.invariant reads refl (c.in_ok-add_line.ensures.added (map zone_of c.args.zones.now))

pub returns-clause-added : goal.returns-clause-added
returns-clause-added c =
    walked (map zone_of c.args.zones.now) (section_of c.args.section.now) c.args.zone c.args.section.now.text.now c.lines.lines c.args.jobs.now c.lines.jobs c.requires.style c.requires.number c.lines.invariant (c.in_default.ensures.end.0 refl) refl
