use Rattle.std.proofs.Common.{◌∙◌, map, sym, subst}
use Rattle.crontab_text.specs.Lines.{lines_of}
use Rattle.run_text.specs.Run.{section_of, zone_of}
use Rattle.run_text.specs.Table.{AreSaid}
use Rattle.job_table.specs.Collect.{RefusesSection}
use Rattle.job_table.proofs.SectionLemmas.{zone_refused}
use Rattle.job_table.proofs.collect.add_section.Goals as goal
use Rattle.run_text.proofs.VariantLemmas.{refused_on}

pub returns-in_err-zone-clause-refused : goal.returns-in_err-zone-clause-refused
returns-in_err-zone-clause-refused c =
    refused_on c.from_residual.result c.in_err-zone.field-0.0 (RefusesSection (map zone_of c.args.zones.now) c.args.jobs.now (section_of c.args.section.now)) c.from_residual.ensures.1
    (zone_refused (map zone_of c.args.zones.now) (section_of c.args.section.now) c.args.jobs.now c.in_err-zone.field-0.0 c.requires.said c.in_err-zone.ensures.refused.0 c.in_err-zone.ensures.refused.1)

pub add_crontab-requires-clause-said : goal.add_crontab-requires-clause-said
add_crontab-requires-clause-said c = subst (λ s. AreSaid s c.args.section.now.label.now (lines_of c.args.section.now.text.now)) (sym c.style.ensures ∙ c.in-Some.is) c.requires.said

pub add_anacrontab-requires-clause-said : goal.add_anacrontab-requires-clause-said
add_anacrontab-requires-clause-said c = subst (λ s. AreSaid s c.args.section.now.label.now (lines_of c.args.section.now.text.now)) (sym c.style.ensures ∙ c.in-None.is) c.requires.said
