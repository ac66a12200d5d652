use Rattle.std.proofs.Common.{◌≡◌, ◌-◌, ◌∙◌, length, arith}
use Rattle.job_table.proofs.RunLemmas.{line_within, past_lines}
use Rattle.job_table.proofs.collect.first_section.Goals as goal

pub returns-in-Some-clause-within : goal.returns-in-Some-clause-within
returns-in-Some-clause-within c =
    let found = c.in-Some.ensures.lookup.3 in
    line_within c.args.run.now c.deref.result.now (c.args.version - 1) c.in-Some.version.now c.requires c.deref.ensures.value found.0 (found.1 c.in-Some.version.now)

pub returns-in-None-clause-number : goal.returns-in-None-clause-number
returns-in-None-clause-number c =
    let all : c.len.result ≡ length c.args.run.now.sections.items = omega (arith, c.args.run.now.sections.ok) in
    all ∙ past_lines c.args.run.now c.deref.result.now c.args.version c.deref.ensures.value c.if-version-eq0.false c.in-None.ensures.lookup.3
