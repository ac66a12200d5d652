use Rattle.std.proofs.Common.{◌<◌, ◌≤◌, List, length, sym, subst, arith}
use Rattle.run_text.specs.Run.{run_of}
use Rattle.run_text.specs.declared.run.ZoneLine.{ZoneLine}
use Rattle.job_table.specs.Collect.{HasFaultyMarks}
use Rattle.job_table.proofs.RunLemmas.{sound_text, next_in, refused_in, all_marks}
use Rattle.job_table.proofs.VariantLemmas.{handed_on}
use Rattle.job_table.proofs.ZoneLemmas.{few_zones}
use Rattle.job_table.proofs.collect.collect.Goals as goal

pub add_section-requires-clause-zones : goal.add_section-requires-clause-zones
add_section-requires-clause-zones c = subst (λ (l : List ZoneLine). length l ≤ 32) (sym c.as_slice.ensures.value) (few_zones c.args.run.now c.requires.run)

pub add_section-requires-clause-said : goal.add_section-requires-clause-said
add_section-requires-clause-said c =
    let within : c.loop-place.place < length c.args.run.now.sections.items = omega arith in
    (sound_text c.args.run.now c.index.result.now c.loop-place.place c.requires.run c.index.ensures within).sound.said

pub add_section-requires-clause-lines : goal.add_section-requires-clause-lines
add_section-requires-clause-lines c =
    let within : c.loop-place.place < length c.args.run.now.sections.items = omega arith in
    (sound_text c.args.run.now c.index.result.now c.loop-place.place c.requires.run c.index.ensures within).sound.within

pub returns-in_err-add_section-clause-refused : goal.returns-in_err-add_section-clause-refused
returns-in_err-add_section-clause-refused c =
    let within : c.loop-place.place < length c.args.run.now.sections.items = omega arith in
    let since : c.first_section-place.result ≤ c.loop-place.place = omega arith in
    handed_on c.from_residual.result c.in_err-add_section.field-0.0 _ (HasFaultyMarks (run_of c.args.run.now) c.args.version) c.from_residual.ensures.1
    (refused_in c.args.run.now c.as_slice.result.now c.index.result.now c.args.version c.first_section-place.result c.loop-place.place c.first_section-place-end.result c.loop-place.jobs
    c.requires.run c.as_slice.ensures.value c.index.ensures within c.first_section-place.ensures.number since c.first_section-place-end.ensures.number c.loop-place-test.true
    c.loop-place.invariant)
    c.in_err-add_section.ensures.refused

pub loop-place-preserved : goal.loop-place-preserved
loop-place-preserved c =
    let within : c.loop-place.place < length c.args.run.now.sections.items = omega arith in
    let since : c.first_section-place.result ≤ c.loop-place.place = omega arith in
    next_in c.args.run.now c.as_slice.result.now c.index.result.now c.args.version c.first_section-place.result c.loop-place.place c.loop-place.jobs c.add_section.new.jobs
    c.as_slice.ensures.value c.index.ensures within c.first_section-place.ensures.number since c.loop-place.invariant c.in_ok-add_section.ensures.added

pub returns-clause-jobs : goal.returns-clause-jobs
returns-clause-jobs c =
    all_marks c.args.run.now c.args.version c.first_section-place.result c.loop-place.place c.first_section-place-end.result c.loop-place.jobs c.requires.run
    c.first_section-place.ensures.number c.first_section-place-end.ensures.number c.loop-place.auto.place-end c.loop-place-test.false c.loop-place.invariant
