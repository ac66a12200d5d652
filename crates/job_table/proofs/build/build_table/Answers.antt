use Rattle.std.proofs.Common.{◌<◌, ◌≤◌, length, map, arith}
use Rattle.due_set.specs.Table.{version_of}
use Rattle.run_text.specs.Run.{run_of}
use Rattle.job_table.proofs.GatheredLemmas.{AreGathered, gathered, specs_are, table_is}
use Rattle.job_table.proofs.VerdictLemmas.{sound_assembled, too_many_jobs, too_many_due, taken}
use Rattle.job_table.proofs.build.build_table.Goals as goal

pub returns-then-len-gt-MOST_JOBS-clause-refused : goal.returns-then-len-gt-MOST_JOBS-clause-refused
returns-then-len-gt-MOST_JOBS-clause-refused c =
    let run = run_of c.args.run.now in
    let first = c.add_names.new.first in
    let later = c.remove-first.new.self.items in
    let all : AreGathered run first later = gathered run c.in_ok-later.later.items later c.deref.result.now c.remove-first.result first c.in_ok-later.ensures.jobs
    c.remove-first.ensures.value c.remove-first.ensures.items c.deref.ensures.value c.in_ok-add_names.ensures in
    let many : 1000 < length first = omega (arith, c.len.ensures) in
    too_many_jobs run first later c.of_line.result c.in_ok-zones.ensures.readable all many c.of_line.ensures.line c.of_line.ensures.cause c.of_line.ensures.place

pub assemble_versions-table-requires-clause-sound : goal.assemble_versions-table-requires-clause-sound
assemble_versions-table-requires-clause-sound c =
    let run = run_of c.args.run.now in
    let first = c.add_names.new.first in
    let later = c.remove-first.new.self.items in
    let specs = map version_of c.in_ok-versions.versions.items in
    let all : AreGathered run first later = gathered run c.in_ok-later.later.items later c.deref.result.now c.remove-first.result first c.in_ok-later.ensures.jobs
    c.remove-first.ensures.value c.remove-first.ensures.items c.deref.ensures.value c.in_ok-add_names.ensures in
    let few : length first ≤ 1000 = omega (arith, c.len.ensures) in
    sound_assembled c.requires.text run first later all c.in_ok-zones.zones.items specs c.requires.says c.in_ok-zones.ensures.zones c.in_ok-zones.ensures.built few
    (specs_are run first later c.deref-2.result.now all specs c.deref-2.ensures.value c.in_ok-versions.ensures)

pub returns-in-Some-clause-table : goal.returns-in-Some-clause-table
returns-in-Some-clause-table c =
    let run = run_of c.args.run.now in
    let first = c.add_names.new.first in
    let later = c.remove-first.new.self.items in
    let specs = map version_of c.in_ok-versions.versions.items in
    let all : AreGathered run first later = gathered run c.in_ok-later.later.items later c.deref.result.now c.remove-first.result first c.in_ok-later.ensures.jobs
    c.remove-first.ensures.value c.remove-first.ensures.items c.deref.ensures.value c.in_ok-add_names.ensures in
    let few : length first ≤ 1000 = omega (arith, c.len.ensures) in
    let is = table_is run first later all c.in_ok-zones.zones.items specs c.assemble_versions-table.result c.in_ok-zones.ensures.zones
    (specs_are run first later c.deref-2.result.now all specs c.deref-2.ensures.value c.in_ok-versions.ensures) c.assemble_versions-table.ensures.table in
    taken run first later c.assemble_versions-table.result c.in-Some.field-0 c.in_ok-zones.ensures.readable all few is c.in-Some.ensures.counted c.in-Some.ensures.few

pub returns-clause-refused : goal.returns-clause-refused
returns-clause-refused c =
    let run = run_of c.args.run.now in
    let first = c.add_names.new.first in
    let later = c.remove-first.new.self.items in
    let specs = map version_of c.in_ok-versions.versions.items in
    let all : AreGathered run first later = gathered run c.in_ok-later.later.items later c.deref.result.now c.remove-first.result first c.in_ok-later.ensures.jobs
    c.remove-first.ensures.value c.remove-first.ensures.items c.deref.ensures.value c.in_ok-add_names.ensures in
    let few : length first ≤ 1000 = omega (arith, c.len.ensures) in
    let is = table_is run first later all c.in_ok-zones.zones.items specs c.assemble_versions-table.result c.in_ok-zones.ensures.zones
    (specs_are run first later c.deref-2.result.now all specs c.deref-2.ensures.value c.in_ok-versions.ensures) c.assemble_versions-table.ensures.table in
    too_many_due run first later c.assemble_versions-table.result c.of_line-in-None.result c.in_ok-zones.ensures.readable all few c.assemble_versions-table.ensures.sound is
    c.in-None.ensures.many c.of_line-in-None.ensures.line c.of_line-in-None.ensures.cause c.of_line-in-None.ensures.place
