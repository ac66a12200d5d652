use Rattle.std.proofs.Common.{◌≡◌, ◌++◌, ◌∷◌, [], ◌<◌, length, Some, refl, ap, ◌∙◌, map, arith}
use Rattle.std.specs.Prelude.{slice_get}
use Rattle.std.proofs.lemmas.Option.{slice_get_read}
use Rattle.due_set.specs.Table.{own_name, version_of}
use Rattle.run_text.specs.Run.{run_of}
use Rattle.job_table.proofs.VersionJobLemmas.{first_version, next_version}
use Rattle.job_table.proofs.versions.specs_of_versions.Goals as goal

pub loop-place-init : goal.loop-place-init
loop-place-init c =
    ap (map version_of) (c.in_ok-push.ensures.items ∙ ap (λ l. l ++ record { from = c.args.run.now.window.from; jobs = c.in_ok-specs.field-0 } ∷ []) c.new-versions.ensures.items)
    ∙ first_version (run_of c.args.run.now) c.args.first.now c.args.later.now (record { from = c.args.run.now.window.from; jobs = c.in_ok-specs.field-0 }) c.in_ok-specs.ensures.distinct
    refl c.in_ok-specs.ensures.specs

pub loop-place-preserved : goal.loop-place-preserved
loop-place-preserved c =
    let within : c.loop-place.place < length c.args.run.now.versions.items = omega arith in
    let here : slice_get c.args.later.now c.loop-place.place ≡ Some c.index-later-place.result =
    slice_get_read c.args.later.now (length c.args.later.now) c.loop-place.place c.index-later-place.result refl c.loop-place-test.true c.index-later-place.is in
    let line : slice_get c.args.run.now.versions.items c.loop-place.place ≡ Some c.index.result.now =
    slice_get_read c.args.run.now.versions.items (length c.args.run.now.versions.items) c.loop-place.place c.index.result.now refl within c.index.ensures in
    next_version (run_of c.args.run.now) (map own_name c.args.first.now) c.args.first.now c.index-later-place.result c.args.later.now c.loop-place.place c.index.result.now
    c.loop-place.versions.items c.push-in-loop-place.new.self.items (record { from = c.index.result.now.from; jobs = c.in_ok-specs_under.field-0 }) line here c.loop-place.invariant
    c.in_ok-push-2.ensures.items refl c.in_ok-specs_under.ensures
