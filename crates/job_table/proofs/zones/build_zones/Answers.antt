use Rattle.std.proofs.Common.{map}
use Rattle.run_text.specs.Run.{run_of, zone_of}
use Rattle.run_text.proofs.SoundLemmas.{sound_run}
use Rattle.job_table.specs.Table.{HasBadZone}
use Rattle.job_table.proofs.ZoneLemmas.{built_next, built_all, bad_zone, sound_source}
use Rattle.job_table.proofs.VariantLemmas.{handed_on}
use Rattle.job_table.proofs.zones.build_zones.Goals as goal

pub build_source-requires-clause-limits : goal.build_source-requires-clause-limits
build_source-requires-clause-limits c = (sound_run c.requires.text (run_of c.args.run.now) c.requires.says).limits

pub build_zone-requires-clause-offset : goal.build_zone-requires-clause-offset
build_zone-requires-clause-offset c =
    sound_source c.args.run.now c.deref-zone-items.result.now c.loop-zone.zone-index _ c.requires c.deref-zone-items.ensures.value c.loop-zone-test.true

pub returns-in_err-build_zone-clause-refused : goal.returns-in_err-build_zone-clause-refused
returns-in_err-build_zone-clause-refused c =
    handed_on c.from_residual-in_err-build_zone.result c.in_err-build_zone.field-0.0 _ (HasBadZone (map zone_of c.args.run.now.zones.items)) c.from_residual-in_err-build_zone.ensures.1
    (bad_zone c.args.run.now.window c.args.run.now.zones.items c.deref-zone-items.result.now c.loop-zone.zone-index _ c.loop-zone.zones.items c.deref-zone-items.ensures.value c.loop-zone-test.true c.loop-zone.invariant)
    c.in_err-build_zone.ensures.refused

pub loop-zone-preserved : goal.loop-zone-preserved
loop-zone-preserved c =
    built_next c.args.run.now.window c.args.run.now.zones.items c.deref-zone-items.result.now c.loop-zone.zone-index _ c.loop-zone.zones.items c.push-in-loop-zone.new.self.items c.in_ok-build_zone.field-0
    c.deref-zone-items.ensures.value c.loop-zone-test.true c.loop-zone.invariant c.in_ok-build_zone.ensures.zone c.in_ok-build_zone.ensures.readable c.in_ok-push-2.ensures.items

pub returns-clause-readable : goal.returns-clause-readable
returns-clause-readable c =
    (built_all c.args.run.now.window c.args.run.now.zones.items c.deref-zone-items.result.now c.loop-zone.zone-index c.loop-zone.zones.items c.deref-zone-items.ensures.value c.loop-zone-test.false c.loop-zone.invariant).readable
