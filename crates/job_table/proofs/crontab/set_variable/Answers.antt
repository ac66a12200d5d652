use Rattle.std.proofs.Common.{◌∙◌, sym, map}
use Rattle.run_text.specs.Run.{zone_of}
use Rattle.job_table.proofs.MarkLemmas.{adds_zone}
use Rattle.job_table.proofs.VariantLemmas.{ok_leads}
use Rattle.job_table.proofs.crontab.set_variable.Goals as goal

pub returns-then-eq-clause-ok : goal.returns-then-eq-clause-ok
returns-then-eq-clause-ok c =
    ok_leads c.find_zone.result (λ named label number jobs. rw (sym c.eq.ensures ∙ c.if-eq.true) (adds_zone (map zone_of c.args.zones.now) jobs c.args.line c.args.value.now named))
    c.find_zone.ensures.named
