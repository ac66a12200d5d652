use Rattle.std.proofs.Common.{subst}
use Rattle.run_text.specs.Steps.{texts_of_names}
use Rattle.run_text.specs.Zones.{IsFreeName}
use Rattle.run_text.proofs.ZoneLemmas.{one_zone}
use Rattle.run_text.proofs.zone.read_zone.Goals as goal

pub returns-in_default-clause-refused : goal.returns-in_default-clause-refused
returns-in_default-clause-refused c = λ name source adds. c.in_default.ensures.none name source adds.is

pub returns-then-not-is_free-clause-refused : goal.returns-then-not-is_free-clause-refused
returns-then-not-is_free-clause-refused c = λ name source adds.
    let same = one_zone c.args.line.now name c.in-Some.zone.name.now source _ adds.is c.in-Some.ensures.read in
    let yes = c.is_free.ensures.1 (subst (IsFreeName (texts_of_names c.args.names.now.items)) same.0 adds.free) in
    cc (yes, c.if-not-is_free.true)
