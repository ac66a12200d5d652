use Rattle.std.proofs.Common.{◌≡◌, ◌+◌, ◌*◌, ◌/◌, min, max, ap, ◌∙◌, refl}
use Rattle.jiff.specs.Words.{plain_zone}
use Rattle.zone_minutes.proofs.SteadyLemmas.{IsSteady-end}
use Rattle.zone_minutes.proofs.listing.steady_end.Goals as goal

pub returns-clause-steady : goal.returns-clause-steady
returns-clause-steady c =
    let day = (c.args.minute / 1440 + 1) * 1440 in
    let inner : c.min-2.result ≡ min (min c.change_after-change.result day) c.args.until =
    c.min-2.ensures ∙ ap (λ m. min m c.args.until) c.min.ensures in
    let is : c.max.result ≡ max (min (min c.change_after-change.result day) c.args.until) (c.args.minute + 1) =
    c.max.ensures ∙ ap (λ m. max m (c.args.minute + 1)) inner in
    IsSteady-end (plain_zone c.args.zone.now) c.args.minute c.change_after-change.result day c.args.until c.max.result c.requires.range refl is c.change_after-change.ensures
