use Rattle.std.proofs.Common.{◌≡◌, Some, None, ◌∙◌, sym}
use Rattle.job_table.proofs.VariantLemmas.{if_none}
use Rattle.job_table.proofs.ZoneLemmas.{found_line, no_line}
use Rattle.job_table.proofs.zones.zone_number.Goals as goal

pub returns-in_err-place-clause-none : goal.returns-in_err-place-clause-none
returns-in_err-place-clause-none c =
    let none : c.place_of.result ≡ None = cc in
    if_none c.from_residual.result (no_line c.args.name.now c.args.zones.now (sym c.eq.ensures ∙ c.if-eq.false) (sym none ∙ c.place_of.ensures.place))

pub returns-clause-number : goal.returns-clause-number
returns-clause-number c =
    let some : c.place_of.result ≡ Some c.in_ok-place.place = cc in
    (found_line c.args.name.now c.args.zones.now c.in_ok-place.place (sym c.eq.ensures ∙ c.if-eq.false) (sym some ∙ c.place_of.ensures.place)).0

pub returns-clause-named : goal.returns-clause-named
returns-clause-named c =
    let some : c.place_of.result ≡ Some c.in_ok-place.place = cc in
    (found_line c.args.name.now c.args.zones.now c.in_ok-place.place (sym c.eq.ensures ∙ c.if-eq.false) (sym some ∙ c.place_of.ensures.place)).1
