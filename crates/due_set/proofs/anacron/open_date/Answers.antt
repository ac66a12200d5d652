use Rattle.std.proofs.Common.{◌≡◌, ◌↔◌, IsTrue, ℤ, FitsSigned, w64, sym, ap, ◌∙◌, subst, arith}
use Rattle.std.proofs.lemmas.Int.{ints, to_z-of_z}
use Rattle.zone_minutes.specs.Civil.{day_number}
use Rattle.due_set.specs.Day.{Opens}
use Rattle.due_set.proofs.DueLemmas.{IsLocal-is}
use Rattle.due_set.proofs.anacron.open_date.Goals as goal

pub returns-then-opens-clause-found : goal.returns-then-opens-clause-found
returns-then-opens-clause-found c = λ z read.
    let shown : ℤ = c.local-shown.result in
    let fits : FitsSigned w64 shown = omega (arith, ints, c.local-shown.ensures.range) in
    let day_fits : FitsSigned w64 c.day_of.result = omega (arith, ints, c.day_of.ensures.range) in
    let shown_is = IsLocal-is c.args.zone.now.source z c.args.now.0 shown read c.local-shown.ensures.local in
    let told : IsTrue c.opens.result ↔ Opens c.args.opening.now shown = simp to_z-of_z at c.opens.ensures in
    let day : c.day_of.result ≡ day_number shown = simp to_z-of_z at c.day_of.ensures.day in
    (subst (Opens c.args.opening.now) shown_is (told.0 c.if-opens.true), to_z-of_z w64 c.day_of.result day_fits ∙ day ∙ ap day_number shown_is)

pub returns-else-opens-clause-none : goal.returns-else-opens-clause-none
returns-else-opens-clause-none c = λ z read opens.
    let shown : ℤ = c.local-shown.result in
    let fits : FitsSigned w64 shown = omega (arith, ints, c.local-shown.ensures.range) in
    let shown_is = IsLocal-is c.args.zone.now.source z c.args.now.0 shown read c.local-shown.ensures.local in
    let told : IsTrue c.opens.result ↔ Opens c.args.opening.now shown = simp to_z-of_z at c.opens.ensures in
    let held = told.1 (subst (Opens c.args.opening.now) (sym shown_is) opens) in
    let not = c.if-opens.false in
    cc (held, not)
