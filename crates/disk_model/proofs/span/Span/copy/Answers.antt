use Rattle.std.proofs.Common.{◌≡◌, ◌⊎◌, ⊎_elim, inl, inr, ◌<◌, ◌≤◌, length, ◌+◌, ◌-◌, arith, rules}
use Rattle.disk_model.proofs.SpanLemmas.{get_or-put_mid_outside, outside}
use Rattle.disk_model.proofs.span.Span.copy.Goals as goal

pub returns-then-self-until-clause-others : goal.returns-then-self-until-clause-others
returns-then-self-until-clause-others c place is =
    let from = c.args.self.now.from in
    let long : length c.copy_from_slice.new.self ≡ c.min-until.result - from = search rules in
    let apart : (place < from) ⊎ (from + (c.min-until.result - from) ≤ place) =
    ⊎_elim (λ below. inl below) (λ above. inr (omega (arith, above, c.min-until.ensures, c.if-self-until.true))) (outside c.args.self.now place is) in
    get_or-put_mid_outside from (c.min-until.result - from) place c.args.into.now c.copy_from_slice.new.self long (omega (arith, c.min-until.ensures, c.if-self-until.true)) apart
