use Rattle.std.proofs.Common.{◌≡◌, ◌==◌, ℕ, List, length, true, false, ap, refl, sym, ◌∙◌}
use Rattle.run_audit.proofs.heading.pass_end.Goals as goal

pub returns-clause-stops : goal.returns-clause-stops
returns-clause-stops c = record {
  number_is = refl;
  reason = c.in_ok-why.ensures c.args.rest.now c.read-next.new.self c.read-next.ensures.reads;
  more = λ none. let both : true ≡ false = sym (c.is_empty.ensures ∙ ap (λ (l : List ℕ). length l == 0) none) ∙ c.if-is_empty.false in cc;
}
