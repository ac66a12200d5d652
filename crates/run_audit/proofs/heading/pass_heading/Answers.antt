use Rattle.std.proofs.Common.{◌≡◌, true, false, refl, sym, ◌∙◌}
use Rattle.run_audit.proofs.HeadingLemmas.{line_other, line_passed}
use Rattle.run_audit.proofs.heading.pass_heading.Goals as goal

pub returns-then-is_heading_next-clause-passes : goal.returns-then-is_heading_next-clause-passes
returns-then-is_heading_next-clause-passes c =
    line_passed c.args.heading c.read-next.result c.args.rest.now c.read-next.new.self c.read-next.ensures.reads (c.is_heading_next.ensures.0 c.if-is_heading_next.true) c.read-next.ensures.few

pub returns-clause-stops : goal.returns-clause-stops
returns-clause-stops c = record {
  number_is = refl;
  reason = c.in_ok-why.ensures c.args.rest.now c.read-next.new.self c.read-next.ensures.reads;
  other =
      line_other c.args.heading c.read-next.result c.args.rest.now c.read-next.new.self c.count_heading.ensures c.read-next.ensures.reads
      (λ tells. let both : true ≡ false = sym (c.is_heading_next.ensures.1 tells) ∙ c.if-is_heading_next.false in cc);
}
