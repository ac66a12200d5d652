use Rattle.std.proofs.Common.{inl, inr, refl, arith}
use Rattle.crontab_text.specs.Assignment.{HasQuotes}
use Rattle.crontab_text.proofs.AssignmentLemmas.{in_quotes, has_quotes, boundary_behind_quote, boundary_at_quote}
use Rattle.crontab_text.proofs.assignment.unquote.Goals as goal

pub range-requires : goal.range-requires
range-requires c =
    let quotes : HasQuotes c.args.text.now = c.if-is_quoted.ensures.0 refl in
    record {
      start_le_end = omega (arith, quotes.two);
      start_boundary = λ some. boundary_behind_quote c.args.text.now c.utf8.text quotes;
      end_boundary = boundary_at_quote c.args.text.now quotes;
    }

pub returns-then-is_quoted : goal.returns-then-is_quoted
returns-then-is_quoted c =
    rw c.range.ensures.value (inl (in_quotes c.args.text.now (c.if-is_quoted.ensures.0 refl)))

pub returns-else-is_quoted : goal.returns-else-is_quoted
returns-else-is_quoted c =
    inr (refl, λ other inside. let yes = c.is_quoted.ensures.1 (has_quotes c.args.text.now other inside) in cc)
