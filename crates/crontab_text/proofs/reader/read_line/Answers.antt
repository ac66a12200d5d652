use Rattle.std.proofs.Common.{rules, inl}
use Rattle.std.proofs.lemmas.Result.{IfErr-weaker}
use Rattle.crontab_text.specs.Answers.{IsOther}
use Rattle.crontab_text.specs.Entry.{IsEntryFault}
use Rattle.crontab_text.specs.LineBreak.{IsLineBreak}
use Rattle.crontab_text.proofs.reader.read_line.Goals as goal

pub returns-in-None-read_assignment-clause-fault : goal.returns-in-None-read_assignment-clause-fault
returns-in-None-read_assignment-clause-fault c =
    let text = c.skip_blanks-text.result.now in
    let other : IsOther text = search rules in
    IfErr-weaker c.read_entry.result (λ e. IsEntryFault c.args.style text e.cause e.left) (λ e. IsLineBreak c.args.style c.args.line.now e.cause e.left)
    (λ e fault. record { text = text; skips = c.skip_blanks-text.ensures; breaks = inl (other, fault) }) c.read_entry.ensures.fault
