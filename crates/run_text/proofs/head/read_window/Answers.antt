use Rattle.std.proofs.Common.{refl, ◌∙◌}
use Rattle.run_text.specs.Follow.{Replicas, Times}
use Rattle.run_text.proofs.StepLemmas.{one_line_at, missing_line}
use Rattle.run_text.proofs.head.read_window.Goals as goal

pub returns-in_default-clause-refused : goal.returns-in_default-clause-refused
returns-in_default-clause-refused c = λ tables members.
    missing_line tables _ (Replicas members) c.args.reader.now.rest.now c.of_line.result c.in_default.ensures.missing c.of_line.ensures.cause
    (c.of_line.ensures.line ∙ c.in_default.ensures.number) c.of_line.ensures.place

pub returns-in-Some-window_of-clause-read : goal.returns-in-Some-window_of-clause-read
returns-in-Some-window_of-clause-read c = λ tables members.
    one_line_at c.args.reader.now c.next_line.new.self (Replicas members) (Times members c.in-Some-window_of.window)
    c.in-Some.line.now c.in-Some.ensures.number c.in-Some.ensures.line (c.in-Some-window_of.window, c.in-Some-window_of.ensures.read, refl)
