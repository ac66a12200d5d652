use Rattle.run_input.proofs.TextLemmas.{texts_of, text_of}
use Rattle.run_input.proofs.text.as_text.Goals as goal

pub returns-in-Some-clause-lines : goal.returns-in-Some-clause-lines
returns-in-Some-clause-lines c = texts_of c.args.bytes.now c.in-Some.ensures.is_text

pub line_at_fault-requires-clause-at_fault : goal.line_at_fault-requires-clause-at_fault
line_at_fault-requires-clause-at_fault c = λ texts. c.in-None.ensures.none (text_of c.args.bytes.now texts)
