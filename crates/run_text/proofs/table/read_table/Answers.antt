use Rattle.std.proofs.Common.{refl, arith}
use Rattle.run_text.proofs.CutLemmas.{cut_short}
use Rattle.run_text.proofs.TableLemmas.{refused_table, passed_table}
use Rattle.run_text.proofs.table.read_table.Goals as goal

pub returns-in-Some-judged_fault-clause-refused : goal.returns-in-Some-judged_fault-clause-refused
returns-in-Some-judged_fault-clause-refused c =
    refused_table c.args.tables c.args.reader.now c.args.opening c.in-Some.text.now c.in-Some.rest.now c.in-Some-judged_fault.fault c.refusal_of.result c.in-Some-judged_fault.ensures.judged
    c.in-Some.ensures.cut c.in-Some-judged_fault.ensures.fault c.refusal_of.ensures.line c.refusal_of.ensures.cause c.refusal_of.ensures.place

pub overflow_add-reader : goal.overflow_add-reader
overflow_add-reader c = omega (arith, cut_short _ _ _ _ c.in-Some.ensures.cut, c.requires)

pub returns-clause-read : goal.returns-clause-read
returns-clause-read c =
    passed_table c.args.tables c.args.reader.now _ c.args.opening _ c.in-Some.text.now c.in-Some.ensures.cut c.in_default-judged_fault.ensures.none refl refl

pub returns-clause-room : goal.returns-clause-room
returns-clause-room c = omega (arith, cut_short _ _ _ _ c.in-Some.ensures.cut, c.requires)
