use Rattle.std.proofs.Common.{FitsSigned, w64, arith, sym, subst}
use Rattle.std.proofs.lemmas.Int.{ints, to_z-of_z}
use Rattle.paxos_base.specs.declared.entry.Entry.{Entry}
use Rattle.paxos_base.specs.declared.entry.Entry.TheVariants.{Start, End, Table as TableEntry}
use Rattle.launch_machine.specs.Answers.{IsEffect}
use Rattle.launch_machine.specs.Clerk.{Applies}
use Rattle.launch_machine.proofs.machine.Machine.apply.Goals as goal

pub returns-in-Start-clause-applies : goal.returns-in-Start-clause-applies
returns-in-Start-clause-applies c =
    let at_fits : FitsSigned w64 c.in-Start.at = omega (arith, ints) in
    let now_fits : FitsSigned w64 c.in-Start.now = omega (arith, ints) in
    let applies : Applies c.args.table.now c.args.self.now.rows (Start c.in-Start.job c.in-Start.at c.in-Start.now) c.start.new.self.rows = simp to_z-of_z at c.start.ensures.applies in
    subst (λ (e : Entry). Applies c.args.table.now c.args.self.now.rows e c.start.new.self.rows) (sym c.in-Start.is) applies

pub returns-in-End-clause-applies : goal.returns-in-End-clause-applies
returns-in-End-clause-applies c =
    let at_fits : FitsSigned w64 c.in-End.at = omega (arith, ints) in
    let applies : Applies c.args.table.now c.args.self.now.rows (End c.in-End.job c.in-End.at c.in-End.kind) c.end.new.self.rows = simp to_z-of_z at c.end.ensures.applies in
    subst (λ (e : Entry). Applies c.args.table.now c.args.self.now.rows e c.end.new.self.rows) (sym c.in-End.is) applies

pub returns-in-End-clause-effect : goal.returns-in-End-clause-effect
returns-in-End-clause-effect c =
    let at_fits : FitsSigned w64 c.in-End.at = omega (arith, ints) in
    let effect : IsEffect c.args.table.now c.args.self.now.rows (End c.in-End.job c.in-End.at c.in-End.kind) c.end.result = simp to_z-of_z at c.end.ensures.effect in
    subst (λ (e : Entry). IsEffect c.args.table.now c.args.self.now.rows e c.end.result) (sym c.in-End.is) effect

pub returns-in-Table-clause-applies : goal.returns-in-Table-clause-applies
returns-in-Table-clause-applies c =
    let now_fits : FitsSigned w64 c.in-Table.now = omega (arith, ints) in
    let applies : Applies c.args.table.now c.args.self.now.rows (TableEntry c.in-Table.version c.in-Table.now) c.adopt.new.self.rows = simp to_z-of_z at c.adopt.ensures.applies in
    subst (λ (e : Entry). Applies c.args.table.now c.args.self.now.rows e c.adopt.new.self.rows) (sym c.in-Table.is) applies

pub returns-in-Table-clause-effect : goal.returns-in-Table-clause-effect
returns-in-Table-clause-effect c =
    let now_fits : FitsSigned w64 c.in-Table.now = omega (arith, ints) in
    let effect : IsEffect c.args.table.now c.args.self.now.rows (TableEntry c.in-Table.version c.in-Table.now) c.adopt.result = simp to_z-of_z at c.adopt.ensures.effect in
    subst (λ (e : Entry). IsEffect c.args.table.now c.args.self.now.rows e c.adopt.result) (sym c.in-Table.is) effect
