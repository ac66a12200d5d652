use Rattle.std.proofs.Common.{FitsSigned, w64, arith, subst}
use Rattle.std.proofs.lemmas.Int.{ints, to_z-of_z}
use Rattle.min_tree.specs.Least.{HasNone, IsLeast}
use Rattle.launch_machine.specs.Machine.{Launches}
use Rattle.launch_machine.proofs.NextLemmas.{next_start_found, starts_no_more}
use Rattle.launch_machine.proofs.machine.Machine.next_start.Goals as goal

pub returns-in-Some-clause-found : goal.returns-in-Some-clause-found
returns-in-Some-clause-found c = λ table stands.
    let fits : FitsSigned w64 c.in-Some.first = omega (arith, ints) in
    let least : IsLeast c.args.self.now.starts c.in-Some.first =
    subst (λ (m : Launches). IsLeast m.starts c.in-Some.first) c.self.view_is c.in-Some.ensures.found in
    simp to_z-of_z (next_start_found table c.args.self.now.rows c.args.self.now.starts c.in-Some.first stands.starts least)

pub returns-in-None-clause-none : goal.returns-in-None-clause-none
returns-in-None-clause-none c = λ table stands.
    starts_no_more table c.args.self.now.rows c.args.self.now.starts stands.starts
    (subst (λ (m : Launches). HasNone m.starts) c.self.view_is c.in-None.ensures.none)
