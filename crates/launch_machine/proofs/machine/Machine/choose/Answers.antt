use Rattle.std.proofs.Common.{◌≡◌, List, FitsSigned, w64, arith, sym, ap, subst, ◌∙◌}
use Rattle.std.proofs.lemmas.Int.{ints, to_z-of_z}
use Rattle.paxos_base.specs.declared.rows.JobRow.{JobRow}
use Rattle.launch_machine.specs.Clerk.{NoStart, NoTable, TakesTable}
use Rattle.launch_machine.specs.Intent.{NoCall, IsFirstStart}
use Rattle.launch_machine.specs.Machine.{Launches}
use Rattle.launch_machine.proofs.machine.Machine.choose.Goals as goal

pub returns-in-Some-first_start : goal.returns-in-Some-first_start
returns-in-Some-first_start c =
    let at_fits : FitsSigned w64 c.in-Some-first_start.at = omega (arith, ints) in
    let same : c.deref.result.now ≡ c.args.self.now.rows = c.deref.ensures.value ∙ ap (λ (m : Launches). m.rows) c.self.view_is in
    let same_again : c.deref-2.result.now ≡ c.args.self.now.rows = c.deref-2.ensures.value ∙ ap (λ (m : Launches). m.rows) c.self.view_is in
    let none : NoCall c.args.table.now c.args.self.now.rows c.args.now.0 = subst (λ (r : List JobRow). NoCall c.args.table.now r c.args.now.0) same c.in_default.ensures.none in
    let found : IsFirstStart c.args.table.now c.args.self.now.rows c.args.now.0 c.in-Some-first_start.job c.in-Some-first_start.at =
    subst (λ (r : List JobRow). IsFirstStart c.args.table.now r c.args.now.0 c.in-Some-first_start.job c.in-Some-first_start.at) same_again c.in-Some-first_start.ensures.found in
    (none, simp to_z-of_z found)

pub version_to_adopt-requires-clause-none : goal.version_to_adopt-requires-clause-none
version_to_adopt-requires-clause-none c =
    let same_again : c.deref-2.result.now ≡ c.args.self.now.rows = c.deref-2.ensures.value ∙ ap (λ (m : Launches). m.rows) c.self.view_is in
    let same_here : c.deref-3.result.now ≡ c.args.self.now.rows = c.deref-3.ensures.value ∙ ap (λ (m : Launches). m.rows) c.self.view_is in
    subst (λ (r : List JobRow). NoStart c.args.table.now r c.args.now.0) (same_again ∙ sym same_here) c.in_default-first_start.ensures.none

pub returns-in-Some-version_to_adopt : goal.returns-in-Some-version_to_adopt
returns-in-Some-version_to_adopt c =
    let same : c.deref.result.now ≡ c.args.self.now.rows = c.deref.ensures.value ∙ ap (λ (m : Launches). m.rows) c.self.view_is in
    let same_here : c.deref-3.result.now ≡ c.args.self.now.rows = c.deref-3.ensures.value ∙ ap (λ (m : Launches). m.rows) c.self.view_is in (
      subst (λ (r : List JobRow). NoCall c.args.table.now r c.args.now.0) same c.in_default.ensures.none,
      subst (λ (r : List JobRow). TakesTable c.args.table.now r c.in-Some-version_to_adopt.version c.args.now.0) same_here c.in-Some-version_to_adopt.ensures.found,
    )

pub returns-in-None : goal.returns-in-None
returns-in-None c =
    let same : c.deref.result.now ≡ c.args.self.now.rows = c.deref.ensures.value ∙ ap (λ (m : Launches). m.rows) c.self.view_is in
    let same_again : c.deref-2.result.now ≡ c.args.self.now.rows = c.deref-2.ensures.value ∙ ap (λ (m : Launches). m.rows) c.self.view_is in
    let same_here : c.deref-3.result.now ≡ c.args.self.now.rows = c.deref-3.ensures.value ∙ ap (λ (m : Launches). m.rows) c.self.view_is in (
      subst (λ (r : List JobRow). NoCall c.args.table.now r c.args.now.0) same c.in_default.ensures.none,
      subst (λ (r : List JobRow). NoStart c.args.table.now r c.args.now.0) same_again c.in_default-first_start.ensures.none,
      subst (λ (r : List JobRow). NoTable c.args.table.now r c.args.now.0) same_here c.in-None.ensures.none,
    )
