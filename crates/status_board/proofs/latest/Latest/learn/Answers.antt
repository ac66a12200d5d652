use Rattle.std.proofs.Common.{◌≡◌, ℕ, sym, ◌∙◌, subst, slice_set}
use Rattle.status_board.proofs.RowLemmas.{applied_one}
use Rattle.status_board.proofs.latest.Latest.learn.Goals as goal

pub returns-clause-rows : goal.returns-clause-rows
returns-clause-rows c =
    let old = c.args.self.now.machine.rows in
    let new = c.apply.new.self.rows in
    let number : c.row.result.job ≡ c.in-Some.number = c.apply.ensures.stands.rows.numbered.in_order _ _ c.row.ensures in
    subst (λ (n : ℕ). slice_set old n c.row.result ≡ new) (sym number)
    (applied_one _ c.args.entry old new c.in-Some.number c.row.result (sym c.row_of.ensures ∙ c.in-Some.is) c.apply.ensures.applies c.row.ensures)
