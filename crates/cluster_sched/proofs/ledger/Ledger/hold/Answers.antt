use Rattle.std.proofs.Common.{◌≡◌, ◌∙◌, ◌++◌, ◌∷◌, [], None, ap, sym, subst}
use Rattle.std.specs.Map.{values_of}
use Rattle.cluster_sched.specs.Held.{NoneUnder, IsLookedUp}
use Rattle.cluster_sched.specs.Fates.{added}
use Rattle.cluster_sched.proofs.LedgerLemmas.{insert_entry-other, values_of-push, push_keeps_names, none_from_test}
use Rattle.cluster_sched.proofs.ledger.Ledger.hold.Goals as goal

pub invariant_of-self : goal.invariant_of-self
invariant_of-self c =
    let before = c.self.inside.rows.entries in
    let rows : values_of before ≡ c.args.self.now.held = ap (λ v. v.held) c.self.view_is in
    let found : c.args.found ≡ None = none_from_test c.args.found c.is_none.result c.is_none.ensures c.if-is_none.true in
    let none : NoneUnder (values_of before) c.args.row.name = rw rows (subst (IsLookedUp c.args.self.now.held c.args.row.name) found c.requires) in
    let entries = c.in_ok-insert.ensures.entries ∙ insert_entry-other before c.args.row.name c.args.row c.self.invariant.0 none in
    let kept = push_keeps_names before c.args.row c.self.invariant.0 c.self.invariant.1 none in
    rw (entries, values_of-push before c.args.row.name c.args.row) kept

pub returns-in_ok-insert-clause-ok : goal.returns-in_ok-insert-clause-ok
returns-in_ok-insert-clause-ok c =
    let before = c.self.inside.rows.entries in
    let rows : values_of before ≡ c.args.self.now.held = ap (λ v. v.held) c.self.view_is in
    let found : c.args.found ≡ None = none_from_test c.args.found c.is_none.result c.is_none.ensures c.if-is_none.true in
    let none : NoneUnder (values_of before) c.args.row.name = rw rows (subst (IsLookedUp c.args.self.now.held c.args.row.name) found c.requires) in
    let entries = c.in_ok-insert.ensures.entries ∙ insert_entry-other before c.args.row.name c.args.row c.self.invariant.0 none in
    let room = ap (λ v. v.spare) c.self.view_is in
    record {
      is_found = c.requires;
      held = ap values_of entries ∙ values_of-push before c.args.row.name c.args.row ∙ ap (λ held. held ++ c.args.row ∷ []) rows
          ∙ ap (λ found. c.args.self.now.held ++ added c.args.row found) (sym found);
      late = ap (λ v. v.late) c.self.view_is;
      fate = ap (λ v. v.fate) c.self.view_is;
      faults = ap (λ v. v.faults) c.self.view_is;
      spare = rw (found, ← room) c.in_ok-insert.ensures.spare;
    }
