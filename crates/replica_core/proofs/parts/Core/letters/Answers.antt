use Rattle.replica_core.proofs.PlanLemmas.{made-copyable, made-letters, said-made}
use Rattle.replica_core.proofs.LeadLemmas.{if_ok}
use Rattle.replica_core.proofs.parts.Core.letters.Goals as goal

pub write_letters-requires-clause-groups : goal.write_letters-requires-clause-groups
write_letters-requires-clause-groups c =
    let (table, input, of_table, made) = c.requires.made in
    let whole = c.requires.whole in
    rw c.as_slice.ensures
    (made-letters table input c.args.self.now c.args.draft.now of_table made whole.base_cursors whole.cursors made.event made.makes (made-copyable table input c.args.self.now c.args.draft.now of_table made whole.cursors)).groups

pub write_letters-requires-clause-cursors : goal.write_letters-requires-clause-cursors
write_letters-requires-clause-cursors c =
    let (table, input, of_table, made) = c.requires.made in
    let whole = c.requires.whole in
    rw c.as_slice.ensures
    (made-letters table input c.args.self.now c.args.draft.now of_table made whole.base_cursors whole.cursors made.event made.makes (made-copyable table input c.args.self.now c.args.draft.now of_table made whole.cursors)).cursors

pub returns : goal.returns
returns c =
    record {
      letters = if_ok c.write_letters.result _ _
          (λ letters carry table input of_table made.
          let whole = c.requires.whole in
          let sent = made-letters table input c.args.self.now c.args.draft.now of_table made whole.base_cursors whole.cursors made.event made.makes (made-copyable table input c.args.self.now c.args.draft.now of_table made whole.cursors) in
          carry _ (rw c.as_slice.ensures (said-made c.args.self.now made.event c.args.draft.now made.makes)) sent.spoken)
          c.write_letters.ensures;
    }
