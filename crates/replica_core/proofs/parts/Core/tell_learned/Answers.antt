use Rattle.std.proofs.Common.{◌∙◌, arith, drop, refl}
use Rattle.std.proofs.lemmas.List.{length-drop, take_all}
use Rattle.replica_core.proofs.SnapLemmas.{tells-both, told-last}
use Rattle.replica_draft.proofs.DraftLemmas.{on_ok}
use Rattle.replica_core.proofs.parts.Core.tell_learned.Goals as goal

pub returns-clause-says : goal.returns-clause-says
returns-clause-says c =
    let learner = c.args.self.now.learner in
    let rows = c.args.draft.now.learnt.items in
    let old = c.args.draft.now.sends.items in
    let middle = c.tell_entries.new.sends.items in
    let new = c.tell_learnt.new.sends.items in
    on_ok c.tell_learnt.result _ _ _
    (λ last same. tells-both learner rows old middle new c.args.from c.args.slot c.requires.kept (rw c.entries_from-entries.ensures at c.in_ok-tell_entries.ensures)
    (told-last learner rows _ middle new c.args.from c.args.slot c.max-fresh.result c.min-skip.result
    (c.max-fresh.ensures ∙ rw c.prefix.ensures refl) (rw (c.min-skip.ensures, c.prefix-2.ensures, c.len.ensures, ← c.deref.ensures.len, c.deref.ensures.value) refl)
    (take_all _ (drop c.min-skip.result c.deref.result.now) (rw (length-drop c.min-skip.result c.deref.result.now) omega arith) ∙ rw c.deref.ensures.value refl) last))
    c.tell_learnt.ensures c.tell_learnt.ensures
