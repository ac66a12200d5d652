use Rattle.std.proofs.Common.{◌∙◌, Err, ap, rules, FitsSigned}
use Rattle.std.specs.Int.{w64}
use Rattle.std.proofs.lemmas.Int.{to_z-of_z}
use Rattle.paxos_letter.proofs.RuleLemmas.{has_no_fault}
use Rattle.paxos_letter.proofs.decoding.entry_in.Goals as goal

pub unreachable-requires : goal.unreachable-requires
unreachable-requires c =
    let at : FitsSigned w64 c.at.result = search rules in
    let moment : FitsSigned w64 c.moment.result = search rules in
    has_no_fault c.args.fields.now c.in-Err.field-0 _ _ c.requires.kind c.requires.tag c.requires.zeros (to_z-of_z w64 c.at.result at ∙ c.at.ensures) (to_z-of_z w64 c.moment.result moment ∙ c.moment.ensures)
    (λ e. rw c.tag.ensures at (c.entry_of.ensures.tag.0 (c.in-Err.is ∙ ap Err e)))
    (λ e. rw (c.tag.ensures, c.job.ensures) at (c.entry_of.ensures.not_zero.0 (c.in-Err.is ∙ ap Err e)))
