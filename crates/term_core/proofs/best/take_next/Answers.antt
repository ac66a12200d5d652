use Rattle.std.proofs.Common.{◌≡◌, ◌++◌, ◌∷◌, ◌∙◌, ap, List, arith}
use Rattle.paxos_base.specs.declared.entry.Vote.{Vote}
use Rattle.term_core.proofs.BestLemmas.{BeginsElsewhere, rise_behind, took_new, took_same}
use Rattle.term_core.proofs.best.take_next.Goals as goal
use Rattle.term_core.proofs.best.take_next.Goals.{in_default-via-in-Some+else-held-vote, in_default-via-in_default}

pub split_at_slot-requires : goal.split_at_slot-requires
split_at_slot-requires c = rise_behind c.args.merged.now.items c.args.left.now c.requires.rise

pub returns-in_ok-push-in-Some : goal.returns-in_ok-push-in-Some
returns-in_ok-push-in-Some c =
    let split = c.split_at_slot.ensures in
    let parts : c.args.left.now ≡ c.split_at_slot.result.0.now ++ c.in-Some.held.now ∷ c.in-Some.after.now =
    split.parts ∙ ap (λ (rest : List Vote). c.split_at_slot.result.0.now ++ rest) c.in-Some.ensures.cases.0 in
    rw (c.in_ok-push-in-Some.ensures.items, c.in_ok-extend_from_slice.ensures.items, c.higher.ensures)
    (took_same c.args.merged.now.items c.args.left.now c.split_at_slot.result.0.now c.in-Some.after.now c.args.vote.now c.in-Some.held.now c.requires.rise c.requires.beyond parts split.below c.if-held-vote.true)

pub returns-in_ok-push-in_default : goal.returns-in_ok-push-in_default
returns-in_ok-push-in_default c =
    let split = c.split_at_slot.ensures in
    let other : BeginsElsewhere c.args.vote.now.slot c.split_at_slot.result.1.now =
    λ d some. elim c.in_default.branch [
      | in_default-via-in-Some+else-held-vote w ↦ grind arith
      | in_default-via-in_default w ↦ grind arith
    ] in
    rw (c.in_ok-push-in_default.ensures.items, c.in_ok-extend_from_slice.ensures.items)
    (took_new c.args.merged.now.items c.args.left.now c.split_at_slot.result.0.now c.split_at_slot.result.1.now c.args.vote.now c.requires.rise c.requires.beyond split.parts split.below split.from other)
