use Rattle.replica_draft.proofs.DraftLemmas.{on_ok}
use Rattle.replica_draft.proofs.draft.Draft.choose.Goals as goal

pub returns : goal.returns
returns c = record {
  learns = on_ok c.send_chosen.result _ _ _
      (λ goes sends. record { middle = c.learn.new.self; learns = c.in_ok-learn.ensures.learns; told = goes; sends = sends })
      c.send_chosen.ensures.goes c.send_chosen.ensures.sends;
}
