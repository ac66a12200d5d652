use Rattle.std.proofs.Common.{◌∷◌, [], refl, map, ap, ◌∙◌}
use Rattle.std.proofs.lemmas.List.{map-append}
use Rattle.replica_draft.proofs.DraftLemmas.{sent-message}
use Rattle.replica_draft.specs.Draft.{meant, said_in}
use Rattle.replica_draft.proofs.draft.Draft.send.Goals as goal

pub returns-clause-goes : goal.returns-clause-goes
returns-clause-goes c message spelled =
    sent-message c.args.self.now (record c.args.self.now { sends = c.push.new.self }) (meant c.args.target) message c.args.packet spelled
    (record { seen = refl; term = refl; best = refl; change = refl; learnt = refl; call = refl })
    (ap (map said_in) c.in_ok-push.ensures.ok ∙ map-append said_in c.args.self.now.sends.items (record { target = c.args.target; packet = c.args.packet } ∷ []))
