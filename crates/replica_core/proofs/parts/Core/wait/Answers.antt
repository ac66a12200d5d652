use Rattle.std.proofs.Common.{◌≡◌, ◌∙◌, sym, [], ◌∷◌, Some, None, if◌then◌else◌}
use Rattle.term_core.specs.Term.{is_fourth}
use Rattle.step_spec.specs.Act.{Send, Wait}
use Rattle.step_spec.specs.Message.{Accept, Outside}
use Rattle.step_spec.specs.Propose.{vote_of, wait}
use Rattle.replica_draft.proofs.DraftLemmas.{goes-on}
use Rattle.replica_core.proofs.LeadLemmas.{answered, makes, makes_as, wait-again, wait-not_yet}
use Rattle.replica_core.proofs.parts.Core.wait.Goals as goal

pub returns-in_ok-send_accept-clause-makes : goal.returns-in_ok-send_accept-clause-makes
returns-in_ok-send_accept-clause-makes c =
    let told : c.wait.result ≡ (if is_fourth c.args.flight.now then Some c.args.flight.now.accepted else None) =
    c.wait.ensures.accepted ∙ answered c.args.self.now c.args.draft.now c.args.ballot c.args.flight.now c.requires.idle.term c.requires.waits in
    makes_as c.args.self.now c.send_accept.new.self (wait c.args.ballot c.args.flight.now) (Wait ∷ Send (Outside c.in-Some.accepted) (Accept (vote_of c.args.ballot c.args.flight.now)) ∷ [])
    (wait-again c.args.ballot c.args.flight.now c.in-Some.accepted (sym told ∙ c.in-Some.is))
    (makes c.args.self.now c.args.draft.now c.send_accept.new.self (Wait ∷ Send (Outside c.in-Some.accepted) (Accept (vote_of c.args.ballot c.args.flight.now)) ∷ [])
    c.requires.idle.stands
    (goes-on c.args.draft.now c.wait.new.self c.send_accept.new.self (Wait ∷ []) (Send (Outside c.in-Some.accepted) (Accept (vote_of c.args.ballot c.args.flight.now)) ∷ [])
    c.wait.ensures.goes c.in_ok-send_accept.ensures.goes))

pub returns-in_default-clause-makes : goal.returns-in_default-clause-makes
returns-in_default-clause-makes c =
    let told : c.wait.result ≡ (if is_fourth c.args.flight.now then Some c.args.flight.now.accepted else None) =
    c.wait.ensures.accepted ∙ answered c.args.self.now c.args.draft.now c.args.ballot c.args.flight.now c.requires.idle.term c.requires.waits in
    makes_as c.args.self.now c.wait.new.self (wait c.args.ballot c.args.flight.now) (Wait ∷ [])
    (wait-not_yet c.args.ballot c.args.flight.now (λ accepted some. c.in_default.not-Some accepted (told ∙ some)))
    (makes c.args.self.now c.args.draft.now c.wait.new.self (Wait ∷ []) c.requires.idle.stands c.wait.ensures.goes)
