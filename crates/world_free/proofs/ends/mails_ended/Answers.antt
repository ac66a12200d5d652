use Rattle.std.proofs.Common.{◌≡◌, length, ◌∙◌, subst, arith}
use Rattle.world_free.specs.Ends.{HasEnded}
use Rattle.world_free.proofs.EndLemmas.{ended_next}
use Rattle.world_free.proofs.ends.mails_ended.Goals as goal

pub mails-preserved : goal.mails-preserved
mails-preserved c =
    let me : c.len-who.result ≡ length c.mails.ended.items = c.len-who.ensures ∙ c.mails.ended.ok.0 in
    let end = c.in_ok-mail_ended.field-0 in (
      ended_next c.args.cuts.now c.args.letters.now c.mails.yielded c.mails.ended.items c.push.new.self.items c.in-Some.mail end c.mails.invariant.0
          (subst (λ who. HasEnded c.args.cuts.now c.args.letters.now who c.in-Some.mail end) me c.in_ok-mail_ended.ensures.ended) c.in_ok-push.ensures.items,
      omega (arith, c.in_ok-push.ensures.capacity, c.mails.invariant.1),
    )
