use Rattle.std.proofs.Common.{map, subst}
use Rattle.std.proofs.lemmas.List.{append-nil}
use Rattle.world_law.specs.Book.{posted_as}
use Rattle.world_free.specs.Mails.{HasFirstBytes}
use Rattle.world_free.proofs.JobLemmas.{keeping_next}
use Rattle.world_free.proofs.jobs.mails_kept.Goals as goal

pub mails-preserved : goal.mails-preserved
mails-preserved c =
    keeping_next c.args.letters.now c.mails.yielded c.mails.kept.items c.push.new.self.items c.in-Some.mail c.keep_bytes.new.self c.mails.invariant
    c.in_ok-push.ensures.items
    c.in_ok-keep_bytes.ensures.mail c.in_ok-keep_bytes.ensures.looked
    (subst (λ letters. HasFirstBytes letters c.keep_bytes.new.self) (append-nil (map posted_as c.args.letters.now)) (c.in_ok-keep_bytes.ensures.bytes 0))
