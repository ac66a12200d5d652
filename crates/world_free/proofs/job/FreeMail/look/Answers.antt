use Rattle.std.proofs.Common.{◌≡◌, ◌+◌, ◌++◌, ℕ, List, ◌∙◌, ap, length, map, refl, subst, sym}
use Rattle.history.specs.Book.{PostedLetter, post}
use Rattle.step_spec.specs.declared.out.OutLetter.{OutLetter}
use Rattle.script_semantics.specs.Others.{mail_behind}
use Rattle.world_law.specs.Book.{posted_as}
use Rattle.world_steps.specs.declared.steps.Taken.{Taken}
use Rattle.world_free.specs.Mails.{HasFirstBytes, coming}
use Rattle.world_free.proofs.MailSteps.{looked_all}
use Rattle.world_free.proofs.job.FreeMail.look.Goals as goal

pub returns : goal.returns
returns c =
    let posted : c.deref.result.now ≡ c.args.taken.now.out.letters = c.deref.ensures.value ∙ ap (λ (t : Taken). t.out.letters) c.taken.view_is in
    let also : c.deref-2.result.now ≡ c.args.taken.now.out.letters = c.deref-2.ensures.value ∙ ap (λ (t : Taken). t.out.letters) c.taken.view_is in
    record {
      looks =
          looked_all c.args.cuts.now c.args.letters.now c.args.who c.args.taken.now c.args.self.now c.hear.new.self c.look_at_book.new.self c.look_at_step.new.self c.keep_bytes.new.self
          (length c.args.letters.now) refl c.requires.looked
          (c.hear.ensures.letters ∙ ap (λ (t : Taken). mail_behind t.cause c.args.self.now.mail.letters.items) c.taken.view_is) c.hear.ensures.set c.hear.ensures.looked
          c.in_ok-look_at_book.ensures.letters c.in_ok-look_at_book.ensures.set
          (subst (λ (letters : List OutLetter). (before : List PostedLetter) → length before ≡ length c.args.letters.now
          → c.look_at_step.new.self.mail.letters.items ≡ c.look_at_book.new.self.mail.letters.items ++ coming c.args.cuts.now c.args.who (before ++ post c.args.who letters) (length c.args.letters.now) (length letters))
          posted c.in_ok-look_at_step.ensures.letters)
          c.in_ok-look_at_step.ensures.set c.in_ok-keep_bytes.ensures.mail
          (c.in_ok-keep_bytes.ensures.looked ∙ ap (λ (n : ℕ). length c.args.letters.now + n) (c.len.ensures ∙ sym c.deref-2.ensures.len ∙ ap length also))
          (subst (λ (letters : List OutLetter). HasFirstBytes (map posted_as c.args.letters.now ++ post c.args.who letters) c.keep_bytes.new.self) also (c.in_ok-keep_bytes.ensures.bytes c.args.who));
    }
