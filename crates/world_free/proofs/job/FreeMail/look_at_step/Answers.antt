use Rattle.std.proofs.Common.{◌≡◌, ◌<◌, refl, ◌+◌, ◌++◌, Some, length, ap, ◌∙◌, sym, subst, arith}
use Rattle.std.specs.List.{slice_get}
use Rattle.std.proofs.lemmas.Option.{slice_get_read}
use Rattle.history.specs.Book.{post}
use Rattle.world_free.proofs.MailSteps.{Looking, as_posted, looking_next, set_on, step_there}
use Rattle.world_free.proofs.job.FreeMail.look_at_step.Goals as goal

pub letters-preserved : goal.letters-preserved
letters-preserved c =
    let below : c.letters.place < length c.args.posted.now = omega (arith, c.letters-test.true, c.letters.auto.place-end) in
    let found : slice_get c.args.posted.now c.letters.place ≡ Some c.index-posted-place.result =
    slice_get_read c.args.posted.now (length c.args.posted.now) c.letters.place c.index-posted-place.result refl below c.index-posted-place.is in (
      set_on c.args.self.now c.letters.self c.take_letter.new.self c.letters.invariant.0 c.in_ok-take_letter.ensures.set,
      λ before long.
          let there : slice_get (before ++ post c.args.who c.args.posted.now) (c.args.first + c.letters.place) ≡ Some (as_posted c.args.who c.index-posted-place.result) =
          ap (λ first. slice_get (before ++ post c.args.who c.args.posted.now) (first + c.letters.place)) (sym long)
          ∙ step_there c.args.who before c.args.posted.now c.letters.place c.index-posted-place.result found in
          subst (λ number. Looking c.args.cuts.now c.args.who (before ++ post c.args.who c.args.posted.now) c.args.first number c.args.self.now c.take_letter.new.self) (omega arith)
          (looking_next c.args.cuts.now c.args.who (before ++ post c.args.who c.args.posted.now) c.args.first (c.args.first + c.letters.place) (as_posted c.args.who c.index-posted-place.result) c.args.self.now
          c.letters.self c.take_letter.new.self (omega arith) (c.letters.invariant.1 before long) there c.in_ok-take_letter.ensures.set c.in_ok-take_letter.ensures.looked c.in_ok-take_letter.ensures.letters),
    )
