use Rattle.std.proofs.Common.{◌≡◌, ◌<◌, Some, arith, length, map, refl}
use Rattle.std.specs.List.{slice_get}
use Rattle.std.proofs.lemmas.Option.{slice_get_read}
use Rattle.world_law.specs.Book.{posted_as}
use Rattle.world_free.proofs.MailSteps.{looking_next, posted_there}
use Rattle.world_free.proofs.job.FreeMail.look_at_book.Goals as goal

pub letters-preserved : goal.letters-preserved
letters-preserved c =
    let below : c.letters.number < length c.args.letters.now = omega (arith, c.letters-test.true, c.letters.auto.number-end) in
    let there : slice_get c.args.letters.now c.letters.number ≡ Some c.index-letters-number.result =
    slice_get_read c.args.letters.now (length c.args.letters.now) c.letters.number c.index-letters-number.result refl below c.index-letters-number.is in
    looking_next c.args.cuts.now c.args.who (map posted_as c.args.letters.now) c.args.self.now.looked c.letters.number (posted_as c.index-letters-number.result) c.args.self.now c.letters.self
    c.take_letter.new.self c.letters.auto.number c.letters.invariant (posted_there c.args.letters.now c.letters.number c.index-letters-number.result there) c.in_ok-take_letter.ensures.set
    c.in_ok-take_letter.ensures.looked c.in_ok-take_letter.ensures.letters
