use Rattle.std.proofs.Common.{◌≡◌, None, Some, arith, length, refl, sym, ◌∙◌}
use Rattle.std.proofs.lemmas.Option.{slice_get_past, slice_get_read}
use Rattle.std.specs.Int.{w64}
use Rattle.std.specs.List.{slice_get}
use Rattle.std.proofs.lemmas.Int.{ints, to_z-of_z}
use Rattle.run_audit.proofs.ProgressLemmas.{letter_there, next_answer, next_idle, next_letter, not_fails, not_holds}
use Rattle.run_audit.proofs.free.cause_of_next.Goals as goal

pub returns-then-is_some : goal.returns-then-is_some
returns-then-is_some c = λ seen saw. next_answer c.args.window c.args.at.0 c.args.who c.args.progress.taken seen c.args.setting.now c.args.progress saw (sym c.is_some.ensures ∙ c.if-is_some.true)

pub returns-then-not-progress : goal.returns-then-not-progress
returns-then-not-progress c = λ seen saw.
    next_idle c.args.window c.args.at.0 c.args.who c.args.progress.taken seen c.args.setting.now c.args.progress c.idle_of-idle.result saw (sym c.is_some.ensures ∙ c.if-is_some.false)
    (not_holds c.args.progress.has_letter c.if-not-progress.true)
    (c.idle_of-idle.ensures seen (to_z-of_z w64 c.args.setting.now.skew (omega (arith, ints)) ∙ saw.skew) saw.leads)

pub returns-in-Some : goal.returns-in-Some
returns-in-Some c = λ seen saw.
    let mail = c.args.setting.now.mail.items in
    let first : slice_get mail 0 ≡ Some c.in-Some.letter.now = slice_get_read mail (length mail) 0 c.in-Some.letter.now refl c.in-Some.ensures.item.3.0 c.in-Some.ensures.lookup in
    next_letter c.args.window c.args.at.0 c.args.who c.args.progress.taken seen c.args.setting.now c.args.progress c.in-Some.letter.now saw (sym c.is_some.ensures ∙ c.if-is_some.false)
    (not_fails c.args.progress.has_letter c.if-not-progress.false) first

pub returns-in-None : goal.returns-in-None
returns-in-None c = λ seen saw.
    let none : slice_get c.args.setting.now.mail.items 0 ≡ None = slice_get_past c.args.setting.now.mail.items 0 c.in-None.ensures.item.3 in
    absurd (letter_there c.args.window c.args.at.0 c.args.who c.args.progress.taken seen c.args.setting.now c.args.progress saw (not_fails c.args.progress.has_letter c.if-not-progress.false) none)
