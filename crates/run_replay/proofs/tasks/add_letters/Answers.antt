use Rattle.std.proofs.Common.{◌≡◌, ◌∷◌, ◌++◌, [], ◌<◌, arith, get_or, length, sym, ap, ◌∙◌, append-nil as append_nil}
use Rattle.std.proofs.lemmas.Grind.{get_or_default_zero}
use Rattle.history.specs.declared.turn.Cause.TheVariants.{Hear}
use Rattle.run_replay.proofs.TaskLemmas.{letter_next}
use Rattle.run_replay.specs.Tasks.{tasks_in}
use Rattle.run_replay.specs.declared.tasks.Task.TheVariants as listed
use Rattle.run_replay.proofs.tasks.add_letters.Goals as goal

pub letters-init : goal.letters-init
letters-init c = sym (append_nil (tasks_in c.args.tasks.now.items))

pub letters-preserved : goal.letters-preserved
letters-preserved c =
    let mail = c.args.mail.now.items in
    let place = c.letters.place in
    let count = c.args.mail.now.ok.0 in
    let below : place < length mail = omega (arith, count, c.letters-test.true, c.letters.auto.place-end, c.len-place-end.ensures) in
    let letter : c.index.result.now ≡ get_or mail place 0 = c.index.ensures ∙ get_or_default_zero mail place c.index.result.now below in
    letter_next c.args.who mail place c.args.tasks.now.items c.letters.tasks.items c.push.new.self.items below c.letters.invariant
    (c.in_ok-push.ensures.items ∙ ap (λ letter. c.letters.tasks.items ++ listed.Do c.args.who (Hear letter) ∷ []) letter)
