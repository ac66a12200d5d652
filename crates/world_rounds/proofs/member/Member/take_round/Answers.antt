use Rattle.std.proofs.Common.{sym, ap, ◌∙◌, refl, ◌++◌, ◌∷◌, []}
use Rattle.history.specs.declared.turn.Cause.TheVariants.{Tick}
use Rattle.world_rounds.proofs.RoundLemmas.{may_answer, may_hear, round_skipped, round_taken, told_tick}
use Rattle.world_rounds.proofs.member.Member.take_round.Goals as goal

pub hear_letters-requires : goal.hear_letters-requires
hear_letters-requires g c =
    let may = c.requires.may in
    let answered = c.in_ok-take_answer.ensures.beside may.rows may.who (may_answer g.D.Disk.view c.args.table.now c.args.book.now may.rows may.situation may.who c.args.self.now may.idle c.if-not-self.false) in
    let hears = may_hear g.D.Disk.view c.args.table.now c.args.book.now may.rows may.situation may.who c.args.self.now c.take_answer.new.steps.items c.take_answer.new.node may.idle answered in
    record { may = (may.rows, may.who, rw c.make_contiguous.ensures.value hears) }

pub keep_step-requires : goal.keep_step-requires
keep_step-requires g c =
    let may = c.requires.may in
    let answered = c.in_ok-take_answer.ensures.beside may.rows may.who (may_answer g.D.Disk.view c.args.table.now c.args.book.now may.rows may.situation may.who c.args.self.now may.idle c.if-not-self.false) in
    let hears = may_hear g.D.Disk.view c.args.table.now c.args.book.now may.rows may.situation may.who c.args.self.now c.take_answer.new.steps.items c.take_answer.new.node may.idle answered in
    let heard = c.in_ok-hear_letters.ensures.beside may.rows may.who (rw c.make_contiguous.ensures.value hears) in
    record {
      told = (
        may.rows,
        may.who,
        heard,
        told_tick g.D.Disk.view c.args.table.now c.args.book.now may.rows may.who c.hear_letters.new.steps.items c.reading_of-now.result
            c.args.at.0 c.args.self.now.mail.skew (rw (sym c.window.ensures.window) c.window.ensures.limits.ordered) (rw (sym c.window.ensures.window) c.reading_of-now.ensures.reading),
      );
    }

pub returns : goal.returns
returns g c = record {
  takes = λ rows situation who idle.
      let answered = c.in_ok-take_answer.ensures.beside rows who (may_answer g.D.Disk.view c.args.table.now c.args.book.now rows situation who c.args.self.now idle c.if-not-self.false) in
      let hears = may_hear g.D.Disk.view c.args.table.now c.args.book.now rows situation who c.args.self.now c.take_answer.new.steps.items c.take_answer.new.node idle answered in
      let heard = c.in_ok-hear_letters.ensures.beside rows who (rw c.make_contiguous.ensures.value hears) in
      let told = told_tick g.D.Disk.view c.args.table.now c.args.book.now rows who c.hear_letters.new.steps.items c.reading_of-now.result
      c.args.at.0 c.args.self.now.mail.skew (rw (sym c.window.ensures.window) c.window.ensures.limits.ordered) (rw (sym c.window.ensures.window) c.reading_of-now.ensures.reading) in
      round_taken g.D.Disk.view c.args.table.now c.args.book.now rows situation who c.args.at.0 c.reading_of-now.result c.args.self.now _ idle c.if-not-self.false
      (c.in_ok-keep_step.ensures.beside rows who heard told)
      (c.in_ok-keep_step.ensures.causes ∙ ap (λ causes. causes ++ Tick c.reading_of-now.result ∷ []) (c.in_ok-hear_letters.ensures.causes ∙ rw (c.in_ok-take_answer.ensures.causes, c.make_contiguous.ensures.value) refl))
      (rw (sym c.window.ensures.window) c.reading_of-now.ensures.reading) c.clear.ensures.items refl refl refl refl refl;
}

pub returns-then-not-self : goal.returns-then-not-self
returns-then-not-self g c = record {
  takes = λ rows situation who idle.
      round_skipped g.D.Disk.view c.args.table.now c.args.book.now rows situation who c.args.at.0 c.args.self.now idle c.if-not-self.true;
}
