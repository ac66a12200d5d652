use Rattle.std.proofs.Common.{◌≡◌, ap, ◌∙◌, subst}
use Rattle.world_steps.specs.Parts.{IsSentTo}
use Rattle.world_law.specs.declared.letter.LetterRow.{LetterRow}
use Rattle.world_rounds.proofs.Worlds.{some_same}
use Rattle.world_rounds.specs.OneByOne.{CanTell}
use Rattle.std.specs.List.{slice_get}
use Rattle.world_rounds.proofs.one_by_one.input_for.Goals as goal

pub returns-in-Hear : goal.returns-in-Hear
returns-in-Hear c = record {
  told = λ who can.
      let sent : IsSentTo c.args.book.now.letters who c.in-Hear.letter = subst (λ cause. CanTell c.args.book.now.letters c.args.waits who cause) c.in-Hear.is can in
      let same : c.letter_at.result.now ≡ sent.letter = some_same (slice_get c.args.book.now.letters c.in-Hear.letter) c.letter_at.result.now sent.letter c.letter_at.ensures.letter sent.there in
      rw c.in-Hear.is (record { sent = sent; is = c.bytes.ensures ∙ ap (λ (letter : LetterRow). letter.bytes) same });
}
