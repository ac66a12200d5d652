use Rattle.std.proofs.Common.{Some, ◌++◌, ◌∷◌, [], length, max, ap, sym, ◌∙◌, append_assoc, arith}
use Rattle.std.proofs.lemmas.List.{length_push, map_push}
use Rattle.step_spec.specs.declared.out.OutLetter.{OutLetter}
use Rattle.world_law.specs.Book.{letter_rows, longest_of}
use Rattle.world_law.specs.declared.letter.LetterRow.{LetterRow}
use Rattle.world_law.proofs.Longest.{longest_with}
use Rattle.world_law.proofs.book.post.Goals as goal

pub loop-letter-preserved : goal.loop-letter-preserved
loop-letter-preserved c =
    let have = c.loop-letter.invariant in
    let letter = c.in-Some.letter in
    let row : LetterRow = record { from = c.args.from; to = letter.to; turn = c.args.turn; bytes = letter.bytes } in
    let one_more = length_push c.loop-letter.yielded letter in (
      c.put_letter.ensures.items ∙ ap (λ rows. rows ++ row ∷ []) have.0 ∙ append_assoc c.args.letters.now.items (letter_rows (Some c.args.from) c.args.turn c.loop-letter.yielded) (row ∷ [])
          ∙ ap (λ rows. c.args.letters.now.items ++ rows) (sym (map_push (λ (letter : OutLetter). record { from = c.args.from; to = letter.to; turn = c.args.turn; bytes = letter.bytes }) c.loop-letter.yielded letter)),
      omega (arith, c.put_letter.ensures.len, have.1, one_more),
      omega (arith, c.put_letter.ensures.capacity, have.2),
      c.put_letter.ensures.most ∙ ap (λ n. max n (length letter.bytes)) have.3 ∙ sym (longest_with c.loop-letter.letters.items row) ∙ ap longest_of (sym c.put_letter.ensures.items),
    )
