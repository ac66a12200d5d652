use Rattle.std.proofs.Common.{◌≡◌, ◌<◌, arith, get_or, length, map, sym, ap, ◌∙◌}
use Rattle.std.specs.List.{slice_get}
use Rattle.std.specs.Prelude.{nat_eq}
use Rattle.std.proofs.lemmas.Grind.{get_or_default_zero}
use Rattle.indexmap.specs.IndexSet.{insert_key}
use Rattle.script_semantics.specs.Commands.{is_from}
use Rattle.world_law.specs.Book.{posted_as}
use Rattle.world_rounds.proofs.Repeats.{found_next, passed_next}
use Rattle.world_rounds.proofs.letters.once_from.Goals as goal
use Rattle.world_rounds.proofs.letters.once_from.Goals.{then-is_from+in_ok-insert, else-is_from}

pub numbers-preserved : goal.numbers-preserved
numbers-preserved c =
    let posted = map posted_as c.args.book.now.letters in
    let mail = c.args.mail.now.items in
    let place = c.numbers.place in
    let count = c.args.mail.now.ok.0 in
    let below : place < length mail = omega (arith, count, c.numbers-test.true, c.numbers.auto.place-end, c.len-place-end.ensures) in
    let letter : c.index-number.result.now ≡ get_or mail place 0 = c.index-number.ensures ∙ get_or_default_zero mail place c.index-number.result.now below in
    let from = ap (λ number. is_from c.args.who (slice_get posted number)) (sym letter) ∙ sym c.is_from.ensures in
    elim c.if-is_from.branch [
      | then-is_from+in_ok-insert w ↦
          ap (λ found. found.keys) w.found-is ∙ w.in_ok-insert.ensures.keys ∙ ap (insert_key nat_eq c.numbers.found.keys) letter
          ∙ found_next posted c.args.who mail place below c.numbers.found.keys c.numbers.invariant (from ∙ w.if-is_from.true)
      | else-is_from w ↦
          ap (λ found. found.keys) w.found-is ∙ passed_next posted c.args.who mail place below c.numbers.found.keys c.numbers.invariant (from ∙ w.if-is_from.false)
    ]
