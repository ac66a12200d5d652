use Rattle.world_rounds.proofs.HearLemmas.{heard_more, letter_there, told_letter}
use Rattle.world_rounds.proofs.steps.hear_letters.Goals as goal

pub letter_at-requires : goal.letter_at-requires
letter_at-requires g c = record {
  there = letter_there g.D.Disk.view c.args.table.now c.args.book.now c.requires.may.0 c.requires.may.1 c.args.steps.now.items c.args.node.now
      c.args.letters.now c.letters.letter-index c.requires.may.2 c.letters-test.true;
}

pub keep_step-requires : goal.keep_step-requires
keep_step-requires g c = record {
  told = (
    c.requires.may.0,
    c.requires.may.1,
    c.letters.invariant.beside c.requires.may.0 c.requires.may.1 c.requires.may.2,
    told_letter g.D.Disk.view c.args.table.now c.args.book.now c.requires.may.0 c.requires.may.1 c.args.steps.now.items c.letters.steps.items
        c.args.node.now c.args.letters.now c.letters.letter-index c.letter_at.result.now _ c.requires.may.2 c.letters-test.true
        c.letter_at.ensures.letter c.bytes-bytes.ensures tt,
  );
}

pub letters-preserved : goal.letters-preserved
letters-preserved g c =
    heard_more g.D.Disk.view c.args.table.now c.args.book.now c.args.letters.now c.letters.letter-index c.args.steps.now.items c.letters.steps.items
    c.keep_step.new.steps.items c.args.node.now c.letters.node c.keep_step.new.node c.letters-test.true c.letters.invariant c.in_ok-keep_step.ensures.causes
    (λ rows who may. c.in_ok-keep_step.ensures.beside rows who (c.letters.invariant.beside rows who may)
    (told_letter g.D.Disk.view c.args.table.now c.args.book.now rows who c.args.steps.now.items c.letters.steps.items
    c.args.node.now c.args.letters.now c.letters.letter-index c.letter_at.result.now _ may c.letters-test.true
    c.letter_at.ensures.letter c.bytes-bytes.ensures tt))
