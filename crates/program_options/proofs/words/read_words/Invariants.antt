use Rattle.std.specs.Vec.Iter.{into_iter_items, into_iter_len}
use Rattle.program_options.specs.Words.{texts_of}
use Rattle.program_options.proofs.WordLemmas.{HasRead}
use Rattle.program_options.proofs.words.read_words.Given as goal

abbrev pub invariant-words : goal.invariant-words
invariant-words l = HasRead (texts_of (into_iter_items l.fn.words)) l.wishes (texts_of (into_iter_items l.words))

abbrev pub decreases-words : goal.decreases-words
decreases-words l = into_iter_len l.words
