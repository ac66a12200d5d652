use Rattle.rounds_tests.proofs.parts.other_place.Goals as goal

pub is_book_from_parts-requires-clause-taken : goal.is_book_from_parts-requires-clause-taken
is_book_from_parts-requires-clause-taken g c = λ lives borrowed. c.requires.taken
