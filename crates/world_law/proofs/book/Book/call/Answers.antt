use Rattle.world_law.proofs.Called.{call_is_made, called_stands}
use Rattle.world_law.proofs.book.Book.call.Goals as goal

pub returns-clause-answer : goal.returns-clause-answer
returns-clause-answer c =
    call_is_made c.args.table.now c.ask.result c.args.row c.args.fate c.args.self.now _ c.requires.rest c.ask.ensures.row c.ask.ensures.makes

pub returns-clause-stands : goal.returns-clause-stands
returns-clause-stands c = called_stands c.args.table.now c.ask.result c.args.self.now _ c.requires.rest c.ask.ensures.makes c.ask.ensures.err
