use Rattle.std.proofs.Common.{take}
use Rattle.history.proofs.Agreement.{agrees, cut_is_legal}
use Rattle.history.proofs.books.every_legal_book_agrees.Goals as goal

pub returns : goal.returns
returns c = λ members table book turns few legal. agrees members table (take turns book) few (cut_is_legal members table book turns legal)
