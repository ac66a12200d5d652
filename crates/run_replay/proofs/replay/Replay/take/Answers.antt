use Rattle.std.proofs.Common.{length, refl, sym, ap, ◌∙◌, subst}
use Rattle.world_law.specs.Book.{BookState, HasRoom}
use Rattle.run_replay.proofs.TakeLemmas.{judged_member, next_of, taken}
use Rattle.run_replay.proofs.replay.Replay.take.Goals as goal

pub note-requires : goal.note-requires
note-requires c = record { member = judged_member c.args.table.now c.args.self.now c.args.judged c.requires.judged }

pub commit-requires-clause-next : goal.commit-requires-clause-next
commit-requires-clause-next c = next_of c.args.table.now c.args.self.now c.note.new.self c.args.judged c.requires.judged c.note.ensures.book

pub commit-requires-clause-call : goal.commit-requires-clause-call
commit-requires-clause-call c = ap (λ (book : BookState). book.pending) c.note.ensures.book ∙ c.requires.judged.is.pending

pub commit-requires-clause-room : goal.commit-requires-clause-room
commit-requires-clause-room c = subst (λ (book : BookState). HasRoom (length c.args.judged.out.letters) book) (sym c.note.ensures.book) c.requires.judged.is.room

pub returns-clause-joins : goal.returns-clause-joins
returns-clause-joins c = λ rows situation told old here is.
    taken c.args.table.now rows told old c.args.self.now c.note.new.self _ situation c.args.judged here is c.note.ensures c.commit.ensures.stands c.commit.ensures.commits refl refl refl refl

pub returns-clause-members : goal.returns-clause-members
returns-clause-members c = c.commit.ensures.commits.members ∙ ap (λ (book : BookState). book.members) c.note.ensures.book
