use Rattle.std.proofs.Common.{◌≡◌, ◌++◌, ◌∷◌, [], length, refl, ap, ◌∙◌, subst, arith}
use Rattle.std.specs.Prelude.{ℕ}
use Rattle.std.proofs.lemmas.Option.{slice_get_read}
use Rattle.script_semantics.specs.Situation.{after_turn, delivered}
use Rattle.world_law.specs.Book.{BookState}
use Rattle.run_replay.specs.Replay.{IsReplayAt}
use Rattle.run_audit.proofs.FreelyLemmas.{first_of_turn}
use Rattle.run_audit.proofs.free.take_freely.Goals as goal

pub index-requires : goal.index-requires
index-requires c = omega (arith, c.args.list.now.ok.0, c.requires.listed)

pub deliver-requires : goal.deliver-requires
deliver-requires c =
    let was = c.requires.judged in
    let now = c.take.ensures.joins was.rows was.situation was.told was.old was.here was.is in
    record { ready = (c.args.table.now, record { rows = was.rows ++ was.is.row ∷ []; situation = after_turn was.old.book.members was.situation was.is.row; is = now }) }

pub progress_now-requires-clause-seat : goal.progress_now-requires-clause-seat
progress_now-requires-clause-seat c =
    let was = c.requires.judged in
    let now = c.take.ensures.joins was.rows was.situation was.told was.old was.here was.is in
    let over = c.in_ok-deliver.ensures.delivers c.args.table.now (was.rows ++ was.is.row ∷ []) (after_turn was.old.book.members was.situation was.is.row) now in
    let seats = over.seated.count in
    let book = ap (λ (book : BookState). book.members) c.deliver.ensures.book ∙ c.take.ensures.members in
    omega (arith, c.requires.seat, seats, book)

pub progress_now-requires-clause-setting : goal.progress_now-requires-clause-setting
progress_now-requires-clause-setting c =
    let was = c.requires.judged in
    let now = c.take.ensures.joins was.rows was.situation was.told was.old was.here was.is in
    let over = c.in_ok-deliver.ensures.delivers c.args.table.now (was.rows ++ was.is.row ∷ []) (after_turn was.old.book.members was.situation was.is.row) now in
    let set = over.seated.set in
    let book = ap (λ (book : BookState). book.members) c.deliver.ensures.book ∙ c.take.ensures.members in
    omega (arith, c.requires.seat, set, book)

pub returns-clause-takes : goal.returns-clause-takes
returns-clause-takes c = record {
  joins = λ rows situation told start here is.
      let first : _ ≡ length situation.standing.posted = ap length c.letters.ensures ∙ first_of_turn c.args.table.now rows told start c.args.replay.now situation c.args.judged here is in
      subst (λ (n : ℕ). IsReplayAt c.args.table.now (rows ++ is.row ∷ []) c.deliver.new.self (delivered n (after_turn start.book.members situation is.row))) first
      (c.in_ok-deliver.ensures.delivers c.args.table.now (rows ++ is.row ∷ []) (after_turn start.book.members situation is.row) (c.take.ensures.joins rows situation told start here is));
  progress = c.index.result.now;
  is = slice_get_read c.args.list.now.items (length c.args.list.now.items) c.args.who c.index.result.now refl c.requires.listed c.index.ensures;
  next = c.progress_now.result;
  list = refl;
  sees = λ rows situation is. c.progress_now.ensures c.args.table.now rows situation is;
}

pub returns-clause-members : goal.returns-clause-members
returns-clause-members c = ap (λ (book : BookState). book.members) c.deliver.ensures.book ∙ c.take.ensures.members
