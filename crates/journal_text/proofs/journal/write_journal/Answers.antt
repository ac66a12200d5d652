use Rattle.std.proofs.Common.{All, List, subst, sym}
use Rattle.history.specs.declared.turn.Turn.{Turn}
use Rattle.report_text.specs.Writes.{Writes}
use Rattle.report_text.proofs.WritingLemmas.{writes_exit, writes_on}
use Rattle.journal_text.specs.Told.{CanBeTold}
use Rattle.journal_text.proofs.PartLemmas.{journal_is}
use Rattle.journal_text.proofs.ToldLemmas.{told_turns}
use Rattle.journal_text.proofs.journal.write_journal.Goals as goal

pub returns-in_err-write_text : goal.returns-in_err-write_text
returns-in_err-write_text g c =
    subst (Writes _ _ _) (journal_is c.args.table.now c.args.book.now.turns c.args.starts.now)
    (writes_exit _ _ _ _ _ _ c.from_residual.ensures.1 c.in_err-write_text.ensures)

pub write_parts-requires-clause-told : goal.write_parts-requires-clause-told
write_parts-requires-clause-told g c =
    subst (λ (turns : List Turn). All (CanBeTold c.args.table.now) turns) (sym c.turns.ensures)
    (told_turns c.args.table.now c.requires.legal.0 c.args.book.now c.requires.few c.requires.sound c.requires.legal.1)

pub returns-in_err-write_parts : goal.returns-in_err-write_parts
returns-in_err-write_parts g c =
    subst (Writes _ _ _) (journal_is c.args.table.now c.args.book.now.turns c.args.starts.now)
    (writes_on _ _ _ _ _ _ _ c.in_ok-write_text.ensures
    (writes_exit _ _ _ _ _ _ c.from_residual-in_err-write_parts.ensures.1 (rw c.turns.ensures at c.in_err-write_parts.ensures)))

pub returns : goal.returns
returns g c =
    subst (Writes _ _ _) (journal_is c.args.table.now c.args.book.now.turns c.args.starts.now)
    (writes_on _ _ _ _ _ _ _ c.in_ok-write_text.ensures
    (writes_on _ _ _ _ _ _ _ (rw c.turns.ensures at c.in_ok-write_parts.ensures) c.write_text-2.ensures))
