-- The parts of a line, and that a text with none of the forms is none.
use Rattle.std.proofs.Common.{◌≡◌, ◌≢◌, ℕ, List, ◌∷◌, ◌++◌, codes}
use Rattle.journal_line.specs.Count.{IsCountText}
use Rattle.journal_line.specs.Line.{IsTurn, IsJournalLine}
use Rattle.journal_line.specs.Spaced.{IsWord, Spaced, IsCutAtSpace}
use Rattle.journal_line.specs.Told.{ToldTurn, ToldLine, HeadLine, CommandLine, WalkLine, TurnLine, ArrivalLine, EndLine}
use Rattle.journal_line.specs.declared.line.Count.{Count}
use Rattle.journal_line.proofs.CountLemmas.{count_no_space}
use Rattle.journal_line.proofs.SpacedLemmas.{parts_of, rest_behind}

pub arrival_parts : (line a x : List ℕ) → IsCutAtSpace line a x → (number late : Count) → IsJournalLine (ArrivalLine number late) line
    → IsCountText number a × Spaced (IsWord (codes "- arrive")) (IsCountText late) x
arrival_parts line a x cut number late is = parts_of line a x cut (count_no_space number) is

pub late_part : (line a x rest : List ℕ) → IsCutAtSpace line a x → x ≡ codes "- arrive" ++ 32 ∷ rest → (number late : Count) → IsJournalLine (ArrivalLine number late) line → IsCountText late rest
late_part line a x rest cut e number late is = rest_behind (codes "- arrive") x rest e (arrival_parts line a x cut number late is).1

pub turn_parts : (line a x : List ℕ) → IsCutAtSpace line a x → (number replica : Count) (turn : ToldTurn) → IsJournalLine (TurnLine number replica turn) line
    → IsCountText number a × Spaced (IsCountText replica) (IsTurn turn) x
turn_parts line a x cut number replica turn is = parts_of line a x cut (count_no_space number) is

pub replica_parts : (line a x b y : List ℕ) → IsCutAtSpace line a x → IsCutAtSpace x b y → (number replica : Count) (turn : ToldTurn) → IsJournalLine (TurnLine number replica turn) line
    → IsCountText replica b × IsTurn turn y
replica_parts line a x b y cut other number replica turn is = parts_of x b y other (count_no_space replica) (turn_parts line a x cut number replica turn is).1

pub no_line : (line : List ℕ) → line ≢ codes "cron journal 1" → line ≢ codes "end" → line ≢ codes "command end" → ((number : Count) → IsJournalLine (CommandLine number) line → ⊥)
    → ((number late : Count) → IsJournalLine (ArrivalLine number late) line → ⊥) → ((number replica : Count) (turn : ToldTurn) → IsJournalLine (TurnLine number replica turn) line → ⊥)
    → (told : ToldLine) → IsJournalLine told line → ⊥
no_line line head end walk command arrival turn HeadLine is = head is
no_line line head end walk command arrival turn (CommandLine number) is = command number is
no_line line head end walk command arrival turn WalkLine is = walk is
no_line line head end walk command arrival turn (TurnLine number replica did) is = turn number replica did is
no_line line head end walk command arrival turn (ArrivalLine number late) is = arrival number late is
no_line line head end walk command arrival turn EndLine is = end is
