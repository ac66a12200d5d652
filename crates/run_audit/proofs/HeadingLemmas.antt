-- A text goes on with a line that is of no turn, or with another.
use Rattle.std.proofs.Common.{◌≡◌, ℕ, ◌+◌, ◌<◌, ◌^◌, List, ◌∷◌, ◌++◌, length, Result, Ok, Err, inl, inr, refl, ap, sym, subst, ◌∙◌, codes, decimal}
use Rattle.std.specs.Prelude.{⊤, IsErrAnd}
use Rattle.due_set.specs.Table.{Table}
use Rattle.script_text.proofs.CutLemmas.{lacks_none}
use Rattle.history.specs.Book.{Row}
use Rattle.journal_line.proofs.CountLemmas.{count_of_decimal, decimal_of_count}
use Rattle.journal_line.proofs.UniqueLine.{same_line}
use Rattle.journal_line.specs.Line.{IsJournalLine}
use Rattle.journal_line.specs.Told.{told_line}
use Rattle.script_semantics.specs.Situation.{Situation}
use Rattle.run_replay.specs.declared.replay.Replay.{Replay}
use Rattle.run_audit.proofs.ComingLemmas.{first_one, no_end}
use Rattle.run_audit.specs.Headings.{ComesBehind, IsSmallHeading, PassesLine, StopsAtHeading, TellsHeading, heading_text, told_heading}
use Rattle.run_audit.specs.Played.{ComesOf}
use Rattle.run_audit.specs.Reading.{GoesOnBadly, IsLineFirst, ReadsNext}
use Rattle.run_audit.specs.Verdict.{LacksNewline}
use Rattle.run_audit.specs.declared.heading.Heading.{Heading}
use Rattle.run_audit.specs.declared.heading.Heading.TheVariants.{First, Command, Walk, Last}
use Rattle.run_audit.specs.declared.lines.Next.{Next}
use Rattle.run_audit.specs.declared.lines.Next.TheVariants.{Line, Bad, End}
use Rattle.run_audit.specs.declared.lines.Rest.{Rest}
use Rattle.run_audit.specs.declared.verdict.Stop.{Stop}

-- ---- what a line says

heading_line : (heading : Heading) (line : List ℕ) → IsJournalLine (told_heading heading) line → line ≡ heading_text heading
heading_line First line is = is
heading_line (Command number) line is = is.parts ∙ ap (λ front. front ++ 32 ∷ is.rest) is.front_is ∙ ap (λ rest. codes "command" ++ 32 ∷ rest) (decimal_of_count number is.rest is.rest_is)
heading_line Walk line is = is
heading_line Last line is = is

line_there : (heading : Heading) → IsSmallHeading heading → IsJournalLine (told_heading heading) (heading_text heading)
line_there First small = refl
line_there (Command number) small = record { front = codes "command"; rest = decimal number; parts = refl; front_is = refl; rest_is = count_of_decimal number small }
line_there Walk small = refl
line_there Last small = refl

-- ---- what was read

-- the line was read
pub line_passed : (heading : Heading) (next : Next) (old new : Rest) → ReadsNext old new next → TellsHeading next heading → new.number + length new.text.now < 2 ^ 32 → PassesLine (heading_text heading) old new
line_passed heading (Line read) old new (line, first, is, number) tells few = record {
  first = subst (λ l. IsLineFirst old.text.now l new.text.now) (heading_line heading line (subst (λ told. IsJournalLine told line) tells is)) first;
  number = number;
  few = few;
}
line_passed heading Bad old new reads tells few = absurd tells
line_passed heading End old new reads tells few = absurd tells

-- another line was read, or none
pub line_other : (heading : Heading) (next : Next) (old new : Rest) → IsSmallHeading heading → ReadsNext old new next → (TellsHeading next heading → ⊥) → (line behind : List ℕ) → IsLineFirst old.text.now line behind
    → line ≡ heading_text heading → ⊥
line_other heading (Line read) old new small (found, first, is, number) differs line behind here same =
    let one : found ≡ line = first_one old.text.now found line new.text.now behind first here in
    differs (same_line found (told_line read) (told_heading heading) is (subst (IsJournalLine (told_heading heading)) (sym (one ∙ same)) (line_there heading small)))
line_other heading Bad old new small (bad, stays) differs line behind here same = by bad
  where
    by : GoesOnBadly old.text.now → ⊥
    by (inl (found, rest, first, lacks)) =
        lacks (told_heading heading) (subst (IsJournalLine (told_heading heading)) (sym (first_one old.text.now found line rest behind first here ∙ same)) (line_there heading small))
    by (inr (some, lacks)) = lacks_none 10 line behind (subst LacksNewline here.parts lacks)
line_other heading End old new small (ends, stays) differs line behind here same = no_end line behind (sym ends ∙ here.parts)

-- ---- parts with the line before them

pub comes_behind : (table : Table) (text : List ℕ) (begins : ℕ → Situation → List Row → Type 0) (whole : ℕ → Situation → List Row → Situation → Type 0) (old now new : Replay) (rest middle behind : Rest)
    (result : Result ⊤ Stop) → PassesLine text rest middle → now ≡ old → ComesOf table (begins now.book.members) (whole now.book.members) now middle new behind result
    → ComesBehind table text (begins old.book.members) (whole old.book.members) old rest new behind result
comes_behind table text begins whole old now new rest middle behind result passes same comes =
    by result (subst (λ (replay : Replay). ComesOf table (begins replay.book.members) (whole replay.book.members) replay middle new behind result) same comes)
  where
    by : (found : Result ⊤ Stop) → ComesOf table (begins old.book.members) (whole old.book.members) old middle new behind found
        → ComesBehind table text (begins old.book.members) (whole old.book.members) old rest new behind found
    by (Ok done) played = record { middle = middle; passes = passes; played = played }
    by (Err stop) stops = inr (record { middle = middle; passes = passes; stops = stops })

-- a stop at the line before a part
pub stops_before : (table : Table) (text : List ℕ) (begins : Situation → List Row → Type 0) (whole : Situation → List Row → Situation → Type 0) (old : Replay) (rest : Rest) (new : Replay) (behind : Rest)
    (result : Result ⊤ Stop) (stop : Stop) → IsErrAnd result (λ found. found ≡ stop) → StopsAtHeading table text old rest stop → ComesBehind table text begins whole old rest new behind result
stops_before table text begins whole old rest new behind (Ok done) stop is stops = absurd is
stops_before table text begins whole old rest new behind (Err found) stop is stops = inl (subst (StopsAtHeading table text old rest) (sym is) stops)
