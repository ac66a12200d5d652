-- Which line of a text is at fault, where it goes on behind lines that can begin a journal.
use Rattle.std.proofs.Common.{◌≡◌, ◌≢◌, ◌==◌, ℕ, suc, ◌<◌, true, false, List, [], ◌∷◌, ◌++◌, append_assoc, eq-eqb, inl, inr, length, refl, ap, sym, ◌∙◌, arith}
use Rattle.std.specs.List.{AllByRecursion}
use Rattle.std.proofs.lemmas.Bool.{cases_Bool, eqb-true}
use Rattle.cron_io.proofs.LineLemmas.{text_of_lines-append}
use Rattle.cron_io.specs.Lines.{text_of_lines}
use Rattle.due_set.specs.Table.{Table}
use Rattle.script_text.specs.declared.command.Command.{Command}
use Rattle.history.specs.Book.{Row}
use Rattle.run_audit.specs.Played.{IsNextReason}
use Rattle.run_audit.specs.Reading.{IsLineFirst}
use Rattle.run_audit.specs.Sound.{CanBegin, IsWholeJournal, TellTurns}
use Rattle.run_audit.specs.Verdict.{IsAtFault, IsCutIntoLines, IsReason, LacksNewline}
use Rattle.run_audit.specs.declared.verdict.Why.{Why}
use Rattle.run_audit.specs.declared.verdict.Why.TheVariants.{BadLine, NotLegal, NotObeyed, Missing}

-- ---- lines of a text

-- the lines of a text
pub record CutText (text : List ℕ) : Type 0 where
  pub lines : List (List ℕ)
  pub behind : List ℕ
  pub cut : IsCutIntoLines text lines behind

-- a byte before the first line, or before what stands behind the last one
byte_first : (byte : ℕ) (text : List ℕ) → byte ≢ 10 → CutText text → CutText (byte ∷ text)
byte_first byte text differs found = by found.lines found.cut
  where
    by : (lines : List (List ℕ)) → IsCutIntoLines text lines found.behind → CutText (byte ∷ text)
    by [] cut = record { lines = []; behind = byte ∷ found.behind; cut = record { parts = ap (λ l. byte ∷ l) cut.parts; each = tt; last = (differs, cut.last) } }
    by (line ∷ lines) cut = record { lines = (byte ∷ line) ∷ lines; behind = found.behind; cut = record { parts = ap (λ l. byte ∷ l) cut.parts; each = ((differs, cut.each.0), cut.each.1); last = cut.last } }

pub cut_text : (text : List ℕ) → CutText text
cut_text [] = record { lines = []; behind = []; cut = record { parts = refl; each = tt; last = tt } }
cut_text (byte ∷ text) = elim (cases_Bool (byte == 10)) [
  | inl newline ↦
      let rest = cut_text text in
      let same : byte ≡ 10 = eqb-true byte 10 newline in
      record {
        lines = [] ∷ rest.lines;
        behind = rest.behind;
        cut = record { parts = ap (λ b. b ∷ text) same ∙ ap (λ l. 10 ∷ l) rest.cut.parts; each = (tt, rest.cut.each); last = rest.cut.last };
      }
  | inr other ↦ byte_first byte text (λ same. let both : true ≡ false = sym (eq-eqb byte 10 same) ∙ other in cc) (cut_text text)
]

abbrev pub Lack : List (List ℕ) → Type 0
Lack lines = AllByRecursion LacksNewline lines

lists_lack : (front back : List (List ℕ)) → Lack front → Lack back → Lack (front ++ back)
lists_lack [] back one two = two
lists_lack (line ∷ lines) back one two = (one.0, lists_lack lines back one.1 two)

-- lines, and behind them a text that is cut into lines
joined_cut : (lines more : List (List ℕ)) (text rest behind : List ℕ) → text ≡ text_of_lines lines ++ rest → Lack lines → IsCutIntoLines rest more behind
    → IsCutIntoLines text (lines ++ more) behind
joined_cut lines more text rest behind is lack cut = record {
  parts =
      is ∙ ap (λ l. text_of_lines lines ++ l) cut.parts ∙ sym (append_assoc (text_of_lines lines) (text_of_lines more) behind)
      ∙ ap (λ l. l ++ behind) (sym (text_of_lines-append lines more));
  each = lists_lack lines more lack cut.each;
  last = cut.last;
}

-- a line, and behind it a text that is cut into lines
first_cut : (text line rest : List ℕ) (more : List (List ℕ)) (behind : List ℕ) → IsLineFirst text line rest → IsCutIntoLines rest more behind → IsCutIntoLines text (line ∷ more) behind
first_cut text line rest more behind first cut = record {
  parts =
      first.parts ∙ ap (λ l. line ++ 10 ∷ l) cut.parts ∙ sym (append_assoc line (10 ∷ []) (text_of_lines more ++ behind))
      ∙ sym (append_assoc (line ++ 10 ∷ []) (text_of_lines more) behind);
  each = (first.lacks, cut.each);
  last = cut.last;
}

-- ---- the line at fault

module _ (members : ℕ) (table : Table) (script : List Command) where
  -- The text begins with lines that tell these turns. With its next line it begins no journal, and where it ends with them it is none.
  pub record StopsBehind (text : List ℕ) (before : List (List ℕ)) (rows : List Row) (rest : List ℕ) : Type 0 where
    pub is : text ≡ text_of_lines before ++ rest
    pub lack : Lack before
    pub tell : TellTurns members table script before rows
    pub ends : (line behind : List ℕ) → IsLineFirst rest line behind → CanBegin members table script (before ++ line ∷ []) → ⊥
    pub none : rest ≡ [] → (others : List Row) → IsWholeJournal members table script before others → ⊥

  module _ (text : List ℕ) (before : List (List ℕ)) (rows : List Row) (rest : List ℕ) (number : ℕ) (stops : StopsBehind text before rows rest) (number_is : number ≡ suc (length before)) where
    line_fault : (line behind : List ℕ) (why : Why) → IsLineFirst rest line behind → IsReason members table rows line why → IsAtFault members table script text number why
    line_fault line behind why first reason =
        let more = cut_text behind in
        record {
          before = before;
          rest = line ∷ more.lines;
          behind = more.behind;
          cut = joined_cut before (line ∷ more.lines) text rest more.behind stops.is stops.lack (first_cut rest line behind more.lines more.behind first more.cut);
          number_is = number_is;
          stops = record { rows = rows; tell = stops.tell; ends = stops.ends line behind first; reason = reason };
        }

    end_fault : (left : List ℕ) (why : Why) → rest ≡ left → LacksNewline left → (why ≡ Missing) × (left ≡ []) → IsAtFault members table script text number why
    end_fault left why same lacks (is, empty) = record {
      before = before;
      rest = [];
      behind = [];
      cut = joined_cut before [] text rest [] stops.is stops.lack (record { parts = same ∙ empty; each = tt; last = tt });
      number_is = number_is;
      stops = ((rows, stops.tell), stops.none (same ∙ empty), is);
    }

    bad_fault : (left : List ℕ) → rest ≡ left → 0 < length left → LacksNewline left → IsAtFault members table script text number BadLine
    bad_fault [] same some lacks = absurd (omega (arith, some))
    bad_fault (byte ∷ bytes) same some lacks = record {
      before = before;
      rest = [];
      behind = byte ∷ bytes;
      cut = joined_cut before [] text rest (byte ∷ bytes) stops.is stops.lack (record { parts = same; each = tt; last = lacks });
      number_is = number_is;
      stops = ((rows, stops.tell), refl);
    }

    -- **The next line is the first one at fault**, or the text ends where it would be.
    pub fault_there : (why : Why) → IsNextReason members table rows rest why → IsAtFault members table script text number why
    fault_there BadLine (inl (line, behind, first, reason)) = line_fault line behind BadLine first reason
    fault_there BadLine (inr (some, lacks)) = bad_fault rest refl some lacks
    fault_there NotLegal (line, behind, first, reason) = line_fault line behind NotLegal first reason
    fault_there NotObeyed (line, behind, first, reason) = line_fault line behind NotObeyed first reason
    fault_there Missing reason = end_fault [] Missing reason tt (refl, refl)
