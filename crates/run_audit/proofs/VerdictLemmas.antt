-- A text has one verdict.
use Rattle.std.proofs.Common.{◌≡◌, ◌+◌, ◌<◌, ℕ, List, [], ◌∷◌, ◌++◌, append-nil, append_assoc, drop, inl, inr, length, take, refl, ap, sym, subst, ◌∙◌, arith}
use Rattle.std.specs.List.{AllByRecursion}
use Rattle.std.proofs.lemmas.Bool.{cases_lt}
use Rattle.std.proofs.lemmas.List.{length-append, take-append-drop, take-append-le, take_at}
use Rattle.cron_io.specs.Lines.{text_of_lines}
use Rattle.due_set.specs.Table.{Table}
use Rattle.script_text.specs.declared.command.Command.{Command}
use Rattle.script_text.proofs.CutLemmas.{lacks_none, same_cut}
use Rattle.history.specs.Book.{Row}
use Rattle.run_audit.specs.Sound.{CanBegin, IsWholeJournal}
use Rattle.run_audit.specs.Verdict.{IsAtFault, IsJournal, LacksNewline, StopsAtNext}
use Rattle.run_audit.specs.declared.verdict.Why.{Why}
use Rattle.run_audit.proofs.JournalLemmas.{lines_less}

-- the lines of a text, and what stands behind them
pub record AreSameLines (lines others : List (List ℕ)) (behind rest : List ℕ) : Type 0 where
  pub lines_are : lines ≡ others
  pub behind_is : behind ≡ rest

first_line : (line : List ℕ) (lines : List (List ℕ)) (behind : List ℕ) → text_of_lines (line ∷ lines) ++ behind ≡ line ++ 10 ∷ (text_of_lines lines ++ behind)
first_line line lines behind =
    append_assoc (line ++ 10 ∷ []) (text_of_lines lines) behind ∙ append_assoc line (10 ∷ []) (text_of_lines lines ++ behind)

pub same_lines : (lines others : List (List ℕ)) (behind rest : List ℕ) → AllByRecursion LacksNewline lines → AllByRecursion LacksNewline others
    → LacksNewline behind → LacksNewline rest → text_of_lines lines ++ behind ≡ text_of_lines others ++ rest → AreSameLines lines others behind rest
same_lines [] [] behind rest one two last end same = record { lines_are = refl; behind_is = same }
same_lines [] (other ∷ others) behind rest one two last end same =
    absurd (lacks_none 10 other (text_of_lines others ++ rest) (subst LacksNewline (same ∙ first_line other others rest) last))
same_lines (line ∷ lines) [] behind rest one two last end same =
    absurd (lacks_none 10 line (text_of_lines lines ++ behind) (subst LacksNewline (sym same ∙ first_line line lines behind) end))
same_lines (line ∷ lines) (other ∷ others) behind rest one two last end same =
    let cut = same_cut 10 line other (text_of_lines lines ++ behind) (text_of_lines others ++ rest) one.0 two.0
    (sym (first_line line lines behind) ∙ same ∙ first_line other others rest) in
    let more = same_lines lines others behind rest one.1 two.1 last end cut.1 in
    record { lines_are = ap (λ (l : List ℕ). l ∷ lines) cut.0 ∙ ap (λ (l : List (List ℕ)). other ∷ l) more.lines_are; behind_is = more.behind_is }

module _ (members : ℕ) (table : Table) (script : List Command) where
  -- a whole journal stops nowhere
  stops_nowhere : (before rest : List (List ℕ)) (behind : List ℕ) (why : Why) (rows : List Row) → behind ≡ [] → IsWholeJournal members table script (before ++ rest) rows
      → StopsAtNext members table script before rest behind why → ⊥
  stops_nowhere before [] [] why rows none whole stops =
      stops.1 rows (subst (λ (l : List (List ℕ)). IsWholeJournal members table script l rows) (append-nil before) whole)
  stops_nowhere before [] (byte ∷ bytes) why rows none whole stops = cc
  stops_nowhere before (line ∷ rest) behind why rows none whole stops =
      stops.ends (lines_less members table script (before ++ line ∷ []) rest
      (subst (CanBegin members table script) (sym (append_assoc before (line ∷ []) rest)) (rows, inr (inr whole))))

  -- **A journal of a run has no line at fault.**
  pub not_both : (text : List ℕ) (rows : List Row) (number : ℕ) (why : Why) → IsJournal members table script text rows
      → IsAtFault members table script text number why → ⊥
  not_both text rows number why journal fault =
      let cut = journal.cut in
      let other = fault.cut in
      let same = same_lines journal.lines (fault.before ++ fault.rest) [] fault.behind cut.each other.each cut.last other.last (sym cut.parts ∙ other.parts) in
      stops_nowhere fault.before fault.rest fault.behind why rows (sym same.behind_is)
      (subst (λ (l : List (List ℕ)). IsWholeJournal members table script l rows) same.lines_are journal.whole) fault.stops

  -- ---- the first line at fault

  begins_before : (before rest : List (List ℕ)) (behind : List ℕ) (why : Why) → StopsAtNext members table script before rest behind why
      → CanBegin members table script before
  begins_before before [] [] why stops = stops.0
  begins_before before [] (byte ∷ bytes) why stops = stops.0
  begins_before before (line ∷ rest) behind why stops = (stops.rows, stops.tell)

  -- no line before the first one at fault is at fault
  none_earlier : (before rest longer more : List (List ℕ)) (behind : List ℕ) (why : Why) → before ++ rest ≡ longer ++ more → length before < length longer
      → CanBegin members table script longer → StopsAtNext members table script before rest behind why → ⊥
  none_earlier before [] longer more behind why same lt begins stops =
      let one : length before ≡ length longer + length more =
      ap length (sym (append-nil before) ∙ same) ∙ length-append longer more in
      omega (arith, lt, one)
  none_earlier before (line ∷ rest) longer more behind why same lt begins stops =
      let next = before ++ line ∷ [] in
      let size : length next ≡ length before + 1 = length-append before (line ∷ []) in
      let front : take (length next) longer ≡ next =
      sym (take-append-le (length next) longer more (omega (arith, size, lt)))
      ∙ ap (take (length next)) (sym same ∙ sym (append_assoc before (line ∷ []) rest)) ∙ take_at next rest (length next) refl in
      let parts : longer ≡ next ++ drop (length next) longer =
      sym (take-append-drop (length next) longer) ∙ ap (λ (l : List (List ℕ)). l ++ drop (length next) longer) front in
      stops.ends (lines_less members table script next (drop (length next) longer) (subst (CanBegin members table script) parts begins))

  -- **A text has one first line at fault at most.**
  pub one_line : (text : List ℕ) (number other : ℕ) (why whether : Why) → IsAtFault members table script text number why
      → IsAtFault members table script text other whether → number ≡ other
  one_line text number other why whether a b =
      let cut = a.cut in
      let second = b.cut in
      let same = same_lines (a.before ++ a.rest) (b.before ++ b.rest) a.behind b.behind cut.each second.each cut.last second.last (sym cut.parts ∙ second.parts) in
      elim (cases_lt (length a.before) (length b.before)) [
        | inl lt ↦ absurd (none_earlier a.before a.rest b.before b.rest a.behind why same.lines_are lt (begins_before b.before b.rest b.behind whether b.stops) a.stops)
        | inr low ↦ elim (cases_lt (length b.before) (length a.before)) [
          | inl lt ↦ absurd (none_earlier b.before b.rest a.before a.rest b.behind whether (sym same.lines_are) lt (begins_before a.before a.rest a.behind why a.stops) b.stops)
          | inr high ↦
              let one = a.number_is in
              let two = b.number_is in
              omega (arith, low, high, one, two)
        ]
      ]
