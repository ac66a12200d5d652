-- A text tells one list of turns, and its first line at fault has one reason.
use Rattle.std.proofs.Common.{◌≡◌, ℕ, zero, suc, ◌+◌, ◌<◌, ◌≤◌, ◌^◌, List, [], ◌∷◌, ◌++◌, inl, inr, length, refl, ap, sym, subst, ◌∙◌, arith, codes}
use Rattle.std.proofs.lemmas.List.{length-append}
use Rattle.cron_io.specs.Lines.{text_of_lines}
use Rattle.zone_minutes.specs.Window.{IsWithinLimits}
use Rattle.due_set.specs.Table.{Table}
use Rattle.script_text.specs.declared.command.Command.{Command}
use Rattle.history.specs.Book.{Row, Standing}
use Rattle.history.specs.Legal.{IsLegal, MayFollow}
use Rattle.world_law.proofs.Settled.{turns_settle}
use Rattle.journal_line.proofs.UniqueLine.{same_line}
use Rattle.journal_text.specs.Journal.{part_head, turn_line}
use Rattle.run_audit.specs.Sound.{IsWholeJournal, ObeysSoFar, TellTurns, turns_of}
use Rattle.run_audit.specs.Verdict.{IsAtFault, IsJournal, IsOfNoTurn, IsOfTurn, IsOutOfPlace, IsReason, MayComeNextAs, StopsAtNext}
use Rattle.run_audit.specs.declared.verdict.Why.{Why}
use Rattle.run_audit.specs.declared.verdict.Why.TheVariants.{BadLine, NotLegal, NotObeyed, Missing}
use Rattle.run_audit.proofs.JournalLemmas.{begins_whole, has_last, lines_with, same_cut, same_front}
use Rattle.run_audit.proofs.LastLemmas.{as_long, lines_settle}
use Rattle.run_audit.proofs.NextLemmas.{not_ended}
use Rattle.run_audit.proofs.VerdictLemmas.{one_line, same_lines}

-- no text has more lines than bytes
lines_within : (lines : List (List ℕ)) (behind : List ℕ) → length lines ≤ length (text_of_lines lines ++ behind)
lines_within lines behind = let few = at_most lines in omega (arith, few, length-append (text_of_lines lines) behind)
  where
    at_most : (lines : List (List ℕ)) → length lines ≤ length (text_of_lines lines)
    at_most [] = omega arith
    at_most (line ∷ lines) =
        let few = at_most lines in
        omega (arith, few, length-append (line ++ 10 ∷ []) (text_of_lines lines), length-append line (10 ∷ []))

module _ (members : ℕ) (table : Table) (script : List Command) (few : members ≤ 7) (limits : IsWithinLimits table.window) where
  abbrev with : List Row → List ℕ → List (List ℕ)
  with = lines_with members table script

  -- there are more lines than turns
  more_lines : (bound : ℕ) (rows : List Row) (starts : List ℕ) → length rows + length starts < bound → IsLegal members table rows
      → ObeysSoFar members table script rows starts → length rows < length (with rows starts)
  more_lines zero rows starts below legal obeys = absurd (omega (arith, below))
  more_lines (suc bound) rows starts below legal obeys = elim (has_last members table script rows starts legal obeys) [
    | inl alone ↦ omega (arith, ap length alone.no_rows, ap length alone.are)
    | inr (inl last) ↦
        let size : length starts ≡ length last.before + 1 = ap length last.is ∙ length-append last.before (length rows ∷ []) in
        let less = more_lines bound rows last.before (omega (arith, below, size)) legal last.obeys in
        let long = ap length last.are ∙ length-append (with rows last.before) (part_head (suc (length script)) (length last.before) ∷ []) in
        omega (arith, less, long)
    | inr (inr last) ↦
        let size : length rows ≡ length last.front + 1 = ap length last.is ∙ length-append last.front (last.row ∷ []) in
        let less = more_lines bound last.front starts (omega (arith, below, size)) last.legal last.obeys in
        let long = ap length last.are ∙ length-append (with last.front starts) (turn_line table (length last.front, last.row.turn) ∷ []) in
        omega (arith, less, long, size)
  ]

  short_rows : (lines : List (List ℕ)) (rows : List Row) (starts : List ℕ) → length lines < 2 ^ 32 → IsLegal members table rows
      → ObeysSoFar members table script rows starts
      → lines ≡ with rows starts → length rows < 2 ^ 32
  short_rows lines rows starts short legal obeys are =
      let more = more_lines (length rows + length starts + 1) rows starts (omega arith) legal obeys in
      omega (arith, short, more, ap length are)

  -- ---- turns

  legal_none : IsLegal members table []
  legal_none number row there = absurd cc

  told_legal : (lines : List (List ℕ)) (rows : List Row) → TellTurns members table script lines rows → IsLegal members table rows
  told_legal lines rows (inl empty) = subst (IsLegal members table) (sym empty.1) legal_none
  told_legal lines rows (inr (inl so_far)) = so_far.legal
  told_legal lines rows (inr (inr whole)) = whole.legal

  -- lines tell one list of turns
  one_told : (lines : List (List ℕ)) (rows others : List Row) → length lines < 2 ^ 32 → TellTurns members table script lines rows
      → TellTurns members table script lines others
      → turns_of rows ≡ turns_of others
  one_told lines rows others short (inl a) (inl b) = ap turns_of (a.1 ∙ sym b.1)
  one_told lines rows others short (inl a) (inr (inl b)) = let same = sym a.0 ∙ b.are in absurd cc
  one_told lines rows others short (inr (inl a)) (inl b) = let same = sym b.0 ∙ a.are in absurd cc
  one_told lines rows others short (inl a) (inr (inr b)) = let same = sym a.0 ∙ b.are in absurd cc
  one_told lines rows others short (inr (inr a)) (inl b) = let same = sym b.0 ∙ a.are in absurd cc
  one_told lines rows others short (inr (inl a)) (inr (inl b)) =
      let low = short_rows lines rows a.starts short a.legal a.obeys a.are in
      (lines_settle members table script few limits rows others a.starts b.starts a.legal b.legal a.obeys b.obeys low (sym a.are ∙ b.are)).turns
  one_told lines rows others short (inr (inl a)) (inr (inr b)) =
      let low = short_rows lines rows a.starts short a.legal a.obeys a.are in
      let whole = subst (λ (l : List (List ℕ)). IsWholeJournal members table script l others) a.are b in
      absurd (not_ended members table script few limits rows a.starts a.legal a.obeys low others whole)
  one_told lines rows others short (inr (inr a)) (inr (inl b)) =
      let low = short_rows lines others b.starts short b.legal b.obeys b.are in
      let whole = subst (λ (l : List (List ℕ)). IsWholeJournal members table script l rows) b.are a in
      absurd (not_ended members table script few limits others b.starts b.legal b.obeys low rows whole)
  one_told lines rows others short (inr (inr a)) (inr (inr b)) =
      let obeys = begins_whole members table script rows a.starts a.begin in
      let obeying = begins_whole members table script others b.starts b.begin in
      let front = same_front (with rows a.starts) (with others b.starts) _ _ (sym a.are ∙ b.are) in
      let long = ap length a.are ∙ length-append (with rows a.starts) (codes "end" ∷ []) in
      let low = short_rows (with rows a.starts) rows a.starts (omega (arith, short, long)) a.legal obeys refl in
      (lines_settle members table script few limits rows others a.starts b.starts a.legal b.legal obeys obeying low front).turns

  -- **A text is the journal of one list of turns.**
  pub one_list : (text : List ℕ) (rows others : List Row) → length text < 2 ^ 32 → IsJournal members table script text rows
      → IsJournal members table script text others
      → turns_of rows ≡ turns_of others
  one_list text rows others short a b =
      let cut = a.cut in
      let other = b.cut in
      let same = same_lines a.lines b.lines [] [] cut.each other.each cut.last other.last (sym cut.parts ∙ other.parts) in
      let within = lines_within a.lines [] in
      one_told a.lines rows others (omega (arith, short, within, ap length cut.parts)) (inr (inr a.whole))
      (inr (inr (subst (λ (l : List (List ℕ)). IsWholeJournal members table script l others) (sym same.lines_are) b.whole)))

  -- ---- reasons

  -- a line of no turn that may come next isn't out of place
  misplaced : (rows others : List Row) (line : List ℕ) → IsLegal members table rows → IsLegal members table others → turns_of rows ≡ turns_of others
      → IsOfNoTurn members table rows line → IsOutOfPlace members table others line → ⊥
  misplaced rows others line legal lawful turns a b =
      let told : a.told ≡ b.told = same_line line a.told b.told a.read b.read in
      let next : MayComeNextAs members table others line = b.may (subst IsOfTurn told a.of_turn) in
      let stands = (turns_settle members table rows others legal lawful turns).stands in
      a.none (record {
        row = next.row;
        may = subst (λ (s : Standing). MayFollow members table s next.row.turn next.row) (sym stands) next.may;
        is = ap (λ n. turn_line table (n, next.row.turn)) (as_long members table script few limits rows others turns) ∙ next.is;
      })

  same_reason : (rows others : List Row) (line : List ℕ) (why whether : Why) → IsLegal members table rows → IsLegal members table others
      → turns_of rows ≡ turns_of others
      → IsReason members table rows line why → IsReason members table others line whether → why ≡ whether
  same_reason rows others line BadLine BadLine legal lawful turns a b = refl
  same_reason rows others line NotLegal NotLegal legal lawful turns a b = refl
  same_reason rows others line NotObeyed NotObeyed legal lawful turns a b = refl
  same_reason rows others line BadLine NotLegal legal lawful turns a b = absurd (a b.told b.read)
  same_reason rows others line BadLine NotObeyed legal lawful turns a b = absurd (a b.told b.read)
  same_reason rows others line NotLegal BadLine legal lawful turns a b = absurd (b a.told a.read)
  same_reason rows others line NotObeyed BadLine legal lawful turns a b = absurd (b a.told a.read)
  same_reason rows others line NotLegal NotObeyed legal lawful turns a b = absurd (misplaced rows others line legal lawful turns a b)
  same_reason rows others line NotObeyed NotLegal legal lawful turns a b = absurd (misplaced others rows line lawful legal (sym turns) b a)
  same_reason rows others line Missing whether legal lawful turns a b = absurd a
  same_reason rows others line BadLine Missing legal lawful turns a b = absurd b
  same_reason rows others line NotLegal Missing legal lawful turns a b = absurd b
  same_reason rows others line NotObeyed Missing legal lawful turns a b = absurd b

  stops_alike : (before rest : List (List ℕ)) (behind : List ℕ) (why whether : Why) → length before < 2 ^ 32
      → StopsAtNext members table script before rest behind why
      → StopsAtNext members table script before rest behind whether → why ≡ whether
  stops_alike before [] [] why whether short a b = a.2 ∙ sym b.2
  stops_alike before [] (byte ∷ bytes) why whether short a b = a.1 ∙ sym b.1
  stops_alike before (line ∷ rest) behind why whether short a b =
      same_reason a.rows b.rows line why whether (told_legal before a.rows a.tell) (told_legal before b.rows b.tell)
      (one_told before a.rows b.rows short a.tell b.tell) a.reason b.reason

  -- **The first line at fault of a text has one reason.**
  pub one_reason : (text : List ℕ) (number other : ℕ) (why whether : Why) → length text < 2 ^ 32 → IsAtFault members table script text number why
      → IsAtFault members table script text other whether → why ≡ whether
  one_reason text number other why whether short a b =
      let cut = a.cut in
      let second = b.cut in
      let lines = same_lines (a.before ++ a.rest) (b.before ++ b.rest) a.behind b.behind cut.each second.each cut.last second.last
      (sym cut.parts ∙ second.parts) in
      let same = one_line members table script text number other why whether a b in
      let size : length a.before ≡ length b.before = omega (arith, same, a.number_is, b.number_is) in
      let parts = same_cut a.before a.rest b.before b.rest lines.lines_are size in
      let within = lines_within (a.before ++ a.rest) a.behind in
      let low : length a.before < 2 ^ 32 = omega (arith, short, within, ap length cut.parts, length-append a.before a.rest) in
      stops_alike a.before a.rest a.behind why whether low a.stops
      (subst (λ (l : List (List ℕ)). StopsAtNext members table script l a.rest a.behind whether) (sym parts.0)
      (subst (λ (l : List (List ℕ)). StopsAtNext members table script b.before l a.behind whether) (sym parts.1)
      (subst (λ (l : List ℕ). StopsAtNext members table script b.before b.rest l whether) (sym lines.behind_is) b.stops)))
