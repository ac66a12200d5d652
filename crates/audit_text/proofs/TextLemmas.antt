-- Bytes are read as one text, which is no longer than they are.
use Rattle.std.proofs.Common.{append-nil, Bool, true, false, cond, codes, map, ◌≡◌, ℕ, ◌<◌, ◌≤◌, List, [], ◌∷◌, ◌++◌, length, refl, ap, sym, ◌∙◌, arith, length-append}
use Rattle.std.specs.Str.{is_utf8}
use Rattle.std.proofs.lemmas.List.{append_cancel_right}
use Rattle.std.proofs.lemmas.Str.{IsUtf8-nil}
use Rattle.cron_io.specs.Lines.{text_of_lines}
use Rattle.cron_io.proofs.LineLemmas.{text_of_lines-append}
use Rattle.crontab_text.specs.Lines.{lines_of}
use Rattle.audit_text.specs.Parts.{IsOfParts}
use Rattle.audit_text.specs.Readable.{IsReadText, line_as_read, missing_newline}
use Rattle.audit_text.proofs.ReadLemmas.{missing_ended, read_as_it_is}
use Rattle.audit_text.proofs.SplitLemmas.{lines_back}

-- no line is longer as it is read
line_is_short : (line : List ℕ) → length (line_as_read line) ≤ length line
line_is_short [] = omega (arith, ap length (read_as_it_is [] IsUtf8-nil))
line_is_short (c ∷ cs) = by (is_utf8 (c ∷ cs))
  where
    by : (test : Bool) → length (cond test (c ∷ cs) (codes "?")) ≤ length (c ∷ cs)
    by true = omega arith
    by false = omega arith

lines_are_short : (lines : List (List ℕ)) → length (text_of_lines (map line_as_read lines)) ≤ length (text_of_lines lines)
lines_are_short [] = omega arith
lines_are_short (line ∷ lines) =
    let first = line_is_short line in
    let rest = lines_are_short lines in
    let read = length-append (line_as_read line ++ 10 ∷ []) (text_of_lines (map line_as_read lines)) in
    let whole = length-append (line ++ 10 ∷ []) (text_of_lines lines) in
    omega (arith, first, rest, read, whole, length-append (line_as_read line) (10 ∷ []), length-append line (10 ∷ []))

-- no text that is read is longer than its bytes
pub text_is_short : (bytes text : List ℕ) → IsReadText bytes text → length text ≤ length bytes
text_is_short bytes text read =
    let short = lines_are_short (lines_of bytes) in
    let size = ap length read in
    let back = ap length (lines_back bytes) in
    omega (arith, short, size, back, length-append text (missing_newline bytes), length-append bytes (missing_newline bytes))

-- bytes are read as one text
pub one_text : (bytes a b : List ℕ) → IsReadText bytes a → IsReadText bytes b → a ≡ b
one_text bytes a b first second = append_cancel_right a b (missing_newline bytes) (first ∙ sym second)

-- ---- texts of whole lines

missing_behind : (front : List ℕ) (c : ℕ) (cs : List ℕ) → missing_newline (front ++ c ∷ cs) ≡ missing_newline (c ∷ cs)
missing_behind [] c cs = refl
missing_behind (x ∷ []) c cs = refl
missing_behind (x ∷ y ∷ front) c cs = missing_behind (y ∷ front) c cs

-- a text lacks what its back lacks
missing_after : (front back : List ℕ) → 0 < length back → missing_newline (front ++ back) ≡ missing_newline back
missing_after front [] some = absurd (omega (arith, some))
missing_after front (c ∷ cs) some = missing_behind front c cs

-- the text of whole lines lacks nothing
pub none_missing : (lines : List (List ℕ)) → missing_newline (text_of_lines lines) ≡ []
none_missing [] = refl
none_missing (line ∷ []) = ap missing_newline (append-nil (line ++ 10 ∷ [])) ∙ missing_ended line
none_missing (line ∷ next ∷ lines) =
    let rest = text_of_lines (next ∷ lines) in
    let some = length-append (next ++ 10 ∷ []) (text_of_lines lines) in
    missing_after (line ++ 10 ∷ []) rest (omega (arith, some, length-append next (10 ∷ []))) ∙ none_missing (next ∷ lines)

-- two texts of whole lines are one, where their lines are the same
pub one_of_lines : (a b : List ℕ) → missing_newline a ≡ [] → missing_newline b ≡ [] → lines_of a ≡ lines_of b → a ≡ b
one_of_lines a b none nothing same = sym (back a none) ∙ ap text_of_lines same ∙ back b nothing
  where
    back : (text : List ℕ) → missing_newline text ≡ [] → text_of_lines (lines_of text) ≡ text
    back text none = lines_back text ∙ ap (λ l. text ++ l) none ∙ append-nil text

-- a text that is read of whole lines has whole lines
pub read_whole : (bytes text : List ℕ) → IsReadText bytes text → missing_newline bytes ≡ [] → missing_newline text ≡ []
read_whole bytes text read none =
    let is : text ≡ text_of_lines (map line_as_read (lines_of bytes)) = sym (append-nil text) ∙ ap (λ l. text ++ l) (sym none) ∙ read in
    ap missing_newline is ∙ none_missing (map line_as_read (lines_of bytes))

empty : (text : List ℕ) → length text ≡ 0 → text ≡ []
empty [] none = refl
empty (c ∷ cs) none = absurd (omega (arith, none))

-- a report has whole lines, where a journal follows it
pub report_is_whole : (input run report journal : List ℕ) → IsOfParts input run report journal → 0 < length journal → missing_newline report ≡ []
report_is_whole input run report journal parts some =
    let size = ap length parts.bytes in
    let first = length-append run (report ++ journal) in
    let second = length-append report journal in
    let last : missing_newline input ≡ missing_newline journal =
    ap missing_newline parts.bytes ∙ missing_after run (report ++ journal) (omega (arith, second, some)) ∙ missing_after report journal some in
    let texts =
    ap text_of_lines parts.lines ∙ text_of_lines-append (lines_of run) (lines_of report ++ lines_of journal)
    ∙ ap (λ l. text_of_lines (lines_of run) ++ l) (text_of_lines-append (lines_of report) (lines_of journal)) in
    let whole = ap length (lines_back input) ∙ length-append input (missing_newline input) in
    let of_run = ap length (lines_back run) ∙ length-append run (missing_newline run) in
    let of_report = ap length (lines_back report) ∙ length-append report (missing_newline report) in
    let of_journal = ap length (lines_back journal) ∙ length-append journal (missing_newline journal) in
    let all = ap length texts ∙ length-append (text_of_lines (lines_of run)) (text_of_lines (lines_of report) ++ text_of_lines (lines_of journal)) in
    let behind = length-append (text_of_lines (lines_of report)) (text_of_lines (lines_of journal)) in
    empty (missing_newline report) (omega (arith, size, first, second, ap length last, whole, of_run, of_report, of_journal, all, behind))
