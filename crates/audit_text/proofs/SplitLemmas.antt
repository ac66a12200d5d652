-- An input is of one run, one report and one journal.
use Rattle.std.proofs.Common.{◌≡◌, ◌≢◌, ◌⊎◌, ℕ, ◌==◌, Bool, true, false, cond, List, [], ◌∷◌, ◌++◌, length, refl, ap, ◌∙◌, sym, subst, inl, inr, arith, append_assoc, length-append}
use Rattle.std.proofs.lemmas.Bool.{cases_eq, ne_eqb}
use Rattle.std.proofs.lemmas.List.{append-nil, append_cancel_left, append_cancel_right}
use Rattle.cron_io.specs.Lines.{text_of_lines}
use Rattle.crontab_text.specs.Lines.{begin_with, lines_of}
use Rattle.crontab_text.proofs.LineLemmas.{lines_of-begins, lines_of-front, lines_of-newline, lines_of-none, some_line}
use Rattle.audit_text.specs.Parts.{BeginsAtLast, EndsAtFirst, IsOfParts, NoneIs, report_end, report_head}
use Rattle.audit_text.specs.Readable.{missing_newline}

-- ---- texts and their lines

lines_of-byte : (c : ℕ) (cs : List ℕ) → c ≢ 10 → lines_of (c ∷ cs) ≡ begin_with c (lines_of cs)
unfolding lines_of
lines_of-byte c cs other = ap (λ test. cond {A = List (List ℕ)} test ([] ∷ lines_of cs) (begin_with c (lines_of cs))) (ne_eqb c 10 other)

after_newline : (text : List ℕ) → missing_newline text ≡ missing_newline (10 ∷ text)
after_newline [] = refl
after_newline (c ∷ cs) = refl

newline_or_none : (text : List ℕ) → (missing_newline text ≡ []) ⊎ (missing_newline text ≡ 10 ∷ [])
newline_or_none [] = inl refl
newline_or_none (c ∷ []) = by (c == 10)
  where
    by : (test : Bool) → (cond {A = List ℕ} test [] (10 ∷ []) ≡ []) ⊎ (cond {A = List ℕ} test [] (10 ∷ []) ≡ 10 ∷ [])
    by true = inl refl
    by false = inr refl
newline_or_none (c ∷ d ∷ ds) = newline_or_none (d ∷ ds)

-- a byte that is no newline, before a text
of_byte : (c : ℕ) (cs : List ℕ) → c ≢ 10 → text_of_lines (lines_of cs) ≡ cs ++ missing_newline cs → text_of_lines (begin_with c (lines_of cs)) ≡ (c ∷ cs) ++ missing_newline (c ∷ cs)
of_byte c [] other is = ap (λ l. text_of_lines (begin_with c l)) lines_of-none ∙ ap (λ test. c ∷ cond {A = List ℕ} test [] (10 ∷ [])) (sym (ne_eqb c 10 other))
of_byte c (d ∷ ds) other is =
    let (line, after, begins) = some_line (d ∷ ds) (omega arith) in
    let lines = lines_of-begins (d ∷ ds) line after begins in
    ap (λ l. text_of_lines (begin_with c l)) lines ∙ ap (λ t. c ∷ t) (ap text_of_lines (sym lines) ∙ is)

-- the lines of a text make it, with the newline that it may lack
pub lines_back : (text : List ℕ) → text_of_lines (lines_of text) ≡ text ++ missing_newline text
unfolding lines_of
lines_back [] = refl
lines_back (c ∷ cs) = elim (cases_eq c 10) as (λ _. text_of_lines (lines_of (c ∷ cs)) ≡ (c ∷ cs) ++ missing_newline (c ∷ cs)) [
  | inl is ↦ subst (λ b. text_of_lines (lines_of (b ∷ cs)) ≡ (b ∷ cs) ++ missing_newline (b ∷ cs)) (sym is) (ap (λ t. 10 ∷ t) (lines_back cs) ∙ ap (λ t. 10 ∷ (cs ++ t)) (after_newline cs))
  | inr other ↦ ap text_of_lines (lines_of-byte c cs other) ∙ of_byte c cs other (lines_back cs)
]

-- how two texts with the same lines differ: by a newline at the end, if at all
same_texts : (a b : List ℕ) → lines_of a ≡ lines_of b → (a ≡ b) ⊎ ((a ≡ b ++ 10 ∷ []) ⊎ (b ≡ a ++ 10 ∷ []))
same_texts a b is = by (missing_newline a) (missing_newline b) (newline_or_none a) (newline_or_none b) (sym (lines_back a) ∙ ap text_of_lines is ∙ lines_back b)
  where
    by : (m n : List ℕ) → (m ≡ []) ⊎ (m ≡ 10 ∷ []) → (n ≡ []) ⊎ (n ≡ 10 ∷ []) → a ++ m ≡ b ++ n → (a ≡ b) ⊎ ((a ≡ b ++ 10 ∷ []) ⊎ (b ≡ a ++ 10 ∷ []))
    by m n (inl p) (inl q) same = inl (sym (append-nil a) ∙ ap (λ t. a ++ t) (sym p) ∙ same ∙ ap (λ t. b ++ t) q ∙ append-nil b)
    by m n (inl p) (inr q) same = inr (inl (sym (append-nil a) ∙ ap (λ t. a ++ t) (sym p) ∙ same ∙ ap (λ t. b ++ t) q))
    by m n (inr p) (inl q) same = inr (inr (sym (ap (λ t. a ++ t) (sym p) ∙ same ∙ ap (λ t. b ++ t) q ∙ append-nil b)))
    by m n (inr p) (inr q) same = inl (append_cancel_right a b (10 ∷ []) (ap (λ t. a ++ t) (sym p) ∙ same ∙ ap (λ t. b ++ t) q))

-- a text behind a newline has a line more
one_line_more : (text : List ℕ) → lines_of (10 ∷ text) ≡ lines_of text → ⊥
one_line_more text is = let sizes = ap length (sym (lines_of-newline [] text tt) ∙ is) in omega arith

-- two cuts of one text with the same lines before them, and behind them, are one
same_cut : (a b c d : List ℕ) → a ++ b ≡ c ++ d → lines_of a ≡ lines_of c → lines_of b ≡ lines_of d → (a ≡ c) × (b ≡ d)
same_cut a b c d whole fronts backs = elim (same_texts a c fronts) as (λ _. (a ≡ c) × (b ≡ d)) [
  | inl same ↦ (same, append_cancel_left c b d (ap (λ t. t ++ b) (sym same) ∙ whole))
  | inr (inl longer) ↦
      let behind : 10 ∷ b ≡ d = append_cancel_left c (10 ∷ b) d (sym (append_assoc c (10 ∷ []) b) ∙ ap (λ t. t ++ b) (sym longer) ∙ whole) in
      absurd (one_line_more b (ap lines_of behind ∙ sym backs))
  | inr (inr shorter) ↦
      let behind : b ≡ 10 ∷ d = append_cancel_left a b (10 ∷ d) (whole ∙ ap (λ t. t ++ d) shorter ∙ append_assoc a (10 ∷ []) d) in
      absurd (one_line_more d (ap lines_of (sym behind) ∙ backs))
]

-- ---- where the report begins and ends

-- a line is among these
there : (line : List ℕ) (front back : List (List ℕ)) → NoneIs line (front ++ line ∷ back) → ⊥
there line [] back none = none.0 refl
there line (l ∷ ls) back none = there line ls back none.1

none_front : (line : List ℕ) (front back : List (List ℕ)) → NoneIs line front → NoneIs line back → NoneIs line (front ++ back)
none_front line [] back one two = two
none_front line (l ∷ ls) back one two = (one.0, none_front line ls back one.1 two)

-- the last line of its kind
same_last : (line : List ℕ) (a b c d : List (List ℕ)) → a ++ line ∷ b ≡ c ++ line ∷ d → NoneIs line b → NoneIs line d → (a ≡ c) × (b ≡ d)
same_last line [] b [] d is nb nd = (refl, cc)
same_last line [] b (x ∷ c) d is nb nd = let tail : b ≡ c ++ line ∷ d = cc in absurd (there line c d (subst (NoneIs line) tail nb))
same_last line (x ∷ a) b [] d is nb nd = let tail : d ≡ a ++ line ∷ b = cc in absurd (there line a b (subst (NoneIs line) tail nd))
same_last line (x ∷ a) b (y ∷ c) d is nb nd =
    let head : x ≡ y = cc in
    let tail : a ++ line ∷ b ≡ c ++ line ∷ d = cc in
    let both = same_last line a b c d tail nb nd in
    (rw head (ap (λ l. y ∷ l) both.0), both.1)

-- the first line of its kind
same_first : (line : List ℕ) (a b c d : List (List ℕ)) → a ++ line ∷ b ≡ c ++ line ∷ d → NoneIs line a → NoneIs line c → (a ≡ c) × (b ≡ d)
same_first line [] b [] d is na nc = (refl, cc)
same_first line [] b (y ∷ c) d is na nc = let head : y ≡ line = cc in absurd (nc.0 head)
same_first line (x ∷ a) b [] d is na nc = let head : x ≡ line = cc in absurd (na.0 head)
same_first line (x ∷ a) b (y ∷ c) d is na nc =
    let head : x ≡ y = cc in
    let tail : a ++ line ∷ b ≡ c ++ line ∷ d = cc in
    let both = same_first line a b c d tail na.1 nc.1 in
    (rw head (ap (λ l. y ∷ l) both.0), both.1)

-- where there is no report, there is no journal
no_journal : (report journal : List ℕ) → report ≡ [] → EndsAtFirst report journal → journal ≡ []
no_journal report journal empty (inl (others, are, none)) =
    let sizes = ap length (sym are ∙ ap lines_of empty ∙ lines_of-none) in
    let size = length-append others (report_end ∷ []) in
    absurd (omega arith)
no_journal report journal empty (inr (none, is)) = is

-- and the run has all lines
all_run : {lines : List (List ℕ)} (run report journal : List ℕ) → report ≡ [] → EndsAtFirst report journal → lines ≡ lines_of run ++ (lines_of report ++ lines_of journal) → lines ≡ lines_of run
all_run run report journal empty ends are =
    are ∙ ap (λ l. lines_of run ++ (l ++ lines_of journal)) (ap lines_of empty ∙ lines_of-none) ∙ ap (λ l. lines_of run ++ l) (ap lines_of (no_journal report journal empty ends) ∙ lines_of-none) ∙ append-nil (lines_of run)

-- the lines of a run and its report are theirs
front_lines : (input run report journal : List ℕ) → IsOfParts input run report journal → lines_of (run ++ report) ≡ lines_of run ++ lines_of report
front_lines input run report journal is =
    lines_of-front (lines_of run ++ lines_of report) (run ++ report) journal
    (ap lines_of (append_assoc run report journal ∙ sym is.bytes) ∙ is.lines ∙ sym (append_assoc (lines_of run) (lines_of report) (lines_of journal)))

-- the lines of the three parts
abbrev SameLines : (run report journal run' report' journal' : List ℕ) → Type 0
SameLines run report journal run' report' journal' = (lines_of run ≡ lines_of run') × (lines_of report ≡ lines_of report') × (lines_of journal ≡ lines_of journal')

-- a report has an end, and another with the same lines and a journal has the same one
same_ends : (report journal report' journal' : List ℕ) → lines_of report ++ lines_of journal ≡ lines_of report' ++ lines_of journal' → EndsAtFirst report journal → EndsAtFirst report' journal'
    → (lines_of report ≡ lines_of report') × (lines_of journal ≡ lines_of journal')
same_ends report journal report' journal' is (inl (others, are, none)) (inl (more, also, free)) =
    let whole : others ++ report_end ∷ lines_of journal ≡ more ++ report_end ∷ lines_of journal' =
    sym (ap (λ l. l ++ lines_of journal) are ∙ append_assoc others (report_end ∷ []) (lines_of journal)) ∙ is ∙ ap (λ l. l ++ lines_of journal') also ∙ append_assoc more (report_end ∷ []) (lines_of journal') in
    let both = same_first report_end others (lines_of journal) more (lines_of journal') whole none free in
    (are ∙ ap (λ l. l ++ report_end ∷ []) both.0 ∙ sym also, both.1)
same_ends report journal report' journal' is (inl (others, are, none)) (inr (free, empty)) =
    let whole : others ++ report_end ∷ lines_of journal ≡ lines_of report' =
    sym (ap (λ l. l ++ lines_of journal) are ∙ append_assoc others (report_end ∷ []) (lines_of journal)) ∙ is ∙ ap (λ t. lines_of report' ++ lines_of t) empty ∙ ap (λ l. lines_of report' ++ l) lines_of-none ∙ append-nil (lines_of report') in
    absurd (there report_end others (lines_of journal) (subst (NoneIs report_end) (sym whole) free))
same_ends report journal report' journal' is (inr (none, empty)) (inl (more, also, free)) =
    let whole : more ++ report_end ∷ lines_of journal' ≡ lines_of report =
    sym (ap (λ l. l ++ lines_of journal') also ∙ append_assoc more (report_end ∷ []) (lines_of journal')) ∙ sym is ∙ ap (λ t. lines_of report ++ lines_of t) empty ∙ ap (λ l. lines_of report ++ l) lines_of-none ∙ append-nil (lines_of report) in
    absurd (there report_end more (lines_of journal') (subst (NoneIs report_end) (sym whole) none))
same_ends report journal report' journal' is (inr (none, empty)) (inr (free, also)) =
    (append_cancel_right (lines_of report) (lines_of report') (lines_of journal) (is ∙ ap (λ t. lines_of report' ++ lines_of t) (also ∙ sym empty)), ap lines_of (empty ∙ sym also))

-- both begin with the last line of the input that begins a report, or neither does
same_lines : (input run report journal run' report' journal' : List ℕ) → IsOfParts input run report journal → IsOfParts input run' report' journal' → SameLines run report journal run' report' journal'
same_lines input run report journal run' report' journal' one two = by one.begins two.begins
  where
    whole : lines_of run ++ (lines_of report ++ lines_of journal) ≡ lines_of run' ++ (lines_of report' ++ lines_of journal')
    whole = sym one.lines ∙ two.lines

    behind : lines_of run ≡ lines_of run' → SameLines run report journal run' report' journal'
    behind same =
        let rest : lines_of report ++ lines_of journal ≡ lines_of report' ++ lines_of journal' =
        append_cancel_left (lines_of run') (lines_of report ++ lines_of journal) (lines_of report' ++ lines_of journal') (ap (λ l. l ++ (lines_of report ++ lines_of journal)) (sym same) ∙ whole) in
        let both = same_ends report journal report' journal' rest one.ends two.ends in
        (same, both.0, both.1)

    none_in : (run report journal : List ℕ) → NoneIs report_head (lines_of run) → report ≡ [] → EndsAtFirst report journal → NoneIs report_head (lines_of run ++ (lines_of report ++ lines_of journal))
    none_in run report journal none empty ends =
        none_front report_head (lines_of run) (lines_of report ++ lines_of journal) none
        (subst (NoneIs report_head) (sym (ap (λ t. lines_of t ++ lines_of journal) empty ∙ ap (λ l. l ++ lines_of journal) lines_of-none ∙ ap lines_of (no_journal report journal empty ends) ∙ lines_of-none)) tt)

    by : BeginsAtLast run report journal → BeginsAtLast run' report' journal' → SameLines run report journal run' report' journal'
    by (inl (others, are, none)) (inl (more, also, free)) =
        behind (same_last report_head (lines_of run) others (lines_of run') more (sym (ap (λ l. lines_of run ++ l) are) ∙ whole ∙ ap (λ l. lines_of run' ++ l) also) none free).0
    by (inl (others, are, none)) (inr (free, empty)) =
        absurd (there report_head (lines_of run) others (subst (NoneIs report_head) (sym whole ∙ ap (λ l. lines_of run ++ l) are) (none_in run' report' journal' free empty two.ends)))
    by (inr (none, empty)) (inl (more, also, free)) =
        absurd (there report_head (lines_of run') more (subst (NoneIs report_head) (whole ∙ ap (λ l. lines_of run' ++ l) also) (none_in run report journal none empty one.ends)))
    by (inr (none, empty)) (inr (free, also)) =
        behind (sym (all_run run report journal empty one.ends one.lines) ∙ all_run run' report' journal' also two.ends two.lines)

-- **An input is of one run, one report and one journal.**
pub one_split : (input run report journal run' report' journal' : List ℕ) → IsOfParts input run report journal → IsOfParts input run' report' journal'
    → (run ≡ run') × (report ≡ report') × (journal ≡ journal')
one_split input run report journal run' report' journal' one two =
    let same = same_lines input run report journal run' report' journal' one two in
    let fronts = front_lines input run report journal one in
    let others = front_lines input run' report' journal' two in
    let outer = same_cut (run ++ report) journal (run' ++ report') journal' (append_assoc run report journal ∙ sym one.bytes ∙ two.bytes ∙ sym (append_assoc run' report' journal'))
    (fronts ∙ ap (λ l. l ++ lines_of report) same.0 ∙ ap (λ l. lines_of run' ++ l) same.1 ∙ sym others) same.2 in
    let inner = same_cut run report run' report' outer.0 same.0 same.1 in
    (inner.0, inner.1, outer.1)
