-- The lines of a section, passed one after another.
use Rattle.std.proofs.Common.{◌≡◌, ℕ, suc, ◌+◌, ◌<◌, ◌≤◌, List, [], ◌∷◌, ◌++◌, length, Option, None, Some, Ok, Err, refl, ap, ◌∙◌, sym, subst, inl, inr, arith, append_assoc, length-append}
use Rattle.std.specs.List.{AllByRecursion}
use Rattle.std.proofs.lemmas.List.{append-nil}
use Rattle.anacron_text.specs.LogicalLines.{joined}
use Rattle.anacron_text.specs.Settings.{no_settings}
use Rattle.crontab_text.specs.Answers.{IsLineFault}
use Rattle.crontab_text.specs.LineBody.{body_of}
use Rattle.crontab_text.specs.Lines.{lines_of}
use Rattle.crontab_text.specs.Reader.{ReadsLine}
use Rattle.crontab_text.specs.TableReader.{TableReader, table_reader, rest_of}
use Rattle.crontab_text.specs.declared.answer.Line.{Line}
use Rattle.crontab_text.specs.declared.answer.LineFault.{LineFault}
use Rattle.crontab_text.specs.declared.answer.Style.{Style}
use Rattle.crontab_text.proofs.LineLemmas.{lines_of-none, lines_of-begins, lines_of-first, lines_of-split, lines_at_most}
use Rattle.run_text.specs.Anacrontab.{SayAll, IsFirstBreak}
use Rattle.run_text.specs.Follow.{Sections, Table, inside, style_of, MayStandIn, RefusesInTable}
use Rattle.run_text.specs.Reading.{ReadsFrom, RefusesFrom}
use Rattle.run_text.specs.Run.{Run, Section, section_of, opened, with_line, with_lines, with_section}
use Rattle.run_text.specs.Steps.{Place, place_of, at_table, IsCut, CarriesBack, RefusedFrom, PassesTable, RefusesTable}
use Rattle.run_text.specs.Table.{Says, AreSaid, IsFirstFault, IsTableFault}
use Rattle.run_text.specs.declared.opening.Opening.{Opening}
use Rattle.run_text.specs.declared.reader.Reader.{Reader}
use Rattle.run_text.specs.declared.refusal.Refusal.{Refusal}
use Rattle.run_text.specs.declared.run.Section.{Section as SectionText}
use Rattle.run_text.specs.declared.run.SectionKind.{SectionKind}
use Rattle.run_text.specs.declared.table.Tables.{Tables}
use Rattle.run_text.specs.declared.table.Tables.TheVariants.{Judged, Counted}
use Rattle.run_text.proofs.AnacrontabLemmas.{say_none, none_breaks}
use Rattle.run_text.proofs.CutLemmas.{cut_whole}
use Rattle.run_text.proofs.StepLemmas.{stays, goes_on, one_line, wrong_line}

-- the lines of a crontab's text that were passed, each of which says something
pub record Passing (text owner : List ℕ) (style : Style) (now : TableReader) : Type 0 where
  pub lines : List (List ℕ)
  pub parts : lines_of text ≡ lines ++ lines_of (rest_of now)
  pub said : AllByRecursion (Says style owner) lines
  pub passed : now.passed ≡ length lines
  pub style_is : now.style ≡ style
  pub owner_is : now.owner ≡ owner

pub passing_none : (now : TableReader) → now ≡ table_reader now.text now.style now.owner → Passing now.text now.owner now.style now
passing_none now is =
    subst (λ r. Passing now.text now.owner now.style r) (sym is)
    (record { lines = []; parts = refl; said = tt; passed = refl; style_is = refl; owner_is = refl })

all_append : (P : List ℕ → Type 0) (xs : List (List ℕ)) (x : List ℕ) → AllByRecursion P xs → P x → AllByRecursion P (xs ++ x ∷ [])
all_append P [] x all px = (px, tt)
all_append P (y ∷ ys) x all px = (all.0, all_append P ys x all.1 px)

pub passing_next : (text owner : List ℕ) (style : Style) (now new : TableReader) (line : Line) → Passing text owner style now → ReadsLine now new (Ok line) → Passing text owner style new
passing_next text owner style now new line so_far reads =
    let begins = lines_of-begins (rest_of now) reads.line (rest_of new) reads.goes_on.begins in
    let new_is = reads.goes_on.new_is in
    let counted : new.passed ≡ now.passed + 1 = ap (λ (r : TableReader). r.passed) new_is in
    let says : Says style owner reads.line =
    subst (λ s. Says s owner reads.line) so_far.style_is (subst (λ o. Says now.style o reads.line) so_far.owner_is (body_of line.body, reads.answer)) in
    record {
      lines = so_far.lines ++ reads.line ∷ [];
      parts = so_far.parts ∙ ap (λ l. so_far.lines ++ l) begins ∙ sym (append_assoc so_far.lines (reads.line ∷ []) (lines_of (rest_of new)));
      said = all_append (Says style owner) so_far.lines reads.line so_far.said says;
      passed = rw length-append (omega (arith, counted, so_far.passed));
      style_is = ap (λ (r : TableReader). r.style) new_is ∙ so_far.style_is;
      owner_is = ap (λ (r : TableReader). r.owner) new_is ∙ so_far.owner_is;
    }

pub passing_broken : (text owner : List ℕ) (style : Style) (now new : TableReader) (fault : LineFault) → Passing text owner style now → ReadsLine now new (Err fault)
    → IsFirstFault style owner (lines_of text) fault
passing_broken text owner style now new fault so_far reads = record {
  front = so_far.lines;
  line = reads.line;
  back = lines_of (rest_of new);
  parts = so_far.parts ∙ ap (λ l. so_far.lines ++ l) (lines_of-begins (rest_of now) reads.line (rest_of new) reads.goes_on.begins);
  before = so_far.said;
  here = subst (λ s. IsLineFault s reads.line fault.cause fault.place) so_far.style_is reads.answer;
  number = reads.number ∙ ap (λ n. n + 1) so_far.passed;
}

pub passing_all : (text owner : List ℕ) (style : Style) (now : TableReader) → Passing text owner style now → rest_of now ≡ [] → AllByRecursion (Says style owner) (lines_of text)
passing_all text owner style now so_far end =
    let all : lines_of text ≡ so_far.lines = so_far.parts ∙ ap (λ t. so_far.lines ++ lines_of t) end ∙ ap (λ l. so_far.lines ++ l) lines_of-none ∙ append-nil so_far.lines in
    subst (AllByRecursion (Says style owner)) (sym all) so_far.said

-- a fault is of one of the lines
pub fault_within : (style : Style) (owner text : List ℕ) (fault : LineFault) → IsFirstFault style owner (lines_of text) fault → fault.line ≤ length text
fault_within style owner text fault first =
    let count : length (lines_of text) ≡ length first.front + suc (length first.back) = ap length first.parts ∙ length-append first.front (first.line ∷ first.back) in
    omega (arith, first.number, lines_at_most text)

pub same_lines : (section : Section) (a b : List (List ℕ)) → a ≡ b → ◌≡◌ {A = Section} (record section { lines = a }) (record section { lines = b })
same_lines section a b is = rw is refl

-- a place in a section, whose lines so far and whose lines to come are counted
abbrev in_section : ℕ → Run → Section → ℕ → List ℕ → Place
in_section number run section left rest = record { number = number; above = inside run section left; rest = rest }

-- Whoever plays the run.
module _ where
  -- the line stands in a crontab
  stands_in_crontab : (style : Style) (section : Section) (left : ℕ) (line : List ℕ) → style_of section.kind ≡ Some style → Says style section.label line → MayStandIn Judged (style_of section.kind) section left line
  stands_in_crontab style section left line is says = subst (λ s. MayStandIn Judged s section left line) (sym is) says

  -- from a crontab's first line to one of its lines, or to what is behind its last
  front_leads : (style : Style) (front : List (List ℕ)) (left total number last : ℕ) (run : Run) (section : Section) (text rest : List ℕ)
      → style_of section.kind ≡ Some style → total ≡ length front + left → last ≡ number + length front
      → lines_of text ≡ front ++ lines_of rest → AllByRecursion (Says style section.label) front
      → CarriesBack Judged (in_section number run section total text) (in_section last run (with_lines section front) left rest)
  front_leads style [] left total number last run section text rest kind total_is last_is is all =
      let total_left : total ≡ left = omega (arith, total_is) in
      let last_number : last ≡ number = omega (arith, last_is) in
      let section_same : with_lines section [] ≡ section = same_lines section (section.lines ++ []) section.lines (append-nil section.lines) in
      rw (total_left, last_number, section_same) (stays number (inside run section left) text rest is)
  front_leads style (line ∷ lines) left total number last run section text rest kind total_is last_is is all =
      let (middle, behind) = lines_of-first text line (lines ++ lines_of rest) is in
      let total_next : total ≡ suc (length lines + left) = omega (arith, total_is) in
      let first = one_line {tables = Judged} number (Table run section (length lines + left)) (inside run (with_line section line) (length lines + left)) text line middle
      (is ∙ ap (λ l. line ∷ l) behind) (stands_in_crontab style section (length lines + left) line kind all.0, refl) in
      let others = front_leads style lines left (length lines + left) (number + 1) last run (with_line section line) middle rest kind refl (omega (arith, last_is)) (sym behind) all.1 in
      let joined : with_lines (with_line section line) lines ≡ with_lines section (line ∷ lines) =
      same_lines section ((section.lines ++ line ∷ []) ++ lines) (section.lines ++ line ∷ lines) (append_assoc section.lines (line ∷ []) lines) in
      subst (λ t. CarriesBack Judged (in_section number run section t text) (in_section last run (with_lines section (line ∷ lines)) left rest)) (sym total_next)
      (subst (λ s. CarriesBack Judged (in_section number run section (suc (length lines + left)) text) (in_section last run s left rest)) joined (goes_on _ _ _ first others))

  -- a refused line of a crontab
  refused_in_crontab : (style : Style) (number : ℕ) (section : Section) (left : ℕ) (line : List ℕ) (fault : LineFault) (refusal : Refusal) → style_of section.kind ≡ Some style → IsLineFault style line fault.cause fault.place
      → refusal.line ≡ number → refusal.cause ≡ fault.cause → refusal.place ≡ fault.place → RefusesInTable Judged (style_of section.kind) number section left line refusal
  refused_in_crontab style number section left line fault refusal is here line_is cause_is place_is =
      subst (λ s. RefusesInTable Judged s number section left line refusal) (sym is) (rw (cause_is, place_is) here, line_is)

  -- the first line of a crontab that says nothing
  crontab_refused : (style : Style) (lines : List (List ℕ)) (number : ℕ) (run : Run) (section : Section) (text rest : List ℕ) (fault : LineFault) (refusal : Refusal)
      → style_of section.kind ≡ Some style → lines_of text ≡ lines ++ lines_of rest → IsFirstFault style section.label lines fault
      → refusal.line ≡ number + fault.line → refusal.cause ≡ fault.cause → refusal.place ≡ fault.place
      → RefusedFrom Judged (in_section (number + 1) run section (length lines) text) refusal
  crontab_refused style lines number run section text rest fault refusal kind is first line_is cause_is place_is =
      let parts : lines_of text ≡ first.front ++ first.line ∷ (first.back ++ lines_of rest) =
      is ∙ ap (λ l. l ++ lines_of rest) first.parts ∙ append_assoc first.front (first.line ∷ first.back) (lines_of rest) in
      let (middle, behind) = lines_of-split first.front text (first.line ∷ (first.back ++ lines_of rest)) parts in
      let (after, more) = lines_of-first middle first.line (first.back ++ lines_of rest) (sym behind) in
      let count : length lines ≡ length first.front + suc (length first.back) = ap length first.parts ∙ length-append first.front (first.line ∷ first.back) in
      let way = front_leads style first.front (suc (length first.back)) (length lines) (number + 1) (number + 1 + length first.front) run section text middle kind count refl (parts ∙ ap (λ l. first.front ++ l) behind) first.before in
      let here = wrong_line Judged (number + 1 + length first.front) (Table run (with_lines section first.front) (length first.back)) middle first.line after refusal
      (sym behind ∙ ap (λ l. first.line ∷ l) more)
      (refused_in_crontab style (number + 1 + length first.front) (with_lines section first.front) (length first.back) first.line fault refusal kind first.here (line_is ∙ omega (arith, first.number)) cause_is place_is) in
      way.refuses refusal here

  -- An anacrontab's lines: each but the last may stand there, whatever it is.
  stands_in_anacrontab : (section : Section) (left : ℕ) (line : List ℕ) → style_of section.kind ≡ None → MayStandIn Judged None section left line → MayStandIn Judged (style_of section.kind) section left line
  stands_in_anacrontab section left line is may = subst (λ s. MayStandIn Judged s section left line) (sym is) may

  -- the section's lines with one more of them kept
  one_kept : (section : Section) (line : List ℕ) (lines : List (List ℕ)) → section.lines ++ line ∷ lines ≡ (with_line section line).lines ++ lines
  one_kept section line lines = sym (append_assoc section.lines (line ∷ []) lines)

  anacrontab_reads : (lines behind : List (List ℕ)) (number : ℕ) (run final : Run) (section : Section) → style_of section.kind ≡ None → SayAll no_settings (joined (section.lines ++ lines))
      → ReadsFrom Judged (number + length lines) (Sections (with_section run (with_lines section lines))) behind final → ReadsFrom Judged number (inside run section (length lines)) (lines ++ behind) final
  anacrontab_reads [] behind number run final section kind all reads =
      let place : number + length {A = List ℕ} [] ≡ number = omega arith in
      let same : with_lines section [] ≡ section = same_lines section (section.lines ++ []) section.lines (append-nil section.lines) in
      subst (λ s. ReadsFrom Judged number (Sections (with_section run s)) behind final) same
      (subst (λ n. ReadsFrom Judged n (Sections (with_section run (with_lines section []))) behind final) place reads)
  anacrontab_reads (line ∷ []) behind number run final section kind all reads =
      (inside run (with_line section line) 0, (stands_in_anacrontab section 0 line kind all, refl), reads)
  anacrontab_reads (line ∷ next ∷ lines) behind number run final section kind all reads =
      let kept = one_kept section line (next ∷ lines) in
      let place : number + length (line ∷ next ∷ lines) ≡ (number + 1) + length (next ∷ lines) = omega arith in
      let section_is : with_lines section (line ∷ next ∷ lines) ≡ with_lines (with_line section line) (next ∷ lines) = same_lines section _ _ kept in
      let later = subst (λ s. ReadsFrom Judged (number + 1 + length (next ∷ lines)) (Sections (with_section run s)) behind final) section_is
      (subst (λ n. ReadsFrom Judged n (Sections (with_section run (with_lines section (line ∷ next ∷ lines)))) behind final) place reads) in (
        inside run (with_line section line) (length (next ∷ lines)),
        (stands_in_anacrontab section (length (next ∷ lines)) line kind tt, refl),
        anacrontab_reads (next ∷ lines) behind (number + 1) run final (with_line section line) kind (subst (λ l. SayAll no_settings (joined l)) kept all) later,
      )

  anacrontab_passes : (lines behind : List (List ℕ)) (number : ℕ) (run : Run) (section : Section) (refusal : Refusal) → style_of section.kind ≡ None → SayAll no_settings (joined (section.lines ++ lines))
      → RefusesFrom Judged (number + length lines) (Sections (with_section run (with_lines section lines))) behind refusal → RefusesFrom Judged number (inside run section (length lines)) (lines ++ behind) refusal
  anacrontab_passes [] behind number run section refusal kind all refuses =
      let place : number + length {A = List ℕ} [] ≡ number = omega arith in
      let same : with_lines section [] ≡ section = same_lines section (section.lines ++ []) section.lines (append-nil section.lines) in
      subst (λ s. RefusesFrom Judged number (Sections (with_section run s)) behind refusal) same
      (subst (λ n. RefusesFrom Judged n (Sections (with_section run (with_lines section []))) behind refusal) place refuses)
  anacrontab_passes (line ∷ []) behind number run section refusal kind all refuses =
      inr (inside run (with_line section line) 0, (stands_in_anacrontab section 0 line kind all, refl), refuses)
  anacrontab_passes (line ∷ next ∷ lines) behind number run section refusal kind all refuses =
      let kept = one_kept section line (next ∷ lines) in
      let place : number + length (line ∷ next ∷ lines) ≡ (number + 1) + length (next ∷ lines) = omega arith in
      let section_is : with_lines section (line ∷ next ∷ lines) ≡ with_lines (with_line section line) (next ∷ lines) = same_lines section _ _ kept in
      let later = subst (λ s. RefusesFrom Judged (number + 1 + length (next ∷ lines)) (Sections (with_section run s)) behind refusal) section_is
      (subst (λ n. RefusesFrom Judged n (Sections (with_section run (with_lines section (line ∷ next ∷ lines)))) behind refusal) place refuses) in
      inr (
        inside run (with_line section line) (length (next ∷ lines)),
        (stands_in_anacrontab section (length (next ∷ lines)) line kind tt, refl),
        anacrontab_passes (next ∷ lines) behind (number + 1) run (with_line section line) refusal kind (subst (λ l. SayAll no_settings (joined l)) kept all) later,
      )

  -- no line breaks a rule where there is none
  none_first : (section : Section) (first cause place : ℕ) → section.lines ≡ [] → IsFirstBreak no_settings (joined (section.lines ++ [])) first cause place → ⊥
  none_first section first cause place none is =
      let nothing : IsFirstBreak no_settings (joined []) first cause place = subst (λ l. IsFirstBreak no_settings (joined (l ++ [])) first cause place) none is in
      let empty : SayAll no_settings (nothing.front ++ nothing.line ∷ nothing.back) = subst (SayAll no_settings) nothing.parts (say_none no_settings) in
      none_breaks no_settings nothing.front nothing.back nothing.line cause place empty nothing.here

  anacrontab_refuses : (lines behind : List (List ℕ)) (number first : ℕ) (run : Run) (section : Section) (refusal : Refusal) → style_of section.kind ≡ None → 0 < length lines
      → IsFirstBreak no_settings (joined (section.lines ++ lines)) first refusal.cause refusal.place → refusal.line ≡ section.line + first
      → RefusesFrom Judged number (inside run section (length lines)) (lines ++ behind) refusal
  anacrontab_refuses [] behind number first run section refusal kind some is line_is = absurd (omega arith)
  anacrontab_refuses (line ∷ []) behind number first run section refusal kind some is line_is =
      inl (subst (λ s. RefusesInTable Judged s number section 0 line refusal) (sym kind) (first, is, line_is))
  anacrontab_refuses (line ∷ next ∷ lines) behind number first run section refusal kind some is line_is =
      let kept = one_kept section line (next ∷ lines) in
      inr (
        inside run (with_line section line) (length (next ∷ lines)),
        (stands_in_anacrontab section (length (next ∷ lines)) line kind tt, refl),
        anacrontab_refuses (next ∷ lines) behind (number + 1) first run (with_line section line) refusal kind (omega arith) (subst (λ l. IsFirstBreak no_settings (joined l) first refusal.cause refusal.place) kept is) line_is,
      )

  -- lines that are only counted
  counted_lead : (lines : List (List ℕ)) (number last : ℕ) (run : Run) (section : Section) (text rest : List ℕ) → last ≡ number + length lines → lines_of text ≡ lines ++ lines_of rest
      → CarriesBack Counted (in_section number run section (length lines) text) (in_section last run (with_lines section lines) 0 rest)
  counted_lead [] number last run section text rest last_is is =
      let last_number : number ≡ last = omega (arith, last_is) in
      let section_same : section ≡ with_lines section [] = same_lines section section.lines (section.lines ++ []) (sym (append-nil section.lines)) in
      subst (λ n. CarriesBack Counted (in_section number run section 0 text) (in_section n run (with_lines section []) 0 rest)) last_number
      (subst (λ s. CarriesBack Counted (in_section number run section 0 text) (in_section number run s 0 rest)) section_same (stays number (inside run section 0) text rest is))
  counted_lead (line ∷ lines) number last run section text rest last_is is =
      let (middle, behind) = lines_of-first text line (lines ++ lines_of rest) is in
      let first = one_line {tables = Counted} number (Table run section (length lines)) (inside run (with_line section line) (length lines)) text line middle
      (is ∙ ap (λ l. line ∷ l) behind) (tt, refl) in
      let others = counted_lead lines (number + 1) last run (with_line section line) middle rest (omega (arith, last_is)) (sym behind) in
      let joined : with_lines (with_line section line) lines ≡ with_lines section (line ∷ lines) =
      same_lines section ((section.lines ++ line ∷ []) ++ lines) (section.lines ++ line ∷ lines) (append_assoc section.lines (line ∷ []) lines) in
      subst (λ s. CarriesBack Counted (in_section number run section (suc (length lines)) text) (in_section last run s 0 rest)) joined (goes_on _ _ _ first others)

  -- the lines of a section, which all say something where they are judged
  section_leads : (tables : Tables) (style : Option Style) (lines : List (List ℕ)) (line last : ℕ) (kind : SectionKind) (label zone : List ℕ) (run : Run) (text rest : List ℕ)
      → style_of kind ≡ style → (tables ≡ Judged → AreSaid style label lines) → last ≡ line + 1 + length lines → lines_of text ≡ lines ++ lines_of rest
      → CarriesBack tables (in_section (line + 1) run (opened line kind label zone) (length lines) text) (in_section last run (with_lines (opened line kind label zone) lines) 0 rest)
  section_leads Counted style lines line last kind label zone run text rest style_is all last_is is =
      counted_lead lines (line + 1) last run (opened line kind label zone) text rest last_is is
  section_leads Judged (Some style) lines line last kind label zone run text rest style_is all last_is is =
      front_leads style lines 0 (length lines) (line + 1) last run (opened line kind label zone) text rest style_is (omega arith) last_is is (all refl)
  section_leads Judged None lines line last kind label zone run text rest style_is all last_is is = record {
    reads = λ final reads. rw is (anacrontab_reads lines (lines_of rest) (line + 1) run final (opened line kind label zone) style_is (all refl) (rw (← last_is) reads));
    refuses = λ refusal refuses. rw is (anacrontab_passes lines (lines_of rest) (line + 1) run (opened line kind label zone) refusal style_is (all refl) (rw (← last_is) refuses));
  }

  -- and those of which one doesn't
  section_refused : (style : Option Style) (lines : List (List ℕ)) (line : ℕ) (kind : SectionKind) (label zone : List ℕ) (run : Run) (text rest : List ℕ) (fault : LineFault) (refusal : Refusal)
      → style_of kind ≡ style → IsTableFault style label lines fault → lines_of text ≡ lines ++ lines_of rest
      → refusal.line ≡ line + fault.line → refusal.cause ≡ fault.cause → refusal.place ≡ fault.place
      → RefusedFrom Judged (in_section (line + 1) run (opened line kind label zone) (length lines) text) refusal
  section_refused (Some style) lines line kind label zone run text rest fault refusal style_is first is line_is cause_is place_is =
      crontab_refused style lines line run (opened line kind label zone) text rest fault refusal style_is is first line_is cause_is place_is
  section_refused None [] line kind label zone run text rest fault refusal style_is first is line_is cause_is place_is =
      absurd (none_first (opened line kind label zone) fault.line fault.cause fault.place refl first)
  section_refused None (x ∷ xs) line kind label zone run text rest fault refusal style_is first is line_is cause_is place_is =
      rw is (anacrontab_refuses (x ∷ xs) (lines_of rest) (line + 1) fault.line run (opened line kind label zone) refusal style_is (omega arith) (rw (cause_is, place_is) first) line_is)

-- the lines of a section, as the reader passes them
pub passed_table : (tables : Tables) (old new : Reader) (opening : Opening) (section : SectionText) (front : List ℕ)
    → IsCut old.rest.now opening.count front new.rest.now → (tables ≡ Judged → AreSaid (style_of opening.kind) opening.label.now (lines_of front)) → new.number ≡ old.number + opening.count
    → section_of section ≡ record { line = old.number; kind = opening.kind; label = opening.label.now; zone = opening.zone.now; lines = lines_of front }
    → PassesTable tables old new opening section
passed_table tables old new opening section front cut all number_is section_is = record {
  whole = cut_whole old.rest.now front new.rest.now opening.count cut;
  leads = λ run.
      subst (λ s. CarriesBack tables (place_of old (at_table old opening run)) (place_of new (Sections (with_section run s)))) (sym section_is)
      (subst (λ n. CarriesBack tables (in_section (old.number + 1) run (opened old.number opening.kind opening.label.now opening.zone.now) n old.rest.now) (place_of new (Sections (with_section run (record { line = old.number; kind = opening.kind; label = opening.label.now; zone = opening.zone.now; lines = lines_of front }))))) cut.count_is
      (section_leads tables (style_of opening.kind) (lines_of front) old.number (new.number + 1) opening.kind opening.label.now opening.zone.now run old.rest.now new.rest.now refl all (omega (arith, number_is, cut.count_is)) cut.lines));
}

-- a section with a line at fault, where lines are judged
pub refused_table : (tables : Tables) (reader : Reader) (opening : Opening) (front rest : List ℕ) (fault : LineFault) (refusal : Refusal)
    → tables ≡ Judged → IsCut reader.rest.now opening.count front rest → IsTableFault (style_of opening.kind) opening.label.now (lines_of front) fault
    → refusal.line ≡ reader.number + fault.line → refusal.cause ≡ fault.cause → refusal.place ≡ fault.place → RefusesTable tables reader opening refusal
refused_table tables reader opening front rest fault refusal judged cut first line_is cause_is place_is =
    subst (λ t. RefusesTable t reader opening refusal) (sym judged)
    (inr (
      cut_whole reader.rest.now front rest opening.count cut,
      λ run.
          subst (λ n. RefusedFrom Judged (in_section (reader.number + 1) run (opened reader.number opening.kind opening.label.now opening.zone.now) n reader.rest.now) refusal) cut.count_is
          (section_refused (style_of opening.kind) (lines_of front) reader.number opening.kind opening.label.now opening.zone.now run reader.rest.now rest fault refusal refl first cut.lines line_is cause_is place_is),
    ))
