-- An anacrontab's logical lines, taken over one after another.
use Rattle.std.proofs.Common.{◌≡◌, ℕ, suc, ◌+◌, ◌<◌, ◌≤◌, ◌==◌, Bool, true, false, cond, if◌then◌else◌, List, [], ◌∷◌, ◌++◌, length, map, None, Result, Ok, Err, refl, ap, ◌∙◌, sym, subst, inl, inr, arith, append_assoc, length-append}
use Rattle.std.specs.Prelude.{IsOk}
use Rattle.std.specs.List.{AllByRecursion}
use Rattle.std.proofs.lemmas.List.{append-nil}
use Rattle.std.proofs.lemmas.List.Sums.{sum_by-cons}
use Rattle.crontab_text.specs.Lines.{lines_of, begin_with}
use Rattle.crontab_text.specs.declared.answer.LineFault.{LineFault}
use Rattle.crontab_text.proofs.LineLemmas.{some_line, lines_of-begins}
use Rattle.anacron_text.specs.Answers.{AnacronLineAnswer, Said, Broken, IsAnacronAnswer, SetsByAnswer, AreAnswersBelow}
use Rattle.anacron_text.specs.LineBody.{AnacronLineBody, anacron_body_of}
use Rattle.anacron_text.specs.LogicalLines.{BeginsWithLogicalLine, joined, line_count, logical_lines}
use Rattle.anacron_text.specs.Reader.{ReadsAnacronLine, anacron_answer_of}
use Rattle.anacron_text.specs.Settings.{no_settings}
use Rattle.anacron_text.specs.TableReader.{AnacronTableReader, anacron_table_reader, anacron_rest_of}
use Rattle.anacron_text.specs.declared.answer.AnaLine.{AnaLine}
use Rattle.anacron_text.specs.declared.settings.Settings.{Settings}
use Rattle.anacron_text.proofs.AnswerLemmas.{same_answer, same_sets_by}
use Rattle.anacron_text.proofs.LogicalLemmas.{logical-none}
use Rattle.due_set.specs.Table.{Job}
use Rattle.run_text.specs.Anacrontab.{IsSaid, SayAll}
use Rattle.run_text.specs.Follow.{style_of}
use Rattle.run_text.specs.Run.{NamedZone, Section}
use Rattle.run_text.specs.declared.refusal.Refusal.{Refusal}
use Rattle.job_table.specs.Collect.{AddsMarks, RefusesMarks, AddsSection, RefusesSection}
use Rattle.job_table.specs.Marks.{Mark, MarksZone, anacron_mark, anacron_marks, AreAnacronBodies, AreTableMarks, AreSectionMarks}
use Rattle.job_table.specs.Table.{HasLineAtFault}
use Rattle.job_table.specs.Zones.{NamesZone, zone_number}
use Rattle.job_table.proofs.MarkLemmas.{adds_zone, adds_both, regroup}
use Rattle.run_text.proofs.AnacrontabLemmas.{logical_is}

-- what some lines say, each of which says something
pub what_is_said : (settings : Settings) (lines : List (List ℕ)) → SayAll settings lines → (bodies : List AnacronLineBody) × AreAnswersBelow lines settings (map Said bodies)
what_is_said settings lines all = by_answers settings lines all.answers all.are all.said
  where
    by_answers : (settings : Settings) (lines : List (List ℕ)) (answers : List AnacronLineAnswer) → AreAnswersBelow lines settings answers → AllByRecursion IsSaid answers
        → (bodies : List AnacronLineBody) × AreAnswersBelow lines settings (map Said bodies)
    by_answers settings [] [] are said = ([], tt)
    by_answers settings [] (answer ∷ answers) are said = absurd are
    by_answers settings (line ∷ lines) [] are said = absurd are
    by_answers settings (line ∷ lines) (Said body ∷ answers) (next, is, sets, are) said =
        let (bodies, more) = by_answers next lines answers are said.1 in (body ∷ bodies, (next, is, sets, more))
    by_answers settings (line ∷ lines) (Broken cause place ∷ answers) are said = absurd said.0

-- The first of some lines is answered, by the first of their bodies, and the others stand below the settings that it makes.
record AnswersFirst (lines : List (List ℕ)) (bodies : List AnacronLineBody) (answer : AnacronLineAnswer) (new : Settings) : Type 0 where
  body : AnacronLineBody
  others : List AnacronLineBody
  is : answer ≡ Said body
  parts : bodies ≡ body ∷ others
  are : AreAnswersBelow lines new (map Said others)

answers_first : (settings new : Settings) (line : List ℕ) (lines : List (List ℕ)) (bodies : List AnacronLineBody) (answer : AnacronLineAnswer) → AreAnswersBelow (line ∷ lines) settings (map Said bodies)
    → IsAnacronAnswer settings line answer → SetsByAnswer answer settings new → AnswersFirst lines bodies answer new
answers_first settings new line lines [] answer are is sets = absurd are
answers_first settings new line lines (body ∷ others) answer (next, said, puts, more) is sets =
    let same : answer ≡ Said body = same_answer settings line answer (Said body) is said in
    let one : next ≡ new = same_sets_by (Said body) settings next new puts (subst (λ a. SetsByAnswer a settings new) same sets) in
    record { body = body; others = others; is = same; parts = refl; are = subst (λ s. AreAnswersBelow lines s (map Said others)) one more }

begin_length : (c : ℕ) (lines : List (List ℕ)) → 0 < length lines → length (begin_with c lines) ≡ length lines
begin_length c [] some = absurd (omega arith)
begin_length c (line ∷ lines) some = refl

-- a logical line and its newline have so many lines
newline_lines : (line after : List ℕ) → length (lines_of (line ++ 10 ∷ after)) ≡ line_count line + length (lines_of after)
unfolding lines_of
newline_lines [] after = omega arith
newline_lines (c ∷ cs) after = by (c == 10) refl (newline_lines cs after)
  where
    by : (b : Bool) → (c == 10) ≡ b → length (lines_of (cs ++ 10 ∷ after)) ≡ line_count cs + length (lines_of after)
        → length (if b then [] ∷ lines_of (cs ++ 10 ∷ after) else begin_with c (lines_of (cs ++ 10 ∷ after))) ≡ line_count (c ∷ cs) + length (lines_of after)
    by true e rest =
        let more : line_count (c ∷ cs) ≡ 1 + line_count cs = omega (arith, sum_by-cons (λ (d : ℕ). cond (d == 10) 1 0) c cs, ap {B = ℕ} (λ (b : Bool). cond b 1 0) e) in
        omega (arith, more, rest)
    by false e rest =
        let same : line_count (c ∷ cs) ≡ line_count cs = omega (arith, sum_by-cons (λ (d : ℕ). cond (d == 10) 1 0) c cs, ap {B = ℕ} (λ (b : Bool). cond b 1 0) e) in
        begin_length c (lines_of (cs ++ 10 ∷ after)) (omega (arith, rest)) ∙ rest ∙ ap (λ n. n + length (lines_of after)) (sym same)

some_lines : (text : List ℕ) → 0 < length text → 0 < length (lines_of text)
some_lines text some =
    let (line, after, begins) = some_line text some in
    let are : length (lines_of text) ≡ suc (length (lines_of after)) = ap length (lines_of-begins text line after begins) in
    omega arith

-- a text that begins with a line isn't empty
some_text : (text line after : List ℕ) → BeginsWithLogicalLine text line after → 0 < length text
some_text text line after begins = elim begins.split as (λ _. 0 < length text) [
  | inl e ↦ let size : length text ≡ length line + suc (length after) = ap length e ∙ length-append line (10 ∷ after) in omega arith
  | inr e ↦ let size : length text ≡ length line = ap length e.0 in let long = e.1 in omega arith
]

-- behind a logical line a text has that many lines fewer
fewer_lines : (text line after : List ℕ) → BeginsWithLogicalLine text line after → 0 < length after → length (lines_of text) ≡ line_count line + length (lines_of after)
fewer_lines text line after begins some = elim begins.split as (λ _. length (lines_of text) ≡ line_count line + length (lines_of after)) [
  | inl e ↦ ap (λ t. length (lines_of t)) e ∙ newline_lines line after
  | inr e ↦ let none : length after ≡ 0 = ap length e.2 in absurd (omega arith)
]

-- the marks of an anacrontab whose lines say this
abbrev pub section_marks : Section → (zone : ℕ) → (text : List ℕ) → List AnacronLineBody → List Mark
section_marks section zone text bodies =
    MarksZone section.line section.zone ∷ anacron_marks section.label zone (section.line + 1) (logical_lines text) bodies

-- they are those of the section
are_marks : (zones : List NamedZone) (section : Section) (zone : ℕ) (text : List ℕ) (bodies : List AnacronLineBody) → style_of section.kind ≡ None → zone ≡ zone_number section.zone zones
    → section.lines ≡ lines_of text → AreAnswersBelow (logical_lines text) no_settings (map Said bodies) → AreSectionMarks zones section (section_marks section zone text bodies)
are_marks zones section zone text bodies kind zone_is lines are =
    let here : logical_lines text ≡ joined section.lines = logical_is text ∙ ap joined (sym lines) in
    let marks = anacron_marks section.label zone (section.line + 1) (logical_lines text) bodies in
    record {
      lines = marks;
      are = subst (λ s. AreTableMarks zones s section (zone_number section.zone zones) marks) (sym kind) (
        bodies,
        subst (λ l. AreAnacronBodies l bodies) here are,
        ap (λ z. anacron_marks section.label z (section.line + 1) (logical_lines text) bodies) zone_is
            ∙ ap (λ l. anacron_marks section.label (zone_number section.zone zones) (section.line + 1) l bodies) here,
      );
      all = refl;
    }

-- An anacrontab so far: what its lines say, what those say that are left, the marks of those that were read, and the jobs.
pub record Walking (zones : List NamedZone) (section : Section) (zone : ℕ) (text : List ℕ) (reader : AnacronTableReader) (old now : List Job) : Type 0 where
  pub bodies : List AnacronLineBody
  pub left : List AnacronLineBody
  pub marks : List Mark
  pub all : AreAnswersBelow (logical_lines text) no_settings (map Said bodies)
  pub behind : AreAnswersBelow (logical_lines (anacron_rest_of reader)) reader.settings (map Said left)
  pub parts : anacron_marks section.label zone (section.line + 1) (logical_lines text) bodies
      ≡ marks ++ anacron_marks section.label zone (section.line + 1 + reader.passed) (logical_lines (anacron_rest_of reader)) left
  pub adds : AddsMarks zones old now (MarksZone section.line section.zone ∷ marks)
  pub counted : 0 < length (anacron_rest_of reader) → reader.passed + length (lines_of (anacron_rest_of reader)) ≡ length (lines_of text)

pub walking_first : (zones : List NamedZone) (section : Section) (zone : ℕ) (text : List ℕ) (reader : AnacronTableReader) (jobs : List Job) → NamesZone section.zone zones
    → SayAll no_settings (joined (lines_of text)) → reader ≡ anacron_table_reader text → Walking zones section zone text reader jobs jobs
walking_first zones section zone text reader jobs named said is =
    let (bodies, are) = what_is_said no_settings (logical_lines text) (subst (SayAll no_settings) (sym (logical_is text)) said) in
    let from : section.line + 1 + 0 ≡ section.line + 1 = omega arith in
    subst (λ r. Walking zones section zone text r jobs jobs) (sym is) (record {
      bodies = bodies;
      left = bodies;
      marks = [];
      all = are;
      behind = are;
      parts = ap (λ n. anacron_marks section.label zone n (logical_lines text) bodies) (sym from);
      adds = adds_zone zones jobs section.line section.zone named;
      counted = λ some. omega arith;
    })

-- the answer to the next line
next_answer : (zones : List NamedZone) (section : Section) (zone : ℕ) (text : List ℕ) (now new : AnacronTableReader) (old jobs : List Job) (read : Result AnaLine LineFault)
    (walk : Walking zones section zone text now old jobs) → ReadsAnacronLine now new read → AnswersFirst (logical_lines (anacron_rest_of new)) walk.left (anacron_answer_of read) new.settings
next_answer zones section zone text now new old jobs read walk reads =
    answers_first now.settings new.settings reads.line (logical_lines (anacron_rest_of new)) walk.left (anacron_answer_of read)
    (subst (λ l. AreAnswersBelow l now.settings (map Said walk.left)) reads.goes_on.begins.lines walk.behind) reads.answer reads.sets

-- the line that is read next says something
pub next_says : (zones : List NamedZone) (section : Section) (zone : ℕ) (text : List ℕ) (now new : AnacronTableReader) (old jobs : List Job) (read : Result AnaLine LineFault)
    → Walking zones section zone text now old jobs → ReadsAnacronLine now new read → IsOk read
next_says zones section zone text now new old jobs (Ok line) walk reads = refl
next_says zones section zone text now new old jobs (Err fault) walk reads =
    let first = next_answer zones section zone text now new old jobs (Err fault) walk reads in
    let same : ◌≡◌ {A = AnacronLineAnswer} (Broken fault.cause fault.place) (Said first.body) = first.is in absurd cc

-- the number of the next line is that of one of the text's
pub next_within : (zones : List NamedZone) (section : Section) (zone : ℕ) (text : List ℕ) (now new : AnacronTableReader) (old jobs : List Job) (line : AnaLine)
    → Walking zones section zone text now old jobs → ReadsAnacronLine now new (Ok line) → line.number ≤ length (lines_of text)
next_within zones section zone text now new old jobs line walk reads =
    let some = some_text (anacron_rest_of now) reads.line (anacron_rest_of new) reads.goes_on.begins in
    let lines = some_lines (anacron_rest_of now) some in
    let count = walk.counted some in
    let number : line.number ≡ now.passed + 1 = reads.number in
    omega arith

-- the marks of the lines that are left are those of the next one, and those behind it
marks_left : (zones : List NamedZone) (section : Section) (zone : ℕ) (text : List ℕ) (now new : AnacronTableReader) (at : ℕ) (old jobs : List Job) (line : AnaLine)
    (walk : Walking zones section zone text now old jobs) (reads : ReadsAnacronLine now new (Ok line)) → at ≡ section.line + line.number
    → anacron_marks section.label zone (section.line + 1 + now.passed) (logical_lines (anacron_rest_of now)) walk.left
    ≡ anacron_mark section.label zone at (anacron_body_of line.body)
    ++ anacron_marks section.label zone (section.line + 1 + new.passed) (logical_lines (anacron_rest_of new)) (next_answer zones section zone text now new old jobs (Ok line) walk reads).others
marks_left zones section zone text now new at old jobs line walk reads at_is =
    let first = next_answer zones section zone text now new old jobs (Ok line) walk reads in
    let body = anacron_body_of line.body in
    let said : ◌≡◌ {A = AnacronLineAnswer} (Said body) (Said first.body) = first.is in
    let same : first.body ≡ body = cc in
    let from = section.line + 1 + now.passed in
    let number : line.number ≡ now.passed + 1 = reads.number in
    let here : from ≡ at = omega arith in
    let passed : new.passed ≡ now.passed + line_count reads.line = ap (λ (r : AnacronTableReader). r.passed) reads.goes_on.new_is in
    let next : from + line_count reads.line ≡ section.line + 1 + new.passed = omega arith in
    ap (λ l. anacron_marks section.label zone from l walk.left) reads.goes_on.begins.lines
    ∙ ap (λ b. anacron_marks section.label zone from (reads.line ∷ logical_lines (anacron_rest_of new)) b) first.parts
    ∙ ap (λ b. anacron_mark section.label zone from b ++ anacron_marks section.label zone (from + line_count reads.line) (logical_lines (anacron_rest_of new)) first.others) same
    ∙ ap (λ n. anacron_mark section.label zone n body ++ anacron_marks section.label zone (from + line_count reads.line) (logical_lines (anacron_rest_of new)) first.others) here
    ∙ ap (λ n. anacron_mark section.label zone at body ++ anacron_marks section.label zone n (logical_lines (anacron_rest_of new)) first.others) next

-- a line more
pub walking_next : (zones : List NamedZone) (section : Section) (zone : ℕ) (text : List ℕ) (now new : AnacronTableReader) (at : ℕ) (old jobs next : List Job) (line : AnaLine)
    → Walking zones section zone text now old jobs → ReadsAnacronLine now new (Ok line) → at ≡ section.line + line.number
    → AddsMarks zones jobs next (anacron_mark section.label zone at (anacron_body_of line.body)) → Walking zones section zone text new old next
walking_next zones section zone text now new at old jobs next line walk reads at_is adds =
    let first = next_answer zones section zone text now new old jobs (Ok line) walk reads in
    let here = anacron_mark section.label zone at (anacron_body_of line.body) in
    let more = anacron_marks section.label zone (section.line + 1 + new.passed) (logical_lines (anacron_rest_of new)) first.others in
    let passed : new.passed ≡ now.passed + line_count reads.line = ap (λ (r : AnacronTableReader). r.passed) reads.goes_on.new_is in
    record {
      bodies = walk.bodies;
      left = first.others;
      marks = walk.marks ++ here;
      all = walk.all;
      behind = first.are;
      parts = walk.parts ∙ ap (λ m. walk.marks ++ m) (marks_left zones section zone text now new at old jobs line walk reads at_is) ∙ sym (append_assoc walk.marks here more);
      adds = adds_both zones old jobs next (MarksZone section.line section.zone ∷ walk.marks) here walk.adds adds;
      counted = λ some.
          let before = walk.counted (some_text (anacron_rest_of now) reads.line (anacron_rest_of new) reads.goes_on.begins) in
          let fewer = fewer_lines (anacron_rest_of now) reads.line (anacron_rest_of new) reads.goes_on.begins some in omega arith;
    }

-- all lines were read
pub walked : (zones : List NamedZone) (section : Section) (zone : ℕ) (text : List ℕ) (now : AnacronTableReader) (old jobs : List Job) → style_of section.kind ≡ None → zone ≡ zone_number section.zone zones
    → Walking zones section zone text now old jobs → anacron_rest_of now ≡ [] → section.lines ≡ lines_of text → AddsSection zones old jobs section
walked zones section zone text now old jobs kind zone_is walk end lines =
    let none : logical_lines (anacron_rest_of now) ≡ [] = ap logical_lines end ∙ logical-none in
    let all : anacron_marks section.label zone (section.line + 1) (logical_lines text) walk.bodies ≡ walk.marks =
    walk.parts ∙ ap (λ l. walk.marks ++ anacron_marks section.label zone (section.line + 1 + now.passed) l walk.left) none ∙ append-nil walk.marks in
    record {
      marks = section_marks section zone text walk.bodies;
      are = are_marks zones section zone text walk.bodies kind zone_is lines walk.all;
      adds = subst (λ m. AddsMarks zones old jobs (MarksZone section.line section.zone ∷ m)) (sym all) walk.adds;
    }

-- a line at fault, and the lines behind it
pub line_refused : (zones : List NamedZone) (section : Section) (zone : ℕ) (text : List ℕ) (now new : AnacronTableReader) (at : ℕ) (old jobs : List Job) (line : AnaLine) (refusal : Refusal)
    → style_of section.kind ≡ None → zone ≡ zone_number section.zone zones → section.lines ≡ lines_of text
    → Walking zones section zone text now old jobs → ReadsAnacronLine now new (Ok line) → at ≡ section.line + line.number
    → RefusesMarks zones jobs (anacron_mark section.label zone at (anacron_body_of line.body)) refusal → RefusesSection zones old section refusal
line_refused zones section zone text now new at old jobs line refusal kind zone_is lines walk reads at_is refuses =
    let first = next_answer zones section zone text now new old jobs (Ok line) walk reads in
    let here = anacron_mark section.label zone at (anacron_body_of line.body) in
    let more = anacron_marks section.label zone (section.line + 1 + new.passed) (logical_lines (anacron_rest_of new)) first.others in
    let front = MarksZone section.line section.zone ∷ walk.marks in
    let are : section_marks section zone text walk.bodies ≡ front ++ (here ++ more) =
    ap (λ m. MarksZone section.line section.zone ∷ m) (walk.parts ∙ ap (λ m. walk.marks ++ m) (marks_left zones section zone text now new at old jobs line walk reads at_is)) in
    record {
      marks = section_marks section zone text walk.bodies;
      are = are_marks zones section zone text walk.bodies kind zone_is lines walk.all;
      refuses = λ marks others collected.
          subst (λ m. HasLineAtFault zones ((marks ++ m) ++ others) refusal) (sym are)
          (subst (λ m. HasLineAtFault zones m refusal) (regroup marks front here more others)
          (refuses (marks ++ front) (more ++ others) (walk.adds marks collected)));
    }
