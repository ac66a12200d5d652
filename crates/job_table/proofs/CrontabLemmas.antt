-- A crontab's lines, taken over one after another.
use Rattle.std.proofs.Common.{◌≡◌, ℕ, suc, ◌+◌, ◌<◌, ◌≤◌, Bool, true, false, List, [], ◌∷◌, ◌++◌, length, Some, Result, Ok, Err, refl, ap, ◌∙◌, sym, subst, arith, codes, bytes_eq, append_assoc, length-append}
use Rattle.std.specs.Prelude.{IsOk, if◌then◌else◌}
use Rattle.std.specs.List.{AllByRecursion, AllZip}
use Rattle.std.proofs.lemmas.List.{append-nil}
use Rattle.crontab_text.specs.Answers.{IsLineOf, LineAnswer, Said, Broken, IsAnswer}
use Rattle.crontab_text.specs.LineBody.{LineBody, BlankBody, CommentBody, AssignBody, EntryBody, NickBody, body_of}
use Rattle.crontab_text.specs.Lines.{lines_of}
use Rattle.crontab_text.specs.Reader.{ReadsLine, answer_to_line}
use Rattle.crontab_text.specs.TableReader.{TableReader, table_reader, rest_of}
use Rattle.crontab_text.specs.declared.answer.Line.{Line}
use Rattle.crontab_text.specs.declared.answer.LineFault.{LineFault}
use Rattle.crontab_text.specs.declared.answer.Style.{Style}
use Rattle.crontab_text.proofs.AnswerLemmas.{same_answer}
use Rattle.crontab_text.proofs.LineLemmas.{lines_of-none, lines_of-begins, lines_of-count}
use Rattle.due_set.specs.Table.{Job}
use Rattle.run_text.specs.Follow.{style_of}
use Rattle.run_text.specs.Run.{NamedZone, Section}
use Rattle.run_text.specs.Table.{Says}
use Rattle.run_text.specs.declared.refusal.Refusal.{Refusal}
use Rattle.job_table.specs.Collect.{AddsMarks, RefusesMarks, AddsSection, RefusesSection, IsBelow, line_marks, zone_below, is_entry, entries_of, entry_lines_in}
use Rattle.job_table.specs.declared.crontab.Above.{Above}
use Rattle.job_table.specs.Zones.{NamesZone, zone_number}
use Rattle.job_table.specs.Marks.{Mark, MarksZone, MarksJob, crontab_job_name, kind_of, marks_from, AreTableMarks, AreSectionMarks}
use Rattle.due_set.specs.declared.job.JobKind.TheVariants.{Crontab}
use Rattle.job_table.specs.Table.{HasLineAtFault}
use Rattle.job_table.proofs.MarkLemmas.{adds_zone, adds_both, regroup}

-- the number of the zone in force below some lines
abbrev pub zone_after : List NamedZone → ℕ → List LineBody → ℕ
zone_after zones zone [] = zone
zone_after zones zone (body ∷ bodies) = zone_after zones (zone_below zones zone body) bodies

zone_push : (zones : List NamedZone) (zone : ℕ) (bodies : List LineBody) (body : LineBody) → zone_after zones zone (bodies ++ body ∷ []) ≡ zone_below zones (zone_after zones zone bodies) body
zone_push zones zone [] body = refl
zone_push zones zone (b ∷ bodies) body = zone_push zones (zone_below zones zone b) bodies body

-- the marks of some lines, and those of the lines behind them
marks_append : (zones : List NamedZone) (label : List ℕ) (zone line count after later next : ℕ) (bodies more : List LineBody)
    → after ≡ zone_after zones zone bodies → later ≡ line + length bodies → next ≡ count + entry_lines_in bodies
    → marks_from zones label zone line count (bodies ++ more) ≡ marks_from zones label zone line count bodies ++ marks_from zones label after later next more
marks_append zones label zone line count after later next [] more after_is later_is next_is =
    let l : later ≡ line = omega (arith, later_is) in
    let n : next ≡ count = omega (arith, next_is) in
    rw (after_is, l, n) refl
marks_append zones label zone line count after later next (BlankBody ∷ bodies) more after_is later_is next_is =
    marks_append zones label zone (line + 1) count after later next bodies more after_is (omega (arith, later_is)) (omega (arith, next_is))
marks_append zones label zone line count after later next (CommentBody ∷ bodies) more after_is later_is next_is =
    marks_append zones label zone (line + 1) count after later next bodies more after_is (omega (arith, later_is)) (omega (arith, next_is))
marks_append zones label zone line count after later next (AssignBody name value ∷ bodies) more after_is later_is next_is =
    by (bytes_eq name (codes "CRON_TZ")) after_is
    (λ is. marks_append zones label (zone_number value zones) (line + 1) count after later next bodies more is (omega (arith, later_is)) (omega (arith, next_is)))
    (λ is. marks_append zones label zone (line + 1) count after later next bodies more is (omega (arith, later_is)) (omega (arith, next_is)))
  where
    Appends : ℕ → Type 0
    Appends z = after ≡ zone_after zones z bodies → marks_from zones label z (line + 1) count (bodies ++ more) ≡ marks_from zones label z (line + 1) count bodies ++ marks_from zones label after later next more

    by : (b : Bool) → after ≡ zone_after zones (if b then zone_number value zones else zone) bodies → Appends (zone_number value zones) → Appends zone
        → (if b then MarksZone line value ∷ marks_from zones label (zone_number value zones) (line + 1) count (bodies ++ more) else marks_from zones label zone (line + 1) count (bodies ++ more))
        ≡ (if b then MarksZone line value ∷ marks_from zones label (zone_number value zones) (line + 1) count bodies else marks_from zones label zone (line + 1) count bodies) ++ marks_from zones label after later next more
    by true is named same = ap (λ l. MarksZone line value ∷ l) (named is)
    by false is named same = same is
marks_append zones label zone line count after later next (EntryBody fields user command ∷ bodies) more after_is later_is next_is =
    ap (λ l. MarksJob line (crontab_job_name label count) zone (Crontab fields) ∷ l)
    (marks_append zones label zone (line + 1) (count + 1) after later next bodies more after_is (omega (arith, later_is)) (omega (arith, next_is)))
marks_append zones label zone line count after later next (NickBody fields user command ∷ bodies) more after_is later_is next_is =
    ap (λ l. MarksJob line (crontab_job_name label count) zone (kind_of fields) ∷ l)
    (marks_append zones label zone (line + 1) (count + 1) after later next bodies more after_is (omega (arith, later_is)) (omega (arith, next_is)))

-- the marks of a crontab whose lines say this
abbrev pub section_marks : List NamedZone → Section → List LineBody → List Mark
section_marks zones section bodies =
    MarksZone section.line section.zone ∷ marks_from zones section.label (zone_number section.zone zones) (section.line + 1) 1 bodies

-- they are those of the section
pub are_marks : (zones : List NamedZone) (section : Section) (style : Style) (bodies : List LineBody) → style_of section.kind ≡ Some style → AllZip (IsLineOf style section.label) section.lines bodies
    → AreSectionMarks zones section (section_marks zones section bodies)
are_marks zones section style bodies kind said =
    let lines = marks_from zones section.label (zone_number section.zone zones) (section.line + 1) 1 bodies in
    record {
      lines = lines;
      are = subst (λ s. AreTableMarks zones s section (zone_number section.zone zones) lines) (sym kind) (bodies, said, refl);
      all = refl;
    }

-- the number of the zone in force below some lines of a section
abbrev pub section_zone : List NamedZone → Section → List LineBody → ℕ
section_zone zones section bodies = zone_after zones (zone_number section.zone zones) bodies

section_append : (zones : List NamedZone) (section : Section) (bodies more : List LineBody) (after later next : ℕ) → after ≡ section_zone zones section bodies
    → later ≡ section.line + 1 + length bodies → next ≡ 1 + entry_lines_in bodies
    → section_marks zones section (bodies ++ more) ≡ section_marks zones section bodies ++ marks_from zones section.label after later next more
section_append zones section bodies more after later next after_is later_is next_is =
    ap (λ l. MarksZone section.line section.zone ∷ l)
    (marks_append zones section.label (zone_number section.zone zones) (section.line + 1) 1 after later next bodies more after_is later_is next_is)

entries_within : (bodies : List LineBody) → entry_lines_in bodies ≤ length bodies
entries_within [] = omega arith
entries_within (BlankBody ∷ bodies) = omega (arith, entries_within bodies)
entries_within (CommentBody ∷ bodies) = omega (arith, entries_within bodies)
entries_within (AssignBody name value ∷ bodies) = omega (arith, entries_within bodies)
entries_within (EntryBody fields user command ∷ bodies) = omega (arith, entries_within bodies)
entries_within (NickBody fields user command ∷ bodies) = omega (arith, entries_within bodies)

entries_push : (bodies : List LineBody) (body : LineBody) (entries : ℕ) → entries ≡ entry_lines_in bodies → entries + entries_of (is_entry body) ≡ entry_lines_in (bodies ++ body ∷ [])
entries_push [] body entries is = omega (arith, is)
entries_push (b ∷ bodies) body entries is =
    let rest = entries_push bodies body (entry_lines_in bodies) refl in omega (arith, is, rest)

-- what some lines say, each of which says something
pub what_is_said : (style : Style) (owner : List ℕ) (lines : List (List ℕ)) → AllByRecursion (Says style owner) lines → (bodies : List LineBody) × AllZip (IsLineOf style owner) lines bodies
what_is_said style owner [] all = ([], tt)
what_is_said style owner (line ∷ lines) all =
    let (bodies, said) = what_is_said style owner lines all.1 in
    (all.0.0 ∷ bodies, (all.0.1, said))

zip_append : (R : List ℕ → LineBody → Type 0) (a : List (List ℕ)) (x b : _) (y : _) → AllZip R a x → AllZip R b y → AllZip R (a ++ b) (x ++ y)
zip_append R [] [] b y first second = second
zip_append R [] (q ∷ x) b y first second = absurd first
zip_append R (p ∷ a) [] b y first second = absurd first
zip_append R (p ∷ a) (q ∷ x) b y first second = (first.0, zip_append R a x b y first.1 second)

zip_length : (R : List ℕ → LineBody → Type 0) (a : List (List ℕ)) (x : List LineBody) → AllZip R a x → length a ≡ length x
zip_length R [] [] all = refl
zip_length R [] (q ∷ x) all = absurd all
zip_length R (p ∷ a) [] all = absurd all
zip_length R (p ∷ a) (q ∷ x) all = ap suc (zip_length R a x all.1)

all_at : (P : List ℕ → Type 0) (xs ys : List (List ℕ)) (y : List ℕ) → AllByRecursion P (xs ++ y ∷ ys) → P y
all_at P [] ys y all = all.0
all_at P (x ∷ xs) ys y all = all_at P xs ys y all.1

all_behind : (P : List ℕ → Type 0) (xs ys : List (List ℕ)) → AllByRecursion P (xs ++ ys) → AllByRecursion P ys
all_behind P [] ys all = all
all_behind P (x ∷ xs) ys all = all_behind P xs ys all.1

-- a section so far: the lines that were read, what they say, and the jobs
pub record Walking (zones : List NamedZone) (section : Section) (style : Style) (text : List ℕ) (reader : TableReader) (above : Above) (old now : List Job) : Type 0 where
  pub lines : List (List ℕ)
  pub bodies : List LineBody
  pub lines_are : lines_of text ≡ lines ++ lines_of (rest_of reader)
  pub said : AllZip (IsLineOf style section.label) lines bodies
  pub passed : reader.passed ≡ length lines
  pub style_is : reader.style ≡ style
  pub owner : reader.owner ≡ section.label
  pub entries_are : above.entries ≡ entry_lines_in bodies
  pub zone_is : above.zone ≡ section_zone zones section bodies
  pub adds : AddsMarks zones old now (section_marks zones section bodies)

pub walking_first : (zones : List NamedZone) (section : Section) (style : Style) (text : List ℕ) (reader : TableReader) (above : Above) (jobs : List Job) → NamesZone section.zone zones
    → above.entries ≡ 0 → above.zone ≡ zone_number section.zone zones
    → reader ≡ table_reader text style section.label → Walking zones section style text reader above jobs jobs
walking_first zones section style text reader above jobs named entries zone is = record {
  lines = [];
  bodies = [];
  lines_are = ap lines_of (sym (ap rest_of is));
  said = tt;
  passed = ap (λ (r : TableReader). r.passed) is;
  style_is = ap (λ (r : TableReader). r.style) is;
  owner = ap (λ (r : TableReader). r.owner) is;
  entries_are = entries;
  zone_is = zone;
  adds = adds_zone zones jobs section.line section.zone named;
}

-- the answer to a line that says something is no fault
pub is_ok : (style : Style) (owner line : List ℕ) (read : Result Line LineFault) → Says style owner line → IsAnswer style owner line (answer_to_line read) → IsOk read
is_ok style owner line (Ok l) says answer = refl
is_ok style owner line (Err fault) (body, says) answer =
    let same : ◌≡◌ {A = LineAnswer} (Said body) (Broken fault.cause fault.place) = same_answer style owner line (Said body) (Broken fault.cause fault.place) says answer in absurd cc

-- the line that is read next says something
pub next_says : (zones : List NamedZone) (section : Section) (style : Style) (text : List ℕ) (now new : TableReader) (above : Above) (old jobs : List Job) (read : Result Line LineFault)
    → AllByRecursion (Says style section.label) (lines_of text) → Walking zones section style text now above old jobs → ReadsLine now new read → IsOk read
next_says zones section style text now new above old jobs read all walk reads =
    let here : lines_of text ≡ walk.lines ++ reads.line ∷ lines_of (rest_of new) =
    walk.lines_are ∙ ap (λ l. walk.lines ++ l) (lines_of-begins (rest_of now) reads.line (rest_of new) reads.goes_on.begins) in
    let says = all_at (Says style section.label) walk.lines (lines_of (rest_of new)) reads.line (subst (AllByRecursion (Says style section.label)) here all) in
    let answer = subst (λ s. IsAnswer s section.label reads.line (answer_to_line read)) walk.style_is (subst (λ o. IsAnswer now.style o reads.line (answer_to_line read)) walk.owner reads.answer) in
    is_ok style section.label reads.line read says answer

-- so many lines were read, and the next one is there
pub next_within : (zones : List NamedZone) (section : Section) (style : Style) (text : List ℕ) (now new : TableReader) (above : Above) (old jobs : List Job) (line : Line)
    → Walking zones section style text now above old jobs → ReadsLine now new (Ok line) → (line.number ≤ length (lines_of text)) × (above.entries < length (lines_of text))
next_within zones section style text now new above old jobs line walk reads =
    let count = lines_of-count walk.lines text (rest_of now) walk.lines_are in
    let here = ap length (lines_of-begins (rest_of now) reads.line (rest_of new) reads.goes_on.begins) in
    let same = zip_length (IsLineOf style section.label) walk.lines walk.bodies walk.said in
    (omega (arith, count, here, reads.number, walk.passed), omega (arith, count, here, walk.entries_are, entries_within walk.bodies, same))

-- a line more
pub walking_next : (zones : List NamedZone) (section : Section) (style : Style) (text : List ℕ) (now new : TableReader) (above below : Above) (at : ℕ) (old jobs next : List Job) (line : Line)
    → Walking zones section style text now above old jobs → ReadsLine now new (Ok line) → at ≡ section.line + line.number
    → IsBelow zones above (body_of line.body) below
    → AddsMarks zones jobs next (line_marks zones section.label above.zone at (above.entries + 1) (body_of line.body))
    → Walking zones section style text new below old next
walking_next zones section style text now new above below at old jobs next line walk reads at_is is_below adds =
    let body = body_of line.body in
    let same = zip_length (IsLineOf style section.label) walk.lines walk.bodies walk.said in
    let answer = subst (λ s. IsAnswer s section.label reads.line (answer_to_line (Ok line))) walk.style_is (subst (λ o. IsAnswer now.style o reads.line (answer_to_line (Ok line))) walk.owner reads.answer) in
    let new_is = reads.goes_on.new_is in
    let place : at ≡ section.line + 1 + length walk.bodies = omega (arith, at_is, reads.number, walk.passed, same) in
    let number : above.entries + 1 ≡ 1 + entry_lines_in walk.bodies = omega (arith, walk.entries_are) in
    record {
      lines = walk.lines ++ reads.line ∷ [];
      bodies = walk.bodies ++ body ∷ [];
      lines_are = walk.lines_are ∙ ap (λ l. walk.lines ++ l) (lines_of-begins (rest_of now) reads.line (rest_of new) reads.goes_on.begins)
          ∙ sym (append_assoc walk.lines (reads.line ∷ []) (lines_of (rest_of new)));
      said = zip_append (IsLineOf style section.label) walk.lines walk.bodies (reads.line ∷ []) (body ∷ []) walk.said (answer, tt);
      passed = ap (λ (r : TableReader). r.passed) new_is ∙ (rw (length-append walk.lines (reads.line ∷ [])) (omega (arith, walk.passed)));
      style_is = ap (λ (r : TableReader). r.style) new_is ∙ walk.style_is;
      owner = ap (λ (r : TableReader). r.owner) new_is ∙ walk.owner;
      entries_are = is_below.entries ∙ entries_push walk.bodies body above.entries walk.entries_are;
      zone_is = is_below.zone ∙ ap (λ z. zone_below zones z body) walk.zone_is ∙ sym (zone_push zones (zone_number section.zone zones) walk.bodies body);
      adds = subst (AddsMarks zones old next) (sym (section_append zones section walk.bodies (body ∷ []) above.zone at (above.entries + 1) walk.zone_is place number))
          (adds_both zones old jobs next (section_marks zones section walk.bodies) (line_marks zones section.label above.zone at (above.entries + 1) body) walk.adds adds);
    }

-- all lines were read
pub walked : (zones : List NamedZone) (section : Section) (style : Style) (text : List ℕ) (now : TableReader) (above : Above) (old jobs : List Job) → style_of section.kind ≡ Some style
    → Walking zones section style text now above old jobs → rest_of now ≡ [] → section.lines ≡ lines_of text → AddsSection zones old jobs section
walked zones section style text now above old jobs kind walk end are =
    let none : lines_of (rest_of now) ≡ [] = ap lines_of end ∙ lines_of-none in
    let all : lines_of text ≡ walk.lines = walk.lines_are ∙ ap (λ l. walk.lines ++ l) none ∙ append-nil walk.lines in
    record {
      marks = section_marks zones section walk.bodies;
      are = are_marks zones section style walk.bodies kind (subst (λ l. AllZip (IsLineOf style section.label) l walk.bodies) (sym (are ∙ all)) walk.said);
      adds = walk.adds;
    }

-- a line at fault, and the lines behind it, each of which says something
pub line_refused : (zones : List NamedZone) (section : Section) (style : Style) (text : List ℕ) (now new : TableReader) (above : Above) (at : ℕ) (old jobs : List Job) (line : Line) (refusal : Refusal)
    → style_of section.kind ≡ Some style → AllByRecursion (Says style section.label) (lines_of text) → section.lines ≡ lines_of text
    → Walking zones section style text now above old jobs → ReadsLine now new (Ok line) → at ≡ section.line + line.number
    → RefusesMarks zones jobs (line_marks zones section.label above.zone at (above.entries + 1) (body_of line.body)) refusal
    → RefusesSection zones old section refusal
line_refused zones section style text now new above at old jobs line refusal kind all are walk reads at_is refuses =
    let body = body_of line.body in
    let R = IsLineOf style section.label in
    let P = Says style section.label in
    let here : lines_of text ≡ walk.lines ++ reads.line ∷ lines_of (rest_of new) =
    walk.lines_are ∙ ap (λ l. walk.lines ++ l) (lines_of-begins (rest_of now) reads.line (rest_of new) reads.goes_on.begins) in
    let left = all_behind P walk.lines (reads.line ∷ lines_of (rest_of new)) (subst (AllByRecursion P) here all) in
    let (others_say, others_said) = what_is_said style section.label (lines_of (rest_of new)) left.1 in
    let answer = subst (λ s. IsAnswer s section.label reads.line (answer_to_line (Ok line))) walk.style_is (subst (λ o. IsAnswer now.style o reads.line (answer_to_line (Ok line))) walk.owner reads.answer) in
    let same = zip_length R walk.lines walk.bodies walk.said in
    let place : at ≡ section.line + 1 + length walk.bodies = omega (arith, at_is, reads.number, walk.passed, same) in
    let number : above.entries + 1 ≡ 1 + entry_lines_in walk.bodies = omega (arith, walk.entries_are) in
    let first = section_marks zones section walk.bodies in
    let marked = line_marks zones section.label above.zone at (above.entries + 1) body in
    let more = marks_from zones section.label (zone_below zones above.zone body) (at + 1) (above.entries + 1 + entries_of (is_entry body)) others_say in
    let marks_are : section_marks zones section (walk.bodies ++ body ∷ others_say) ≡ first ++ (marked ++ more) =
    section_append zones section walk.bodies (body ∷ others_say) above.zone at (above.entries + 1) walk.zone_is place number
    ∙ ap (λ m. first ++ m) (marks_append zones section.label above.zone at (above.entries + 1) (zone_below zones above.zone body) (at + 1) (above.entries + 1 + entries_of (is_entry body)) (body ∷ []) others_say refl (omega arith) (omega arith)) in
    record {
      marks = section_marks zones section (walk.bodies ++ body ∷ others_say);
      are = are_marks zones section style (walk.bodies ++ body ∷ others_say) kind
          (subst (λ l. AllZip R l (walk.bodies ++ body ∷ others_say)) (sym (are ∙ here))
          (zip_append R walk.lines walk.bodies (reads.line ∷ lines_of (rest_of new)) (body ∷ others_say) walk.said (answer, others_said)));
      refuses = λ marks others collected.
          subst (λ m. HasLineAtFault zones ((marks ++ m) ++ others) refusal) (sym marks_are)
          (subst (λ m. HasLineAtFault zones m refusal) (regroup marks first marked more others)
          (refuses (marks ++ first) (more ++ others) (walk.adds marks collected)));
    }
