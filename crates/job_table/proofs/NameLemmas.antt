-- Each job of a run's table has one word for its name: its section's label, and a number or an identifier.
use Rattle.std.proofs.Common.{◌≡◌, ◌≢◌, ℕ, zero, suc, ◌+◌, ◌/◌, ◌%◌, ◌<◌, ◌==◌, nat_lt, Bool, true, false, cond, List, [], ◌∷◌, ◌++◌, length, map, Option, Some, None, refl, sym, subst, ap, ◌∙◌, inl, inr, arith, decimal, codes, bytes_eq}
use Rattle.std.specs.Prelude.{⊤, flat_map}
use Rattle.std.specs.List.{AllByRecursion}
use Rattle.std.specs.Fmt.{digit_glyph, digits, digits_onto}
use Rattle.std.proofs.lemmas.List.Elements.{All-nil, All-cons, All-head, All-tail, All-append}
use Rattle.std.proofs.lemmas.List.Concat.{flat_map-cons}
use Rattle.anacron_text.specs.Answers.{Said, AreAnswersBelow}
use Rattle.anacron_text.specs.Job.{IsJob}
use Rattle.anacron_text.specs.LineBody.{AnacronLineBody, BlankBody as AnaBlank, CommentBody as AnaComment, AssignBody as AnaAssign, JobBody, AnacronJob as AnaJob}
use Rattle.anacron_text.specs.LogicalLines.{joined, line_count}
use Rattle.anacron_text.specs.Settings.{no_settings}
use Rattle.anacron_text.specs.Spaced.{spaced, is_joint}
use Rattle.anacron_text.specs.declared.settings.Settings.{Settings}
use Rattle.cron_io.proofs.ListLemmas.{all_push}
use Rattle.crontab_text.specs.Blanks.{IsBlank, IsFirstWord, LacksAny}
use Rattle.crontab_text.specs.LineBody.{LineBody, BlankBody, CommentBody, AssignBody, EntryBody, NickBody}
use Rattle.crontab_text.specs.Lines.{Lacks, lines_of}
use Rattle.crontab_text.specs.declared.answer.Style.{Style}
use Rattle.due_set.specs.Table.{Job, Table, own_name}
use Rattle.run_text.specs.Follow.{Above, Nothing, Version, Replicas, Times, Sections, Table as InTable, Script, End, inside, style_of, MayStandBelow}
use Rattle.run_text.specs.Grammar.{IsLabel, IsLabelByte, IsLabelStart}
use Rattle.run_text.specs.Reading.{ReadsFrom, IsRunText}
use Rattle.run_text.specs.Run.{NamedZone, Section, Run, opened}
use Rattle.run_text.specs.declared.table.Tables.{Tables}
use Rattle.run_text.specs.declared.table.Tables.TheVariants.{Judged}
use Rattle.job_table.specs.Marks.{Mark, MarksZone, marks_from, anacron_marks, AreTableMarks, AreSectionMarks, AreMarks}
use Rattle.job_table.specs.Names.{HaveWordNames, IsWordByte}
use Rattle.job_table.specs.Table.{IsTableOf, jobs_of, names_in, table_of}
use Rattle.job_table.specs.Versions.{job_named, jobs_under, sections_in}
use Rattle.job_table.specs.Zones.{zone_number}
use Rattle.job_table.proofs.MarkLemmas.{jobs_of-append}
use Rattle.job_table.proofs.NamedJobLemmas.{all_names, named_so}
use Rattle.job_table.proofs.VersionMarkLemmas.{AreMarksFrom, from_first}
use Rattle.job_table.proofs.VersionSectionLemmas.{all_in}

-- ---- labels

abbrev pub HasLabel : Section → Type 0
HasLabel section = IsLabel section.label

-- each section above has a label
abbrev AreLabelled : Above → Type 0
AreLabelled Nothing = ⊤
AreLabelled Version = ⊤
AreLabelled (Replicas members) = ⊤
AreLabelled (Times members window) = ⊤
AreLabelled (Sections run) = AllByRecursion HasLabel run.sections
AreLabelled (InTable run section left) = AllByRecursion HasLabel run.sections × HasLabel section
AreLabelled (Script run) = AllByRecursion HasLabel run.sections
AreLabelled (End run) = AllByRecursion HasLabel run.sections

labelled_inside : (run : Run) (section : Section) (left : ℕ) → AllByRecursion HasLabel run.sections → HasLabel section → AreLabelled (inside run section left)
labelled_inside run section zero all label = all_push HasLabel run.sections section all label
labelled_inside run section (suc left) all label = (all, label)

labelled_next : (tables : Tables) (number behind : ℕ) (above next : Above) (line : List ℕ) → AreLabelled above → MayStandBelow tables number behind above line next → AreLabelled next
labelled_next tables number behind Nothing next line are may = subst AreLabelled (sym may.1) tt
labelled_next tables number behind Version next line are (members, is, next_is) = subst AreLabelled (sym next_is) tt
labelled_next tables number behind (Replicas members) next line are (window, is, next_is) = subst AreLabelled (sym next_is) tt
labelled_next tables number behind (Times members window) next line are (grace, is, next_is) = subst AreLabelled (sym next_is) tt
labelled_next tables number behind (Sections run) next line are (inl may) = subst AreLabelled (sym may.1) are
labelled_next tables number behind (Sections run) next line are (inr (inl names)) = subst AreLabelled (sym names.next_is) are
labelled_next tables number behind (Sections run) next line are (inr (inr (inl start))) =
    subst AreLabelled (sym start.next_is) (labelled_inside run (opened number start.kind start.label start.zone) start.count are start.opens.is.is_label)
labelled_next tables number behind (Sections run) next line are (inr (inr (inr version))) = subst AreLabelled (sym version.next_is) are
labelled_next tables number behind (InTable run section left) next line are (may, next_is) =
    subst AreLabelled (sym next_is) (labelled_inside run (record section { lines = section.lines ++ line ∷ [] }) left are.0 are.1)
labelled_next tables number behind (Script run) next line are (inl may) = subst AreLabelled (sym may.1) are
labelled_next tables number behind (Script run) next line are (inr adds) = subst AreLabelled (sym adds.next_is) are
labelled_next tables number behind (End run) next line are may = absurd may

pub labelled_end : (tables : Tables) (number : ℕ) (above : Above) (lines : List (List ℕ)) (run : Run) → AreLabelled above → ReadsFrom tables number above lines run → AllByRecursion HasLabel run.sections
labelled_end tables number above [] run are is = subst AreLabelled is are
labelled_end tables number above (line ∷ lines) run are (next, may, reads) =
    labelled_end tables (number + 1) next lines run (labelled_next tables number (length lines) above next line are may) reads

-- ---- words

abbrev IsWordText : List ℕ → Type 0
IsWordText text = AllByRecursion IsWordByte text

words_joined : (front back : List ℕ) → IsWordText front → IsWordText back → IsWordText (front ++ back)
words_joined [] back one two = two
words_joined (c ∷ cs) back one two = (one.0, words_joined cs back one.1 two)

-- a byte above the blanks
above_blanks : (c : ℕ) → 32 < c → IsWordByte c
above_blanks c above = ((λ e. omega arith), (λ e. omega arith), (λ e. omega arith))

label_start : (c : ℕ) → IsLabelStart c → IsWordByte c
label_start c (inl letter) = let low = letter.0 in above_blanks c (omega arith)
label_start c (inr other) = above_blanks c (omega arith)

label_byte : (c : ℕ) → IsLabelByte c → IsWordByte c
label_byte c (inl start) = label_start c start
label_byte c (inr (inl digit)) = let low = digit.0 in above_blanks c (omega arith)
label_byte c (inr (inr hyphen)) = above_blanks c (omega arith)

label_bytes : (text : List ℕ) → AllByRecursion IsLabelByte text → IsWordText text
label_bytes [] all = tt
label_bytes (c ∷ cs) all = (label_byte c all.0, label_bytes cs all.1)

label_word : (label : List ℕ) → IsLabel label → IsWordText label
label_word [] is = absurd is
label_word (c ∷ cs) is = (label_start c is.0, label_bytes cs is.1)

-- what `decimal` writes of a digit
glyph_word : (digit : ℕ) → IsWordByte (digit_glyph false digit)
glyph_word digit = above_blanks (digit_glyph false digit) (by (nat_lt digit 10))
  where
    by : (test : Bool) → 32 < cond test (48 + digit) (87 + digit)
    by true = omega arith
    by false = omega arith

one_of : (test : Bool) (a b : List ℕ) → IsWordText a → IsWordText b → IsWordText (cond test a b)
one_of true a b one two = one
one_of false a b one two = two

digits_word : (size n : ℕ) (behind : List ℕ) → IsWordText behind → IsWordText (digits_onto size 10 false n behind)
digits_word zero n behind word = word
digits_word (suc size) n behind word =
    one_of (n / 10 == 0) (digit_glyph false (n % 10) ∷ behind) (digits_onto size 10 false (n / 10) (digit_glyph false (n % 10) ∷ behind)) (glyph_word (n % 10), word)
    (digits_word size (n / 10) (digit_glyph false (n % 10) ∷ behind) (glyph_word (n % 10), word))

-- a number's digits are one word
pub decimal_word : (n : ℕ) → IsWordText (decimal n)
unfolding digits
decimal_word n = digits_word 64 n [] tt

-- a line that is read with spaces has no newline
spaced_lacks : (text : List ℕ) → Lacks 10 (spaced text)
spaced_lacks [] = tt
spaced_lacks (c ∷ cs) = (by (is_joint c cs) refl, spaced_lacks cs)
  where
    by : (joint : Bool) → is_joint c cs ≡ joint → cond joint 32 c ≢ 10
    by true is same = omega arith
    by false is same = let newline : is_joint 10 cs ≡ false = subst (λ d. is_joint d cs ≡ false) same is in cc

lacks_part : (front back : List ℕ) → Lacks 10 (front ++ back) → Lacks 10 front
lacks_part [] back lacks = tt
lacks_part (c ∷ cs) back lacks = (lacks.0, lacks_part cs back lacks.1)

lacks_behind : (front back : List ℕ) → Lacks 10 (front ++ back) → Lacks 10 back
lacks_behind [] back lacks = lacks
lacks_behind (c ∷ cs) back lacks = lacks_behind cs back lacks.1

-- the first word of a text without a newline has none, and neither has what is behind it
first_lacks : (text word after : List ℕ) → IsFirstWord text word after → Lacks 10 text → Lacks 10 word
first_lacks text word after first lacks =
    lacks_part word after (subst (Lacks 10) first.cut.parts (lacks_behind first.skips.blanks first.rest (subst (Lacks 10) first.skips.parts lacks)))

after_lacks : (text word after : List ℕ) → IsFirstWord text word after → Lacks 10 text → Lacks 10 after
after_lacks text word after first lacks =
    lacks_behind word after (subst (Lacks 10) first.cut.parts (lacks_behind first.skips.blanks first.rest (subst (Lacks 10) first.skips.parts lacks)))

unblank_word : (text : List ℕ) → LacksAny IsBlank text → Lacks 10 text → IsWordText text
unblank_word [] unblank lacks = tt
unblank_word (c ∷ cs) unblank lacks = (((λ e. unblank.0 (inl e)), (λ e. unblank.0 (inr e)), lacks.0), unblank_word cs unblank.1 lacks.1)

-- an identifier is a word
identifier_word : (settings : Settings) (text : List ℕ) (job : AnaJob) → IsJob settings text job → IsWordText job.identifier
identifier_word settings text job is =
    let words = is.words in
    let behind_period = after_lacks (spaced text) words.period words.behind_period is.begins.first (spaced_lacks text) in
    let behind_delay = after_lacks words.behind_period words.delay words.behind_delay is.begins.second behind_period in
    let lacks = first_lacks words.behind_delay words.identifier words.tail is.begins.third behind_delay in
    subst IsWordText (sym is.same_identifier) (unblank_word words.identifier is.begins.third.cut.lacks lacks)

-- ---- names

name_word : (label : List ℕ) (sign : ℕ) (rest : List ℕ) → IsLabel label → 32 < sign → IsWordText rest → IsWordText (label ++ sign ∷ rest)
name_word label sign rest is above word = words_joined label (sign ∷ rest) (label_word label is) (above_blanks sign above, word)

words_with : (job : Job) (jobs : List Job) → IsWordText job.name → HaveWordNames jobs → HaveWordNames (job ∷ jobs)
words_with job jobs word words = All-cons (λ (j : Job). IsWordText j.name) job jobs word words

words_none : HaveWordNames []
words_none = All-nil (λ (j : Job). IsWordText j.name)

words_both : (jobs more : List Job) → AllByRecursion (λ (j : Job). IsWordText j.name) jobs → HaveWordNames more → HaveWordNames (jobs ++ more)
words_both [] more one two = two
words_both (job ∷ jobs) more one two = words_with job (jobs ++ more) one.0 (words_both jobs more one.1 two)

-- each job that the marks bring has a word for its name
abbrev HaveWords : List Mark → Type 0
HaveWords marks = AllByRecursion (λ (job : Job). IsWordText job.name) (jobs_of marks)

either : (test : Bool) (a b : List Mark) → HaveWords a → HaveWords b → HaveWords (cond test a b)
either true a b one two = one
either false a b one two = two

-- the names of a crontab's jobs
crontab_words : (zones : List NamedZone) (label : List ℕ) (zone line count : ℕ) (bodies : List LineBody) → IsLabel label → HaveWords (marks_from zones label zone line count bodies)
crontab_words zones label zone line count [] is = tt
crontab_words zones label zone line count (BlankBody ∷ bodies) is = crontab_words zones label zone (line + 1) count bodies is
crontab_words zones label zone line count (CommentBody ∷ bodies) is = crontab_words zones label zone (line + 1) count bodies is
crontab_words zones label zone line count (AssignBody name value ∷ bodies) is =
    either (bytes_eq name (codes "CRON_TZ")) (MarksZone line value ∷ marks_from zones label (zone_number value zones) (line + 1) count bodies) (marks_from zones label zone (line + 1) count bodies)
    (crontab_words zones label (zone_number value zones) (line + 1) count bodies is) (crontab_words zones label zone (line + 1) count bodies is)
crontab_words zones label zone line count (EntryBody fields user command ∷ bodies) is =
    (name_word label 58 (decimal count) is (omega arith) (decimal_word count), crontab_words zones label zone (line + 1) (count + 1) bodies is)
crontab_words zones label zone line count (NickBody fields user command ∷ bodies) is =
    (name_word label 58 (decimal count) is (omega arith) (decimal_word count), crontab_words zones label zone (line + 1) (count + 1) bodies is)

-- the names of an anacrontab's jobs
anacron_words : (label : List ℕ) (zone line : ℕ) (lines : List (List ℕ)) (settings : Settings) (bodies : List AnacronLineBody) → IsLabel label
    → AreAnswersBelow lines settings (map Said bodies) → HaveWords (anacron_marks label zone line lines bodies)
anacron_words label zone line [] settings bodies is are = tt
anacron_words label zone line (text ∷ lines) settings [] is are = tt
anacron_words label zone line (text ∷ lines) settings (AnaBlank ∷ bodies) is (next, here, sets, rest) = anacron_words label zone (line + line_count text) lines next bodies is rest
anacron_words label zone line (text ∷ lines) settings (AnaComment ∷ bodies) is (next, here, sets, rest) = anacron_words label zone (line + line_count text) lines next bodies is rest
anacron_words label zone line (text ∷ lines) settings (AnaAssign name value ∷ bodies) is (next, here, sets, rest) = anacron_words label zone (line + line_count text) lines next bodies is rest
anacron_words label zone line (text ∷ lines) settings (JobBody job ∷ bodies) is (next, here, sets, rest) = (
  name_word label 47 job.identifier is (omega arith) (identifier_word settings here.text job here.says.1),
  anacron_words label zone (line + line_count text) lines next bodies is rest,
)

table_words : (zones : List NamedZone) (style : Option Style) (section : Section) (zone : ℕ) (marks : List Mark) → HasLabel section → AreTableMarks zones style section zone marks → HaveWords marks
table_words zones (Some style) section zone marks label (bodies, said, is) = subst HaveWords (sym is) (crontab_words zones section.label zone (section.line + 1) 1 bodies label)
table_words zones None section zone marks label (bodies, said, is) =
    subst HaveWords (sym is) (anacron_words section.label zone (section.line + 1) (joined section.lines) no_settings bodies label said)

section_words : (zones : List NamedZone) (section : Section) (marks : List Mark) → HasLabel section → AreSectionMarks zones section marks → HaveWords marks
section_words zones section marks label are =
    subst HaveWords (sym are.all) (table_words zones (style_of section.kind) section (zone_number section.zone zones) are.lines label are.are)

all_words : (zones : List NamedZone) (sections : List Section) (marks : List Mark) → AllByRecursion HasLabel sections → AreMarks zones sections marks → HaveWordNames (jobs_of marks)
all_words zones [] marks labels is = subst (λ m. HaveWordNames (jobs_of m)) (sym is) words_none
all_words zones (section ∷ sections) marks labels (first, others, here, rest, is) =
    subst HaveWordNames (sym (ap jobs_of is ∙ jobs_of-append first others))
    (words_both (jobs_of first) (jobs_of others) (section_words zones section first labels.0 here) (all_words zones sections others labels.1 rest))

-- the names of jobs that have words
words_of_names : (jobs : List Job) → HaveWordNames jobs → AllByRecursion IsWordText (map own_name jobs)
words_of_names [] words = tt
words_of_names (job ∷ jobs) words =
    (All-head (λ (j : Job). IsWordText j.name) job jobs words, words_of_names jobs (All-tail (λ (j : Job). IsWordText j.name) job jobs words))

words_under : (names : List (List ℕ)) (jobs : List Job) → AllByRecursion IsWordText names → HaveWordNames (jobs_under names jobs)
words_under [] jobs words = words_none
words_under (name ∷ names) jobs words =
    words_with (job_named name jobs) (jobs_under names jobs) (subst IsWordText (sym (named_so name jobs)) words.0) (words_under names jobs words.1)

-- the jobs of all versions
version_words : (run : Run) (version : ℕ) (marks : List (List Mark)) → AllByRecursion HasLabel run.sections → AreMarksFrom run version marks → HaveWordNames (flat_map jobs_of marks)
version_words run version [] labels are = words_none
version_words run version (here ∷ marks) labels are =
    subst HaveWordNames (sym (flat_map-cons jobs_of here marks))
    (All-append (λ (j : Job). IsWordText j.name) (jobs_of here) (flat_map jobs_of marks)
    (all_words run.zones (sections_in run version) here (all_in HasLabel run version labels) are.0) (version_words run (suc version) marks labels are.1))

table_words_of : (run : Run) (marks : List (List Mark)) → AllByRecursion IsWordText (names_in marks) → HaveWordNames (table_of run marks).jobs
table_words_of run [] words = words_none
table_words_of run (here ∷ marks) words = words_under (names_in (here ∷ marks)) (jobs_of here) words

-- **Each job of a run's table has one word for its name.**
pub words_of_run : (text : List ℕ) (run : Run) (table : Table) → IsRunText text run → IsTableOf run table → HaveWordNames table.jobs
words_of_run text run table says is =
    let labels = labelled_end Judged 1 Nothing (lines_of text) run tt says in
    let all = version_words run 0 is.marks labels (from_first run is.marks is.are) in
    subst (λ (t : Table). HaveWordNames t.jobs) (sym is.is)
    (table_words_of run is.marks (all_names IsWordText [] (map own_name (flat_map jobs_of is.marks)) tt (words_of_names (flat_map jobs_of is.marks) all)))
