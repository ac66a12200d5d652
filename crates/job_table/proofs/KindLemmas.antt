-- Each job of a run's table runs as its name says: an anacrontab's job alone has a `/` in its name.
use Rattle.std.proofs.Common.{◌≡◌, ◌≢◌, ℕ, zero, suc, ◌+◌, ◌/◌, ◌%◌, ◌==◌, nat_lt, Bool, true, false, ◌||◌, cond, List, [], ◌∷◌, ◌++◌, Option, Some, None, refl, sym, subst, ap, ◌∙◌, inl, inr, arith, decimal, codes, bytes_eq}
use Rattle.std.specs.List.{AllByRecursion}
use Rattle.std.specs.Fmt.{digit_glyph, digits, digits_onto}
use Rattle.std.proofs.lemmas.List.Elements.{All-nil, All-cons}
use Rattle.anacron_text.specs.LineBody.{AnacronLineBody, BlankBody as AnaBlank, CommentBody as AnaComment, AssignBody as AnaAssign, JobBody}
use Rattle.anacron_text.specs.LogicalLines.{joined, line_count}
use Rattle.crontab_text.specs.LineBody.{LineBody, BlankBody, CommentBody, AssignBody, EntryBody, NickBody}
use Rattle.crontab_text.specs.Lines.{lines_of}
use Rattle.crontab_text.specs.declared.answer.Style.{Style}
use Rattle.cron_fields.specs.declared.field.Fields.{Fields}
use Rattle.due_set.specs.Table.{AreKindsOfNames, IsKindOfName, Job, is_period_name}
use Rattle.run_text.specs.Follow.{Nothing, style_of}
use Rattle.run_text.specs.Grammar.{IsLabel, IsLabelByte, IsLabelStart}
use Rattle.run_text.specs.Reading.{IsRunText}
use Rattle.run_text.specs.Run.{NamedZone, Section, Run}
use Rattle.run_text.specs.declared.table.Tables.TheVariants.{Judged}
use Rattle.job_table.specs.Marks.{Mark, MarksZone, anacron_marks, crontab_job_name, kind_of, marks_from, AreTableMarks, AreSectionMarks, AreMarks}
use Rattle.job_table.specs.Table.{jobs_of}
use Rattle.job_table.specs.Versions.{sections_in}
use Rattle.job_table.specs.Zones.{zone_number}
use Rattle.job_table.proofs.MarkLemmas.{jobs_of-append}
use Rattle.job_table.proofs.NameLemmas.{HasLabel, labelled_end}
use Rattle.job_table.proofs.VersionSectionLemmas.{all_in}
use Rattle.std.proofs.lemmas.Bool.{ne_eqb}

-- ---- texts without a `/`

abbrev IsPlain : List ℕ → Type 0
IsPlain text = AllByRecursion (λ c. c ≢ 47) text

plain_name : (text : List ℕ) → IsPlain text → is_period_name text ≡ false
plain_name [] plain = refl
plain_name (c ∷ cs) plain = let other : (c == 47) ≡ false = ne_eqb c 47 plain.0 in rw other (plain_name cs plain.1)

slash_name : (label rest : List ℕ) → is_period_name (label ++ 47 ∷ rest) ≡ true
slash_name [] rest = refl
slash_name (c ∷ cs) rest = by (c == 47) (slash_name cs rest)
  where
    by : (test : Bool) → is_period_name (cs ++ 47 ∷ rest) ≡ true → (test || is_period_name (cs ++ 47 ∷ rest)) ≡ true
    by true more = refl
    by false more = more

plain_joined : (front back : List ℕ) → IsPlain front → IsPlain back → IsPlain (front ++ back)
plain_joined [] back one two = two
plain_joined (c ∷ cs) back one two = (one.0, plain_joined cs back one.1 two)

label_start : (c : ℕ) → IsLabelStart c → c ≢ 47
label_start c (inl letter) = let low = letter.0 in λ e. omega arith
label_start c (inr other) = λ e. omega arith

label_byte : (c : ℕ) → IsLabelByte c → c ≢ 47
label_byte c (inl start) = label_start c start
label_byte c (inr (inl digit)) = let low = digit.0 in λ e. omega arith
label_byte c (inr (inr hyphen)) = λ e. omega arith

label_bytes : (text : List ℕ) → AllByRecursion IsLabelByte text → IsPlain text
label_bytes [] all = tt
label_bytes (c ∷ cs) all = (label_byte c all.0, label_bytes cs all.1)

label_plain : (label : List ℕ) → IsLabel label → IsPlain label
label_plain [] is = absurd is
label_plain (c ∷ cs) is = (label_start c is.0, label_bytes cs is.1)

-- what `decimal` writes of a digit
glyph_plain : (digit : ℕ) → digit_glyph false digit ≢ 47
glyph_plain digit = by (nat_lt digit 10)
  where
    by : (test : Bool) → cond test (48 + digit) (87 + digit) ≢ 47
    by true = λ e. omega arith
    by false = λ e. omega arith

one_of : (test : Bool) (a b : List ℕ) → IsPlain a → IsPlain b → IsPlain (cond test a b)
one_of true a b one two = one
one_of false a b one two = two

digits_plain : (size n : ℕ) (behind : List ℕ) → IsPlain behind → IsPlain (digits_onto size 10 false n behind)
digits_plain zero n behind plain = plain
digits_plain (suc size) n behind plain =
    one_of (n / 10 == 0) (digit_glyph false (n % 10) ∷ behind) (digits_onto size 10 false (n / 10) (digit_glyph false (n % 10) ∷ behind)) (glyph_plain (n % 10), plain)
    (digits_plain size (n / 10) (digit_glyph false (n % 10) ∷ behind) (glyph_plain (n % 10), plain))

decimal_plain : (n : ℕ) → IsPlain (decimal n)
unfolding digits
decimal_plain n = digits_plain 64 n [] tt

-- the name of a crontab's job has none
pub crontab_plain : (label : List ℕ) (count : ℕ) → IsLabel label → is_period_name (crontab_job_name label count) ≡ false
crontab_plain label count is =
    plain_name (crontab_job_name label count) (plain_joined label (58 ∷ decimal count) (label_plain label is) ((λ e. omega arith), decimal_plain count))

-- ---- the jobs of marks

abbrev RunAsNamed : List Mark → Type 0
RunAsNamed marks = AllByRecursion (λ (job : Job). IsKindOfName job.name job.kind) (jobs_of marks)

either : (test : Bool) (a b : List Mark) → RunAsNamed a → RunAsNamed b → RunAsNamed (cond test a b)
either true a b one two = one
either false a b one two = two

nick_kind : (name : List ℕ) (fields : Option Fields) → is_period_name name ≡ false → IsKindOfName name (kind_of fields)
nick_kind name None plain = tt
nick_kind name (Some fields) plain = plain

crontab_kinds : (zones : List NamedZone) (label : List ℕ) (zone line count : ℕ) (bodies : List LineBody) → IsLabel label
    → RunAsNamed (marks_from zones label zone line count bodies)
crontab_kinds zones label zone line count [] is = tt
crontab_kinds zones label zone line count (BlankBody ∷ bodies) is = crontab_kinds zones label zone (line + 1) count bodies is
crontab_kinds zones label zone line count (CommentBody ∷ bodies) is = crontab_kinds zones label zone (line + 1) count bodies is
crontab_kinds zones label zone line count (AssignBody name value ∷ bodies) is =
    either (bytes_eq name (codes "CRON_TZ")) (MarksZone line value ∷ marks_from zones label (zone_number value zones) (line + 1) count bodies) (marks_from zones label zone (line + 1) count bodies)
    (crontab_kinds zones label (zone_number value zones) (line + 1) count bodies is) (crontab_kinds zones label zone (line + 1) count bodies is)
crontab_kinds zones label zone line count (EntryBody fields user command ∷ bodies) is =
    (crontab_plain label count is, crontab_kinds zones label zone (line + 1) (count + 1) bodies is)
crontab_kinds zones label zone line count (NickBody fields user command ∷ bodies) is =
    (nick_kind (crontab_job_name label count) fields (crontab_plain label count is), crontab_kinds zones label zone (line + 1) (count + 1) bodies is)

anacron_kinds : (label : List ℕ) (zone line : ℕ) (lines : List (List ℕ)) (bodies : List AnacronLineBody) → RunAsNamed (anacron_marks label zone line lines bodies)
anacron_kinds label zone line [] bodies = tt
anacron_kinds label zone line (text ∷ lines) [] = tt
anacron_kinds label zone line (text ∷ lines) (AnaBlank ∷ bodies) = anacron_kinds label zone (line + line_count text) lines bodies
anacron_kinds label zone line (text ∷ lines) (AnaComment ∷ bodies) = anacron_kinds label zone (line + line_count text) lines bodies
anacron_kinds label zone line (text ∷ lines) (AnaAssign name value ∷ bodies) = anacron_kinds label zone (line + line_count text) lines bodies
anacron_kinds label zone line (text ∷ lines) (JobBody job ∷ bodies) =
    (slash_name label job.identifier, anacron_kinds label zone (line + line_count text) lines bodies)

table_kinds : (zones : List NamedZone) (style : Option Style) (section : Section) (zone : ℕ) (marks : List Mark) → HasLabel section → AreTableMarks zones style section zone marks → RunAsNamed marks
table_kinds zones (Some style) section zone marks label (bodies, said, is) =
    subst RunAsNamed (sym is) (crontab_kinds zones section.label zone (section.line + 1) 1 bodies label)
table_kinds zones None section zone marks label (bodies, said, is) =
    subst RunAsNamed (sym is) (anacron_kinds section.label zone (section.line + 1) (joined section.lines) bodies)

section_kinds : (zones : List NamedZone) (section : Section) (marks : List Mark) → HasLabel section → AreSectionMarks zones section marks → RunAsNamed marks
section_kinds zones section marks label are =
    subst RunAsNamed (sym are.all) (table_kinds zones (style_of section.kind) section (zone_number section.zone zones) are.lines label are.are)

kinds_both : (jobs more : List Job) → AllByRecursion (λ (j : Job). IsKindOfName j.name j.kind) jobs → AreKindsOfNames more → AreKindsOfNames (jobs ++ more)
kinds_both [] more one two = two
kinds_both (job ∷ jobs) more one two = All-cons (λ (j : Job). IsKindOfName j.name j.kind) job (jobs ++ more) one.0 (kinds_both jobs more one.1 two)

all_kinds : (zones : List NamedZone) (sections : List Section) (marks : List Mark) → AllByRecursion HasLabel sections → AreMarks zones sections marks → AreKindsOfNames (jobs_of marks)
all_kinds zones [] marks labels is = subst (λ m. AreKindsOfNames (jobs_of m)) (sym is) (All-nil (λ (j : Job). IsKindOfName j.name j.kind))
all_kinds zones (section ∷ sections) marks labels (first, others, here, rest, is) =
    subst AreKindsOfNames (sym (ap jobs_of is ∙ jobs_of-append first others))
    (kinds_both (jobs_of first) (jobs_of others) (section_kinds zones section first labels.0 here) (all_kinds zones sections others labels.1 rest))

-- **Each job of the marks of a version runs as its name says.**
pub kinds_of_version : (text : List ℕ) (run : Run) (version : ℕ) (marks : List Mark) → IsRunText text run → AreMarks run.zones (sections_in run version) marks
    → AreKindsOfNames (jobs_of marks)
kinds_of_version text run version marks says are =
    all_kinds run.zones (sections_in run version) marks (all_in HasLabel run version (labelled_end Judged 1 Nothing (lines_of text) run tt says)) are
