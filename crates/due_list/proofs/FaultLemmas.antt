-- The faults of tables, gathered line by line and section by section.
use Rattle.std.proofs.Common.{◌≡◌, ℕ, ◌+◌, ◌<◌, ◌≤◌, ◌^◌, List, [], ◌∷◌, ◌++◌, length, map, take, get_or, Option, None, Some, Result, Ok, Err, refl, sym, ap, ◌∙◌, subst, arith, append_assoc, append-nil}
use Rattle.std.specs.Prelude.{All}
use Rattle.std.specs.Result.{result_err}
use Rattle.std.proofs.lemmas.List.{get_or_default}
use Rattle.std.proofs.lemmas.List.Elements.{All-weaker}
use Rattle.crontab_text.specs.Answers.{LineAnswer, IsAnswer}
use Rattle.crontab_text.specs.Lines.{lines_of}
use Rattle.crontab_text.specs.Reader.{ReadsLine, answer_to_line, number_of}
use Rattle.crontab_text.specs.TableReader.{TableReader, table_reader, rest_of}
use Rattle.crontab_text.specs.declared.answer.Line.{Line}
use Rattle.crontab_text.specs.declared.answer.LineFault.{LineFault}
use Rattle.crontab_text.specs.declared.answer.Style.{Style}
use Rattle.crontab_text.proofs.LineLemmas.{lines_of-begins, lines_of-none}
use Rattle.anacron_text.specs.Answers.{AnacronLineAnswer, IsAnacronAnswer, SetsByAnswer}
use Rattle.anacron_text.specs.LogicalLines.{joined, line_count, logical_lines}
use Rattle.anacron_text.specs.Reader.{ReadsAnacronLine, anacron_answer_of, anacron_number_of}
use Rattle.anacron_text.specs.Settings.{no_settings}
use Rattle.anacron_text.specs.TableReader.{AnacronTableReader, anacron_rest_of, anacron_table_reader}
use Rattle.anacron_text.specs.declared.answer.AnaLine.{AnaLine}
use Rattle.anacron_text.specs.declared.settings.Settings.{Settings}
use Rattle.anacron_text.proofs.LogicalLemmas.{logical-none}
use Rattle.run_text.specs.Follow.{style_of}
use Rattle.run_text.specs.Run.{Section, section_of}
use Rattle.run_text.specs.declared.run.Section.{Section as SectionText}
use Rattle.due_list.specs.CheckText.{AreAnacrontabFaults, AreCrontabFaults, AreFaultsBy, AreFaultsIn, AreFaultsOf, anacrontab_fault, crontab_fault}
use Rattle.due_list.specs.Parts.{AddsFaults, fault_behind}
use Rattle.due_list.specs.declared.fault.TableFault.{TableFault}
use Rattle.due_list.proofs.ListLemmas.{map_push, parts_push, zip_push}
use Rattle.run_text.proofs.AnacrontabLemmas.{logical_is}

-- What was added so far: with the faults that are left behind it, it is those of the whole.
pub record Added (Whole Left : List TableFault → Type 0) (old now : List TableFault) : Type 0 where
  pub so_far : List TableFault
  pub now_is : now ≡ old ++ so_far
  pub leads : (later : List TableFault) → Left later → Whole (so_far ++ later)

-- the faults of a line more
added_more : (Whole Left Next : List TableFault → Type 0) (old now new here : List TableFault) → Added Whole Left old now → new ≡ now ++ here
    → ((later : List TableFault) → Next later → Left (here ++ later)) → Added Whole Next old new
added_more Whole Left Next old now new here known new_is step = record {
  so_far = known.so_far ++ here;
  now_is = new_is ∙ ap (λ (l : List TableFault). l ++ here) known.now_is ∙ append_assoc old known.so_far here;
  leads = λ later left. subst Whole (sym (append_assoc known.so_far here later)) (known.leads (here ++ later) (step later left));
}

-- no line is left
added_all : (Whole Left : List TableFault → Type 0) (old now : List TableFault) → Added Whole Left old now → Left [] → AddsFaults old now Whole
added_all Whole Left old now known left =
    record { faults = known.so_far; are = subst Whole (append-nil known.so_far) (known.leads [] left); new_is = known.now_is }

-- what is left of a crontab, whose lines are behind so many lines of the file
abbrev pub CrontabLeft : ℕ → TableReader → List TableFault → Type 0
CrontabLeft above now = AreCrontabFaults now.style now.owner ((above + now.passed) + 1) (lines_of (rest_of now))

abbrev pub CrontabWhole : ℕ → TableReader → List TableFault → Type 0
CrontabWhole above now = AreCrontabFaults now.style now.owner (above + 1) (lines_of now.text)

pub crontab_start : (above : ℕ) (now : TableReader) (faults : List TableFault) → now ≡ table_reader now.text now.style now.owner → Added (CrontabWhole above now) (CrontabLeft above now) faults faults
crontab_start above now faults is = record { so_far = []; now_is = sym (append-nil faults); leads = λ later left. from_start later (subst (λ (r : TableReader). CrontabLeft above r later) is left) }
  where
    from_start : (later : List TableFault) → AreCrontabFaults now.style now.owner ((above + 0) + 1) (lines_of now.text) later → AreCrontabFaults now.style now.owner (above + 1) (lines_of now.text) later
    from_start later left = let same : (above + 0) + 1 ≡ above + 1 = omega arith in subst (λ n. AreCrontabFaults now.style now.owner n (lines_of now.text) later) same left

crontab_next : (style : Style) (owner : List ℕ) (first : ℕ) (line : List ℕ) (lines : List (List ℕ)) (answer : LineAnswer) (later : List TableFault) → IsAnswer style owner line answer
    → AreCrontabFaults style owner (first + 1) lines later → AreCrontabFaults style owner first (line ∷ lines) (crontab_fault first answer ++ later)
crontab_next style owner first line lines answer later is more = record {
  answers = answer ∷ more.answers;
  are = (is, more.are);
  faults_are = ap (λ (l : List TableFault). crontab_fault first answer ++ l) more.faults_are;
}

-- the fault of the line that was read
crontab_here : (above passed : ℕ) (handed : Result Line LineFault) → number_of handed ≡ passed + 1
    → crontab_fault ((above + passed) + 1) (answer_to_line handed) ≡ fault_behind above (result_err handed)
crontab_here above passed (Ok line) number = refl
crontab_here above passed (Err fault) number =
    let at : (above + passed) + 1 ≡ above + fault.line = omega (arith, number) in
    ap (λ (n : ℕ). (let told : TableFault = record { line = n; cause = fault.cause; place = fault.place } in told ∷ [])) at

pub crontab_more : (above : ℕ) (Whole : List TableFault → Type 0) (now next : TableReader) (handed : Result Line LineFault) (fault : Option LineFault) (faults old new : List TableFault)
    → Added Whole (CrontabLeft above now) faults old → ReadsLine now next handed → fault ≡ result_err handed → new ≡ old ++ fault_behind above fault
    → Added Whole (CrontabLeft above next) faults new
crontab_more above Whole now next handed fault faults old new known reads fault_is new_is =
    let here = fault_behind above (result_err handed) in
    added_more Whole (CrontabLeft above now) (CrontabLeft above next) faults old new here known (new_is ∙ ap (λ (f : Option LineFault). old ++ fault_behind above f) fault_is) step
  where
    passed_is : next.passed ≡ now.passed + 1
    passed_is = ap (λ (r : TableReader). r.passed) reads.goes_on.new_is

    style_is : next.style ≡ now.style
    style_is = ap (λ (r : TableReader). r.style) reads.goes_on.new_is

    owner_is : next.owner ≡ now.owner
    owner_is = ap (λ (r : TableReader). r.owner) reads.goes_on.new_is

    lines_are : lines_of (rest_of now) ≡ reads.line ∷ lines_of (rest_of next)
    lines_are = lines_of-begins (rest_of now) reads.line (rest_of next) reads.goes_on.begins

    number_is : (above + next.passed) + 1 ≡ ((above + now.passed) + 1) + 1
    number_is = omega (arith, passed_is)

    step : (later : List TableFault) → CrontabLeft above next later → CrontabLeft above now (fault_behind above (result_err handed) ++ later)
    step later left =
        let styled : AreCrontabFaults now.style next.owner ((above + next.passed) + 1) (lines_of (rest_of next)) later =
        subst (λ (s : Style). AreCrontabFaults s next.owner ((above + next.passed) + 1) (lines_of (rest_of next)) later) style_is left in
        let owned : AreCrontabFaults now.style now.owner ((above + next.passed) + 1) (lines_of (rest_of next)) later =
        subst (λ (o : List ℕ). AreCrontabFaults now.style o ((above + next.passed) + 1) (lines_of (rest_of next)) later) owner_is styled in
        let numbered : AreCrontabFaults now.style now.owner (((above + now.passed) + 1) + 1) (lines_of (rest_of next)) later =
        subst (λ (n : ℕ). AreCrontabFaults now.style now.owner n (lines_of (rest_of next)) later) number_is owned in
        let whole : AreCrontabFaults now.style now.owner ((above + now.passed) + 1) (reads.line ∷ lines_of (rest_of next)) (crontab_fault ((above + now.passed) + 1) (answer_to_line handed) ++ later) =
        crontab_next now.style now.owner ((above + now.passed) + 1) reads.line (lines_of (rest_of next)) (answer_to_line handed) later reads.answer numbered in
        subst (λ (l : List (List ℕ)). AreCrontabFaults now.style now.owner ((above + now.passed) + 1) l (fault_behind above (result_err handed) ++ later)) (sym lines_are)
        (subst (λ (f : List TableFault). AreCrontabFaults now.style now.owner ((above + now.passed) + 1) (reads.line ∷ lines_of (rest_of next)) (f ++ later)) (crontab_here above now.passed handed reads.number) whole)

crontab_none : (style : Style) (owner : List ℕ) (first : ℕ) → AreCrontabFaults style owner first [] []
crontab_none style owner first = record { answers = []; are = tt; faults_are = refl }

pub crontab_all : (above : ℕ) (Whole : List TableFault → Type 0) (now : TableReader) (faults new : List TableFault) → Added Whole (CrontabLeft above now) faults new → rest_of now ≡ []
    → AddsFaults faults new Whole
crontab_all above Whole now faults new known end =
    let lines : lines_of (rest_of now) ≡ [] = ap lines_of end ∙ lines_of-none in
    added_all Whole (CrontabLeft above now) faults new known
    (subst (λ (l : List (List ℕ)). AreCrontabFaults now.style now.owner ((above + now.passed) + 1) l []) (sym lines) (crontab_none now.style now.owner ((above + now.passed) + 1)))

-- the same of an anacrontab
abbrev pub AnacrontabLeft : ℕ → AnacronTableReader → List TableFault → Type 0
AnacrontabLeft above now = AreAnacrontabFaults now.settings ((above + now.passed) + 1) (logical_lines (anacron_rest_of now))

abbrev pub AnacrontabWhole : ℕ → List ℕ → List TableFault → Type 0
AnacrontabWhole above text = AreAnacrontabFaults no_settings (above + 1) (logical_lines text)

pub anacrontab_start : (above : ℕ) (now : AnacronTableReader) (faults : List TableFault) → now ≡ anacron_table_reader now.text
    → Added (AnacrontabWhole above now.text) (AnacrontabLeft above now) faults faults
anacrontab_start above now faults is = record { so_far = []; now_is = sym (append-nil faults); leads = λ later left. from_start later (subst (λ (r : AnacronTableReader). AnacrontabLeft above r later) is left) }
  where
    from_start : (later : List TableFault) → AreAnacrontabFaults no_settings ((above + 0) + 1) (logical_lines now.text) later → AreAnacrontabFaults no_settings (above + 1) (logical_lines now.text) later
    from_start later left = let same : (above + 0) + 1 ≡ above + 1 = omega arith in subst (λ n. AreAnacrontabFaults no_settings n (logical_lines now.text) later) same left

anacrontab_next : (settings next : Settings) (first : ℕ) (line : List ℕ) (lines : List (List ℕ)) (answer : AnacronLineAnswer) (later : List TableFault) → IsAnacronAnswer settings line answer
    → SetsByAnswer answer settings next → AreAnacrontabFaults next (first + line_count line) lines later
    → AreAnacrontabFaults settings first (line ∷ lines) (anacrontab_fault first answer ++ later)
anacrontab_next settings next first line lines answer later is sets more = record {
  answers = answer ∷ more.answers;
  are = (next, is, sets, more.are);
  faults_are = ap (λ (l : List TableFault). anacrontab_fault first answer ++ l) more.faults_are;
}

anacrontab_here : (above passed : ℕ) (handed : Result AnaLine LineFault) → anacron_number_of handed ≡ passed + 1
    → anacrontab_fault ((above + passed) + 1) (anacron_answer_of handed) ≡ fault_behind above (result_err handed)
anacrontab_here above passed (Ok line) number = refl
anacrontab_here above passed (Err fault) number =
    let at : (above + passed) + 1 ≡ above + fault.line = omega (arith, number) in
    ap (λ (n : ℕ). (let told : TableFault = record { line = n; cause = fault.cause; place = fault.place } in told ∷ [])) at

pub anacrontab_more : (above : ℕ) (Whole : List TableFault → Type 0) (now next : AnacronTableReader) (handed : Result AnaLine LineFault) (fault : Option LineFault) (faults old new : List TableFault)
    → Added Whole (AnacrontabLeft above now) faults old → ReadsAnacronLine now next handed → fault ≡ result_err handed → new ≡ old ++ fault_behind above fault
    → Added Whole (AnacrontabLeft above next) faults new
anacrontab_more above Whole now next handed fault faults old new known reads fault_is new_is =
    let here = fault_behind above (result_err handed) in
    added_more Whole (AnacrontabLeft above now) (AnacrontabLeft above next) faults old new here known (new_is ∙ ap (λ (f : Option LineFault). old ++ fault_behind above f) fault_is) step
  where
    passed_is : next.passed ≡ now.passed + line_count reads.line
    passed_is = ap (λ (r : AnacronTableReader). r.passed) reads.goes_on.new_is

    number_is : (above + next.passed) + 1 ≡ ((above + now.passed) + 1) + line_count reads.line
    number_is = omega (arith, passed_is)

    step : (later : List TableFault) → AnacrontabLeft above next later → AnacrontabLeft above now (fault_behind above (result_err handed) ++ later)
    step later left =
        let numbered : AreAnacrontabFaults next.settings (((above + now.passed) + 1) + line_count reads.line) (logical_lines (anacron_rest_of next)) later =
        subst (λ (n : ℕ). AreAnacrontabFaults next.settings n (logical_lines (anacron_rest_of next)) later) number_is left in
        let whole : AreAnacrontabFaults now.settings ((above + now.passed) + 1) (reads.line ∷ logical_lines (anacron_rest_of next)) (anacrontab_fault ((above + now.passed) + 1) (anacron_answer_of handed) ++ later) =
        anacrontab_next now.settings next.settings ((above + now.passed) + 1) reads.line (logical_lines (anacron_rest_of next)) (anacron_answer_of handed) later reads.answer reads.sets numbered in
        subst (λ (l : List (List ℕ)). AreAnacrontabFaults now.settings ((above + now.passed) + 1) l (fault_behind above (result_err handed) ++ later)) (sym reads.goes_on.begins.lines)
        (subst (λ (f : List TableFault). AreAnacrontabFaults now.settings ((above + now.passed) + 1) (reads.line ∷ logical_lines (anacron_rest_of next)) (f ++ later)) (anacrontab_here above now.passed handed reads.number) whole)

anacrontab_none : (settings : Settings) (first : ℕ) → AreAnacrontabFaults settings first [] []
anacrontab_none settings first = record { answers = []; are = tt; faults_are = refl }

pub anacrontab_all : (above : ℕ) (Whole : List TableFault → Type 0) (now : AnacronTableReader) (faults new : List TableFault) → Added Whole (AnacrontabLeft above now) faults new → anacron_rest_of now ≡ []
    → AddsFaults faults new Whole
anacrontab_all above Whole now faults new known end =
    let lines : logical_lines (anacron_rest_of now) ≡ [] = ap logical_lines end ∙ logical-none in
    added_all Whole (AnacrontabLeft above now) faults new known
    (subst (λ (l : List (List ℕ)). AreAnacrontabFaults now.settings ((above + now.passed) + 1) l []) (sym lines) (anacrontab_none now.settings ((above + now.passed) + 1)))

-- faults of one kind are of another
pub adds_as : (P Q : List TableFault → Type 0) (old new : List TableFault) → ((faults : List TableFault) → P faults → Q faults) → AddsFaults old new P → AddsFaults old new Q
adds_as P Q old new f added = record { faults = added.faults; are = f added.faults added.are; new_is = added.new_is }

-- a section that is a crontab of this style
pub faults_of_crontab : (section : SectionText) (style : Style) (now : TableReader) (faults : List TableFault) → style_of section.kind ≡ Some style
    → now ≡ table_reader section.text.now style section.label.now → CrontabWhole section.line now faults → AreFaultsOf (section_of section) faults
faults_of_crontab section style now faults kind is are =
    let here : AreCrontabFaults style section.label.now (section.line + 1) (lines_of section.text.now) faults = subst (λ (r : TableReader). CrontabWhole section.line r faults) is are in
    subst (λ s. AreFaultsBy s (section_of section) faults) (sym kind) here

-- a section that is an anacrontab
pub faults_of_anacrontab : (section : SectionText) (now : AnacronTableReader) (faults : List TableFault) → style_of section.kind ≡ None
    → now ≡ anacron_table_reader section.text.now → AnacrontabWhole section.line now.text faults → AreFaultsOf (section_of section) faults
faults_of_anacrontab section now faults kind is are =
    let here : AnacrontabWhole section.line section.text.now faults = subst (λ (r : AnacronTableReader). AnacrontabWhole section.line r.text faults) is are in
    let lines : AreAnacrontabFaults no_settings (section.line + 1) (joined (lines_of section.text.now)) faults =
    subst (λ (l : List (List ℕ)). AreAnacrontabFaults no_settings (section.line + 1) l faults) (logical_is section.text.now) here in
    subst (λ s. AreFaultsBy s (section_of section) faults) (sym kind) lines

-- no section yet
pub sections_none : (faults : List TableFault) → faults ≡ [] → AreFaultsIn [] faults
sections_none faults is = record { parts = []; are = tt; faults_are = is }

-- one section more
pub sections_more : (sections : List SectionText) (i : ℕ) (d : SectionText) (old new : List TableFault) → i < length sections
    → AreFaultsIn (map section_of (take i sections)) old → AddsFaults old new (AreFaultsOf (section_of (get_or sections i d))) → AreFaultsIn (map section_of (take (i + 1) sections)) new
sections_more sections i d old new lt known added =
    let section = get_or sections i d in
    subst (λ (l : List Section). AreFaultsIn l new) (sym (map_push section_of sections i section lt (get_or_default sections i d section lt)))
    (record {
      parts = known.parts ++ added.faults ∷ [];
      are = zip_push AreFaultsOf (map section_of (take i sections)) known.parts (section_of section) added.faults known.are added.are;
      faults_are = added.new_is ∙ ap (λ (l : List TableFault). l ++ added.faults) known.faults_are ∙ sym (parts_push known.parts added.faults);
    })

-- the texts of a file's sections are short
pub short_texts : (size : ℕ) (sections : List SectionText) → size < 2 ^ 32 → All (λ section. length section.text.now ≤ size) sections → All (λ section. length section.text.now < 2 ^ 32) sections
short_texts size sections short all =
    All-weaker (λ (section : SectionText). length section.text.now ≤ size) (λ section. length section.text.now < 2 ^ 32) (λ section le. below section le) sections all
  where
    below : (section : SectionText) → length section.text.now ≤ size → length section.text.now < 2 ^ 32
    below section le = omega arith
