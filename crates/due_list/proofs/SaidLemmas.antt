-- Sections whose lines have no fault: each line says something.
use Rattle.std.proofs.Common.{◌≡◌, ℕ, ◌+◌, List, [], ◌∷◌, ◌++◌, flat_map, zip, Option, None, Some, refl, ◌∙◌}
use Rattle.std.specs.List.{AllByRecursion, AllZip}
use Rattle.crontab_text.specs.Answers.{LineAnswer, Said as CrontabSaid, Broken as CrontabBroken, IsAnswer}
use Rattle.crontab_text.specs.declared.answer.Style.{Style}
use Rattle.anacron_text.specs.Answers.{AnacronLineAnswer, Said as AnacronSaid, Broken as AnacronBroken, AreAnswersBelow}
use Rattle.anacron_text.specs.LogicalLines.{joined, line_count}
use Rattle.anacron_text.specs.Settings.{no_settings}
use Rattle.anacron_text.specs.declared.settings.Settings.{Settings}
use Rattle.run_text.specs.Anacrontab.{IsSaid}
use Rattle.run_text.specs.Follow.{style_of}
use Rattle.run_text.specs.Run.{Section}
use Rattle.run_text.specs.Table.{Says, AreSaid}
use Rattle.due_list.specs.CheckText.{AreFaultsBy, AreFaultsIn, AreFaultsOf, anacrontab_fault, crontab_fault, numbers_from}
use Rattle.due_list.specs.declared.fault.TableFault.{TableFault}

-- the parts of nothing are nothing
front_none : {X : Type 0} (a b : List X) → [] ≡ a ++ b → [] ≡ a
front_none [] b is = refl
front_none (x ∷ a) b is = absurd (cc)

back_none : {X : Type 0} (a b : List X) → [] ≡ a ++ b → [] ≡ b
back_none [] b is = is
back_none (x ∷ a) b is = absurd (cc)

crontab_said : (style : Style) (owner : List ℕ) (first : ℕ) (lines : List (List ℕ)) (answers : List LineAnswer) → AllZip (IsAnswer style owner) lines answers
    → [] ≡ flat_map (λ (row : ℕ × LineAnswer). crontab_fault row.0 row.1) (zip (numbers_from (λ line. 1) first lines) answers) → AllByRecursion (Says style owner) lines
crontab_said style owner first [] answers are none = tt
crontab_said style owner first (line ∷ lines) [] are none = absurd are
crontab_said style owner first (line ∷ lines) (CrontabSaid body ∷ answers) are none = ((body, are.0), crontab_said style owner (first + 1) lines answers are.1 none)
crontab_said style owner first (line ∷ lines) (CrontabBroken cause place ∷ answers) are none = absurd (cc)

anacrontab_said : (settings : Settings) (first : ℕ) (lines : List (List ℕ)) (answers : List AnacronLineAnswer) → AreAnswersBelow lines settings answers
    → [] ≡ flat_map (λ (row : ℕ × AnacronLineAnswer). anacrontab_fault row.0 row.1) (zip (numbers_from line_count first lines) answers) → AllByRecursion IsSaid answers
anacrontab_said settings first [] [] are none = tt
anacrontab_said settings first [] (answer ∷ answers) are none = absurd are
anacrontab_said settings first (line ∷ lines) [] are none = absurd are
anacrontab_said settings first (line ∷ lines) (AnacronSaid body ∷ answers) (next, is, sets, are) none = (tt, anacrontab_said next (first + line_count line) lines answers are none)
anacrontab_said settings first (line ∷ lines) (AnacronBroken cause place ∷ answers) are none = absurd (cc)

said_by : (style : Option Style) (section : Section) (faults : List TableFault) → [] ≡ faults → AreFaultsBy style section faults → AreSaid style section.label section.lines
said_by (Some style) section faults none are = crontab_said style section.label (section.line + 1) section.lines are.answers are.are (none ∙ are.faults_are)
said_by None section faults none are =
    record { answers = are.answers; are = are.are; said = anacrontab_said no_settings (section.line + 1) (joined section.lines) are.answers are.are (none ∙ are.faults_are) }

each_said : (sections : List Section) (parts : List (List TableFault)) → AllZip AreFaultsOf sections parts → [] ≡ flat_map (λ (part : List TableFault). part) parts
    → AllByRecursion (λ section. AreSaid (style_of section.kind) section.label section.lines) sections
each_said [] parts are none = tt
each_said (section ∷ sections) [] are none = absurd are
each_said (section ∷ sections) (part ∷ parts) are none =
    let more = flat_map (λ (p : List TableFault). p) parts in
    (said_by (style_of section.kind) section part (front_none part more none) are.0, each_said sections parts are.1 (back_none part more none))

-- where no line of any section has a fault, each says something
pub sections_said : (sections : List Section) → AreFaultsIn sections [] → AllByRecursion (λ section. AreSaid (style_of section.kind) section.label section.lines) sections
sections_said sections are = each_said sections are.parts are.are are.faults_are
