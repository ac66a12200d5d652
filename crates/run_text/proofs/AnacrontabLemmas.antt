-- The logical lines of an anacrontab: each says something, or one is the first that breaks a rule.
use Rattle.std.proofs.Common.{◌≡◌, ℕ, ◌+◌, List, [], ◌∷◌, ◌++◌, Option, IfSome, IfNone, Result, Ok, Err, IsOk, refl, ap, ◌∙◌, sym, subst, arith, rules}
use Rattle.std.specs.List.{AllByRecursion, sum_by}
use Rattle.std.proofs.lemmas.List.Sums.{sum_by-cons}
use Rattle.crontab_text.specs.Lines.{lines_of}
use Rattle.crontab_text.specs.declared.answer.LineFault.{LineFault}
use Rattle.anacron_text.specs.Answers.{AnacronLineAnswer, Said, Broken, IsAnacronLineFault, IsAnacronAnswer, SetsByAnswer, AreAnswersBelow, AreAnacronAnswers}
use Rattle.anacron_text.specs.LineBody.{AnacronLineBody, anacron_body_of}
use Rattle.anacron_text.specs.LogicalLines.{joined, line_count, logical_lines}
use Rattle.anacron_text.specs.Reader.{ReadsAnacronLine, anacron_answer_of}
use Rattle.anacron_text.specs.Settings.{no_settings}
use Rattle.anacron_text.specs.TableReader.{AnacronTableReader, anacron_table_reader, anacron_rest_of}
use Rattle.anacron_text.specs.declared.answer.AnaLine.{AnaLine}
use Rattle.anacron_text.specs.declared.settings.Settings.{Settings}
use Rattle.anacron_text.proofs.AnswerLemmas.{same_answer}
use Rattle.anacron_text.proofs.LogicalLemmas.{logical-none}
use Rattle.run_text.specs.Anacrontab.{IsSaid, SayAll, IsFirstBreak}

-- no line
pub say_none : (settings : Settings) → SayAll settings []
say_none settings = record { answers = []; are = tt; said = tt }

-- one line before the others
pub say_next : (settings next : Settings) (line : List ℕ) (lines : List (List ℕ)) (body : AnacronLineBody)
    → IsAnacronAnswer settings line (Said body) → SetsByAnswer (Said body) settings next → SayAll next lines → SayAll settings (line ∷ lines)
say_next settings next line lines body is sets more = record {
  answers = Said body ∷ more.answers;
  are = (next, is, sets, more.are);
  said = (tt, more.said);
}

-- the first of the lines, and what is behind it
pub record SaysFirst (settings : Settings) (line : List ℕ) (lines : List (List ℕ)) : Type 0 where
  pub body : AnacronLineBody
  pub next : Settings
  pub is : IsAnacronAnswer settings line (Said body)
  pub more : SayAll next lines

pub says_first : (settings : Settings) (line : List ℕ) (lines : List (List ℕ)) → SayAll settings (line ∷ lines) → SaysFirst settings line lines
says_first settings line lines all = by_answers all.answers all.are all.said
  where
    by_answers : (answers : List AnacronLineAnswer) → AreAnswersBelow (line ∷ lines) settings answers → AllByRecursion IsSaid answers → SaysFirst settings line lines
    by_answers [] are said = absurd are
    by_answers (Said body ∷ answers) (next, is, sets, are) said =
        record { body = body; next = next; is = is; more = record { answers = answers; are = are; said = said.1 } }
    by_answers (Broken cause place ∷ answers) are said = absurd said.0

-- a line doesn't say something and break a rule as well
pub no_both : (settings : Settings) (line : List ℕ) (body : AnacronLineBody) (cause place : ℕ) → IsAnacronAnswer settings line (Said body) → IsAnacronLineFault line cause place → ⊥
no_both settings line body cause place says breaks =
    let same : ◌≡◌ {A = AnacronLineAnswer} (Said body) (Broken cause place) = same_answer settings line (Said body) (Broken cause place) says breaks in cc

-- lines that all say something don't hold one that breaks a rule
pub none_breaks : (settings : Settings) (front back : List (List ℕ)) (line : List ℕ) (cause place : ℕ) → SayAll settings (front ++ line ∷ back) → IsAnacronLineFault line cause place → ⊥
none_breaks settings [] back line cause place all breaks =
    let first = says_first settings line back all in
    no_both settings line first.body cause place first.is breaks
none_breaks settings (x ∷ front) back line cause place all breaks =
    let first = says_first settings x (front ++ line ∷ back) all in
    none_breaks first.next front back line cause place first.more breaks

pub said_or_broken : (settings : Settings) (lines : List (List ℕ)) (number cause place : ℕ) → SayAll settings lines → IsFirstBreak settings lines number cause place → ⊥
said_or_broken settings lines number cause place all first =
    none_breaks settings first.front first.back first.line cause place (subst (SayAll settings) first.parts all) first.here

-- the lines before the first break end where it stands
same_break : (settings s : Settings) (front other back rest : List (List ℕ)) (line last : List ℕ) (c d x y : ℕ) → SayAll settings front → SayAll s other
    → IsAnacronLineFault line c x → IsAnacronLineFault last d y → front ++ line ∷ back ≡ other ++ last ∷ rest → (front ≡ other) × (line ≡ last)
same_break settings s [] [] back rest line last c d x y all others breaks too is = (refl, cc)
same_break settings s [] (o ∷ other) back rest line last c d x y all others breaks too is =
    let first = says_first s o other others in
    let here : line ≡ o = cc in
    absurd (no_both s o first.body c x first.is (subst (λ l. IsAnacronLineFault l c x) here breaks))
same_break settings s (f ∷ front) [] back rest line last c d x y all others breaks too is =
    let first = says_first settings f front all in
    let here : last ≡ f = cc in
    absurd (no_both settings f first.body d y first.is (subst (λ l. IsAnacronLineFault l d y) here too))
same_break settings s (f ∷ front) (o ∷ other) back rest line last c d x y all others breaks too is =
    let first = says_first settings f front all in
    let second = says_first s o other others in
    let tails : front ++ line ∷ back ≡ other ++ last ∷ rest = cc in
    let same = same_break first.next second.next front other back rest line last c d x y first.more second.more breaks too tails in
    let head : f ≡ o = cc in
    let fronts = same.0 in
    (cc, same.1)

-- lines break one rule first, at one place
pub one_first_break : (settings : Settings) (lines : List (List ℕ)) (m n c d x y : ℕ) → IsFirstBreak settings lines m c x → IsFirstBreak settings lines n d y
    → (m ≡ n) × (c ≡ d) × (x ≡ y)
one_first_break settings lines m n c d x y p q =
    let same = same_break settings settings p.front q.front p.back q.back p.line q.line c d x y p.before q.before p.here q.here (sym p.parts ∙ q.parts) in
    let breaks : IsAnacronLineFault q.line c x = subst (λ l. IsAnacronLineFault l c x) same.1 p.here in
    let one : ◌≡◌ {A = AnacronLineAnswer} (Broken c x) (Broken d y) = same_answer settings q.line (Broken c x) (Broken d y) breaks q.here in
    let cause : c ≡ d = cc in
    let place : x ≡ y = cc in
    (p.number_is ∙ ap (λ f. sum_by line_count f + 1) same.0 ∙ sym q.number_is, cause, place)

-- a line that says something, before the first that breaks a rule
break_next : (settings next : Settings) (line : List ℕ) (lines : List (List ℕ)) (body : AnacronLineBody) (number cause place : ℕ)
    → IsAnacronAnswer settings line (Said body) → SetsByAnswer (Said body) settings next → IsFirstBreak next lines number cause place → IsFirstBreak settings (line ∷ lines) (line_count line + number) cause place
break_next settings next line lines body number cause place is sets first =
    let total = sum_by-cons line_count line first.front in
    record {
      front = line ∷ first.front;
      line = first.line;
      back = first.back;
      parts = ap (λ l. line ∷ l) first.parts;
      before = say_next settings next line first.front body is sets first.before;
      here = first.here;
      number_is = omega (arith, total, first.number_is);
    }

-- What was passed of a text so far: what is so of the rest of it, below the settings there, is so of the whole.
pub record Passed (text : List ℕ) (now : AnacronTableReader) : Type 0 where
  pub said : SayAll now.settings (logical_lines (anacron_rest_of now)) → SayAll no_settings (logical_lines text)
  pub broken : (number cause place : ℕ) → IsFirstBreak now.settings (logical_lines (anacron_rest_of now)) number cause place → IsFirstBreak no_settings (logical_lines text) (now.passed + number) cause place

pub passed_none : (now : AnacronTableReader) → now ≡ anacron_table_reader now.text → Passed now.text now
passed_none now is = subst (λ r. Passed now.text r) (sym is) (record { said = λ all. all; broken = from_start })
  where
    from_start : (number cause place : ℕ) → IsFirstBreak no_settings (logical_lines now.text) number cause place → IsFirstBreak no_settings (logical_lines now.text) (0 + number) cause place
    from_start number cause place first =
        let same : number ≡ 0 + number = omega arith in subst (λ n. IsFirstBreak no_settings (logical_lines now.text) n cause place) same first

pub passed_next : (text : List ℕ) (now new : AnacronTableReader) (line : AnaLine) → Passed text now → ReadsAnacronLine now new (Ok line) → Passed text new
passed_next text now new line so_far reads =
    let begins = reads.goes_on.begins in
    let counted : new.passed ≡ now.passed + line_count reads.line = ap (λ (r : AnacronTableReader). r.passed) reads.goes_on.new_is in
    record {
      said = λ all. so_far.said (rw begins.lines (say_next now.settings new.settings reads.line (logical_lines (anacron_rest_of new)) (anacron_body_of line.body) reads.answer reads.sets all));
      broken = λ number cause place first.
          let more = so_far.broken (line_count reads.line + number) cause place
          (rw begins.lines (break_next now.settings new.settings reads.line (logical_lines (anacron_rest_of new)) (anacron_body_of line.body) number cause place reads.answer reads.sets first)) in
          let place_is : now.passed + (line_count reads.line + number) ≡ new.passed + number = omega arith in
          subst (λ n. IsFirstBreak no_settings (logical_lines text) n cause place) place_is more;
    }

-- the line that breaks a rule
pub passed_broken : (text : List ℕ) (now new : AnacronTableReader) (fault : LineFault) → Passed text now → ReadsAnacronLine now new (Err fault)
    → IsFirstBreak no_settings (logical_lines text) fault.line fault.cause fault.place
passed_broken text now new fault so_far reads =
    let here : IsFirstBreak now.settings (logical_lines (anacron_rest_of now)) 1 fault.cause fault.place =
    rw reads.goes_on.begins.lines (record {
      front = [];
      line = reads.line;
      back = logical_lines (anacron_rest_of new);
      parts = refl;
      before = say_none now.settings;
      here = reads.answer;
      number_is = refl;
    }) in
    subst (λ n. IsFirstBreak no_settings (logical_lines text) n fault.cause fault.place) (sym reads.number) (so_far.broken 1 fault.cause fault.place here)

-- all of the text
pub passed_all : (text : List ℕ) (now : AnacronTableReader) → Passed text now → anacron_rest_of now ≡ [] → SayAll no_settings (logical_lines text)
passed_all text now so_far end = so_far.said (rw (end, logical-none) (say_none now.settings))

-- the logical lines of a text are those that its lines make
pub logical_is : (text : List ℕ) → logical_lines text ≡ joined (lines_of text)
unfolding logical_lines
logical_is text = refl

pub said_joined : (text : List ℕ) (fault : Option LineFault) → IfNone fault (SayAll no_settings (logical_lines text)) → IfNone fault (SayAll no_settings (joined (lines_of text)))
said_joined text fault all = subst (λ l. IfNone fault (SayAll no_settings l)) (logical_is text) all

pub broken_joined : (text : List ℕ) (fault : Option LineFault) → IfSome fault (λ f. IsFirstBreak no_settings (logical_lines text) f.line f.cause f.place)
    → IfSome fault (λ f. IsFirstBreak no_settings (joined (lines_of text)) f.line f.cause f.place)
broken_joined text fault first = subst (λ l. IfSome fault (λ f. IsFirstBreak no_settings l f.line f.cause f.place)) (logical_is text) first

-- what is known of the answers to a text whose logical lines all say something
pub answers_said : (text : List ℕ) → SayAll no_settings (joined (lines_of text)) → (answers : List AnacronLineAnswer) × AreAnacronAnswers text answers × AllByRecursion IsSaid answers
answers_said text all =
    let back : SayAll no_settings (logical_lines text) = subst (SayAll no_settings) (sym (logical_is text)) all in
    (back.answers, back.are, back.said)

-- a line behind others that all say something says something too
pub next_said : (settings : Settings) (old new : AnacronTableReader) (handed : Result AnaLine LineFault) → SayAll settings (logical_lines (anacron_rest_of old)) → ReadsAnacronLine old new handed
    → IsOk handed × ((next : Settings) × SayAll next (logical_lines (anacron_rest_of new)))
next_said settings old new handed all reads =
    let first = says_first settings reads.line (logical_lines (anacron_rest_of new)) (subst (SayAll settings) reads.goes_on.begins.lines all) in
    (by_answer handed first reads.answer, (first.next, first.more))
  where
    by_answer : (handed : Result AnaLine LineFault) → SaysFirst settings reads.line (logical_lines (anacron_rest_of new)) → IsAnacronAnswer old.settings reads.line (anacron_answer_of handed) → IsOk handed
    by_answer (Ok line) first answer = search rules
    by_answer (Err fault) first answer = absurd (no_both settings reads.line first.body fault.cause fault.place first.is answer)
