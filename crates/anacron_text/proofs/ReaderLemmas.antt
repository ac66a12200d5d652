-- A reader that goes on by a logical line.
use Rattle.std.proofs.Common.{◌≡◌, ℕ, ◌+◌, ◌-◌, ◌<◌, List, [], ◌∷◌, ◌++◌, length, take, drop, refl, ap, ◌∙◌, sym, subst, inl, inr, arith, length-append, append_assoc, Result, Ok, Err, IfOk, IfErr}
use Rattle.std.specs.List.{slice_range}
use Rattle.std.proofs.lemmas.List.{append-nil, drop-drop, drop_at}
use Rattle.crontab_text.specs.declared.answer.LineFault.{LineFault}
use Rattle.crontab_text.specs.declared.fault.Fault.{Fault}
use Rattle.crontab_text.proofs.ReaderLemmas.{IsLeft, split_taken}
use Rattle.anacron_text.specs.Answers.{AnacronLineAnswer, IsAnacronLineOf, IsAnacronLineBreak, SetsBy, AreAnswersBelow}
use Rattle.anacron_text.specs.LineBody.{anacron_body_of}
use Rattle.anacron_text.specs.LogicalLines.{logical_lines, line_count, BeginsWithLogicalLine}
use Rattle.anacron_text.specs.Reader.{AnacronGoesOn, ReadsAnacronLine, anacron_answer_of}
use Rattle.anacron_text.specs.TableReader.{AnacronTableReader, anacron_rest_of}
use Rattle.anacron_text.specs.declared.answer.AnaBody.{AnaBody}
use Rattle.anacron_text.specs.declared.answer.AnaLine.{AnaLine}
use Rattle.anacron_text.specs.declared.settings.Settings.{Settings}
use Rattle.anacron_text.proofs.AnswerLemmas.{line_break_within}
use Rattle.anacron_text.proofs.LogicalLemmas.{logical-none}

-- a first line is shorter than its text, by its newline at most
line_size : (text line after : List ℕ) → BeginsWithLogicalLine text line after → (front : List ℕ) × (text ≡ front ++ after) × (0 < length front)
line_size text line after begins =
    elim begins.split as (λ _. (front : List ℕ) × (text ≡ front ++ after) × (0 < length front)) [
      | inl e ↦ (line ++ 10 ∷ [], e ∙ sym (append_assoc line (10 ∷ []) after), omega (arith, length-append line (10 ∷ [])))
      | inr e ↦ (line, e.0 ∙ (sym (append-nil line) ∙ ap (λ t. line ++ t) (sym e.2)), e.1)
    ]

pub behind_line : (text rest line after : List ℕ) → IsLeft text rest → BeginsWithLogicalLine rest line after → IsLeft text after × (length after < length rest)
behind_line text rest line after is begins =
    let (front, parts, some) = line_size rest line after begins in
    let size : length rest ≡ length front + length after = ap length parts ∙ length-append front after in
    let within = is.within in
    let place : length text - length after ≡ (length text - length rest) + length front = omega arith in (
      record {
        within = omega arith;
        back = ap (λ n. drop n text) place ∙ (sym (drop-drop (length front) (length text - length rest) text)
            ∙ (ap (λ t. drop (length front) t) (is.back ∙ parts) ∙ drop_at front after (length front) refl));
      },
      omega arith,
    )

-- a reader of a text at a place
abbrev pub reader_at : (text rest : List ℕ) → Settings → ℕ → AnacronTableReader
reader_at text rest settings passed = record { text = text; settings = settings; place = length text - length rest; passed = passed }

-- what a reader does with its next line
pub reads_line : (text rest line after : List ℕ) (settings next : Settings) (passed count : ℕ) (answer : Result AnaBody Fault) (handed : Result AnaLine LineFault) → IsLeft text rest → BeginsWithLogicalLine rest line after → count ≡ line_count line
    → IfOk answer (λ body. IsAnacronLineOf settings line (anacron_body_of body)) → IfOk answer (λ body. SetsBy (anacron_body_of body) settings next)
    → IfErr answer (λ fault. IsAnacronLineBreak line fault.cause fault.left) → IfErr answer (λ fault. next ≡ settings)
    → IfOk answer (λ body. handed ≡ Ok (record { number = passed + 1; span = record { from = length text - length rest; until = length text - length rest + length line }; body = body }))
    → IfErr answer (λ fault. handed ≡ Err (record { line = passed + 1; place = length line - fault.left; cause = fault.cause }))
    → ReadsAnacronLine (reader_at text rest settings passed) (reader_at text after next (passed + count)) handed
reads_line text rest line after settings next passed count answer handed is begins count_is read sets fault kept as_ok as_err =
    by_answer answer read sets fault kept as_ok as_err
  where
    goes_on : AnacronGoesOn (reader_at text rest settings passed) (reader_at text after next (passed + count)) line
    goes_on = record {
      begins = subst (λ t. BeginsWithLogicalLine t line (drop (length text - length after) text)) (sym is.back)
          (subst (BeginsWithLogicalLine rest line) (sym (behind_line text rest line after is begins).0.back) begins);
      within = omega arith;
      new_is = ap (λ n. reader_at text after next (passed + n)) count_is;
    }

    by_answer : (answer : Result AnaBody Fault) → IfOk answer (λ body. IsAnacronLineOf settings line (anacron_body_of body)) → IfOk answer (λ body. SetsBy (anacron_body_of body) settings next)
        → IfErr answer (λ fault. IsAnacronLineBreak line fault.cause fault.left) → IfErr answer (λ fault. next ≡ settings)
        → IfOk answer (λ body. handed ≡ Ok (record { number = passed + 1; span = record { from = length text - length rest; until = length text - length rest + length line }; body = body }))
        → IfErr answer (λ fault. handed ≡ Err (record { line = passed + 1; place = length line - fault.left; cause = fault.cause }))
        → ReadsAnacronLine (reader_at text rest settings passed) (reader_at text after next (passed + count)) handed
    by_answer (Ok body) read sets fault kept as_ok as_err = rw as_ok (record {
      line = line;
      goes_on = goes_on;
      number = refl;
      span = record { from_is = refl; until_is = refl };
      answer = read;
      sets = sets;
    })
    by_answer (Err e) read sets fault kept as_ok as_err = rw as_err (record {
      line = line;
      goes_on = goes_on;
      number = refl;
      span = tt;
      answer = record { left = e.left; is = fault; place_is = omega (arith, line_break_within line e.cause e.left fault) };
      sets = kept;
    })

-- the answer to the next line stands before the answers to the rest
pub answers_before : (old new : AnacronTableReader) (handed : Result AnaLine LineFault) (answers : List AnacronLineAnswer) → ReadsAnacronLine old new handed
    → AreAnswersBelow (logical_lines (anacron_rest_of new)) new.settings answers → AreAnswersBelow (logical_lines (anacron_rest_of old)) old.settings (anacron_answer_of handed ∷ answers)
answers_before old new handed answers reads are =
    rw reads.goes_on.begins.lines (new.settings, reads.answer, reads.sets, are)

-- and at the end of the text there is none
pub no_answers : (settings : Settings) → AreAnswersBelow (logical_lines []) settings []
no_answers settings = rw logical-none tt

-- the bytes of a line's span are the line
pub span_holds : (old new : AnacronTableReader) (handed : AnaLine) → ReadsAnacronLine old new (Ok handed) → BeginsWithLogicalLine (anacron_rest_of old) (slice_range old.text handed.span.from handed.span.until) (anacron_rest_of new)
span_holds old new handed is =
    let from_is = is.span.from_is in
    let until_is = is.span.until_is in
    let size : handed.span.until - handed.span.from ≡ length is.line = omega arith in
    let slice : slice_range old.text handed.span.from handed.span.until ≡ is.line =
    ap (λ n. take n (drop handed.span.from old.text)) size ∙ (ap (λ n. take (length is.line) (drop n old.text)) from_is ∙ split_taken (anacron_rest_of old) is.line (anacron_rest_of new) is.goes_on.begins.split) in
    subst (λ l. BeginsWithLogicalLine (anacron_rest_of old) l (anacron_rest_of new)) (sym slice) is.goes_on.begins
