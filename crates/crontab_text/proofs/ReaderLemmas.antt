-- A reader that goes on by a line.
use Rattle.std.proofs.Common.{◌≡◌, ℕ, ◌+◌, ◌-◌, ◌<◌, ◌≤◌, ◌⊎◌, inl, inr, List, [], ◌∷◌, ◌++◌, length, take, drop, refl, ap, ◌∙◌, sym, subst, arith, length-append, Result, Ok, Err, IfOk, IfErr}
use Rattle.std.specs.List.{slice_range}
use Rattle.std.proofs.Math.Seq.{take-append_seam, take-length}
use Rattle.std.proofs.lemmas.List.{drop-drop, drop_at}
use Rattle.crontab_text.specs.Answers.{LineAnswer, IsLineOf, AreAnswers}
use Rattle.crontab_text.specs.LineBody.{body_of}
use Rattle.crontab_text.specs.LineBreak.{IsLineBreak}
use Rattle.crontab_text.specs.Lines.{BeginsWithLine}
use Rattle.crontab_text.specs.Reader.{ReadsOn, ReadsLine, answer_to_line}
use Rattle.crontab_text.specs.TableReader.{TableReader, rest_of}
use Rattle.crontab_text.specs.declared.answer.Body.{Body}
use Rattle.crontab_text.specs.declared.answer.Line.{Line}
use Rattle.crontab_text.specs.declared.answer.LineFault.{LineFault}
use Rattle.crontab_text.specs.declared.answer.Style.{Style}
use Rattle.crontab_text.specs.declared.fault.Fault.{Fault}
use Rattle.crontab_text.proofs.EntryLemmas.{break_within}
use Rattle.crontab_text.proofs.LineLemmas.{line_size, lines_of-none, lines_of-begins}

-- what is left of a text, behind another line
pub record IsLeft (text rest : List ℕ) : Type 0 where
  pub within : length rest ≤ length text
  pub back : drop (length text - length rest) text ≡ rest

pub behind_line : (text rest line after : List ℕ) → IsLeft text rest → BeginsWithLine rest line after → IsLeft text after × (length after < length rest)
behind_line text rest line after is begins =
    let (front, parts, some) = line_size rest line after begins in
    let size : length rest ≡ length front + length after = ap length parts ∙ length-append front after in
    let within = is.within in
    let place : length text - length after ≡ (length text - length rest) + length front = omega arith in (
      record {
        within = omega arith;
        back = ap (λ n. drop n text) place ∙ (sym (drop-drop (length front) (length text - length rest) text)
            ∙ (ap (λ t. drop (length front) t) (is.back ∙ parts) ∙ drop_at front after (length front) refl));
      },
      omega arith,
    )

-- what a reader does with its next line
pub reads_line : (text owner rest line after : List ℕ) (style : Style) (passed : ℕ) (answer : Result Body Fault) (handed : Result Line LineFault) → IsLeft text rest → BeginsWithLine rest line after
    → IfOk answer (λ body. IsLineOf style owner line (body_of body)) → IfErr answer (λ fault. IsLineBreak style line fault.cause fault.left)
    → IfOk answer (λ body. handed ≡ Ok (record { number = passed + 1; span = record { from = length text - length rest; until = length text - length rest + length line }; body = body }))
    → IfErr answer (λ fault. handed ≡ Err (record { line = passed + 1; place = length line - fault.left; cause = fault.cause }))
    → ReadsLine (record { text = text; style = style; owner = owner; place = length text - length rest; passed = passed }) (record { text = text; style = style; owner = owner; place = length text - length after; passed = passed + 1 }) handed
reads_line text owner rest line after style passed answer handed is begins read fault as_ok as_err =
    by_answer answer read fault as_ok as_err
  where
    goes_on : ReadsOn (record { text = text; style = style; owner = owner; place = length text - length rest; passed = passed }) (record { text = text; style = style; owner = owner; place = length text - length after; passed = passed + 1 }) line
    goes_on = record {
      begins = subst (λ t. BeginsWithLine t line (drop (length text - length after) text)) (sym is.back)
          (subst (BeginsWithLine rest line) (sym (behind_line text rest line after is begins).0.back) begins);
      within = omega arith;
      new_is = refl;
    }

    by_answer : (answer : Result Body Fault) → IfOk answer (λ body. IsLineOf style owner line (body_of body)) → IfErr answer (λ fault. IsLineBreak style line fault.cause fault.left)
        → IfOk answer (λ body. handed ≡ Ok (record { number = passed + 1; span = record { from = length text - length rest; until = length text - length rest + length line }; body = body }))
        → IfErr answer (λ fault. handed ≡ Err (record { line = passed + 1; place = length line - fault.left; cause = fault.cause }))
        → ReadsLine (record { text = text; style = style; owner = owner; place = length text - length rest; passed = passed }) (record { text = text; style = style; owner = owner; place = length text - length after; passed = passed + 1 }) handed
    by_answer (Ok body) read fault as_ok as_err = rw as_ok (record {
      line = line;
      goes_on = goes_on;
      number = refl;
      span = record { from_is = refl; until_is = refl };
      answer = read;
    })
    by_answer (Err e) read fault as_ok as_err = rw as_err (record {
      line = line;
      goes_on = goes_on;
      number = refl;
      span = tt;
      answer = record {
        text = fault.text;
        left = e.left;
        skips = fault.skips;
        breaks = fault.breaks;
        place_is = omega (arith, break_within style line e.cause e.left fault);
      };
    })

-- the answer to the next line stands before the answers to the rest
pub answers_before : (old new : TableReader) (handed : Result Line LineFault) (answers : List LineAnswer) → ReadsLine old new handed → AreAnswers old.style old.owner (rest_of new) answers → AreAnswers old.style old.owner (rest_of old) (answer_to_line handed ∷ answers)
answers_before old new handed answers reads are =
    rw (lines_of-begins (rest_of old) reads.line (rest_of new) reads.goes_on.begins) (reads.answer, are)

-- and at the end of the text there is none
pub no_answers : (style : Style) (owner : List ℕ) → AreAnswers style owner [] []
no_answers style owner = rw lines_of-none tt

-- the front of a text that is its first line
pub split_taken : (rest line after : List ℕ) → (rest ≡ line ++ 10 ∷ after) ⊎ ((rest ≡ line) × (0 < length line) × (after ≡ [])) → take (length line) rest ≡ line
split_taken rest line after (inl more) = ap (λ t. take (length line) t) more ∙ take-append_seam line (10 ∷ after)
split_taken rest line after (inr last) = ap (λ t. take (length line) t) last.0 ∙ take-length line

-- the bytes of a line's span are the line
pub span_holds : (old new : TableReader) (handed : Line) → ReadsLine old new (Ok handed) → BeginsWithLine (rest_of old) (slice_range old.text handed.span.from handed.span.until) (rest_of new)
span_holds old new handed is =
    let from_is = is.span.from_is in
    let until_is = is.span.until_is in
    let size : handed.span.until - handed.span.from ≡ length is.line = omega arith in
    let slice : slice_range old.text handed.span.from handed.span.until ≡ is.line =
    ap (λ n. take n (drop handed.span.from old.text)) size ∙ (ap (λ n. take (length is.line) (drop n old.text)) from_is ∙ split_taken (rest_of old) is.line (rest_of new) is.goes_on.begins.split) in
    subst (λ l. BeginsWithLine (rest_of old) l (rest_of new)) (sym slice) is.goes_on.begins
