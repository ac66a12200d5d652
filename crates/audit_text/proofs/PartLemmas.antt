-- Where a report begins and ends.
use Rattle.std.proofs.Common.{◌≡◌, ◌≢◌, ℕ, ◌-◌, List, [], ◌∷◌, ◌++◌, length, take, Option, Some, None, Bor, IfSome, IfNone, refl, ap, ◌∙◌, sym, subst, inl, inr, arith, append_assoc, length-append}
use Rattle.std.proofs.lemmas.List.{append-nil, take_at}
use Rattle.crontab_text.specs.Lines.{BeginsWithLine, lines_of}
use Rattle.crontab_text.proofs.LineLemmas.{lines_of-begins, lines_of-none}
use Rattle.audit_text.specs.Parts.{BeginsReport, IsOfParts, NoneIs, report_end, report_head}
use Rattle.audit_text.specs.Steps.{GoesOnBehindReport, GoesOnToReport, IsCutBetween}
use Rattle.audit_text.proofs.CutLemmas.{cut_all, cut_further, cut_none, none_more}

-- ---- the last line that begins a report

-- what was found so far: a line that begins a report, behind which none does, or none
abbrev pub FoundSoFar : (text front rest : List ℕ) → Option (Bor (List ℕ)) → Type 0
FoundSoFar text front rest None = NoneIs report_head (lines_of front)
FoundSoFar text front rest (Some tail) =
    (before : List ℕ) × (between : List (List ℕ)) × IsCutBetween text before tail.now × (lines_of tail.now ≡ report_head ∷ (between ++ lines_of rest))
    × NoneIs report_head between

pub record Searches (text rest : List ℕ) (found : Option (Bor (List ℕ))) : Type 0 where
  pub front : List ℕ
  pub cut : IsCutBetween text front rest
  pub so_far : FoundSoFar text front rest found

pub searches_none : (text : List ℕ) → Searches text text None
searches_none text = record { front = []; cut = cut_none text; so_far = subst (NoneIs report_head) (sym lines_of-none) tt }

-- one line more, which begins no report
pub searches_on : (text rest line after : List ℕ) (found : Option (Bor (List ℕ))) → Searches text rest found → BeginsWithLine rest line after → line ≢ report_head → Searches text after found
searches_on text rest line after found searches begins other =
    let next = cut_further text searches.front rest line after searches.cut begins in
    record { front = searches.front ++ next.piece; cut = next.cut; so_far = by found searches.so_far }
  where
    by : (found : Option (Bor (List ℕ))) → FoundSoFar text searches.front rest found → FoundSoFar text (searches.front ++ (cut_further text searches.front rest line after searches.cut begins).piece) after found
    by None none = subst (NoneIs report_head) (sym (cut_further text searches.front rest line after searches.cut begins).lines) (none_more report_head line (lines_of searches.front) none other)
    by (Some tail) (before, between, cut, lines, none) = (
      before,
      between ++ line ∷ [],
      cut,
      lines ∙ ap (λ l. report_head ∷ (between ++ l)) (lines_of-begins rest line after begins) ∙ ap (λ l. report_head ∷ l) (sym (append_assoc between (line ∷ []) (lines_of after))),
      none_more report_head line between none other,
    )

-- one line more, which begins one
pub searches_from : (text rest line after : List ℕ) (found : Option (Bor (List ℕ))) (now : Bor (List ℕ)) → Searches text rest found → BeginsWithLine rest line after → line ≡ report_head → now.now ≡ rest
    → Searches text after (Some now)
searches_from text rest line after found now searches begins is now_is =
    let next = cut_further text searches.front rest line after searches.cut begins in
    record {
      front = searches.front ++ next.piece;
      cut = next.cut;
      so_far = (
        searches.front,
        [],
        subst (IsCutBetween text searches.front) (sym now_is) searches.cut,
        ap lines_of now_is ∙ lines_of-begins rest line after begins ∙ ap (λ l. l ∷ lines_of after) is,
        tt,
      );
    }

pub found_last : (text rest : List ℕ) (found : Option (Bor (List ℕ))) → Searches text rest found → rest ≡ [] → IfSome found (λ tail. GoesOnToReport text tail.now)
found_last text rest None searches none = tt
found_last text rest (Some tail) searches none =
    let (before, between, cut, lines, free) = searches.so_far in
    (before, cut, (between ++ lines_of rest, lines, subst (NoneIs report_head) (sym (ap (λ l. between ++ lines_of l) none ∙ ap (λ l. between ++ l) lines_of-none ∙ append-nil between)) free))

pub found_none : (text rest : List ℕ) (found : Option (Bor (List ℕ))) → Searches text rest found → rest ≡ [] → IfNone found (NoneIs report_head (lines_of text))
found_none text rest (Some tail) searches none = tt
found_none text rest None searches none =
    subst (λ t. NoneIs report_head (lines_of t)) (sym (cut_all text searches.front (subst (IsCutBetween text searches.front) none searches.cut))) searches.so_far

-- ---- the first line that ends one

pub record Passes (text rest : List ℕ) : Type 0 where
  pub front : List ℕ
  pub cut : IsCutBetween text front rest
  pub none : NoneIs report_end (lines_of front)

pub passes_none : (text : List ℕ) → Passes text text
passes_none text = record { front = []; cut = cut_none text; none = subst (NoneIs report_end) (sym lines_of-none) tt }

pub passes_on : (text rest line after : List ℕ) → Passes text rest → BeginsWithLine rest line after → line ≢ report_end → Passes text after
passes_on text rest line after passes begins other =
    let next = cut_further text passes.front rest line after passes.cut begins in
    record {
      front = passes.front ++ next.piece;
      cut = next.cut;
      none = subst (NoneIs report_end) (sym next.lines) (none_more report_end line (lines_of passes.front) passes.none other);
    }

pub passes_end : (text rest line after : List ℕ) → Passes text rest → BeginsWithLine rest line after → line ≡ report_end → GoesOnBehindReport text after
passes_end text rest line after passes begins is =
    let next = cut_further text passes.front rest line after passes.cut begins in
    (passes.front ++ next.piece, next.cut, inl (lines_of passes.front, next.lines ∙ ap (λ l. lines_of passes.front ++ l ∷ []) is, passes.none))

pub passes_all : (text rest : List ℕ) → Passes text rest → rest ≡ [] → GoesOnBehindReport text rest
passes_all text rest passes none = (passes.front, passes.cut, inr (passes.none, none))

-- ---- the parts

-- what stands before a rest
before_rest : (text front rest : List ℕ) → text ≡ front ++ rest → take (length text - length rest) text ≡ front
before_rest text front rest parts =
    let size : length front ≡ length text - length rest = omega (arith, ap length parts, length-append front rest) in
    ap (take (length text - length rest)) parts ∙ take_at front rest (length text - length rest) size

pub parts_with_report : (input rest journal : List ℕ) → GoesOnToReport input rest → GoesOnBehindReport rest journal
    → IsOfParts input (take (length input - length rest) input) (take (length rest - length journal) rest) journal
parts_with_report input rest journal (front, first, begins) (middle, second, ends) =
    subst (λ run. IsOfParts input run (take (length rest - length journal) rest) journal) (sym (before_rest input front rest first.parts))
    (subst (λ report. IsOfParts input front report journal) (sym (before_rest rest middle journal second.parts)) (record {
      bytes = first.parts ∙ ap (λ t. front ++ t) second.parts;
      lines = first.lines ∙ ap (λ l. lines_of front ++ l) second.lines;
      begins = inl (subst BeginsReport second.lines begins);
      ends = ends;
    }))

pub parts_without : (input : List ℕ) → NoneIs report_head (lines_of input) → IsOfParts input input [] []
parts_without input none = record {
  bytes = sym (append-nil input);
  lines = sym (ap (λ l. lines_of input ++ (l ++ l)) lines_of-none ∙ append-nil (lines_of input));
  begins = inr (none, refl);
  ends = inr (subst (NoneIs report_end) (sym lines_of-none) tt, refl);
}
