-- A text cut behind so many of its lines.
use Rattle.std.proofs.Common.{◌≡◌, ℕ, ◌+◌, ◌-◌, ◌<◌, ◌≤◌, List, [], ◌∷◌, ◌++◌, length, take, drop, refl, ap, ◌∙◌, sym, arith, append_assoc, length-append}
use Rattle.std.proofs.lemmas.List.{drop_at, take_at}
use Rattle.crontab_text.specs.Lines.{lines_of}
use Rattle.crontab_text.proofs.LineLemmas.{lines_of-none, lines_of-front, lines_of-count, lines_at_most}
use Rattle.run_text.specs.Steps.{IsCut}

pub cut_none : (text : List ℕ) → IsCut text 0 [] text
cut_none text = record { parts = refl; lines = ap (λ l. l ++ lines_of text) (sym lines_of-none); count_is = ap length lines_of-none }

-- one line more
pub cut_next : (text front now piece line rest : List ℕ) (count : ℕ) → IsCut text count front now → now ≡ piece ++ rest → lines_of now ≡ line ∷ lines_of rest
    → IsCut text (count + 1) (front ++ piece) rest
cut_next text front now piece line rest count cut now_is begins =
    let parts : text ≡ (front ++ piece) ++ rest = cut.parts ∙ ap (λ t. front ++ t) now_is ∙ sym (append_assoc front piece rest) in
    let lines : lines_of text ≡ (lines_of front ++ line ∷ []) ++ lines_of rest =
    cut.lines ∙ ap (λ l. lines_of front ++ l) begins ∙ sym (append_assoc (lines_of front) (line ∷ []) (lines_of rest)) in
    let more = lines_of-front (lines_of front ++ line ∷ []) (front ++ piece) rest (ap lines_of (sym parts) ∙ lines) in
    record {
      parts = parts;
      lines = lines ∙ ap (λ l. l ++ lines_of rest) (sym more);
      count_is = ap length more ∙ length-append (lines_of front) (line ∷ []) ∙ ap (λ n. n + 1) cut.count_is;
    }

-- all the lines of the text are fewer
pub too_few : (text front now : List ℕ) (count wanted : ℕ) → IsCut text count front now → now ≡ [] → count < wanted → length (lines_of text) < wanted
too_few text front now count wanted cut none fewer =
    let rest : length (lines_of now) ≡ 0 = ap length (ap lines_of none ∙ lines_of-none) in
    omega (arith, lines_of-count (lines_of front) text now cut.lines, cut.count_is)

pub cut_size : (text front rest : List ℕ) (count : ℕ) → IsCut text count front rest → length text ≡ length front + length rest
cut_size text front rest count cut = ap length cut.parts ∙ length-append front rest

pub cut_whole : (text front rest : List ℕ) (count : ℕ) → IsCut text count front rest → count ≤ length (lines_of text)
cut_whole text front rest count cut = omega (arith, lines_of-count (lines_of front) text rest cut.lines, cut.count_is)

-- each line takes a byte at least
pub cut_short : (text front rest : List ℕ) (count : ℕ) → IsCut text count front rest → count + length rest ≤ length text
cut_short text front rest count cut = omega (arith, lines_at_most front, cut.count_is, cut_size text front rest count cut)

-- the front is what stands before the rest
pub cut_at : (text front rest part : List ℕ) (count : ℕ) → IsCut text count front rest → part ≡ take (length text - length rest) text → part ≡ front
cut_at text front rest part count cut part_is =
    let size : length front ≡ length text - length rest = omega (arith, cut_size text front rest count cut) in
    part_is ∙ ap (take (length text - length rest)) cut.parts ∙ take_at front rest (length text - length rest) size

pub cut_rest : (text front rest : List ℕ) (count : ℕ) → IsCut text count front rest → drop (length text - length rest) text ≡ rest
cut_rest text front rest count cut =
    let size : length front ≡ length text - length rest = omega (arith, cut_size text front rest count cut) in
    ap (drop (length text - length rest)) cut.parts ∙ drop_at front rest (length text - length rest) size
