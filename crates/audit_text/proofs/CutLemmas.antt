-- A text that is cut between two lines.
use Rattle.std.proofs.Common.{◌≡◌, ◌≢◌, ℕ, List, [], ◌∷◌, ◌++◌, refl, ap, ◌∙◌, sym, append_assoc}
use Rattle.std.proofs.lemmas.List.{append-nil}
use Rattle.crontab_text.specs.Lines.{BeginsWithLine, lines_of}
use Rattle.crontab_text.proofs.LineLemmas.{line_size, lines_of-begins, lines_of-front, lines_of-none}
use Rattle.audit_text.specs.Parts.{NoneIs}
use Rattle.audit_text.specs.Steps.{IsCutBetween}

pub cut_none : (text : List ℕ) → IsCutBetween text [] text
cut_none text = record { parts = refl; lines = ap (λ l. l ++ lines_of text) (sym lines_of-none) }

-- the text is cut one line further on
pub record IsCutFurther (text front now line after : List ℕ) : Type 0 where
  pub piece : List ℕ
  pub now_is : now ≡ piece ++ after
  pub cut : IsCutBetween text (front ++ piece) after
  pub lines : lines_of (front ++ piece) ≡ lines_of front ++ line ∷ []

pub cut_further : (text front now line after : List ℕ) → IsCutBetween text front now → BeginsWithLine now line after → IsCutFurther text front now line after
cut_further text front now line after cut begins =
    let (piece, now_is, some) = line_size now line after begins in
    let parts : text ≡ (front ++ piece) ++ after = cut.parts ∙ ap (λ t. front ++ t) now_is ∙ sym (append_assoc front piece after) in
    let lines : lines_of text ≡ (lines_of front ++ line ∷ []) ++ lines_of after =
    cut.lines ∙ ap (λ l. lines_of front ++ l) (lines_of-begins now line after begins) ∙ sym (append_assoc (lines_of front) (line ∷ []) (lines_of after)) in
    let more : lines_of (front ++ piece) ≡ lines_of front ++ line ∷ [] = lines_of-front (lines_of front ++ line ∷ []) (front ++ piece) after (ap lines_of (sym parts) ∙ lines) in
    record {
      piece = piece;
      now_is = now_is;
      cut = record { parts = parts; lines = lines ∙ ap (λ l. l ++ lines_of after) (sym more) };
      lines = more;
    }

-- the front is all, where nothing is left
pub cut_all : (text front : List ℕ) → IsCutBetween text front [] → text ≡ front
cut_all text front cut = cut.parts ∙ append-nil front

-- two cuts, one after the other
pub cut_twice : (text front rest middle after : List ℕ) → IsCutBetween text front rest → IsCutBetween rest middle after
    → (text ≡ front ++ (middle ++ after)) × (lines_of text ≡ lines_of front ++ (lines_of middle ++ lines_of after))
cut_twice text front rest middle after first second =
    (first.parts ∙ ap (λ t. front ++ t) second.parts, first.lines ∙ ap (λ l. lines_of front ++ l) second.lines)

pub none_more : (line other : List ℕ) (lines : List (List ℕ)) → NoneIs line lines → other ≢ line → NoneIs line (lines ++ other ∷ [])
none_more line other [] none differs = (differs, tt)
none_more line other (l ∷ ls) none differs = (none.0, none_more line other ls none.1 differs)
