-- The first line of some bytes, by its newline.
use Rattle.std.proofs.Common.{◌≡◌, ℕ, zero, suc, ◌+◌, ◌-◌, ◌<◌, ◌≤◌, List, [], ◌∷◌, ◌++◌, length, get_or, take, drop, refl, ap, ◌∙◌, sym, inl, arith, add-one}
use Rattle.std.proofs.lemmas.List.{take_rest}
use Rattle.crontab_text.specs.Blanks.{IsFirstIndex}
use Rattle.crontab_text.specs.Lines.{BeginsWithLine, Lacks}

lacks_before : (text : List ℕ) (index : ℕ) → index ≤ length text → ((k : ℕ) → k < index → get_or text k 0 ≡ 10 → ⊥) → Lacks 10 (take index text)
lacks_before text zero fits before = tt
lacks_before [] (suc index) fits before = tt
lacks_before (c ∷ cs) (suc index) fits before =
    (before 0 (omega arith), lacks_before cs index (omega arith) (λ k below. before (suc k) (omega arith)))

cut_at : (text : List ℕ) (index : ℕ) → index < length text → get_or text index 0 ≡ 10 → text ≡ take index text ++ 10 ∷ drop (suc index) text
cut_at [] index inside here = absurd (omega arith)
cut_at (c ∷ cs) zero inside here = ap (λ (x : ℕ). x ∷ cs) here
cut_at (c ∷ cs) (suc index) inside here = ap (λ (l : List ℕ). c ∷ l) (cut_at cs index (omega arith) here)

pub begins_at : (text : List ℕ) (index : ℕ) → IsFirstIndex (λ byte. byte ≡ 10) text index
    → BeginsWithLine text (take index text) (take (length text - (index + 1)) (drop (index + 1) text))
begins_at text index first =
    let back : drop (suc index) text ≡ drop (index + 1) text = rw (add-one index) refl in
    record {
      one_line = lacks_before text index (omega (arith, first.inside)) first.before;
      split = inl (cut_at text index first.inside first.here ∙ ap (λ rest. take index text ++ 10 ∷ rest) (back ∙ sym (take_rest text (index + 1))));
    }
