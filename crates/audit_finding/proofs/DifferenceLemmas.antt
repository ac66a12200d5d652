-- There is one first line at which a text differs from another, and none where they have the same lines.
use Rattle.std.proofs.Common.{◌≡◌, ℕ, suc, List, [], ◌∷◌, ◌++◌, length, refl, ap, sym, subst, ◌∙◌, arith}
use Rattle.std.proofs.lemmas.List.{append_cancel_left}
use Rattle.audit_text.specs.Difference.{HeadsDiffer, IsFirstDifference}

abbrev Lines : Type 0
Lines = List (List ℕ)

-- lists that begin with one line don't differ there
alike : (line : List ℕ) (rest other a b : Lines) → rest ≡ line ∷ a → other ≡ line ∷ b → HeadsDiffer rest other → ⊥
alike line rest other a b first second differ =
    subst (λ (l : Lines). HeadsDiffer (line ∷ a) l) second (subst (λ (l : Lines). HeadsDiffer l other) first differ) refl

none_differs : (lines : Lines) → HeadsDiffer lines lines → ⊥
none_differs [] differ = differ
none_differs (line ∷ lines) differ = differ refl

same_length : (same also rest other more behind : Lines) → same ++ rest ≡ also ++ more → same ++ other ≡ also ++ behind
    → HeadsDiffer rest other → HeadsDiffer more behind → length same ≡ length also
same_length [] [] rest other more behind lines expected differ differs = refl
same_length [] (line ∷ also) rest other more behind lines expected differ differs =
    absurd (alike line rest other (also ++ more) (also ++ behind) lines expected differ)
same_length (line ∷ same) [] rest other more behind lines expected differ differs =
    absurd (alike line more behind (same ++ rest) (same ++ other) (sym lines) (sym expected) differs)
same_length (line ∷ same) (second ∷ also) rest other more behind lines expected differ differs =
    let tails : same ++ rest ≡ also ++ more = cc in
    let backs : same ++ other ≡ also ++ behind = cc in
    ap suc (same_length same also rest other more behind tails backs differ differs)

-- the first line that differs is one
pub one_difference : (lines expected : Lines) (number other : ℕ) → IsFirstDifference lines expected number → IsFirstDifference lines expected other
    → number ≡ other
one_difference lines expected number other a b =
    let size = same_length a.same b.same a.rest a.other b.rest b.other (sym a.lines_are ∙ b.lines_are)
    (sym a.expected_are ∙ b.expected_are) a.differ b.differ in
    omega (arith, size, a.number_is, b.number_is)

-- the same lines don't differ
pub no_difference : (lines expected : Lines) (number : ℕ) → lines ≡ expected → IsFirstDifference lines expected number → ⊥
no_difference lines expected number same first =
    let rests : first.rest ≡ first.other = append_cancel_left first.same first.rest first.other (sym first.lines_are ∙ same ∙ first.expected_are) in
    none_differs first.other (subst (λ (l : Lines). HeadsDiffer l first.other) rests first.differ)
