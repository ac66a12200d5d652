-- The letters of acts are settled.
use Rattle.std.proofs.Common.{◌≡◌, ℕ, List, [], ◌∷◌, refl, sym, ap, ◌∙◌}
use Rattle.std.specs.List.{AllZip}
use Rattle.step_spec.specs.Act.{Act}
use Rattle.step_spec.specs.Folds.{Addressed, letters_of}
use Rattle.step_spec.specs.Letters.{IsSpelled}
use Rattle.step_spec.specs.State.{Identity}
use Rattle.step_spec.specs.declared.out.OutLetter.{OutLetter}
use Rattle.replica_draft.specs.Letters.{AreLettersFrom}

abbrev letter_with : ℕ → List ℕ → OutLetter
letter_with to bytes = record { to = to; bytes = bytes }

same_letter : (one other : OutLetter) → one.to ≡ other.to → one.bytes ≡ other.bytes → one ≡ other
same_letter one other to bytes =
    ap (λ (to : ℕ). letter_with to one.bytes) to ∙ ap (letter_with other.to) bytes

one_letter : (me : ℕ) (addressed : Addressed) (one other : OutLetter) → IsSpelled 7 me addressed one → IsSpelled 7 me addressed other → one ≡ other
one_letter me addressed one other first second =
    same_letter one other (first.to ∙ sym second.to) (first.spells.spelled ∙ sym second.spells.spelled)

one_list : (me : ℕ) (addressed : List Addressed) (ones others : List OutLetter) → AllZip (IsSpelled 7 me) addressed ones → AllZip (IsSpelled 7 me) addressed others → ones ≡ others
one_list me [] [] [] first second = refl
one_list me [] [] (other ∷ others) first second = absurd second
one_list me [] (one ∷ ones) others first second = absurd first
one_list me (first_to ∷ addressed) [] others first second = absurd first
one_list me (first_to ∷ addressed) (one ∷ ones) [] first second = absurd second
one_list me (first_to ∷ addressed) (one ∷ ones) (other ∷ others) first second =
    let here = one_letter me first_to one other first.0 second.0 in
    let rest = one_list me addressed ones others first.1 second.1 in
    rw (here, rest) refl

pub same-letters : (self : Identity) (acts : List Act) (letters others : List OutLetter) → AreLettersFrom self acts letters → AreLettersFrom self acts others → letters ≡ others
same-letters self acts letters others first second = one_list self.me (letters_of self acts) letters others first second
