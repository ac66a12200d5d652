-- What was taken and gained, where it is told.
use Rattle.std.proofs.Common.{◌≡◌, ℕ, ◌-◌, ◌^◌, ◌<◌, inl, inr, List, [], ◌++◌, Option, Some, None, refl, sym, ap, ◌∙◌, append-nil, arith}
use Rattle.std.specs.Io.KnownBytes.{Appends, Consumes, IsAtEnd}
use Rattle.cron_io.specs.Faults.{Rose}
use Rattle.cron_io.specs.Reading.{HasTakenBytes, IsReadToEnd}
use Rattle.cron_io.specs.Views.{SourceView, SinkView}
use Rattle.cron_io.specs.Writing.{HasGainedPrefix}

pub Rose-same : (count : ℕ) → count < 2 ^ 64 - 1 → Rose count count → ⊥
Rose-same count below (inl lt) = omega arith
Rose-same count below (inr last) = omega arith

-- what was consumed of known bytes is their front
pub Consumes-front : (old new : Option (List ℕ)) (had bytes : List ℕ) → old ≡ Some had → Consumes old new bytes
    → (left : List ℕ) × (had ≡ bytes ++ left) × (new ≡ Some left)
Consumes-front None new had bytes is took = absurd (cc)
Consumes-front (Some x) None had bytes is took = absurd took
Consumes-front (Some x) (Some y) had bytes is took = let same : x ≡ had = cc in (y, sym same ∙ took, refl)

-- nothing is left at the end
at_end : (new : Option (List ℕ)) (left : List ℕ) → new ≡ Some left → IsAtEnd new → left ≡ []
at_end None left is end = absurd (cc)
at_end (Some y) left is end = let same : y ≡ left = cc in sym same ∙ end

pub taken_all : (old new : SourceView) (had bytes : List ℕ) → old.left ≡ Some had → IsReadToEnd old new bytes
    → (bytes ≡ had) × (new.left ≡ Some [])
taken_all old new had bytes is read =
    let parts = Consumes-front old.left new.left had bytes is read.0 in
    let none : parts.0 ≡ [] = at_end new.left parts.0 parts.2 read.1 in (
      sym (parts.1 ∙ ap (λ l. bytes ++ l) none ∙ append-nil bytes),
      parts.2 ∙ ap Some none,
    )

pub taken_front : (old new : SourceView) (had : List ℕ) → old.left ≡ Some had → HasTakenBytes old new
    → (bytes left : List ℕ) × (had ≡ bytes ++ left) × (new.left ≡ Some left)
taken_front old new had is taken =
    let parts = Consumes-front old.left new.left had taken.0 is taken.1 in (taken.0, parts.0, parts.1, parts.2)

appended : (old new : Option (List ℕ)) (had bytes : List ℕ) → old ≡ Some had → Appends old new bytes → new ≡ Some (had ++ bytes)
appended None new had bytes is wrote = absurd (cc)
appended (Some x) None had bytes is wrote = absurd wrote
appended (Some x) (Some y) had bytes is wrote = let same : x ≡ had = cc in ap Some (wrote ∙ ap (λ l. l ++ bytes) same)

pub gained_front : (old new : SinkView) (had bytes : List ℕ) → old.written ≡ Some had → HasGainedPrefix old new bytes
    → (front back : List ℕ) × (bytes ≡ front ++ back) × (new.written ≡ Some (had ++ front))
gained_front old new had bytes is gained =
    (gained.front, gained.back, gained.parts, appended old.written new.written had gained.front is gained.gained)
