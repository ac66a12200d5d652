-- The sections of a version.
use Rattle.std.proofs.Common.{◌≡◌, ℕ, zero, suc, ◌+◌, ◌<◌, ◌≤◌, List, [], ◌∷◌, ◌++◌, Option, None, Some, length, take, drop, get_or, refl, ap, ◌∙◌, sym, subst, inl, inr, ◌⊎◌, arith, take-append-drop, drop-cons}
use Rattle.std.specs.Prelude.{slice_get}
use Rattle.std.specs.List.{AllByRecursion}
use Rattle.std.proofs.lemmas.List.{drop-append-le, get_or-take, length-take, take_all, take_more, take-take}
use Rattle.std.proofs.lemmas.Option.{slice_get_cases, slice_get_within, get_or_from_slice_get}
use Rattle.due_set.proofs.TableLemmas.{All-slice_get}
use Rattle.run_text.specs.Run.{Run, Section}
use Rattle.run_text.specs.Sound.{AreVersionLines}
use Rattle.run_text.specs.declared.run.VersionLine.{VersionLine}
use Rattle.job_table.specs.Versions.{first_section, sections_above, sections_in}

-- what holds of each section holds of each of a version
all_take : (P : Section → Type 0) (n : ℕ) (xs : List Section) → AllByRecursion P xs → AllByRecursion P (take n xs)
all_take P zero xs all = tt
all_take P (suc n) [] all = tt
all_take P (suc n) (x ∷ xs) all = (all.0, all_take P n xs all.1)

all_drop : (P : Section → Type 0) (n : ℕ) (xs : List Section) → AllByRecursion P xs → AllByRecursion P (drop n xs)
all_drop P zero xs all = all
all_drop P (suc n) [] all = tt
all_drop P (suc n) (x ∷ xs) all = all_drop P n xs all.1

pub all_in : (P : Section → Type 0) (run : Run) (version : ℕ) → AllByRecursion P run.sections → AllByRecursion P (sections_in run version)
all_in P run version all = all_drop P (first_section run version) (take (first_section run (suc version)) run.sections) (all_take P (first_section run (suc version)) run.sections all)

-- ---- where a version begins

above_within : (run : Run) (place : ℕ) → AreVersionLines run → sections_above (length run.sections) (slice_get run.versions place) ≤ length run.sections
above_within run place lines = by (slice_get run.versions place) refl
  where
    by : (o : Option VersionLine) → slice_get run.versions place ≡ o → sections_above (length run.sections) o ≤ length run.sections
    by None is = omega arith
    by (Some line) is = All-slice_get (λ (version : VersionLine). version.first_section ≤ length run.sections) run.versions place line lines.within is

-- not before the version above it
pub first_rises : (run : Run) (version : ℕ) → AreVersionLines run → first_section run version ≤ first_section run (suc version)
first_rises run zero lines = omega arith
first_rises run (suc place) lines = by (slice_get run.versions place) (slice_get run.versions (suc place)) refl refl
  where
    by : (o p : Option VersionLine) → slice_get run.versions place ≡ o → slice_get run.versions (suc place) ≡ p
        → sections_above (length run.sections) o ≤ sections_above (length run.sections) p
    by o None is other = subst (λ (q : Option VersionLine). sections_above (length run.sections) q ≤ length run.sections) is (above_within run place lines)
    by None (Some later) is other = absurd (gap (slice_get_cases run.versions place).1)
      where
        gap : ((x : VersionLine) × (place < length run.versions) × (slice_get run.versions place ≡ Some x) × (get_or run.versions place x ≡ x))
            ⊎ ((length run.versions ≤ place) × (slice_get run.versions place ≡ None)) → ⊥
        gap (inl (line, inside, found, same)) = let no : ◌≡◌ {A = Option VersionLine} None (Some line) = sym is ∙ found in cc
        gap (inr past) = let within = slice_get_within run.versions (suc place) later other in omega (arith, past.0)
    by (Some line) (Some later) is other =
        let within = slice_get_within run.versions (suc place) later other in
        let rises = (lines.in_order place (suc place) line (omega arith) within).by_sections in
        let first : get_or run.versions place line ≡ line = get_or_from_slice_get run.versions place line line is in
        let second : get_or run.versions (suc place) line ≡ later = get_or_from_slice_get run.versions (suc place) later line other in
        subst (λ (v : VersionLine). v.first_section ≤ later.first_section) first
        (subst (λ (v : VersionLine). (get_or run.versions place line).first_section ≤ v.first_section) second rises)

-- ---- one section after another

pub one_more_in : {X : Type 0} (xs : List X) (first place : ℕ) (d : X) → first ≤ place → place < length xs
    → drop first (take (place + 1) xs) ≡ drop first (take place xs) ++ get_or xs place d ∷ []
one_more_in xs first place d since within =
    ap (drop first) (take_more xs place d within) ∙ drop-append-le first (take place xs) (get_or xs place d ∷ []) (omega (arith, length-take place xs))

-- those before a place, the one there, and those behind it
pub parted_in : {X : Type 0} (xs : List X) (first place end : ℕ) (d : X) → first ≤ place → place < end → place < length xs
    → drop first (take end xs) ≡ drop first (take place xs) ++ get_or xs place d ∷ drop (suc place) (take end xs)
parted_in xs first place end d since before within =
    let size = length-take end xs in
    let inside : place < length (take end xs) = omega (arith, size) in
    let le : place ≤ end = omega arith in
    let behind = drop (suc place) (take end xs) in
    let at_place : drop place (take end xs) ≡ get_or xs place d ∷ behind = drop-cons (take end xs) place d inside ∙ ap (λ x. x ∷ behind) (get_or-take end xs place d before) in
    let parts : take end xs ≡ take place xs ++ get_or xs place d ∷ behind =
    sym (take-append-drop place (take end xs)) ∙ ap (λ l. take place (take end xs) ++ l) at_place ∙ ap (λ l. l ++ get_or xs place d ∷ behind) (take-take place end xs le) in
    ap (drop first) parts ∙ drop-append-le first (take place xs) (get_or xs place d ∷ behind) (omega (arith, length-take place xs))

-- the only version has all sections
pub sections_of_one : (run : Run) → run.versions ≡ [] → sections_in run 0 ≡ run.sections
sections_of_one run none =
    ap (λ (o : Option VersionLine). take (sections_above (length run.sections) o) run.sections) (ap (λ (l : List VersionLine). slice_get l 0) none)
    ∙ take_all (length run.sections) run.sections (omega arith)
