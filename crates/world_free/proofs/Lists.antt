-- Lists side by side.
use Rattle.std.proofs.Common.{◌≡◌, List, [], ◌∷◌, ◌++◌, refl, sym, ap, ◌∙◌}
use Rattle.std.specs.List.{AllZip}
use Rattle.std.proofs.lemmas.List.{append-nil}

-- a list that is beside two, one behind the other, is in two parts
pub record InTwo {A B : Type 0} (R : A → B → Type 0) (front back : List A) (all : List B) : Type 0 where
  pub one : List B
  pub other : List B
  pub parts : all ≡ one ++ other
  pub first : AllZip R front one
  pub second : AllZip R back other

pub zip_split : {A B : Type 0} (R : A → B → Type 0) (front back : List A) (all : List B) → AllZip R (front ++ back) all → InTwo R front back all
zip_split R [] back all each = record { one = []; other = all; parts = refl; first = tt; second = each }
zip_split R (x ∷ front) back [] each = absurd each
zip_split R (x ∷ front) back (y ∷ all) each =
    let rest = zip_split R front back all each.1 in
    record { one = y ∷ rest.one; other = rest.other; parts = ap (λ l. y ∷ l) rest.parts; first = (each.0, rest.first); second = rest.second }

-- a list beside one row has one
pub zip_one : {A B : Type 0} (R : A → B → Type 0) (x : A) (ys : List B) → AllZip R (x ∷ []) ys → (y : B) × (ys ≡ y ∷ []) × R x y
zip_one R x [] each = absurd each
zip_one R x (y ∷ []) each = (y, refl, each.0)
zip_one R x (y ∷ z ∷ ys) each = absurd each.1

pub cut_front : {X : Type 0} (front one other : List X) → front ++ one ≡ front ++ other → one ≡ other
cut_front [] one other same = same
cut_front (x ∷ front) one other same = cut_front front one other (let rest : front ++ one ≡ front ++ other = cc in rest)

pub none_behind : {X : Type 0} (front back : List X) → front ++ back ≡ front → back ≡ []
none_behind front back same = cut_front front back [] (same ∙ sym (append-nil front))
