-- Lists cut at the first element of a kind.
use Rattle.std.proofs.Common.{◌≡◌, ℕ, List, [], ◌∷◌, ◌++◌, refl, subst}
use Rattle.std.specs.List.{AllByRecursion}

-- the text begins with a byte of the kind
abbrev pub BeginsWith : (ℕ → Type 0) → List ℕ → Type 0
BeginsWith P [] = ⊥
BeginsWith P (c ∷ cs) = P c

-- no byte of the text is of the kind
abbrev pub LacksAny : (ℕ → Type 0) → List ℕ → Type 0
LacksAny P text = AllByRecursion (λ c. P c → ⊥) text

-- there is one way to cut a list at its first element of a kind
pub same_cut : (P : ℕ → Type 0) (a b x y : List ℕ) → LacksAny P a → LacksAny P b → BeginsWith P x → BeginsWith P y → a ++ x ≡ b ++ y → (a ≡ b) × (x ≡ y)
same_cut P [] [] x y la lb px py e = (refl, e)
same_cut P [] (b ∷ bs) [] y la lb px py e = absurd px
same_cut P [] (b ∷ bs) (x ∷ xs) y la lb px py e =
    let head : x ≡ b = cc in absurd (lb.0 (subst P head px))
same_cut P (a ∷ as') [] x [] la lb px py e = absurd py
same_cut P (a ∷ as') [] x (y ∷ ys) la lb px py e =
    let head : y ≡ a = cc in absurd (la.0 (subst P head py))
same_cut P (a ∷ as') (b ∷ bs) x y la lb px py e =
    let rest : as' ++ x ≡ bs ++ y = cc in
    let more = same_cut P as' bs x y la.1 lb.1 px py rest in
    let head : a ≡ b = cc in
    let tail = more.0 in
    (cc, more.1)

-- such an element stands nowhere in a list that lacks it
pub lacks_none : (P : ℕ → Type 0) (a x : List ℕ) → BeginsWith P x → LacksAny P (a ++ x) → ⊥
lacks_none P [] [] px lacks = px
lacks_none P [] (x ∷ xs) px lacks = lacks.0 px
lacks_none P (a ∷ as') x px lacks = lacks_none P as' x px lacks.1

-- the byte stands nowhere in the text
abbrev pub Lacks : ℕ → List ℕ → Type 0
Lacks byte text = LacksAny (λ c. c ≡ byte) text
