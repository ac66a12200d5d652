-- Lists cut at the first element of a kind.
use Rattle.std.proofs.Common.{◌≡◌, ℕ, ◌-◌, ◌<◌, ◌≤◌, zero, suc, List, [], ◌∷◌, ◌++◌, length, get_or, take, drop, refl, ◌∙◌, sym, subst, arith}
use Rattle.std.proofs.lemmas.List.{append-nil, take-append-drop}
use Rattle.std.proofs.lemmas.List.Elements.{All-from_get_or, recursion_from_All}
use Rattle.crontab_text.specs.Blanks.{LacksAny, MayBeginWith, MayEndWith, IsFirstIndex, IsCutAt}

-- there is one way to cut a list at its first element of a kind
pub same_cut : (P : ℕ → Type 0) (a b x y : List ℕ) → LacksAny P a → LacksAny P b → MayBeginWith P x → MayBeginWith P y → a ++ x ≡ b ++ y → (a ≡ b) × (x ≡ y)
same_cut P [] [] x y la lb px py e = (refl, e)
same_cut P [] (b ∷ bs) [] y la lb px py e = cc
same_cut P [] (b ∷ bs) (x ∷ xs) y la lb px py e =
    let head : x ≡ b = cc in absurd (lb.0 (subst P head px))
same_cut P (a ∷ as') [] x [] la lb px py e = cc
same_cut P (a ∷ as') [] x (y ∷ ys) la lb px py e =
    let head : y ≡ a = cc in absurd (la.0 (subst P head py))
same_cut P (a ∷ as') (b ∷ bs) x y la lb px py e =
    let rest : as' ++ x ≡ bs ++ y = cc in
    let more = same_cut P as' bs x y la.1 lb.1 px py rest in
    let head : a ≡ b = cc in
    let tail = more.0 in
    (cc, more.1)

-- a text is cut at one place
pub same_cut_at : (P : ℕ → Type 0) (text a b x y : List ℕ) → IsCutAt P text a x → IsCutAt P text b y → (a ≡ b) × (x ≡ y)
same_cut_at P text a b x y first second =
    same_cut P a b x y first.lacks second.lacks first.begins second.begins (sym first.parts ∙ second.parts)

-- what is from an index on begins with what stands there
begins_at : (P : ℕ → Type 0) (text : List ℕ) (index : ℕ) → index < length text → P (get_or text index 0) → MayBeginWith P (drop index text)
begins_at P [] index inside here = absurd (omega arith)
begins_at P (c ∷ cs) zero inside here = here
begins_at P (c ∷ cs) (suc index) inside here = begins_at P cs index (omega arith) here

-- the front lacks what no index below its length has
pub lacks_before : (P : ℕ → Type 0) (text : List ℕ) (index : ℕ) → index ≤ length text → ((k : ℕ) → k < index → P (get_or text k 0) → ⊥) → LacksAny P (take index text)
lacks_before P text zero fits before = tt
lacks_before P [] (suc index) fits before = tt
lacks_before P (c ∷ cs) (suc index) fits before =
    (before 0 (omega arith), lacks_before P cs index (omega arith) (λ k below. before (suc k) (omega arith)))

-- a text cut at the first index of a kind
pub cut_at_index : (P : ℕ → Type 0) (text : List ℕ) (index : ℕ) → IsFirstIndex P text index → IsCutAt P text (take index text) (drop index text)
cut_at_index P text index first = record {
  parts = sym (take-append-drop index text);
  lacks = lacks_before P text index (omega (arith, first.inside)) first.before;
  begins = begins_at P text index first.inside first.here;
}

-- a text without the kind is cut at its end
pub cut_at_end : (P : ℕ → Type 0) (text : List ℕ) → LacksAny P text → IsCutAt P text text []
cut_at_end P text lacks = record { parts = sym (append-nil text); lacks = lacks; begins = tt }

pub LacksAny-from_get_or : (P : ℕ → Type 0) (xs : List ℕ) → ((i : ℕ) → i < length xs → P (get_or xs i 0) → ⊥) → LacksAny P xs
LacksAny-from_get_or P xs h = recursion_from_All (λ x. P x → ⊥) xs (All-from_get_or (λ x. P x → ⊥) xs 0 h)

-- what ends a text behind another ends both
pub MayEndWith-drop : (P : ℕ → Type 0) (c : ℕ) (cs : List ℕ) → MayEndWith P (c ∷ cs) → MayEndWith P cs
MayEndWith-drop P c [] ends = tt
MayEndWith-drop P c (d ∷ cs) ends = ends

pub MayEndWith-append : (P : ℕ → Type 0) (a : List ℕ) (c : ℕ) → P c → MayEndWith P (a ++ c ∷ [])
MayEndWith-append P [] c p = p
MayEndWith-append P (x ∷ []) c p = p
MayEndWith-append P (x ∷ y ∷ a) c p = MayEndWith-append P (y ∷ a) c p

-- the last byte of a text
pub MayEndWith-at_last : (P : ℕ → Type 0) (text : List ℕ) → (0 < length text → P (get_or text (length text - 1) 0)) → MayEndWith P text
MayEndWith-at_last P [] last = tt
MayEndWith-at_last P (c ∷ []) last = last (omega arith)
MayEndWith-at_last P (c ∷ d ∷ cs) last =
    MayEndWith-at_last P (d ∷ cs) (λ some.
    let index : length (c ∷ d ∷ cs) - 1 ≡ suc (length (d ∷ cs) - 1) = omega arith in
    subst (λ n. P (get_or (c ∷ d ∷ cs) n 0)) index (last (omega arith)))

-- what stands at the end of a text
pub MayEndWith-last : (P : ℕ → Type 0) (front : List ℕ) (c : ℕ) → MayEndWith P (front ++ c ∷ []) → P c
MayEndWith-last P [] c ends = ends
MayEndWith-last P (x ∷ []) c ends = ends
MayEndWith-last P (x ∷ y ∷ front) c ends = MayEndWith-last P (y ∷ front) c ends

-- an element of a kind stands nowhere in a list that lacks the kind
pub lacks_none : (P : ℕ → Type 0) (a : List ℕ) (c : ℕ) (x : List ℕ) → P c → LacksAny P (a ++ c ∷ x) → ⊥
lacks_none P [] c x p lacks = lacks.0 p
lacks_none P (a ∷ as') c x p lacks = lacks_none P as' c x p lacks.1
