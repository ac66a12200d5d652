-- Facts that hold or don't, and what a text is by them.
use Rattle.std.proofs.Common.{◌≡◌, ◌≢◌, ◌⊎◌, ℕ, zero, suc, ◌≤◌, List, [], ◌∷◌, ◌++◌, inl, inr, ⊎_elim, refl, sym, ap, ◌∙◌, arith}
use Rattle.std.proofs.lemmas.Bool.{cases_eq}
use Rattle.cron_fields.specs.Atom.{HasNo, IsSplitAt}

-- the fact holds, or it doesn't
abbrev pub Decided : Type 0 → Type 0
Decided P = P ⊎ (P → ⊥)

-- one answer where the fact holds, another where it doesn't
abbrev pub choose : {P X : Type 0} → P ⊎ (P → ⊥) → X → X → X
choose (inl holds) x y = x
choose (inr fails) x y = y

pub choose-yes : {P X : Type 0} (d : P ⊎ (P → ⊥)) (x y : X) → P → choose d x y ≡ x
choose-yes (inl holds) x y it = refl
choose-yes (inr fails) x y it = absurd (fails it)

pub choose-no : {P X : Type 0} (d : P ⊎ (P → ⊥)) (x y : X) → (P → ⊥) → choose d x y ≡ y
choose-no (inl holds) x y it = absurd (it holds)
choose-no (inr fails) x y it = refl

-- two texts are equal or not
pub text_or_not : (a b : List ℕ) → Decided (a ≡ b)
text_or_not [] [] = inl refl
text_or_not [] (y ∷ b) = inr (λ is. cc)
text_or_not (x ∷ a) [] = inr (λ is. cc)
text_or_not (x ∷ a) (y ∷ b) = ⊎_elim
    (λ heads. ⊎_elim (λ tails. inl (cc)) (λ fails. inr (λ is. fails (cc))) (text_or_not a b))
    (λ fails. inr (λ is. fails (cc)))
    (cases_eq x y)

pub le_or_not : (m n : ℕ) → Decided (m ≤ n)
le_or_not m n = grind arith

pub HasNo-nil : (byte : ℕ) → HasNo byte []
HasNo-nil byte i within = absurd (omega arith)

pub HasNo-cons : (byte c : ℕ) (text : List ℕ) → c ≢ byte → HasNo byte text → HasNo byte (c ∷ text)
HasNo-cons byte c text other rest zero within = other
HasNo-cons byte c text other rest (suc i) within = rest i (omega arith)

pub HasNo-tail : (byte c : ℕ) (text : List ℕ) → HasNo byte (c ∷ text) → HasNo byte text
HasNo-tail byte c text none i within = none (suc i) (omega arith)

pub HasNo-head : (byte c : ℕ) (text : List ℕ) → HasNo byte (c ∷ text) → c ≢ byte
HasNo-head byte c text none = none 0 (omega arith)

-- a text that is split at a byte has it
pub not_split : (byte : ℕ) (before after : List ℕ) → HasNo byte (before ++ (byte ∷ after)) → ⊥
not_split byte [] after none = HasNo-head byte byte after none refl
not_split byte (c ∷ before) after none = not_split byte before after (HasNo-tail byte c (before ++ (byte ∷ after)) none)

pub split_or_none : (byte : ℕ) (text before after : List ℕ) → HasNo byte text → IsSplitAt byte text before after → ⊥
split_or_none byte text before after none split = not_split byte before after (rw split.text_is at none)

parts_same : (byte : ℕ) (a b c d : List ℕ) → HasNo byte a → HasNo byte c → a ++ (byte ∷ b) ≡ c ++ (byte ∷ d) → (a ≡ c) × (b ≡ d)
parts_same byte [] b [] d none other is = (refl, cc)
parts_same byte [] b (y ∷ c) d none other is = absurd (HasNo-head byte y c other (cc))
parts_same byte (x ∷ a) b [] d none other is = absurd (HasNo-head byte x a none (cc))
parts_same byte (x ∷ a) b (y ∷ c) d none other is =
    let rest = parts_same byte a b c d (HasNo-tail byte x a none) (HasNo-tail byte y c other) (cc) in
    let head : x ≡ y = cc in
    (cc (rest.0, head), rest.1)

-- a text is split in one way at most
pub split_same : (byte : ℕ) (text a b c d : List ℕ) → IsSplitAt byte text a b → IsSplitAt byte text c d → (a ≡ c) × (b ≡ d)
split_same byte text a b c d p q = parts_same byte a b c d p.first q.first (sym p.text_is ∙ q.text_is)

-- a text has no such byte, or is split at the first
pub split_exists : (byte : ℕ) (text : List ℕ) → HasNo byte text ⊎ ((before : List ℕ) × (after : List ℕ) × IsSplitAt byte text before after)
split_exists byte [] = inl (HasNo-nil byte)
split_exists byte (c ∷ text) = ⊎_elim
    (λ is. inr ([], text, record { text_is = ap (λ b. b ∷ text) is; first = HasNo-nil byte }))
    (λ other. ⊎_elim
    (λ none. inl (HasNo-cons byte c text other none))
    (λ (before, after, split). inr (
      c ∷ before,
      after,
      record {
        text_is = ap (λ rest. c ∷ rest) split.text_is;
        first = HasNo-cons byte c before other split.first;
      },
    ))
    (split_exists byte text))
    (cases_eq c byte)
