-- Texts cut at their first space.
use Rattle.std.proofs.Common.{◌≡◌, ◌≢◌, ℕ, ◌<◌, List, [], ◌∷◌, ◌++◌, length, get_or, Option, Some, None, Bor, IfNone, refl, ap, ◌∙◌, sym, subst, arith}
use Rattle.std.specs.List.{AllByRecursion}
use Rattle.std.specs.Str.Pattern.{FindsTextPrefix, StripsPrefix}
use Rattle.std.proofs.lemmas.List.Elements.{All-from_get_or, recursion_from_All}
use Rattle.std.proofs.lemmas.Str.Pattern.{IsSplitOnceResult, split_parts}

-- the byte stands nowhere in the text
abbrev pub Lacks : ℕ → List ℕ → Type 0
Lacks byte text = AllByRecursion (λ c. c ≢ byte) text

pub Lacks-from_get_or : (byte : ℕ) (text : List ℕ) → ((i : ℕ) → i < length text → get_or text i 0 ≢ byte) → Lacks byte text
Lacks-from_get_or byte text h = recursion_from_All (λ c. c ≢ byte) text (All-from_get_or (λ c. c ≢ byte) text 0 h)

-- there is one way to cut a text at its first such byte
pub same_cut : (byte : ℕ) (a b x y : List ℕ) → Lacks byte a → Lacks byte b → a ++ byte ∷ x ≡ b ++ byte ∷ y → (a ≡ b) × (x ≡ y)
same_cut byte [] [] x y la lb e = let tails : x ≡ y = cc in (refl, tails)
same_cut byte [] (b ∷ bs) x y la lb e =
    let head : b ≡ byte = cc in absurd (lb.0 head)
same_cut byte (a ∷ as') [] x y la lb e =
    let head : a ≡ byte = cc in absurd (la.0 head)
same_cut byte (a ∷ as') (b ∷ bs) x y la lb e =
    let rest : as' ++ byte ∷ x ≡ bs ++ byte ∷ y = cc in
    let more = same_cut byte as' bs x y la.1 lb.1 rest in
    let head : a ≡ b = cc in
    let tail = more.0 in
    (cc, more.1)

-- such a byte stands in no text that lacks it
pub lacks_none : (byte : ℕ) (a x : List ℕ) → Lacks byte (a ++ byte ∷ x) → ⊥
lacks_none byte [] x lacks = lacks.0 refl
lacks_none byte (a ∷ as') x lacks = lacks_none byte as' x lacks.1

-- a text is cut at its first space
pub record IsCutAtSpace (text front back : List ℕ) : Type 0 where
  pub parts : text ≡ front ++ 32 ∷ back
  pub lacks : Lacks 32 front

-- what `split_once` answers with
pub cut_at_space : (text : List ℕ) (parts : Bor (List ℕ) × Bor (List ℕ)) → IsSplitOnceResult 32 text (Some parts) → IsCutAtSpace text parts.0.now parts.1.now
cut_at_space text parts split =
    let (is, lacks) = split_parts 32 text (Some parts) split (omega arith) in
    record { parts = is; lacks = Lacks-from_get_or 32 parts.0.now lacks }

pub lacks_space : (text : List ℕ) → IsSplitOnceResult 32 text None → Lacks 32 text
lacks_space text split = Lacks-from_get_or 32 text (split_parts 32 text None split (omega arith))

pub no_space : (text : List ℕ) → IsSplitOnceResult 32 text None → (a b : List ℕ) → text ≡ a ++ 32 ∷ b → ⊥
no_space text split a b is = lacks_none 32 a b (subst (Lacks 32) is (lacks_space text split))

pub same_parts : (text a b x y : List ℕ) → IsCutAtSpace text a x → Lacks 32 b → text ≡ b ++ 32 ∷ y → (a ≡ b) × (x ≡ y)
same_parts text a b x y cut lacks is = same_cut 32 a b x y cut.lacks lacks (sym cut.parts ∙ is)

-- what `strip_prefix` leaves
pub strips : (prefix text rest : List ℕ) → StripsPrefix (FindsTextPrefix prefix) text rest → text ≡ prefix ++ rest
strips prefix text rest (n, found, is, long) = found.1 ∙ ap (λ t. prefix ++ t) (sym is)

-- a fact that holds anyway holds for `None`
pub if_none : {T : Type 0} (r : Option T) {P : Type 0} → P → IfNone r P
if_none None p = p
if_none (Some x) p = tt

-- what follows for `None` from two facts that hold for it
pub none_so : {T : Type 0} (r : Option T) {P Q R : Type 0} → IfNone r P → IfNone r Q → (P → Q → R) → IfNone r R
none_so None p q f = f p q
none_so (Some x) p q f = tt
