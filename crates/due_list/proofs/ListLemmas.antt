-- Lists that go on, and the members of lists of parts.
use Rattle.std.proofs.Common.{◌≡◌, ℕ, ◌+◌, ◌<◌, List, [], ◌∷◌, ◌++◌, length, map, take, get_or, inl, inr, refl, sym, ap, ◌∙◌, subst, append_assoc, append-nil}
use Rattle.std.specs.Prelude.{Contains, flat_map}
use Rattle.std.specs.List.{AllZip}
use Rattle.std.proofs.lemmas.Grind.{flat_map-append}
use Rattle.std.proofs.lemmas.List.{map-append, take_more}
use Rattle.std.proofs.lemmas.List.Elements.{Contains-append_left, Contains-append_right}
use Rattle.due_set.proofs.Rising.{Contains-head, Contains-tail, Contains-cases, Contains-none}
use Rattle.cron_io.specs.Lines.{text_of_lines}
use Rattle.cron_io.proofs.LineLemmas.{text_of_lines-append as text_append}

-- the items before a place, and the one there
take_push : {X : Type 0} (xs : List X) (i : ℕ) (x : X) → i < length xs → x ≡ get_or xs i x → take (i + 1) xs ≡ take i xs ++ x ∷ []
take_push xs i x lt is = take_more xs i x lt ∙ ap (λ y. take i xs ++ y ∷ []) (sym is)

-- a text that was gathered from lines, and one line more
pub lines_more : {X : Type 0} (f : X → List ℕ) (xs : List X) (i : ℕ) (x : X) (old now new : List ℕ) → i < length xs → x ≡ get_or xs i x
    → now ≡ old ++ text_of_lines (map f (take i xs)) → new ≡ now ++ (f x ++ 10 ∷ []) → new ≡ old ++ text_of_lines (map f (take (i + 1) xs))
lines_more f xs i x old now new lt x_is known new_is =
    let lines : text_of_lines (map f (take (i + 1) xs)) ≡ text_of_lines (map f (take i xs)) ++ (f x ++ 10 ∷ []) =
    ap (λ l. text_of_lines (map f l)) (take_push xs i x lt x_is) ∙ ap text_of_lines (map-append f (take i xs) (x ∷ []))
    ∙ text_append (map f (take i xs)) (f x ∷ []) ∙ ap (λ (l : List ℕ). text_of_lines (map f (take i xs)) ++ l) (append-nil (f x ++ 10 ∷ [])) in
    new_is ∙ ap (λ (l : List ℕ). l ++ (f x ++ 10 ∷ [])) known ∙ append_assoc old (text_of_lines (map f (take i xs))) (f x ++ 10 ∷ []) ∙ ap (λ (l : List ℕ). old ++ l) (sym lines)

-- the items before a place, through a function
pub map_push : {X Y : Type 0} (f : X → Y) (xs : List X) (i : ℕ) (x : X) → i < length xs → x ≡ get_or xs i x → map f (take (i + 1) xs) ≡ map f (take i xs) ++ f x ∷ []
map_push f xs i x lt is = ap (map f) (take_push xs i x lt is) ∙ map-append f (take i xs) (x ∷ [])

-- one part more
pub parts_push : {X : Type 0} (parts : List (List X)) (part : List X) → flat_map (λ p. p) (parts ++ part ∷ []) ≡ flat_map (λ p. p) parts ++ part
parts_push parts part = flat_map-append (λ p. p) parts (part ∷ []) ∙ ap (λ l. flat_map (λ p. p) parts ++ l) (append-nil part)

pub zip_push : {X Y : Type 0} (R : X → Y → Type 0) (xs : List X) (ys : List Y) (x : X) (y : Y) → AllZip R xs ys → R x y → AllZip R (xs ++ x ∷ []) (ys ++ y ∷ [])
zip_push R [] [] x y all here = (here, tt)
zip_push R [] (b ∷ ys) x y all here = absurd all
zip_push R (a ∷ xs) [] x y all here = absurd all
zip_push R (a ∷ xs) (b ∷ ys) x y all here = (all.0, zip_push R xs ys x y all.1 here)

-- where each item has a partner, each list has one
pub some_zip : {X Y : Type 0} (R : X → Y → Type 0) → ((x : X) → (y : Y) × R x y) → (xs : List X) → (ys : List Y) × AllZip R xs ys
some_zip R some [] = ([], tt)
some_zip R some (x ∷ xs) =
    let first = some x in
    let rest = some_zip R some xs in
    (first.0 ∷ rest.0, (first.1, rest.1))

pub same_zip : {X Y : Type 0} (R : X → Y → Type 0) → ((x : X) (a b : Y) → R x a → R x b → a ≡ b) → (xs : List X) (as' bs : List Y) → AllZip R xs as' → AllZip R xs bs → as' ≡ bs
same_zip R same [] [] [] p q = refl
same_zip R same [] [] (b ∷ bs) p q = absurd q
same_zip R same [] (a ∷ as') bs p q = absurd p
same_zip R same (x ∷ xs) [] bs p q = absurd p
same_zip R same (x ∷ xs) (a ∷ as') [] p q = absurd q
same_zip R same (x ∷ xs) (a ∷ as') (b ∷ bs) p q =
    let head : a ≡ b = same x a b p.0 q.0 in
    let tails : as' ≡ bs = same_zip R same xs as' bs p.1 q.1 in
    cc

-- the partner of an item
pub zip_member : {X Y : Type 0} (R : X → Y → Type 0) (xs : List X) (ys : List Y) (x : X) → AllZip R xs ys → Contains xs x → (y : Y) × Contains ys y × R x y
zip_member R [] ys x all h = absurd (Contains-none x h)
zip_member R (a ∷ xs) [] x all h = absurd all
zip_member R (a ∷ xs) (b ∷ ys) x all h = elim (Contains-cases a xs x h) [
  | inl e ↦ (b, Contains-head b ys, subst (λ z. R z b) e all.0)
  | inr more ↦ (let rest = zip_member R xs ys x all.1 more in (rest.0, Contains-tail b ys rest.0 rest.1, rest.2))
]

pub Contains-parts : {X : Type 0} (parts : List (List X)) (part : List X) (x : X) → Contains parts part → Contains part x → Contains (flat_map (λ p. p) parts) x
Contains-parts [] part x h member = absurd (Contains-none part h)
Contains-parts (first ∷ parts) part x h member = elim (Contains-cases first parts part h) [
  | inl e ↦ Contains-append_left first (flat_map (λ p. p) parts) x (subst (λ p. Contains p x) (sym e) member)
  | inr more ↦ Contains-append_right first (flat_map (λ p. p) parts) x (Contains-parts parts part x more member)
]

-- what stands before a member, and behind it
pub cut_at : {X : Type 0} (xs : List X) (x : X) → Contains xs x → (front : List X) × (back : List X) × (xs ≡ front ++ x ∷ back)
cut_at [] x h = absurd (Contains-none x h)
cut_at (first ∷ xs) x h = elim (Contains-cases first xs x h) [
  | inl e ↦ ([], xs, ap (λ y. y ∷ xs) e)
  | inr more ↦ (let rest = cut_at xs x more in (first ∷ rest.0, rest.1, ap (λ l. first ∷ l) rest.2))
]
