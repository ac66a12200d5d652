-- Options, as words spell them.
use Rattle.std.proofs.Common.{◌≡◌, ◌≢◌, inl, inr, ℕ, suc, ◌≤◌, ◌+◌, List, [], ◌∷◌, ◌++◌, length, get_or, refl, sym, ap, subst, ◌∙◌, arith, length-append, decimal}
use Rattle.std.specs.Prelude.{codes}
use Rattle.std.proofs.lemmas.Fmt.{decimal_injective}
use Rattle.std.proofs.lemmas.List.{append_cancel_left}
use Rattle.program_options.specs.Words.{IsNameWithValue, BeginsWith, AreSpelledBy, behind_name}
use Rattle.program_options.specs.declared.words.Choice.{Choice}
use Rattle.program_options.specs.declared.words.Choice.TheVariants as choice

-- two numbers of lanes that are written alike are one
same_lanes : (a b : ℕ) → a ≤ 8 → b ≤ 8 → decimal a ≡ decimal b → choice.Lanes a ≡ choice.Lanes b
same_lanes a b small low is = ap choice.Lanes (decimal_injective a b (omega (arith, small)) (omega (arith, low)) is)

-- two numbers of seeds that are written alike are one
same_seeds : (a b : ℕ) → a ≤ 4_294_967_295 → b ≤ 4_294_967_295 → decimal a ≡ decimal b → choice.Make a ≡ choice.Make b
same_seeds a b small low is = ap choice.Make (decimal_injective a b (omega (arith, small)) (omega (arith, low)) is)

-- a name is no name with a value
pub longer : (name value : List ℕ) → name ≡ name ++ codes "=" ++ value → ⊥
longer name value is =
    let size : length name ≡ length (name ++ codes "=") + length value = ap length is ∙ length-append (name ++ codes "=") value in
    let more : length (name ++ codes "=") ≡ length name + 1 = length-append name (codes "=") in
    omega (arith, size, more)

-- words begin with one word
same_head : (a b : List ℕ) (ps qs p q words rest others : List (List ℕ)) → p ≡ a ∷ ps → words ≡ p ++ rest → q ≡ b ∷ qs → words ≡ q ++ others
    → (a ≡ b) × (ps ++ rest ≡ qs ++ others)
same_head a b ps qs p q words rest others pa pw qb qw =
    let joined : a ∷ ps ++ rest ≡ b ∷ qs ++ others = sym (ap (λ x. x ++ rest) pa) ∙ sym pw ∙ qw ∙ ap (λ x. x ++ others) qb in
    (ap (λ (l : List (List ℕ)). get_or l 0 []) joined, ap behind_name joined)

-- words begin with a name and one value
same_valued : (name a b : List ℕ) (p q words rest others : List (List ℕ)) → IsNameWithValue name a p → words ≡ p ++ rest → IsNameWithValue name b q → words ≡ q ++ others
    → (a ≡ b) × (rest ≡ others)
same_valued name a b p q words rest others (inl pa) pw (inl qa) qw =
    let behind = (same_head _ _ _ _ p q words rest others pa pw qa qw).1 in
    (ap (λ (l : List (List ℕ)). get_or l 0 []) behind, ap behind_name behind)
same_valued name a b p q words rest others (inl pa) pw (inr qa) qw =
    absurd (longer name b (same_head _ _ _ _ p q words rest others pa pw qa qw).0)
same_valued name a b p q words rest others (inr pa) pw (inl qa) qw =
    absurd (longer name a (sym (same_head _ _ _ _ p q words rest others pa pw qa qw).0))
same_valued name a b p q words rest others (inr pa) pw (inr qa) qw =
    let same = same_head _ _ _ _ p q words rest others pa pw qa qw in
    (append_cancel_left (name ++ codes "=") a b same.0, same.1)

-- the third and the fourth letter of a word tell the options apart
abbrev letters_of : List ℕ → ℕ
letters_of word = get_or word 2 0 + get_or word 3 0

abbrev letters : Choice → ℕ
letters choice.List = 213
letters choice.Check = 203
letters choice.Audit = 214
letters choice.Journal = 217
letters choice.Watch = 216
letters (choice.Make s) = 206
letters (choice.Lanes n) = 205

first_letters : (word : List ℕ) (ps p words rest : List (List ℕ)) → p ≡ word ∷ ps → words ≡ p ++ rest → letters_of (get_or words 0 []) ≡ letters_of word
first_letters word ps p words rest pa pw = ap (λ (l : List (List ℕ)). letters_of (get_or l 0 [])) (pw ∙ ap (λ (l : List (List ℕ)). l ++ rest) pa)

letters_begin : (a : Choice) (words rest : List (List ℕ)) → BeginsWith a words rest → letters_of (get_or words 0 []) ≡ letters a
letters_begin choice.List words rest (p, pa, pw) = first_letters (codes "--list") [] p words rest pa pw
letters_begin choice.Check words rest (p, pa, pw) = first_letters (codes "--check") [] p words rest pa pw
letters_begin choice.Audit words rest (p, pa, pw) = first_letters (codes "--audit") [] p words rest pa pw
letters_begin choice.Journal words rest (p, pa, pw) = first_letters (codes "--journal") [] p words rest pa pw
letters_begin choice.Watch words rest (p, pa, pw) = first_letters (codes "--watch") [] p words rest pa pw
letters_begin (choice.Make s) words rest (p, (l, inl pa), pw) = first_letters (codes "--make") (decimal s ∷ []) p words rest pa pw
letters_begin (choice.Make s) words rest (p, (l, inr pa), pw) = first_letters (codes "--make" ++ codes "=" ++ decimal s) [] p words rest pa pw
letters_begin (choice.Lanes n) words rest (p, (l, m, inl pa), pw) = first_letters (codes "--lanes") (decimal n ∷ []) p words rest pa pw
letters_begin (choice.Lanes n) words rest (p, (l, m, inr pa), pw) = first_letters (codes "--lanes" ++ codes "=" ++ decimal n) [] p words rest pa pw

same_option : (a b : Choice) (words rest others : List (List ℕ)) → letters a ≡ letters b → BeginsWith a words rest → BeginsWith b words others → (a ≡ b) × (rest ≡ others)
same_option choice.List choice.List words rest others e (p, pa, pw) (q, qa, qw) = (refl, (same_head _ _ _ _ p q words rest others pa pw qa qw).1)
same_option choice.List choice.Check words rest others e first second = absurd (let apart : 213 ≡ 203 = e in omega (arith, apart))
same_option choice.List choice.Audit words rest others e first second = absurd (let apart : 213 ≡ 214 = e in omega (arith, apart))
same_option choice.List choice.Journal words rest others e first second = absurd (let apart : 213 ≡ 217 = e in omega (arith, apart))
same_option choice.List choice.Watch words rest others e first second = absurd (let apart : 213 ≡ 216 = e in omega (arith, apart))
same_option choice.List (choice.Make s') words rest others e first second = absurd (let apart : 213 ≡ 206 = e in omega (arith, apart))
same_option choice.List (choice.Lanes n') words rest others e first second = absurd (let apart : 213 ≡ 205 = e in omega (arith, apart))
same_option choice.Check choice.List words rest others e first second = absurd (let apart : 203 ≡ 213 = e in omega (arith, apart))
same_option choice.Check choice.Check words rest others e (p, pa, pw) (q, qa, qw) = (refl, (same_head _ _ _ _ p q words rest others pa pw qa qw).1)
same_option choice.Check choice.Audit words rest others e first second = absurd (let apart : 203 ≡ 214 = e in omega (arith, apart))
same_option choice.Check choice.Journal words rest others e first second = absurd (let apart : 203 ≡ 217 = e in omega (arith, apart))
same_option choice.Check choice.Watch words rest others e first second = absurd (let apart : 203 ≡ 216 = e in omega (arith, apart))
same_option choice.Check (choice.Make s') words rest others e first second = absurd (let apart : 203 ≡ 206 = e in omega (arith, apart))
same_option choice.Check (choice.Lanes n') words rest others e first second = absurd (let apart : 203 ≡ 205 = e in omega (arith, apart))
same_option choice.Audit choice.List words rest others e first second = absurd (let apart : 214 ≡ 213 = e in omega (arith, apart))
same_option choice.Audit choice.Check words rest others e first second = absurd (let apart : 214 ≡ 203 = e in omega (arith, apart))
same_option choice.Audit choice.Audit words rest others e (p, pa, pw) (q, qa, qw) = (refl, (same_head _ _ _ _ p q words rest others pa pw qa qw).1)
same_option choice.Audit choice.Journal words rest others e first second = absurd (let apart : 214 ≡ 217 = e in omega (arith, apart))
same_option choice.Audit choice.Watch words rest others e first second = absurd (let apart : 214 ≡ 216 = e in omega (arith, apart))
same_option choice.Audit (choice.Make s') words rest others e first second = absurd (let apart : 214 ≡ 206 = e in omega (arith, apart))
same_option choice.Audit (choice.Lanes n') words rest others e first second = absurd (let apart : 214 ≡ 205 = e in omega (arith, apart))
same_option choice.Journal choice.List words rest others e first second = absurd (let apart : 217 ≡ 213 = e in omega (arith, apart))
same_option choice.Journal choice.Check words rest others e first second = absurd (let apart : 217 ≡ 203 = e in omega (arith, apart))
same_option choice.Journal choice.Audit words rest others e first second = absurd (let apart : 217 ≡ 214 = e in omega (arith, apart))
same_option choice.Journal choice.Journal words rest others e (p, pa, pw) (q, qa, qw) = (refl, (same_head _ _ _ _ p q words rest others pa pw qa qw).1)
same_option choice.Journal choice.Watch words rest others e first second = absurd (let apart : 217 ≡ 216 = e in omega (arith, apart))
same_option choice.Journal (choice.Make s') words rest others e first second = absurd (let apart : 217 ≡ 206 = e in omega (arith, apart))
same_option choice.Journal (choice.Lanes n') words rest others e first second = absurd (let apart : 217 ≡ 205 = e in omega (arith, apart))
same_option choice.Watch choice.List words rest others e first second = absurd (let apart : 216 ≡ 213 = e in omega (arith, apart))
same_option choice.Watch choice.Check words rest others e first second = absurd (let apart : 216 ≡ 203 = e in omega (arith, apart))
same_option choice.Watch choice.Audit words rest others e first second = absurd (let apart : 216 ≡ 214 = e in omega (arith, apart))
same_option choice.Watch choice.Journal words rest others e first second = absurd (let apart : 216 ≡ 217 = e in omega (arith, apart))
same_option choice.Watch choice.Watch words rest others e (p, pa, pw) (q, qa, qw) = (refl, (same_head _ _ _ _ p q words rest others pa pw qa qw).1)
same_option choice.Watch (choice.Make s') words rest others e first second = absurd (let apart : 216 ≡ 206 = e in omega (arith, apart))
same_option choice.Watch (choice.Lanes n') words rest others e first second = absurd (let apart : 216 ≡ 205 = e in omega (arith, apart))
same_option (choice.Make s) choice.List words rest others e first second = absurd (let apart : 206 ≡ 213 = e in omega (arith, apart))
same_option (choice.Make s) choice.Check words rest others e first second = absurd (let apart : 206 ≡ 203 = e in omega (arith, apart))
same_option (choice.Make s) choice.Audit words rest others e first second = absurd (let apart : 206 ≡ 214 = e in omega (arith, apart))
same_option (choice.Make s) choice.Journal words rest others e first second = absurd (let apart : 206 ≡ 217 = e in omega (arith, apart))
same_option (choice.Make s) choice.Watch words rest others e first second = absurd (let apart : 206 ≡ 216 = e in omega (arith, apart))
same_option (choice.Make s) (choice.Make s') words rest others e (p, (l, pa), pw) (q, (l', qa), qw) =
    let same = same_valued (codes "--make") (decimal s) (decimal s') p q words rest others pa pw qa qw in (same_seeds s s' l l' same.0, same.1)
same_option (choice.Make s) (choice.Lanes n') words rest others e first second = absurd (let apart : 206 ≡ 205 = e in omega (arith, apart))
same_option (choice.Lanes n) choice.List words rest others e first second = absurd (let apart : 205 ≡ 213 = e in omega (arith, apart))
same_option (choice.Lanes n) choice.Check words rest others e first second = absurd (let apart : 205 ≡ 203 = e in omega (arith, apart))
same_option (choice.Lanes n) choice.Audit words rest others e first second = absurd (let apart : 205 ≡ 214 = e in omega (arith, apart))
same_option (choice.Lanes n) choice.Journal words rest others e first second = absurd (let apart : 205 ≡ 217 = e in omega (arith, apart))
same_option (choice.Lanes n) choice.Watch words rest others e first second = absurd (let apart : 205 ≡ 216 = e in omega (arith, apart))
same_option (choice.Lanes n) (choice.Make s') words rest others e first second = absurd (let apart : 205 ≡ 206 = e in omega (arith, apart))
same_option (choice.Lanes n) (choice.Lanes n') words rest others e (p, (l, m, pa), pw) (q, (l', m', qa), qw) =
    let same = same_valued (codes "--lanes") (decimal n) (decimal n') p q words rest others pa pw qa qw in (same_lanes n n' m m' same.0, same.1)

-- words begin with one option at most, and behind it stand the same words
pub one_first : (a b : Choice) (words rest others : List (List ℕ)) → BeginsWith a words rest → BeginsWith b words others → (a ≡ b) × (rest ≡ others)
one_first a b words rest others first second =
    same_option a b words rest others (sym (letters_begin a words rest first) ∙ letters_begin b words others second) first second

pub word_there : (a : List ℕ) (ps p words others : List (List ℕ)) → p ≡ a ∷ ps → words ≡ p ++ others → words ≢ []
word_there a ps p words others pa pw none =
    let joined : a ∷ ps ++ others ≡ [] = sym (ap (λ x. x ++ others) pa) ∙ sym pw ∙ none in
    let size : suc (length (ps ++ others)) ≡ 0 = ap (λ (l : List (List ℕ)). length l) joined in
    omega (arith, size)

-- no option begins where there is no word
pub begins_somewhere : (a : Choice) (words others : List (List ℕ)) → BeginsWith a words others → words ≢ []
begins_somewhere choice.List words others (p, pa, pw) none = word_there _ _ p words others pa pw none
begins_somewhere choice.Check words others (p, pa, pw) none = word_there _ _ p words others pa pw none
begins_somewhere choice.Audit words others (p, pa, pw) none = word_there _ _ p words others pa pw none
begins_somewhere choice.Journal words others (p, pa, pw) none = word_there _ _ p words others pa pw none
begins_somewhere choice.Watch words others (p, pa, pw) none = word_there _ _ p words others pa pw none
begins_somewhere (choice.Make s) words others (p, (l, inl pa), pw) none = word_there _ _ p words others pa pw none
begins_somewhere (choice.Make s) words others (p, (l, inr pa), pw) none = word_there _ _ p words others pa pw none
begins_somewhere (choice.Lanes n) words others (p, (l, m, inl pa), pw) none = word_there _ _ p words others pa pw none
begins_somewhere (choice.Lanes n) words others (p, (l, m, inr pa), pw) none = word_there _ _ p words others pa pw none

-- words spell one list of options
pub one_spelled : (xs ys : List Choice) (words : List (List ℕ)) → AreSpelledBy xs words → AreSpelledBy ys words → xs ≡ ys
one_spelled [] [] words first second = refl
one_spelled [] (y ∷ ys) words none (others, begins, spelled) = absurd (begins_somewhere y words others begins none)
one_spelled (x ∷ xs) [] words (others, begins, spelled) none = absurd (begins_somewhere x words others begins none)
one_spelled (x ∷ xs) (y ∷ ys) words (others, begins, spelled) (others', begins', spelled') =
    let same = one_first x y words others others' begins begins' in
    let rest : xs ≡ ys = one_spelled xs ys others spelled (subst (AreSpelledBy ys) (sym same.1) spelled') in
    cc
