-- What words ask for.
use Rattle.std.proofs.Common.{◌≡◌, ◌≢◌, inl, inr, ℕ, zero, suc, ◌<◌, ◌≤◌, List, [], ◌∷◌, ◌++◌, length, get_or, Option, None, Some, refl, sym, ap, subst, ◌∙◌, arith, append_assoc, decimal}
use Rattle.std.specs.Prelude.{AllPairs, Bool, IfNone, IfSome, String, codes, false, filter_map, option_to_list, unwrap_or}
use Rattle.std.specs.List.{list_any}
use Rattle.std.specs.Str.Pattern.{FindsTextPrefix, StripsPrefix}
use Rattle.std.specs.Vec.Iter.{into_iter_items, into_iter_len, into_iter_steps}
use Rattle.std.specs.declared.alloc.Global.{Global}
use Rattle.std.specs.declared.vec.IntoIter.{IntoIter}
use Rattle.std.proofs.lemmas.Fmt.{decimal_injective}
use Rattle.std.proofs.lemmas.List.{append-nil, nil_from_length}
use Rattle.std.proofs.lemmas.List.Quantifiers.{all_pairs_push}
use Rattle.program_options.specs.Words.{IsSpelledBy, BeginsWith, AreSpelledBy, MayStandTogether, is_watch, lanes_of, request_of, request_asked, wanted, Asks, HasNoOptions, AreWishesOf, texts_of, behind_name}
use Rattle.program_options.specs.declared.words.Asked.{Asked}
use Rattle.program_options.specs.declared.words.Choice.{Choice}
use Rattle.program_options.specs.declared.words.Choice.TheVariants as choice
use Rattle.program_options.specs.declared.words.Output.TheVariants.{Report}
use Rattle.program_options.specs.declared.words.Request.{Request}
use Rattle.program_options.specs.declared.words.Request.TheVariants.{Text}
use Rattle.program_options.specs.declared.words.Wishes.{Wishes}
use Rattle.program_options.proofs.OptionLemmas.{begins_somewhere, one_first, one_spelled, word_there}
use Rattle.program_options.proofs.WishLemmas.{together_none}

-- what is so anyway is so where there is none
pub if_none : {T P : Type 0} (r : Option T) → P → IfNone r P
if_none None holds = holds
if_none (Some x) holds = tt

-- words ask for one thing
pub asks_one : (words : List (List ℕ)) (a b : Asked) → Asks words a → Asks words b → a ≡ b
asks_one words a b first second = first.2 ∙ ap wanted (one_spelled first.0 second.0 words first.1.spelled second.1.spelled) ∙ sym second.2

-- the words of an option
pub lanes_apart : (word value : List ℕ) (n : ℕ) (items rest : List (List ℕ)) → word ≡ codes "--lanes" → (1 ≤ n) × (n ≤ 8) × (value ≡ decimal n) → items ≡ value ∷ rest
    → BeginsWith (choice.Lanes n) (word ∷ items) rest
lanes_apart word value n items rest is number next =
    let own : word ∷ value ∷ [] ≡ codes "--lanes" ∷ decimal n ∷ [] = rw (is, number.2) refl in
    (word ∷ value ∷ [], (number.0, number.1, inl own), ap (λ (xs : List (List ℕ)). word ∷ xs) next)

pub seed_apart : (word value : List ℕ) (n : ℕ) (items rest : List (List ℕ)) → word ≡ codes "--make" → (n ≤ 4_294_967_295) × (value ≡ decimal n) → items ≡ value ∷ rest
    → BeginsWith (choice.Make n) (word ∷ items) rest
seed_apart word value n items rest is number next =
    let own : word ∷ value ∷ [] ≡ codes "--make" ∷ decimal n ∷ [] = rw (is, number.1) refl in
    (word ∷ value ∷ [], (number.0, inl own), ap (λ (xs : List (List ℕ)). word ∷ xs) next)

pub lanes_joined : (word value : List ℕ) (n : ℕ) → StripsPrefix (FindsTextPrefix (codes "--lanes=")) word value → (1 ≤ n) × (n ≤ 8) × (value ≡ decimal n)
    → IsSpelledBy (choice.Lanes n) (word ∷ [])
lanes_joined word value n (size, found, cut, long) number =
    let is : word ≡ codes "--lanes=" ++ value = found.1 ∙ ap (λ t. codes "--lanes=" ++ t) (sym cut) in
    let own : word ∷ [] ≡ (codes "--lanes" ++ codes "=" ++ decimal n) ∷ [] = rw (is, number.2) refl in
    (number.0, number.1, inr own)

pub seed_joined : (word value : List ℕ) (n : ℕ) → StripsPrefix (FindsTextPrefix (codes "--make=")) word value → (n ≤ 4_294_967_295) × (value ≡ decimal n)
    → IsSpelledBy (choice.Make n) (word ∷ [])
seed_joined word value n (size, found, cut, long) number =
    let is : word ≡ codes "--make=" ++ value = found.1 ∙ ap (λ t. codes "--make=" ++ t) (sym cut) in
    let own : word ∷ [] ≡ (codes "--make" ++ codes "=" ++ decimal n) ∷ [] = rw (is, number.1) refl in
    (number.0, inr own)

-- a word that spells an option begins any words with it
pub spelled_begins : (r : Option Choice) (word : List ℕ) (items : List (List ℕ)) → IfSome r (λ c. IsSpelledBy c (word ∷ [])) → IfSome r (λ c. BeginsWith c (word ∷ items) items)
spelled_begins None word items is = tt
spelled_begins (Some c) word items is = (word ∷ [], is, refl)

-- 0 is no number of lanes
pub no_lanes_of_zero : (text : List ℕ) (n : ℕ) → text ≡ decimal n → n ≡ 0 → (lanes : ℕ) → 1 ≤ lanes → lanes ≤ 8 → text ≢ decimal lanes
no_lanes_of_zero text n is zero_is lanes some most says =
    let same : n ≡ lanes = decimal_injective n lanes (omega (arith, zero_is)) (omega (arith, most)) (sym is ∙ says) in
    omega (arith, same, zero_is, some)

-- The words up to the rest are those of options that ask for this, and any options of all words begin with these.
pub record HasRead (all : List (List ℕ)) (wishes : Wishes) (rest : List (List ℕ)) : Type 0 where
  pub before : List Choice
  pub are : AreWishesOf before wishes
  pub spelled : (behind : List Choice) → AreSpelledBy behind rest → AreSpelledBy (before ++ behind) all
  pub only : (choices : List Choice) → AreSpelledBy choices all → (behind : List Choice) × (choices ≡ before ++ behind) × AreSpelledBy behind rest

pub nothing_read : (all : List (List ℕ)) (wishes : Wishes) → wishes.instead ≡ None → wishes.watch ≡ false → wishes.journal ≡ false → wishes.lanes ≡ None → HasRead all wishes all
nothing_read all wishes instead watch journal lanes = record {
  before = [];
  are = record {
    together = together_none;
    instead = sym (ap option_to_list instead);
    watch = sym watch;
    journal = sym journal;
    lanes = sym (ap option_to_list lanes);
  };
  spelled = λ behind is. is;
  only = λ choices is. (choices, refl, is);
}

-- the option that the rest begins with is the next one of any options of all words
next_is : (all rest others : List (List ℕ)) (old : Wishes) (c : Choice) (read : HasRead all old rest) → BeginsWith c rest others → (choices : List Choice) → AreSpelledBy choices all
    → (behind : List Choice) × (choices ≡ read.before ++ c ∷ behind) × AreSpelledBy behind others
next_is all rest others old c read begins choices spelled = go (read.only choices spelled)
  where
    go : (behind : List Choice) × (choices ≡ read.before ++ behind) × AreSpelledBy behind rest → (behind : List Choice) × (choices ≡ read.before ++ c ∷ behind) × AreSpelledBy behind others
    go ([], is, none) = absurd (begins_somewhere c rest others begins none)
    go (x ∷ xs, is, (others', begins', spelled')) =
        let same = one_first x c rest others' others begins' begins in
        (xs, subst (λ y. choices ≡ read.before ++ y ∷ xs) same.0 is, subst (AreSpelledBy xs) same.1 spelled')

pub option_read : (all rest others : List (List ℕ)) (old new : Wishes) (c : Choice) → HasRead all old rest → BeginsWith c rest others
    → ((before : List Choice) → AreWishesOf before old → AreWishesOf (before ++ c ∷ []) new) → HasRead all new others
option_read all rest others old new c read begins more = record {
  before = read.before ++ c ∷ [];
  are = more read.before read.are;
  spelled = λ behind is. subst (λ choices. AreSpelledBy choices all) (sym (append_assoc read.before (c ∷ []) behind)) (read.spelled (c ∷ behind) (others, begins, is));
  only = λ choices spelled. let next = next_is all rest others old c read begins choices spelled in (next.0, next.1 ∙ sym (append_assoc read.before (c ∷ []) next.0), next.2);
}

-- the option may not stand beside those before it
pub option_clashes : (all rest others : List (List ℕ)) (old : Wishes) (c : Choice) → HasRead all old rest → BeginsWith c rest others
    → ((before behind : List Choice) → AreWishesOf before old → AllPairs MayStandTogether (before ++ c ∷ behind) → ⊥) → HasNoOptions all
option_clashes all rest others old c read begins clash choices words =
    let next = next_is all rest others old c read begins choices words.spelled in
    clash read.before next.0 read.are (subst (AllPairs MayStandTogether) next.1 words.together)

-- the rest begins with no option
pub no_option : (all rest tail : List (List ℕ)) (word : List ℕ) (old : Wishes) → HasRead all old rest → rest ≡ word ∷ tail
    → ((c : Choice) (others : List (List ℕ)) → BeginsWith c (word ∷ tail) others → ⊥) → HasNoOptions all
no_option all rest tail word old read is none choices words = go (read.only choices words.spelled)
  where
    go : (behind : List Choice) × (choices ≡ read.before ++ behind) × AreSpelledBy behind rest → ⊥
    go ([], same, empty) = absurd (cc)
    go (x ∷ xs, same, (others, begins, spelled)) = none x others (subst (λ words. BeginsWith x words others) is begins)

pub same_asked : (a b : Asked) → a.request ≡ b.request → a.lanes ≡ b.lanes → a ≡ b
same_asked a b request lanes = rw (request, lanes) refl

first_or : {Y : Type 0} (o : Option Y) (d : Y) → unwrap_or o d ≡ get_or (option_to_list o) 0 d
first_or None d = refl
first_or (Some y) d = refl

pub asked_is : (wishes : Wishes) (asked : Asked) (choices : List Choice) → asked.request ≡ unwrap_or wishes.instead (Text (Report wishes.watch wishes.journal))
    → asked.lanes ≡ unwrap_or wishes.lanes 1 → AreWishesOf choices wishes → asked ≡ wanted choices
asked_is wishes asked choices request lanes are =
    same_asked asked (wanted choices)
    (request ∙ first_or wishes.instead (Text (Report wishes.watch wishes.journal))
    ∙ ap (λ (l : List Request). get_or l 0 (Text (Report wishes.watch wishes.journal))) (sym are.instead)
    ∙ ap (λ (b : Bool). get_or (filter_map request_asked choices) 0 (Text (Report b wishes.journal))) (sym are.watch)
    ∙ ap (λ (b : Bool). get_or (filter_map request_asked choices) 0 (Text (Report (list_any is_watch choices) b))) (sym are.journal))
    (lanes ∙ first_or wishes.lanes 1 ∙ ap (λ (l : List ℕ). get_or l 0 1) (sym are.lanes))

-- no word is left
pub all_read : (all rest : List (List ℕ)) (wishes : Wishes) (asked : Asked) → HasRead all wishes rest → rest ≡ []
    → asked.request ≡ unwrap_or wishes.instead (Text (Report wishes.watch wishes.journal)) → asked.lanes ≡ unwrap_or wishes.lanes 1 → Asks all asked
all_read all rest wishes asked read none request lanes = (
  read.before,
  record { spelled = subst (λ (choices : List Choice). AreSpelledBy choices all) (append-nil read.before) (read.spelled [] none); together = read.are.together },
  asked_is wishes asked read.before request lanes read.are,
)

-- what one option asks for
spelled_alone : (c : Choice) (own : List (List ℕ)) → IsSpelledBy c own → AreSpelledBy (c ∷ []) own
spelled_alone c own is = ([], (own, is, sym (append-nil own)), refl)

together_one : (a : Choice) → AllPairs MayStandTogether (a ∷ [])
together_one a i j d lt within = absurd (omega arith)

together_two : (a b : Choice) → MayStandTogether a b → AllPairs MayStandTogether (a ∷ b ∷ [])
together_two a b may = all_pairs_push MayStandTogether (a ∷ []) b (together_one a) (behind a b may)
  where
    behind : (a b : Choice) → MayStandTogether a b → (k : ℕ) (d : Choice) → k < length (a ∷ []) → MayStandTogether (get_or (a ∷ []) k d) b
    behind a b may zero d within = may
    behind a b may (suc k) d within = absurd (omega (arith, within))

pub asks_report : (words : List (List ℕ)) → words ≡ [] → Asks words (wanted [])
asks_report words is = ([], record { spelled = is; together = together_none }, refl)

pub asks_none : (words : List (List ℕ)) (asked : Asked) → words ≡ [] → asked.request ≡ Text (Report false false) → asked.lanes ≡ 1 → Asks words asked
asks_none words asked is request lanes = ([], record { spelled = is; together = together_none }, same_asked asked (wanted []) request lanes)

pub asks_alone : (c : Choice) (own : List (List ℕ)) (asked : Asked) → IsSpelledBy c own → asked.request ≡ request_of (c ∷ [])
    → asked.lanes ≡ lanes_of (c ∷ []) → Asks own asked
asks_alone c own asked is request lanes =
    (c ∷ [], record { spelled = spelled_alone c own is; together = together_one c }, same_asked asked (wanted (c ∷ [])) request lanes)

pub asks_both : (a b : Choice) (own other : List (List ℕ)) (asked : Asked) → IsSpelledBy a own → IsSpelledBy b other → MayStandTogether a b
    → asked ≡ wanted (a ∷ b ∷ []) → Asks (own ++ other) asked
asks_both a b own other asked first second may is =
    (a ∷ b ∷ [], record { spelled = (other, (own, first, refl), spelled_alone b other second); together = together_two a b may }, is)

-- two options that may not stand together ask for nothing, whatever stands behind them
pub asks_clash : (a b : Choice) (own other behind : List (List ℕ)) → IsSpelledBy a own → IsSpelledBy b other → (MayStandTogether a b → ⊥) → HasNoOptions (own ++ (other ++ behind))
asks_clash a b own other behind first second apart [] are = begins_somewhere a (own ++ (other ++ behind)) (other ++ behind) (own, first, refl) are.spelled
asks_clash a b own other behind first second apart (x ∷ []) are =
    let spelled = are.spelled in
    let same = one_first x a (own ++ (other ++ behind)) spelled.0 (other ++ behind) spelled.1 (own, first, refl) in
    begins_somewhere b (other ++ behind) behind (other, second, refl) (sym same.1 ∙ spelled.2)
asks_clash a b own other behind first second apart (x ∷ y ∷ more) are =
    let spelled = are.spelled in
    let same = one_first x a (own ++ (other ++ behind)) spelled.0 (other ++ behind) spelled.1 (own, first, refl) in
    let rest = spelled.2 in
    let next = one_first y b spelled.0 rest.0 behind rest.1 (subst (λ (words : List (List ℕ)). BeginsWith b words behind) (sym same.1) (other, second, refl)) in
    apart (subst (λ (c : Choice). MayStandTogether c b) same.0 (subst (MayStandTogether x) next.0 (are.together zero (suc zero) x (omega arith) (omega arith))))

-- the word is no option, and no name with a value that is one
pub record IsNoOption (word : List ℕ) : Type 0 where
  pub list : word ≢ codes "--list"
  pub check : word ≢ codes "--check"
  pub audit : word ≢ codes "--audit"
  pub journal : word ≢ codes "--journal"
  pub watch : word ≢ codes "--watch"
  pub lanes : word ≢ codes "--lanes"
  pub make : word ≢ codes "--make"
  pub with_lanes : (n : ℕ) → 1 ≤ n → n ≤ 8 → word ≢ codes "--lanes" ++ codes "=" ++ decimal n
  pub with_seed : (s : ℕ) → s ≤ 4_294_967_295 → word ≢ codes "--make" ++ codes "=" ++ decimal s

module _ (word : List ℕ) (words : List (List ℕ)) (other : IsNoOption word) where
  is_first : (head : List ℕ) (ps own others : List (List ℕ)) → own ≡ head ∷ ps → word ∷ words ≡ own ++ others → word ≡ head
  is_first head ps own others spells whole = ap (λ (l : List (List ℕ)). get_or l 0 []) (whole ∙ ap (λ (l : List (List ℕ)). l ++ others) spells)

  -- it begins no option
  pub begins_none : (x : Choice) (others : List (List ℕ)) → BeginsWith x (word ∷ words) others → ⊥
  begins_none choice.List others (own, spells, whole) = other.list (is_first _ _ own others spells whole)
  begins_none choice.Check others (own, spells, whole) = other.check (is_first _ _ own others spells whole)
  begins_none choice.Audit others (own, spells, whole) = other.audit (is_first _ _ own others spells whole)
  begins_none choice.Journal others (own, spells, whole) = other.journal (is_first _ _ own others spells whole)
  begins_none choice.Watch others (own, spells, whole) = other.watch (is_first _ _ own others spells whole)
  begins_none (choice.Make s) others (own, (l, inl spells), whole) = other.make (is_first _ _ own others spells whole)
  begins_none (choice.Make s) others (own, (l, inr spells), whole) = other.with_seed s l (is_first _ _ own others spells whole)
  begins_none (choice.Lanes n) others (own, (l, m, inl spells), whole) = other.lanes (is_first _ _ own others spells whole)
  begins_none (choice.Lanes n) others (own, (l, m, inr spells), whole) = other.with_lanes n l m (is_first _ _ own others spells whole)

-- a first word that begins no option asks for nothing
pub asks_unknown : (word : List ℕ) (words : List (List ℕ)) → IsNoOption word → HasNoOptions (word ∷ words)
asks_unknown word words other [] are = word_there word words (word ∷ words) (word ∷ words) [] refl (sym (append-nil (word ∷ words))) are.spelled
asks_unknown word words other (x ∷ xs) are = let spelled = are.spelled in begins_none word words other x spelled.0 spelled.1

-- the number of lanes that is asked for, or one
lane_counts : (choices : List Choice) (words : List (List ℕ)) → AreSpelledBy choices words → (1 ≤ lanes_of choices) × (lanes_of choices ≤ 8)
lane_counts [] words is = (omega arith, omega arith)
lane_counts (choice.List ∷ xs) words is = lane_counts xs is.0 is.2
lane_counts (choice.Check ∷ xs) words is = lane_counts xs is.0 is.2
lane_counts (choice.Audit ∷ xs) words is = lane_counts xs is.0 is.2
lane_counts (choice.Journal ∷ xs) words is = lane_counts xs is.0 is.2
lane_counts (choice.Watch ∷ xs) words is = lane_counts xs is.0 is.2
lane_counts (choice.Make s ∷ xs) words is = lane_counts xs is.0 is.2
lane_counts (choice.Lanes n ∷ xs) words (others, (own, (l, m, spells), whole), behind) = (l, m)

pub asks_lanes : (words : List (List ℕ)) (asked : Asked) → Asks words asked → (1 ≤ asked.lanes) × (asked.lanes ≤ 8)
asks_lanes words asked asks =
    subst (λ (a : Asked). (1 ≤ a.lanes) × (a.lanes ≤ 8)) (sym asks.2) (lane_counts asks.0 words asks.1.spelled)

-- arguments of which none is left
pub no_word_left : (words : IntoIter (String Global) Global) → into_iter_len words ≡ 0 → texts_of (into_iter_items words) ≡ []
no_word_left words none = ap texts_of (nil_from_length (into_iter_items words) (sym words.rest.ok.0 ∙ none))

-- the words behind the first argument
pub behind_first : (old new : IntoIter (String Global) Global) (name : Option (String Global)) → into_iter_steps old name new
    → texts_of (into_iter_items new) ≡ behind_name (texts_of (into_iter_items old))
behind_first old new None steps = no_word_left new steps.1 ∙ sym (ap behind_name (no_word_left old steps.0))
behind_first old new (Some name) steps = ap (λ words. behind_name (texts_of words)) (sym steps.0)

-- there is one lane at least
pub asks_some_lanes : (words : List (List ℕ)) (asked : Asked) → Asks words asked → 0 < asked.lanes
asks_some_lanes words asked asks = let some = (asks_lanes words asked asks).0 in omega (arith, some)
