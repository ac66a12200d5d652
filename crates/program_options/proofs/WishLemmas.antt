-- What options ask for together, and which may not stand together.
use Rattle.std.proofs.Common.{◌≡◌, ◌⊎◌, inl, inr, ℕ, zero, suc, ◌<◌, List, [], ◌∷◌, ◌++◌, ◌||◌, Bool, true, false, length, get_or, filter_map, option_to_list, Option, None, Some, is_some, refl, sym, ap, subst, ◌∙◌, arith, length-append}
use Rattle.std.specs.Prelude.{AllPairs, IfSome, IfNone, IsSome}
use Rattle.std.specs.List.{cons_option, list_any}
use Rattle.std.proofs.lemmas.List.{append-nil}
use Rattle.std.proofs.lemmas.List.Folds.{list_any-append}
use Rattle.std.proofs.lemmas.List.Quantifiers.{all_pairs_push}
use Rattle.program_options.specs.Words.{MayStandTogether, is_journal, is_watch, lanes_asked, request_asked, AreWishesOf}
use Rattle.program_options.specs.declared.words.Choice.{Choice}
use Rattle.program_options.specs.declared.words.Choice.TheVariants as choice
use Rattle.program_options.specs.declared.words.Request.{Request}
use Rattle.program_options.specs.declared.words.Wishes.{Wishes}

-- of options any two of which may stand together
seam : (front : List Choice) (c : Choice) (behind : List Choice) (d : Choice) → get_or (front ++ c ∷ behind) (length front) d ≡ c
seam [] c behind d = refl
seam (x ∷ xs) c behind d = seam xs c behind d

head_apart : (x c : Choice) (xs behind : List Choice) → AllPairs MayStandTogether (x ∷ xs ++ c ∷ behind) → MayStandTogether x c
head_apart x c xs behind pairs =
    subst (MayStandTogether x) (seam xs c behind x)
    (pairs zero (suc (length xs)) x (omega arith) (omega (arith, length-append xs (c ∷ behind))))

tail_apart : (x : Choice) (xs : List Choice) → AllPairs MayStandTogether (x ∷ xs) → AllPairs MayStandTogether xs
tail_apart x xs pairs = λ i j d before within. pairs (suc i) (suc j) d (omega (arith, before)) (omega (arith, within))

pub together_none : AllPairs MayStandTogether []
together_none i j d lt within = absurd (omega arith)

-- ---- options of a list, of which some ask for a thing

-- one more that asks for nothing of it, and one that does
picks_more : {Y : Type 0} (f : Choice → Option Y) (before : List Choice) (c : Choice) → filter_map f (before ++ c ∷ []) ≡ filter_map f before ++ option_to_list (f c)
picks_more f [] c = listed (f c)
  where
    listed : {Y : Type 0} (o : Option Y) → cons_option o [] ≡ option_to_list o
    listed None = refl
    listed (Some y) = refl
picks_more f (x ∷ before) c = ap (cons_option (f x)) (picks_more f before c) ∙ longer (f x) (filter_map f before) (option_to_list (f c))
  where
    longer : {Y : Type 0} (o : Option Y) (a b : List Y) → cons_option o (a ++ b) ≡ cons_option o a ++ b
    longer None a b = refl
    longer (Some y) a b = refl

picks_on : {Y : Type 0} (f : Choice → Option Y) (before : List Choice) (c : Choice) → f c ≡ None → filter_map f (before ++ c ∷ []) ≡ filter_map f before
picks_on f before c none = picks_more f before c ∙ ap (λ o. filter_map f before ++ option_to_list o) none ∙ append-nil (filter_map f before)

or_none : (b : Bool) → (b || false) ≡ b
or_none true = refl
or_none false = refl

or_some : (b : Bool) → (b || true) ≡ true
or_some true = refl
or_some false = refl

any_more : (p : Choice → Bool) (before : List Choice) (c : Choice) → list_any p (before ++ c ∷ []) ≡ (list_any p before || p c)
any_more p before c = list_any-append p before (c ∷ []) ∙ ap (λ b. list_any p before || b) (or_none (p c))

any_on : (p : Choice → Bool) (before : List Choice) (c : Choice) → p c ≡ false → list_any p (before ++ c ∷ []) ≡ list_any p before
any_on p before c none = any_more p before c ∙ ap (λ b. list_any p before || b) none ∙ or_none (list_any p before)

any_now : (p : Choice → Bool) (before : List Choice) (c : Choice) → p c ≡ true → list_any p (before ++ c ∷ []) ≡ true
any_now p before c is = any_more p before c ∙ ap (λ b. list_any p before || b) is ∙ or_some (list_any p before)

-- where none asks for it, each asks for nothing of it
none_picked : {Y : Type 0} (f : Choice → Option Y) (xs : List Choice) → filter_map f xs ≡ [] → (k : ℕ) (d : Choice) → k < length xs → f (get_or xs k d) ≡ None
none_picked f [] none k d within = absurd (omega (arith, within))
none_picked f (x ∷ xs) none zero d within = first (f x) (filter_map f xs) none
  where
    first : {Y : Type 0} (o : Option Y) (l : List Y) → cons_option o l ≡ [] → o ≡ None
    first None l is = refl
    first (Some y) l is = absurd (cc)
none_picked f (x ∷ xs) none (suc k) d within = none_picked f xs (others (f x) (filter_map f xs) none) k d (omega (arith, within))
  where
    others : {Y : Type 0} (o : Option Y) (l : List Y) → cons_option o l ≡ [] → l ≡ []
    others None l is = is
    others (Some y) l is = absurd (cc)

none_any : (p : Choice → Bool) (xs : List Choice) → list_any p xs ≡ false → (k : ℕ) (d : Choice) → k < length xs → p (get_or xs k d) ≡ false
none_any p [] none k d within = absurd (omega (arith, within))
none_any p (x ∷ xs) none zero d within = first (p x) (list_any p xs) none
  where
    first : (a b : Bool) → (a || b) ≡ false → a ≡ false
    first true b is = is
    first false b is = refl
none_any p (x ∷ xs) none (suc k) d within = none_any p xs (others (p x) (list_any p xs) none) k d (omega (arith, within))
  where
    others : (a b : Bool) → (a || b) ≡ false → b ≡ false
    others true b is = absurd (cc)
    others false b is = is

-- and the other way round
each_none : {Y : Type 0} (f : Choice → Option Y) (xs : List Choice) → ((k : ℕ) (d : Choice) → k < length xs → f (get_or xs k d) ≡ None) → filter_map f xs ≡ []
each_none f [] each = refl
each_none f (x ∷ xs) each =
    ap (λ o. cons_option o (filter_map f xs)) (each zero x (omega arith)) ∙ each_none f xs (λ k d within. each (suc k) d (omega (arith, within)))

each_false : (p : Choice → Bool) (xs : List Choice) → ((k : ℕ) (d : Choice) → k < length xs → p (get_or xs k d) ≡ false) → list_any p xs ≡ false
each_false p [] each = refl
each_false p (x ∷ xs) each =
    ap (λ b. b || list_any p xs) (each zero x (omega arith)) ∙ each_false p xs (λ k d within. each (suc k) d (omega (arith, within)))

-- ---- which may stand beside an option

request_may : (x c : Choice) → IsSome (request_asked c) → request_asked x ≡ None → is_watch x ≡ false → is_journal x ≡ false → MayStandTogether x c
request_may choice.List c some none watch journal = absurd (cc)
request_may choice.Check c some none watch journal = absurd (cc)
request_may choice.Audit c some none watch journal = absurd (cc)
request_may (choice.Make s) c some none watch journal = absurd (cc)
request_may choice.Journal c some none watch journal = absurd (cc)
request_may choice.Watch c some none watch journal = absurd (cc)
request_may (choice.Lanes n) choice.List some none watch journal = tt
request_may (choice.Lanes n) choice.Check some none watch journal = tt
request_may (choice.Lanes n) choice.Audit some none watch journal = tt
request_may (choice.Lanes n) (choice.Make s) some none watch journal = tt
request_may (choice.Lanes n) choice.Journal some none watch journal = absurd (cc)
request_may (choice.Lanes n) choice.Watch some none watch journal = absurd (cc)
request_may (choice.Lanes n) (choice.Lanes m) some none watch journal = absurd (cc)

journal_may : (x : Choice) → request_asked x ≡ None → is_journal x ≡ false → MayStandTogether x choice.Journal
journal_may choice.List none journal = absurd (cc)
journal_may choice.Check none journal = absurd (cc)
journal_may choice.Audit none journal = absurd (cc)
journal_may (choice.Make s) none journal = absurd (cc)
journal_may choice.Journal none journal = absurd (cc)
journal_may choice.Watch none journal = tt
journal_may (choice.Lanes n) none journal = tt

watch_may : (x : Choice) → request_asked x ≡ None → is_watch x ≡ false → MayStandTogether x choice.Watch
watch_may choice.List none watch = absurd (cc)
watch_may choice.Check none watch = absurd (cc)
watch_may choice.Audit none watch = absurd (cc)
watch_may (choice.Make s) none watch = absurd (cc)
watch_may choice.Journal none watch = tt
watch_may choice.Watch none watch = absurd (cc)
watch_may (choice.Lanes n) none watch = tt

lanes_may : (x : Choice) (n : ℕ) → lanes_asked x ≡ None → MayStandTogether x (choice.Lanes n)
lanes_may choice.List n none = tt
lanes_may choice.Check n none = tt
lanes_may choice.Audit n none = tt
lanes_may (choice.Make s) n none = tt
lanes_may choice.Journal n none = tt
lanes_may choice.Watch n none = tt
lanes_may (choice.Lanes m) n none = absurd (cc)

-- what stands beside an option that asks for something instead of a report asks for nothing but lanes
beside_request : (x c : Choice) → IsSome (request_asked c) → MayStandTogether x c → (request_asked x ≡ None) × (is_watch x ≡ false) × (is_journal x ≡ false)
beside_request x choice.Journal some may = absurd (cc)
beside_request x choice.Watch some may = absurd (cc)
beside_request x (choice.Lanes m) some may = absurd (cc)
beside_request (choice.Lanes n) choice.List some may = (refl, refl, refl)
beside_request (choice.Lanes n) choice.Check some may = (refl, refl, refl)
beside_request (choice.Lanes n) choice.Audit some may = (refl, refl, refl)
beside_request (choice.Lanes n) (choice.Make s) some may = (refl, refl, refl)
beside_request choice.List choice.List some may = absurd may
beside_request choice.List choice.Check some may = absurd may
beside_request choice.List choice.Audit some may = absurd may
beside_request choice.List (choice.Make s) some may = absurd may
beside_request choice.Check choice.List some may = absurd may
beside_request choice.Check choice.Check some may = absurd may
beside_request choice.Check choice.Audit some may = absurd may
beside_request choice.Check (choice.Make s) some may = absurd may
beside_request choice.Audit choice.List some may = absurd may
beside_request choice.Audit choice.Check some may = absurd may
beside_request choice.Audit choice.Audit some may = absurd may
beside_request choice.Audit (choice.Make s) some may = absurd may
beside_request (choice.Make r) choice.List some may = absurd may
beside_request (choice.Make r) choice.Check some may = absurd may
beside_request (choice.Make r) choice.Audit some may = absurd may
beside_request (choice.Make r) (choice.Make s) some may = absurd may
beside_request choice.Journal choice.List some may = absurd may
beside_request choice.Journal choice.Check some may = absurd may
beside_request choice.Journal choice.Audit some may = absurd may
beside_request choice.Journal (choice.Make s) some may = absurd may
beside_request choice.Watch choice.List some may = absurd may
beside_request choice.Watch choice.Check some may = absurd may
beside_request choice.Watch choice.Audit some may = absurd may
beside_request choice.Watch (choice.Make s) some may = absurd may

beside_journal : (x : Choice) → MayStandTogether x choice.Journal → (request_asked x ≡ None) × (is_journal x ≡ false)
beside_journal choice.List may = absurd may
beside_journal choice.Check may = absurd may
beside_journal choice.Audit may = absurd may
beside_journal (choice.Make s) may = absurd may
beside_journal choice.Journal may = absurd may
beside_journal choice.Watch may = (refl, refl)
beside_journal (choice.Lanes n) may = (refl, refl)

beside_watch : (x : Choice) → MayStandTogether x choice.Watch → (request_asked x ≡ None) × (is_watch x ≡ false)
beside_watch choice.List may = absurd may
beside_watch choice.Check may = absurd may
beside_watch choice.Audit may = absurd may
beside_watch (choice.Make s) may = absurd may
beside_watch choice.Journal may = (refl, refl)
beside_watch choice.Watch may = absurd may
beside_watch (choice.Lanes n) may = (refl, refl)

beside_lanes : (x : Choice) (n : ℕ) → MayStandTogether x (choice.Lanes n) → lanes_asked x ≡ None
beside_lanes choice.List n may = refl
beside_lanes choice.Check n may = refl
beside_lanes choice.Audit n may = refl
beside_lanes (choice.Make s) n may = refl
beside_lanes choice.Journal n may = refl
beside_lanes choice.Watch n may = refl
beside_lanes (choice.Lanes m) n may = absurd may

-- each that stands before an option stands beside it
each_beside : (before behind : List Choice) (c : Choice) → AllPairs MayStandTogether (before ++ c ∷ behind) → (k : ℕ) (d : Choice) → k < length before
    → MayStandTogether (get_or before k d) c
each_beside [] behind c pairs k d within = absurd (omega (arith, within))
each_beside (x ∷ xs) behind c pairs zero d within = head_apart x c xs behind pairs
each_beside (x ∷ xs) behind c pairs (suc k) d within = each_beside xs behind c (tail_apart x (xs ++ c ∷ behind) pairs) k d (omega (arith, within))

-- ---- one option more

-- what one option more asks for
abbrev GoesOn : (c : Choice) (old : Wishes) (new : Wishes) → Type 0
GoesOn c old new = (before : List Choice) → AreWishesOf before old → AreWishesOf (before ++ c ∷ []) new

-- it can't stand beside those before it
abbrev Clashes : (c : Choice) (old : Wishes) → Type 0
Clashes c old = (before behind : List Choice) → AreWishesOf before old → AllPairs MayStandTogether (before ++ c ∷ behind) → ⊥

-- the option asks for this in place of a report
pub record IsInstead (c : Choice) (request : Request) : Type 0 where
  pub asked : request_asked c ≡ Some request
  pub no_lanes : lanes_asked c ≡ None
  pub no_watch : is_watch c ≡ false
  pub no_journal : is_journal c ≡ false

pub with_request : (c : Choice) (request : Request) (old new : Wishes) → IsInstead c request → (old.instead ≡ None) × (old.watch ≡ false) × (old.journal ≡ false)
    × (new ≡ record old { instead = Some request }) → GoesOn c old new
with_request c request old new option is before are =
    let no_request = are.instead ∙ ap option_to_list is.0 in
    let some : IsSome (request_asked c) = ap is_some option.asked in
    subst (AreWishesOf (before ++ c ∷ [])) (sym is.3) (record {
      together =
          all_pairs_push MayStandTogether before c are.together
          (λ k d within. request_may (get_or before k d) c some (none_picked request_asked before no_request k d within) (none_any is_watch before (are.watch ∙ is.1) k d within)
          (none_any is_journal before (are.journal ∙ is.2) k d within));
      instead = picks_more request_asked before c ∙ ap (λ l. l ++ option_to_list (request_asked c)) no_request ∙ ap option_to_list option.asked;
      watch = any_on is_watch before c option.no_watch ∙ are.watch;
      journal = any_on is_journal before c option.no_journal ∙ are.journal;
      lanes = picks_on lanes_asked before c option.no_lanes ∙ are.lanes;
    })

pub with_journal : (old new : Wishes) → (old.instead ≡ None) × (old.journal ≡ false) × (new ≡ record old { journal = true }) → GoesOn choice.Journal old new
with_journal old new is before are =
    let no_request = are.instead ∙ ap option_to_list is.0 in
    subst (AreWishesOf (before ++ choice.Journal ∷ [])) (sym is.2) (record {
      together =
          all_pairs_push MayStandTogether before choice.Journal are.together
          (λ k d within. journal_may (get_or before k d) (none_picked request_asked before no_request k d within) (none_any is_journal before (are.journal ∙ is.1) k d within));
      instead = picks_on request_asked before choice.Journal refl ∙ are.instead;
      watch = any_on is_watch before choice.Journal refl ∙ are.watch;
      journal = any_now is_journal before choice.Journal refl;
      lanes = picks_on lanes_asked before choice.Journal refl ∙ are.lanes;
    })

pub with_watch : (old new : Wishes) → (old.instead ≡ None) × (old.watch ≡ false) × (new ≡ record old { watch = true }) → GoesOn choice.Watch old new
with_watch old new is before are =
    let no_request = are.instead ∙ ap option_to_list is.0 in
    subst (AreWishesOf (before ++ choice.Watch ∷ [])) (sym is.2) (record {
      together =
          all_pairs_push MayStandTogether before choice.Watch are.together
          (λ k d within. watch_may (get_or before k d) (none_picked request_asked before no_request k d within) (none_any is_watch before (are.watch ∙ is.1) k d within));
      instead = picks_on request_asked before choice.Watch refl ∙ are.instead;
      watch = any_now is_watch before choice.Watch refl;
      journal = any_on is_journal before choice.Watch refl ∙ are.journal;
      lanes = picks_on lanes_asked before choice.Watch refl ∙ are.lanes;
    })

pub with_lanes : (n : ℕ) (old new : Wishes) → (old.lanes ≡ None) × (new ≡ record old { lanes = Some n }) → GoesOn (choice.Lanes n) old new
with_lanes n old new is before are =
    let no_lanes = are.lanes ∙ ap option_to_list is.0 in
    subst (AreWishesOf (before ++ choice.Lanes n ∷ [])) (sym is.1) (record {
      together =
          all_pairs_push MayStandTogether before (choice.Lanes n) are.together
          (λ k d within. lanes_may (get_or before k d) n (none_picked lanes_asked before no_lanes k d within));
      instead = picks_on request_asked before (choice.Lanes n) refl ∙ are.instead;
      watch = any_on is_watch before (choice.Lanes n) refl ∙ are.watch;
      journal = any_on is_journal before (choice.Lanes n) refl ∙ are.journal;
      lanes = picks_more lanes_asked before (choice.Lanes n) ∙ ap (λ l. l ++ n ∷ []) no_lanes;
    })

-- an option that is there
listed : {Y : Type 0} (o : Option Y) → IsSome o → option_to_list o ≡ [] → ⊥
listed None some none = absurd (cc)
listed (Some y) some none = absurd (cc)

pub request_clashes : (c : Choice) (old : Wishes) → IsSome (request_asked c) → IsSome old.instead ⊎ (old.watch ≡ true) ⊎ (old.journal ≡ true) → Clashes c old
request_clashes c old some (inl instead) before behind are pairs =
    listed old.instead instead (sym are.instead ∙ each_none request_asked before (λ k d within. (beside_request (get_or before k d) c some (each_beside before behind c pairs k d within)).0))
request_clashes c old some (inr (inl watch)) before behind are pairs =
    let none = each_false is_watch before (λ k d within. (beside_request (get_or before k d) c some (each_beside before behind c pairs k d within)).1) in
    absurd (let both : true ≡ false = sym watch ∙ sym are.watch ∙ none in cc)
request_clashes c old some (inr (inr journal)) before behind are pairs =
    let none = each_false is_journal before (λ k d within. (beside_request (get_or before k d) c some (each_beside before behind c pairs k d within)).2) in
    absurd (let both : true ≡ false = sym journal ∙ sym are.journal ∙ none in cc)

pub journal_clashes : (old : Wishes) → IsSome old.instead ⊎ (old.journal ≡ true) → Clashes choice.Journal old
journal_clashes old (inl instead) before behind are pairs =
    listed old.instead instead (sym are.instead ∙ each_none request_asked before (λ k d within. (beside_journal (get_or before k d) (each_beside before behind choice.Journal pairs k d within)).0))
journal_clashes old (inr journal) before behind are pairs =
    let none = each_false is_journal before (λ k d within. (beside_journal (get_or before k d) (each_beside before behind choice.Journal pairs k d within)).1) in
    absurd (let both : true ≡ false = sym journal ∙ sym are.journal ∙ none in cc)

pub watch_clashes : (old : Wishes) → IsSome old.instead ⊎ (old.watch ≡ true) → Clashes choice.Watch old
watch_clashes old (inl instead) before behind are pairs =
    listed old.instead instead (sym are.instead ∙ each_none request_asked before (λ k d within. (beside_watch (get_or before k d) (each_beside before behind choice.Watch pairs k d within)).0))
watch_clashes old (inr watch) before behind are pairs =
    let none = each_false is_watch before (λ k d within. (beside_watch (get_or before k d) (each_beside before behind choice.Watch pairs k d within)).1) in
    absurd (let both : true ≡ false = sym watch ∙ sym are.watch ∙ none in cc)

pub lanes_clash : (n : ℕ) (old : Wishes) → IsSome old.lanes → Clashes (choice.Lanes n) old
lanes_clash n old some before behind are pairs =
    listed old.lanes some (sym are.lanes ∙ each_none lanes_asked before (λ k d within. beside_lanes (get_or before k d) n (each_beside before behind (choice.Lanes n) pairs k d within)))

-- what comes of an option more, as `Wishes::with` tells it
pub goes_on : (c d : Choice) (old : Wishes) (r : Option Wishes) (What : Wishes → Type 0) → d ≡ c → ((new : Wishes) → What new → GoesOn c old new)
    → IfSome r What → IfSome r (λ new. GoesOn d old new)
goes_on c d old None What is more tells = tt
goes_on c d old (Some new) What is more tells = subst (λ (x : Choice). GoesOn x old new) (sym is) (more new tells)

pub clashes : (c d : Choice) (old : Wishes) (r : Option Wishes) (Why : Type 0) → d ≡ c → (Why → Clashes c old) → IfNone r Why → IfNone r (Clashes d old)
clashes c d old None Why is more why = subst (λ (x : Choice). Clashes x old) (sym is) (more why)
clashes c d old (Some new) Why is more why = tt
