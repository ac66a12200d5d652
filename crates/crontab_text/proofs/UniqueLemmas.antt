-- A text has one reading as an entry, and one fault.
use Rattle.std.proofs.Common.{◌≡◌, ◌⊎◌, ℕ, ◌+◌, List, [], ◌∷◌, length, Option, Some, None, IsSome, refl, ap, ◌∙◌, sym, subst, inl, inr, arith}
use Rattle.cron_fields.specs.Field.{IsField}
use Rattle.cron_fields.specs.Seed.{Seed}
use Rattle.cron_fields.specs.declared.field.FieldKind.{FieldKind}
use Rattle.cron_fields.specs.declared.field.FieldSet.{FieldSet}
use Rattle.cron_fields.specs.declared.field.Fields.{Fields}
use Rattle.cron_fields.proofs.FieldReading.{field_same, field_or_fault, field_fault_same}
use Rattle.cron_fields.proofs.FieldText.{field_bytes}
use Rattle.crontab_text.specs.Entry.{five_kinds, sets_of, entry_seed, BeginsWithFields, IsBadWord, IsFieldsFault, IsEntry, IsEntryFault}
use Rattle.crontab_text.specs.Nickname.{Means, meaning_of, IsNick, IsNickFault}
use Rattle.crontab_text.specs.Tail.{IsUser, IsCommand, IsBadCommand, EndsWithCommand, IsCommandFault, IsTail, IsTailFault}
use Rattle.crontab_text.specs.declared.answer.Style.{Style}
use Rattle.crontab_text.specs.declared.answer.Style.TheVariants.{User, System}
use Rattle.crontab_text.proofs.BlankLemmas.{same_skip, same_word}

-- a cause and how many bytes are left
abbrev pub SameFault : (c d l m : ℕ) → Type 0
SameFault c d l m = (c ≡ d) × (l ≡ m)

-- commands
pub same_command : (text a b : List ℕ) → EndsWithCommand text a → EndsWithCommand text b → a ≡ b
same_command text a b first second = same_skip text a b first.skips second.skips

no_bad_command : (command : List ℕ) (c l : ℕ) → IsCommand command → IsBadCommand command c l → ⊥
no_bad_command command c l is (inl none) = omega (arith, is.some, ap length none.0)
no_bad_command command c l is (inr long) = omega (arith, is.short, long.0)

pub command_or_fault : (text a : List ℕ) (c l : ℕ) → EndsWithCommand text a → IsCommandFault text c l → ⊥
command_or_fault text a c l is fault =
    no_bad_command fault.command c l (subst IsCommand (same_skip text a fault.command is.skips fault.skips) is.is) fault.is

same_bad_command : (command : List ℕ) (c d l m : ℕ) → IsBadCommand command c l → IsBadCommand command d m → SameFault c d l m
same_bad_command command c d l m (inl p) (inl q) = (p.1 ∙ sym q.1, p.2 ∙ sym q.2)
same_bad_command command c d l m (inl p) (inr q) = absurd (omega (arith, q.0, ap length p.0))
same_bad_command command c d l m (inr p) (inl q) = absurd (omega (arith, p.0, ap length q.0))
same_bad_command command c d l m (inr p) (inr q) = (p.1 ∙ sym q.1, p.2 ∙ sym q.2)

pub same_command_fault : (text : List ℕ) (c d l m : ℕ) → IsCommandFault text c l → IsCommandFault text d m → SameFault c d l m
same_command_fault text c d l m first second =
    let same = same_skip text first.command second.command first.skips second.skips in
    same_bad_command second.command c d l m (subst (λ t. IsBadCommand t c l) same first.is) second.is

-- what stands behind the fields
pub same_tail : (style : Style) (text u v a b : List ℕ) → IsTail style text u a → IsTail style text v b → (u ≡ v) × (a ≡ b)
same_tail User text u v a b first second = (first.0 ∙ sym second.0, same_command text a b first.1 second.1)
same_tail System text u v a b first second =
    let same = same_word text u v first.after second.after first.word second.word in
    (same.0, same_command second.after a b (subst (λ t. EndsWithCommand t a) same.1 first.command_is) second.command_is)

pub tail_or_fault : (style : Style) (text u a : List ℕ) (c l : ℕ) → IsTail style text u a → IsTailFault style text c l → ⊥
tail_or_fault User text u a c l is fault = command_or_fault text a c l is.1 fault
tail_or_fault System text u a c l is fault =
    let same = same_word text u fault.user is.after fault.after is.word fault.word in
    elim fault.is as (λ _. ⊥) [
      | inl bad ↦ bad.0 (subst IsUser same.0 is.is_user)
      | inr late ↦ command_or_fault fault.after a c l (subst (λ t. EndsWithCommand t a) same.1 is.command_is) late.1
    ]

same_user_fault : (user after : List ℕ) (c d l m : ℕ)
    → ((IsUser user → ⊥) × (c ≡ 12) × (l ≡ length user + length after)) ⊎ (IsUser user × IsCommandFault after c l)
    → ((IsUser user → ⊥) × (d ≡ 12) × (m ≡ length user + length after)) ⊎ (IsUser user × IsCommandFault after d m)
    → SameFault c d l m
same_user_fault user after c d l m (inl p) (inl q) = (p.1 ∙ sym q.1, p.2 ∙ sym q.2)
same_user_fault user after c d l m (inl p) (inr q) = absurd (p.0 q.0)
same_user_fault user after c d l m (inr p) (inl q) = absurd (q.0 p.0)
same_user_fault user after c d l m (inr p) (inr q) = same_command_fault after c d l m p.1 q.1

pub same_tail_fault : (style : Style) (text : List ℕ) (c d l m : ℕ) → IsTailFault style text c l → IsTailFault style text d m → SameFault c d l m
same_tail_fault User text c d l m first second = same_command_fault text c d l m first second
same_tail_fault System text c d l m first second =
    let same = same_word text first.user second.user first.after second.after first.word second.word in
    same_user_fault second.user second.after c d l m
    (subst (λ u. ((IsUser u → ⊥) × (c ≡ 12) × (l ≡ length u + length second.after)) ⊎ (IsUser u × IsCommandFault second.after c l)) same.0
    (subst (λ t. ((IsUser first.user → ⊥) × (c ≡ 12) × (l ≡ length first.user + length t)) ⊎ (IsUser first.user × IsCommandFault t c l)) same.1 first.is))
    second.is

-- behind the fields stands one text, whatever they are read with
pub same_behind : (kinds : List FieldKind) (s t : Seed) (text : List ℕ) (as' bs : List FieldSet) (x y : List ℕ) → BeginsWithFields kinds s text as' x → BeginsWithFields kinds t text bs y → x ≡ y
same_behind [] s t text [] [] x y first second = sym first ∙ second
same_behind [] s t text [] (b ∷ bs) x y first second = absurd second
same_behind [] s t text (a ∷ as') bs x y first second = absurd first
same_behind (kind ∷ kinds) s t text [] bs x y first second = absurd first
same_behind (kind ∷ kinds) s t text (a ∷ as') [] x y first second = absurd second
same_behind (kind ∷ kinds) s t text (a ∷ as') (b ∷ bs) x y (w, u, word, is, rest) (v, z, other, has, more) =
    let same = (same_word text w v u z word other).1 in
    same_behind kinds s t z as' bs x y (subst (λ p. BeginsWithFields kinds s p as' x) same rest) more

-- and with one seed the fields are the same
pub same_sets : (kinds : List FieldKind) (seed : Seed) (text : List ℕ) (as' bs : List FieldSet) (x y : List ℕ) → BeginsWithFields kinds seed text as' x → BeginsWithFields kinds seed text bs y → as' ≡ bs
same_sets [] seed text [] [] x y first second = refl
same_sets [] seed text [] (b ∷ bs) x y first second = absurd second
same_sets [] seed text (a ∷ as') bs x y first second = absurd first
same_sets (kind ∷ kinds) seed text [] bs x y first second = absurd first
same_sets (kind ∷ kinds) seed text (a ∷ as') [] x y first second = absurd second
same_sets (kind ∷ kinds) seed text (a ∷ as') (b ∷ bs) x y (w, u, word, is, rest) (v, z, other, has, more) =
    let same = same_word text w v u z word other in
    let head = field_same kind v seed a b (subst (λ p. IsField kind p seed a) same.0 is) has in
    let tails = same_sets kinds seed z as' bs x y (subst (λ p. BeginsWithFields kinds seed p as' x) same.1 rest) more in
    cc

-- a word is a field or at fault
no_bad_word : (kind : FieldKind) (word : List ℕ) (seed : Seed) (set : FieldSet) (here c l : ℕ) → IsField kind word seed set → IsBadWord kind word here c l → ⊥
no_bad_word kind word seed set here c l field (inl missing) =
    omega (arith, (field_bytes kind word seed set field).0, ap length missing.0)
no_bad_word kind word seed set here c l field (inr (place, some, fault, is)) = field_or_fault kind word seed set c place field fault

same_bad_word : (kind : FieldKind) (word : List ℕ) (here c d l m : ℕ) → IsBadWord kind word here c l → IsBadWord kind word here d m → SameFault c d l m
same_bad_word kind word here c d l m (inl p) (inl q) = (p.1 ∙ sym q.1, p.2 ∙ sym q.2)
same_bad_word kind word here c d l m (inl p) (inr (place, some, fault, is)) = absurd (omega (arith, some, ap length p.0))
same_bad_word kind word here c d l m (inr (place, some, fault, is)) (inl q) = absurd (omega (arith, some, ap length q.0))
same_bad_word kind word here c d l m (inr (p, ps, pf, pi)) (inr (q, qs, qf, qi)) =
    let same = field_fault_same kind word c p d q pf qf in (same.0, omega (arith, same.1))

-- fields, or a fault among them
pub fields_or_fault : (kinds : List FieldKind) (seed : Seed) (text : List ℕ) (sets : List FieldSet) (after : List ℕ) (c l : ℕ) → BeginsWithFields kinds seed text sets after → IsFieldsFault kinds text c l → ⊥
fields_or_fault [] seed text sets after c l begins fault = fault
fields_or_fault (kind ∷ kinds) seed text [] after c l begins fault = begins
fields_or_fault (kind ∷ kinds) seed text (set ∷ sets) after c l (w, u, word, is, rest) (v, z, other, fault) =
    let same = same_word text w v u z word other in
    elim fault as (λ _. ⊥) [
      | inl bad ↦ no_bad_word kind v seed set (length v + length z) c l (subst (λ p. IsField kind p seed set) same.0 is) bad
      | inr late ↦
          fields_or_fault kinds seed z sets after c l (subst (λ p. BeginsWithFields kinds seed p sets after) same.1 rest) late.3
    ]

pub same_fields_fault : (kinds : List FieldKind) (text : List ℕ) (c d l m : ℕ) → IsFieldsFault kinds text c l → IsFieldsFault kinds text d m → SameFault c d l m
same_fields_fault [] text c d l m first second = absurd first
same_fields_fault (kind ∷ kinds) text c d l m (w, u, word, first) (v, z, other, second) =
    let same = same_word text w v u z word other in
    decide v z (same_fields_fault kinds z c d l m)
    (subst (λ p. IsBadWord kind p (length p + length z) c l ⊎ ((seed : Seed) × (set : FieldSet) × IsField kind p seed set × IsFieldsFault kinds z c l)) same.0
    (subst (λ t. IsBadWord kind w (length w + length t) c l ⊎ ((seed : Seed) × (set : FieldSet) × IsField kind w seed set × IsFieldsFault kinds t c l)) same.1 first)) second
  where
    decide : (v z : List ℕ) → (IsFieldsFault kinds z c l → IsFieldsFault kinds z d m → SameFault c d l m)
        → IsBadWord kind v (length v + length z) c l ⊎ ((seed : Seed) × (set : FieldSet) × IsField kind v seed set × IsFieldsFault kinds z c l)
        → IsBadWord kind v (length v + length z) d m ⊎ ((seed : Seed) × (set : FieldSet) × IsField kind v seed set × IsFieldsFault kinds z d m)
        → SameFault c d l m
    decide v z again (inl p) (inl q) = same_bad_word kind v (length v + length z) c d l m p q
    decide v z again (inl p) (inr (seed, set, field, fault)) = absurd (no_bad_word kind v seed set (length v + length z) c l field p)
    decide v z again (inr (seed, set, field, fault)) (inl q) = absurd (no_bad_word kind v seed set (length v + length z) d m field q)
    decide v z again (inr (s, a, is, p)) (inr (t, b, has, q)) = again p q

-- the five sets say the fields
same_five : (a b : Fields) → sets_of a ≡ sets_of b → a ≡ b
same_five a b e =
    let minute : a.minute ≡ b.minute = cc in
    let hour : a.hour ≡ b.hour = cc in
    let month_day : a.month_day ≡ b.month_day = cc in
    let month : a.month ≡ b.month = cc in
    let week_day : a.week_day ≡ b.week_day = cc in
    make a.minute b.minute a.hour b.hour a.month_day b.month_day a.month b.month a.week_day b.week_day minute hour month_day month week_day
  where
    five : FieldSet → FieldSet → FieldSet → FieldSet → FieldSet → Fields
    five minute hour month_day month week_day = record { minute = minute; hour = hour; month_day = month_day; month = month; week_day = week_day }

    make : (a b c d e f g h i j : FieldSet) → a ≡ b → c ≡ d → e ≡ f → g ≡ h → i ≡ j → five a c e g i ≡ five b d f h j
    make a b c d e f g h i j p q r s t = rw (p, q, r, s, t)

-- a text is one entry
pub same_entry : (style : Style) (owner text : List ℕ) (f g : Fields) (u v a b : List ℕ) → IsEntry style owner text f u a → IsEntry style owner text g v b → (f ≡ g) × (u ≡ v) × (a ≡ b)
same_entry style owner text f g u v a b first second =
    let behind = same_behind five_kinds _ _ text (sets_of f) (sets_of g) first.tail second.tail first.fields_are second.fields_are in
    let tails = same_tail style second.tail u v a b (subst (λ t. IsTail style t u a) behind first.tail_is) second.tail_is in
    let seed = same_seed style owner u v a b tails.0 tails.1 in
    let sets = same_sets five_kinds (entry_seed style owner v b) text (sets_of f) (sets_of g) first.tail second.tail (subst (λ s. BeginsWithFields five_kinds s text (sets_of f) first.tail) seed first.fields_are) second.fields_are in
    (same_five f g sets, tails.0, tails.1)
  where
    same_seed : (style : Style) (owner u v a b : List ℕ) → u ≡ v → a ≡ b → entry_seed style owner u a ≡ entry_seed style owner v b
    same_seed style owner u v a b p q = rw (p, q)

-- a text is an entry or has a fault
pub entry_or_fault : (style : Style) (owner text : List ℕ) (f : Fields) (u a : List ℕ) (c l : ℕ) → IsEntry style owner text f u a → IsEntryFault style text c l → ⊥
entry_or_fault style owner text f u a c l is (inl fault) = fields_or_fault five_kinds _ text (sets_of f) is.tail c l is.fields_are fault
entry_or_fault style owner text f u a c l is (inr late) =
    let behind = same_behind five_kinds _ _ text (sets_of f) late.sets is.tail late.tail is.fields_are late.fields_are in
    tail_or_fault style late.tail u a c l (subst (λ t. IsTail style t u a) behind is.tail_is) late.fault

pub same_entry_fault : (style : Style) (text : List ℕ) (c d l m : ℕ) → IsEntryFault style text c l → IsEntryFault style text d m → SameFault c d l m
same_entry_fault style text c d l m (inl p) (inl q) = same_fields_fault five_kinds text c d l m p q
same_entry_fault style text c d l m (inl p) (inr q) = absurd (fields_or_fault five_kinds q.seed text q.sets q.tail c l q.fields_are p)
same_entry_fault style text c d l m (inr p) (inl q) = absurd (fields_or_fault five_kinds p.seed text p.sets p.tail d m p.fields_are q)
same_entry_fault style text c d l m (inr p) (inr q) =
    let behind = same_behind five_kinds p.seed q.seed text p.sets q.sets p.tail q.tail p.fields_are q.fields_are in
    same_tail_fault style q.tail c d l m (subst (λ t. IsTailFault style t c l) behind p.fault) q.fault

-- a meaning says one list of fields
same_meaning : (meaning : Option (Option (List ℕ))) (f g : Option Fields) → Means meaning f → Means meaning g → f ≡ g
same_meaning None f g first second = absurd first
same_meaning (Some None) None None first second = refl
same_meaning (Some None) None (Some g) first second = absurd second
same_meaning (Some None) (Some f) g first second = absurd first
same_meaning (Some (Some text)) None g first second = absurd first
same_meaning (Some (Some text)) (Some f) None first second = absurd second
same_meaning (Some (Some text)) (Some f) (Some g) first second =
    let seed : Seed = record { owner = []; command = [] } in
    ap (λ (x : Fields). Some x) (same_five f g (same_sets five_kinds seed text (sets_of f) (sets_of g) [] [] (first seed) (second seed)))

some_if_means : (meaning : Option (Option (List ℕ))) (f : Option Fields) → Means meaning f → meaning ≡ None → ⊥
some_if_means None f means is = means
some_if_means (Some m) f means is = cc

-- a text is one entry under a nickname
pub same_nick : (style : Style) (text : List ℕ) (f g : Option Fields) (u v a b : List ℕ) → IsNick style text f u a → IsNick style text g v b → (f ≡ g) × (u ≡ v) × (a ≡ b)
same_nick style text f g u v a b first second =
    let same = same_word text first.word second.word first.tail second.tail first.cut second.cut in
    let tails = same_tail style second.tail u v a b (subst (λ t. IsTail style t u a) same.1 first.tail_is) second.tail_is in
    (same_meaning (meaning_of second.word) f g (subst (λ w. Means (meaning_of w) f) same.0 first.means) second.means, tails.0, tails.1)

-- or has a fault
pub nick_or_fault : (style : Style) (text : List ℕ) (f : Option Fields) (u a : List ℕ) (c l : ℕ) → IsNick style text f u a → IsNickFault style text c l → ⊥
nick_or_fault style text f u a c l is fault =
    let same = same_word text is.word fault.word is.tail fault.tail is.cut fault.cut in
    elim fault.is as (λ _. ⊥) [
      | inl bad ↦ some_if_means (meaning_of fault.word) f (subst (λ w. Means (meaning_of w) f) same.0 is.means) bad.0
      | inr late ↦ tail_or_fault style fault.tail u a c l (subst (λ t. IsTail style t u a) same.1 is.tail_is) late.1
    ]

some_or_none : (m : Option (Option (List ℕ))) → IsSome m → m ≡ None → ⊥
some_or_none None some is = cc
some_or_none (Some m) some is = cc

pub same_nick_fault : (style : Style) (text : List ℕ) (c d l m : ℕ) → IsNickFault style text c l → IsNickFault style text d m → SameFault c d l m
same_nick_fault style text c d l m first second =
    let same = same_word text first.word second.word first.tail second.tail first.cut second.cut in
    decide second.word second.tail
    (subst (λ w. ((meaning_of w ≡ None) × (c ≡ 13) × (l ≡ length w + length second.tail)) ⊎ (IsSome (meaning_of w) × IsTailFault style second.tail c l)) same.0
    (subst (λ t. ((meaning_of first.word ≡ None) × (c ≡ 13) × (l ≡ length first.word + length t)) ⊎ (IsSome (meaning_of first.word) × IsTailFault style t c l)) same.1 first.is))
    second.is
  where
    decide : (word tail : List ℕ)
        → ((meaning_of word ≡ None) × (c ≡ 13) × (l ≡ length word + length tail)) ⊎ (IsSome (meaning_of word) × IsTailFault style tail c l)
        → ((meaning_of word ≡ None) × (d ≡ 13) × (m ≡ length word + length tail)) ⊎ (IsSome (meaning_of word) × IsTailFault style tail d m)
        → SameFault c d l m
    decide word tail (inl p) (inl q) = (p.1 ∙ sym q.1, p.2 ∙ sym q.2)
    decide word tail (inl p) (inr q) = absurd (some_or_none (meaning_of word) q.0 p.0)
    decide word tail (inr p) (inl q) = absurd (some_or_none (meaning_of word) p.0 q.0)
    decide word tail (inr p) (inr q) = same_tail_fault style tail c d l m p.1 q.1
