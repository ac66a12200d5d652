-- Each line has one answer.
use Rattle.std.proofs.Common.{◌≡◌, ◌≢◌, ◌⊎◌, ℕ, ◌+◌, ◌-◌, List, [], ◌∷◌, ◌++◌, length, Option, refl, ◌∙◌, sym, subst, inl, inr, arith}
use Rattle.std.specs.List.{AllZip}
use Rattle.cron_fields.specs.Seed.{Seed}
use Rattle.cron_fields.specs.declared.field.FieldSet.{FieldSet}
use Rattle.cron_fields.specs.declared.field.Fields.{Fields}
use Rattle.crontab_text.specs.Answers.{BeginsWithByte, IsOther, LineSays, Breaks, LineAnswer, Said, Broken, IsAnswer, AreAnswers}
use Rattle.crontab_text.specs.Assignment.{IsNameStart, IsAssignment}
use Rattle.crontab_text.specs.Entry.{five_kinds, entry_seed, BeginsWithFields, IsEntry, IsEntryFault}
use Rattle.crontab_text.specs.LineBody.{LineBody, BlankBody, CommentBody, AssignBody, EntryBody, NickBody}
use Rattle.crontab_text.specs.Lines.{lines_of}
use Rattle.crontab_text.specs.Nickname.{meaning_of, IsNick, IsNickFault}
use Rattle.crontab_text.specs.Tail.{IsTail}
use Rattle.crontab_text.specs.declared.answer.Style.{Style}
use Rattle.crontab_text.proofs.AssignmentLemmas.{same_assignment}
use Rattle.crontab_text.proofs.BlankLemmas.{same_skip}
use Rattle.crontab_text.proofs.EntryLemmas.{break_within}
use Rattle.std.proofs.lemmas.Bool.{cases_eq}
use Rattle.crontab_text.proofs.NicknameLemmas.{nickname_or_not, some_fields_of, known_meaning}
use Rattle.crontab_text.proofs.TotalLemmas.{some_skip, some_word, assignment_or_not, some_tail, some_fields}
use Rattle.crontab_text.proofs.UniqueLemmas.{SameFault, same_entry, entry_or_fault, same_entry_fault, same_nick, nick_or_fault, same_nick_fault, fields_or_fault, same_behind}

-- what a text may be by its first byte and its name
pub data Shape : Type 0 where
  Empty : Shape
  Note : Shape
  Setting : Shape
  Other : Shape
  Under : Shape

abbrev HasShape : Shape → List ℕ → Type 0
HasShape Empty text = text ≡ []
HasShape Note text = BeginsWithByte 35 text
HasShape Setting text = (name : List ℕ) × (value : List ℕ) × IsAssignment text name value
HasShape Other text = IsOther text
HasShape Under text = BeginsWithByte 64 text

pub some_byte : (byte : ℕ) (text : List ℕ) → BeginsWithByte byte text → text ≢ []
some_byte byte [] begins e = begins
some_byte byte (c ∷ cs) begins e = cc

one_byte : (a b : ℕ) (text : List ℕ) → BeginsWithByte a text → BeginsWithByte b text → a ≡ b
one_byte a b [] first second = absurd first
one_byte a b (c ∷ cs) first second = sym first ∙ second

no_setting_byte : (c : ℕ) → IsNameStart c → (c ≡ 35) ⊎ (c ≡ 64) → ⊥
no_setting_byte c start byte = grind arith

setting_begins : (text name value : List ℕ) → IsAssignment text name value → (c : ℕ) × (cs : List ℕ) × (text ≡ c ∷ cs) × IsNameStart c
setting_begins text [] value is = absurd is.is_name
setting_begins text (c ∷ cs) value is = (c, cs ++ (is.between ++ 61 ∷ is.behind), is.text_is, is.is_name.0)

no_setting : (text : List ℕ) → HasShape Setting text → (byte : ℕ) → (byte ≡ 35) ⊎ (byte ≡ 64) → BeginsWithByte byte text → ⊥
no_setting text (name, value, is) byte which begins =
    let (c, cs, parts, start) = setting_begins text name value is in
    let first : c ≡ byte = subst (BeginsWithByte byte) parts begins in
    no_setting_byte c start (subst (λ b. (b ≡ 35) ⊎ (b ≡ 64)) (sym first) which)

pub setting_some : (text : List ℕ) → HasShape Setting text → text ≢ []
setting_some text (name, value, is) e =
    let (c, cs, parts, start) = setting_begins text name value is in cc

two_bytes : (a b : ℕ) → a ≡ 35 → b ≡ 64 → a ≡ b → ⊥
two_bytes a b p q e = omega arith

-- a text has one shape
pub same_shape : (a b : Shape) (text : List ℕ) → HasShape a text → HasShape b text → a ≡ b
same_shape Empty Empty text p q = refl
same_shape Note Note text p q = refl
same_shape Setting Setting text p q = refl
same_shape Other Other text p q = refl
same_shape Under Under text p q = refl
same_shape Empty Note text p q = absurd (some_byte 35 text q p)
same_shape Empty Setting text p q = absurd (setting_some text q p)
same_shape Empty Other text p q = absurd (q.some p)
same_shape Empty Under text p q = absurd (some_byte 64 text q p)
same_shape Note Empty text p q = absurd (some_byte 35 text p q)
same_shape Note Setting text p q = absurd (no_setting text q 35 (inl refl) p)
same_shape Note Other text p q = absurd (q.no_comment p)
same_shape Note Under text p q = absurd (two_bytes 35 64 refl refl (one_byte 35 64 text p q))
same_shape Setting Empty text p q = absurd (setting_some text p q)
same_shape Setting Note text p q = absurd (no_setting text p 35 (inl refl) q)
same_shape Setting Other text (name, value, is) q = absurd (q.no_assignment name value is)
same_shape Setting Under text p q = absurd (no_setting text p 64 (inr refl) q)
same_shape Other Empty text p q = absurd (p.some q)
same_shape Other Note text p q = absurd (p.no_comment q)
same_shape Other Setting text p (name, value, is) = absurd (p.no_assignment name value is)
same_shape Other Under text p q = absurd (p.no_nick q)
same_shape Under Empty text p q = absurd (some_byte 64 text p q)
same_shape Under Note text p q = absurd (two_bytes 35 64 refl refl (one_byte 35 64 text q p))
same_shape Under Setting text p q = absurd (no_setting text q 64 (inr refl) p)
same_shape Under Other text p q = absurd (q.no_nick p)

abbrev shape_of : LineBody → Shape
shape_of BlankBody = Empty
shape_of CommentBody = Note
shape_of (AssignBody name value) = Setting
shape_of (EntryBody fields user command) = Other
shape_of (NickBody fields user command) = Under

says_shape : (style : Style) (owner text : List ℕ) (body : LineBody) → LineSays style owner text body → HasShape (shape_of body) text
says_shape style owner text BlankBody says = says
says_shape style owner text CommentBody says = says
says_shape style owner text (AssignBody name value) says = (name, value, says)
says_shape style owner text (EntryBody fields user command) says = says.0
says_shape style owner text (NickBody fields user command) says = says.0

-- a text says one thing
same_says : (style : Style) (owner text : List ℕ) (a b : LineBody) → LineSays style owner text a → LineSays style owner text b → a ≡ b
same_says style owner text BlankBody BlankBody p q = refl
same_says style owner text CommentBody CommentBody p q = refl
same_says style owner text (AssignBody n v) (AssignBody m w) p q =
    let same = same_assignment text n m v w p q in
    let name = same.0 in
    let value = same.1 in
    cc
same_says style owner text (EntryBody f u c) (EntryBody g v d) p q =
    let same = same_entry style owner text f g u v c d p.1 q.1 in
    let fields = same.0 in
    let user = same.1 in
    let command = same.2 in
    cc
same_says style owner text (NickBody f u c) (NickBody g v d) p q =
    let same = same_nick style text f g u v c d p.1 q.1 in
    let fields = same.0 in
    let user = same.1 in
    let command = same.2 in
    cc
same_says style owner text a b p q =
    let e = same_shape (shape_of a) (shape_of b) text (says_shape style owner text a p) (says_shape style owner text b q) in cc

-- what says something breaks no rule
no_break : (style : Style) (owner text : List ℕ) (body : LineBody) (c l : ℕ) → LineSays style owner text body → Breaks style text c l → ⊥
no_break style owner text (EntryBody f u a) c l says (inl breaks) = entry_or_fault style owner text f u a c l says.1 breaks.1
no_break style owner text (NickBody f u a) c l says (inr breaks) = nick_or_fault style text f u a c l says.1 breaks.1
no_break style owner text body c l says (inl breaks) =
    let e = same_shape (shape_of body) Other text (says_shape style owner text body says) breaks.0 in cc
no_break style owner text body c l says (inr breaks) =
    let e = same_shape (shape_of body) Under text (says_shape style owner text body says) breaks.0 in cc

same_break : (style : Style) (text : List ℕ) (c d l m : ℕ) → Breaks style text c l → Breaks style text d m → SameFault c d l m
same_break style text c d l m (inl p) (inl q) = same_entry_fault style text c d l m p.1 q.1
same_break style text c d l m (inl p) (inr q) = let e = same_shape Other Under text p.0 q.0 in cc
same_break style text c d l m (inr p) (inl q) = let e = same_shape Under Other text p.0 q.0 in cc
same_break style text c d l m (inr p) (inr q) = same_nick_fault style text c d l m p.1 q.1

-- a line has one answer
pub same_answer : (style : Style) (owner line : List ℕ) (a b : LineAnswer) → IsAnswer style owner line a → IsAnswer style owner line b → a ≡ b
same_answer style owner line (Said a) (Said b) p q =
    let text = same_skip line p.text q.text p.skips q.skips in
    let body = same_says style owner q.text a b (subst (λ t. LineSays style owner t a) text p.says) q.says in
    cc
same_answer style owner line (Said a) (Broken c place) p q =
    let text = same_skip line p.text q.text p.skips q.skips in
    absurd (no_break style owner q.text a c q.left (subst (λ t. LineSays style owner t a) text p.says) q.breaks)
same_answer style owner line (Broken c place) (Said b) p q =
    let text = same_skip line q.text p.text q.skips p.skips in
    absurd (no_break style owner p.text b c p.left (subst (λ t. LineSays style owner t b) text q.says) p.breaks)
same_answer style owner line (Broken c place) (Broken d other) p q =
    let text = same_skip line p.text q.text p.skips q.skips in
    let same = same_break style q.text c d p.left q.left (subst (λ t. Breaks style t c p.left) text p.breaks) q.breaks in
    let cause = same.0 in
    let left = same.1 in
    let first = p.place_is in
    let second = q.place_is in
    let places : place ≡ other = omega arith in
    cc

-- an entry, or its fault
some_entry : (style : Style) (owner text : List ℕ) → ((f : Fields) × (u : List ℕ) × (a : List ℕ) × IsEntry style owner text f u a) ⊎ ((c : ℕ) × (l : ℕ) × IsEntryFault style text c l)
some_entry style owner text = elim (some_fields five_kinds no_seed text) [
  | inr (c, l, fault) ↦ inr (c, l, inl fault)
  | inl (sets, tail, fields) ↦ elim (some_tail style tail) [
    | inr (c, l, fault) ↦ inr (c, l, inr (record { seed = no_seed; sets = sets; tail = tail; fields_are = fields; fault = fault }))
    | inl (u, a, is) ↦ elim (some_fields five_kinds (entry_seed style owner u a) text) [
      | inr (c, l, fault) ↦ absurd (fields_or_fault five_kinds no_seed text sets tail c l fields fault)
      | inl (more, other, again) ↦ inl (entry_from style owner text u a more other again
          (subst (λ t. IsTail style t u a) (same_behind five_kinds no_seed (entry_seed style owner u a) text sets more tail other fields again) is))
    ]
  ]
]
  where
    no_seed : Seed
    no_seed = record { owner = []; command = [] }

    entry_from : (style : Style) (owner text u a : List ℕ) (sets : List FieldSet) (tail : List ℕ) → BeginsWithFields five_kinds (entry_seed style owner u a) text sets tail → IsTail style tail u a → (f : Fields) × (u : List ℕ) × (a : List ℕ) × IsEntry style owner text f u a
    entry_from style owner text u a (s1 ∷ s2 ∷ s3 ∷ s4 ∷ s5 ∷ []) tail fields is =
        (record { minute = s1; hour = s2; month_day = s3; month = s4; week_day = s5 }, u, a, record { tail = tail; fields_are = fields; tail_is = is })
    entry_from style owner text u a [] tail fields is = absurd fields
    entry_from style owner text u a (s1 ∷ []) tail fields is = absurd fields.4
    entry_from style owner text u a (s1 ∷ s2 ∷ []) tail fields is = absurd fields.4.4
    entry_from style owner text u a (s1 ∷ s2 ∷ s3 ∷ []) tail fields is = absurd fields.4.4.4
    entry_from style owner text u a (s1 ∷ s2 ∷ s3 ∷ s4 ∷ []) tail fields is = absurd fields.4.4.4.4
    entry_from style owner text u a (s1 ∷ s2 ∷ s3 ∷ s4 ∷ s5 ∷ s6 ∷ sets) tail fields is = absurd fields.4.4.4.4.4

-- an entry under a nickname, or its fault
some_nick : (style : Style) (text : List ℕ) → ((f : Option Fields) × (u : List ℕ) × (a : List ℕ) × IsNick style text f u a) ⊎ ((c : ℕ) × (l : ℕ) × IsNickFault style text c l)
some_nick style text =
    let (word, tail, cut) = some_word text in
    elim (nickname_or_not word) [
      | inl none ↦ inr (13, length word + length tail, record { word = word; tail = tail; cut = cut; is = inl (none, refl, refl) })
      | inr (nickname, is) ↦ elim (some_tail style tail) [
        | inr (c, l, fault) ↦ inr (c, l, record { word = word; tail = tail; cut = cut; is = inr (known_meaning (meaning_of word) nickname is, fault) })
        | inl (u, a, has) ↦
            let (fields, means) = some_fields_of nickname in
            inl (fields, u, a, record { word = word; tail = tail; cut = cut; means = rw is means; tail_is = has })
      ]
    ]

-- a text says something or breaks a rule
some_says : (style : Style) (owner text : List ℕ) → ((body : LineBody) × LineSays style owner text body) ⊎ ((c : ℕ) × (l : ℕ) × Breaks style text c l)
some_says style owner [] = inl (BlankBody, refl)
some_says style owner (b ∷ bs) = elim (cases_eq b 35) [
  | inl note ↦ inl (CommentBody, note)
  | inr no_note ↦ elim (cases_eq b 64) [
    | inl under ↦ elim (some_nick style (b ∷ bs)) [
      | inl (f, u, a, is) ↦ inl (NickBody f u a, (under, is))
      | inr (c, l, fault) ↦ inr (c, l, inr (under, fault))
    ]
    | inr no_under ↦ elim (assignment_or_not (b ∷ bs)) [
      | inl (name, value, is) ↦ inl (AssignBody name value, is)
      | inr none ↦
          let other : IsOther (b ∷ bs) = record { some = λ e. cc; no_comment = no_note; no_nick = no_under; no_assignment = none } in
          elim (some_entry style owner (b ∷ bs)) [
            | inl (f, u, a, is) ↦ inl (EntryBody f u a, (other, is))
            | inr (c, l, fault) ↦ inr (c, l, inl (other, fault))
          ]
    ]
  ]
]

pub some_answer : (style : Style) (owner line : List ℕ) → (answer : LineAnswer) × IsAnswer style owner line answer
some_answer style owner line =
    let (text, skips) = some_skip line in
    elim (some_says style owner text) [
      | inl (body, says) ↦ (Said body, record { text = text; skips = skips; says = says })
      | inr (c, l, breaks) ↦
          let within = break_within style line c l (record { text = text; skips = skips; breaks = breaks }) in
          (Broken c (length line - l), record { text = text; left = l; skips = skips; breaks = breaks; place_is = omega arith })
    ]

-- each table has one list of answers
some_each : (style : Style) (owner : List ℕ) (lines : List (List ℕ)) → (answers : List LineAnswer) × AllZip (IsAnswer style owner) lines answers
some_each style owner [] = ([], tt)
some_each style owner (line ∷ lines) =
    let (answer, is) = some_answer style owner line in
    let (answers, each) = some_each style owner lines in
    (answer ∷ answers, (is, each))

pub some_answers : (style : Style) (owner text : List ℕ) → (answers : List LineAnswer) × AreAnswers style owner text answers
some_answers style owner text = some_each style owner (lines_of text)

same_each : (style : Style) (owner : List ℕ) (lines : List (List ℕ)) (as' bs : List LineAnswer) → AllZip (IsAnswer style owner) lines as' → AllZip (IsAnswer style owner) lines bs → as' ≡ bs
same_each style owner [] [] [] first second = refl
same_each style owner [] [] (b ∷ bs) first second = absurd second
same_each style owner [] (a ∷ as') bs first second = absurd first
same_each style owner (line ∷ lines) [] bs first second = absurd first
same_each style owner (line ∷ lines) (a ∷ as') [] first second = absurd second
same_each style owner (line ∷ lines) (a ∷ as') (b ∷ bs) first second =
    let head = same_answer style owner line a b first.0 second.0 in
    let tails = same_each style owner lines as' bs first.1 second.1 in
    cc

pub same_answers : (style : Style) (owner text : List ℕ) (a b : List LineAnswer) → AreAnswers style owner text a → AreAnswers style owner text b → a ≡ b
same_answers style owner text a b first second = same_each style owner (lines_of text) a b first second
