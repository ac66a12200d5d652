-- Each line has one answer.
use Rattle.std.proofs.Common.{◌≡◌, ◌≢◌, ◌⊎◌, ℕ, ◌-◌, ◌≤◌, List, [], ◌∷◌, ◌++◌, length, refl, ap, ◌∙◌, sym, subst, inl, inr, arith, length-append}
use Rattle.crontab_text.specs.Answers.{BeginsWithByte}
use Rattle.crontab_text.specs.Assignment.{IsNameStart, IsAssignment}
use Rattle.crontab_text.specs.Blanks.{SkipsBlanks}
use Rattle.crontab_text.proofs.BlankLemmas.{same_skip}
use Rattle.std.proofs.lemmas.Bool.{cases_eq}
use Rattle.crontab_text.proofs.TotalLemmas.{some_skip}
use Rattle.crontab_text.proofs.UniqueLemmas.{SameFault}
use Rattle.anacron_text.specs.Answers.{IsAnacronOther, IsBadSetting, AnacronSays, AnacronBreaks, IsBehindBlanks, IsAnacronLineOf, IsAnacronLineBreak, AnacronLineAnswer, Said, Broken, IsAnacronAnswer, SetsByAnswer, AreAnswersBelow, AreAnacronAnswers}
use Rattle.anacron_text.specs.Job.{IsJobFault}
use Rattle.anacron_text.specs.LineBody.{AnacronLineBody, BlankBody, CommentBody, AssignBody, JobBody}
use Rattle.anacron_text.specs.LogicalLines.{logical_lines}
use Rattle.anacron_text.specs.Setting.{IsSetting}
use Rattle.anacron_text.specs.Settings.{SetsVariable, IsBadValue, no_settings}
use Rattle.anacron_text.specs.Spaced.{is_at_line_end, spaced}
use Rattle.anacron_text.specs.declared.settings.Settings.{Settings}
use Rattle.anacron_text.proofs.ChoiceLemmas.{same_number, two_names, sets_or_bad, sets_good, same_bad_value}
use Rattle.anacron_text.proofs.JobLemmas.{same_job, job_or_fault, same_job_fault, some_job, job_fault_within, written_at_end}
use Rattle.anacron_text.proofs.SettingLemmas.{same_setting, setting_or_not, setting_within}
use Rattle.anacron_text.proofs.SettingsLemmas.{same_hours}
use Rattle.anacron_text.proofs.SpacedLemmas.{shown, shown_or_space, same_read_behind}
use Rattle.crontab_text.proofs.AnswerLemmas.{some_byte}

-- what a text may be by its first byte and its name
pub data Shape : Type 0 where
  Empty : Shape
  Note : Shape
  Setting : Shape
  Other : Shape

abbrev HasShape : Shape → List ℕ → Type 0
HasShape Empty text = text ≡ []
HasShape Note text = BeginsWithByte 35 text
HasShape Setting text = (name : List ℕ) × (value : List ℕ) × (left : ℕ) × IsSetting text name value left
HasShape Other text = IsAnacronOther text

-- the first byte of a text that sets a variable may begin a name
setting_begins : (text : List ℕ) → HasShape Setting text → (c : ℕ) × (cs : List ℕ) × (text ≡ c ∷ cs) × IsNameStart c
setting_begins text (name, value, left, is) = by_text text name is.read is.is
  where
    name_begins : (read name value : List ℕ) → IsAssignment read name value → (c : ℕ) × (cs : List ℕ) × (read ≡ c ∷ cs) × IsNameStart c
    name_begins read [] value is = absurd is.is_name
    name_begins read (c ∷ cs) value is = (c, cs ++ (is.between ++ 61 ∷ is.behind), is.text_is, is.is_name.0)

    no_space : (c : ℕ) → c ≡ 32 → IsNameStart c → ⊥
    no_space c is start = grind arith

    by_text : (text name value : List ℕ) → IsAssignment (spaced text) name value → (c : ℕ) × (cs : List ℕ) × (text ≡ c ∷ cs) × IsNameStart c
    by_text [] name value is = let (c, cs, parts, start) = name_begins [] name value is in cc
    by_text (b ∷ bs) name value is =
        let (c, cs, parts, start) = name_begins (spaced (b ∷ bs)) name value is in
        let head : shown b (is_at_line_end bs) ≡ c = cc in
        elim (shown_or_space b (is_at_line_end bs)) [
          | inl same ↦ (b, bs, refl, subst IsNameStart (sym (sym same ∙ head)) start)
          | inr space ↦ absurd (no_space c (sym head ∙ space.0) start)
        ]

no_setting : (text : List ℕ) → HasShape Setting text → BeginsWithByte 35 text → ⊥
no_setting text is begins =
    let (c, cs, parts, start) = setting_begins text is in
    let first : c ≡ 35 = subst (BeginsWithByte 35) parts begins in
    no_hash c first start
  where
    no_hash : (c : ℕ) → c ≡ 35 → IsNameStart c → ⊥
    no_hash c is start = grind arith

setting_some : (text : List ℕ) → HasShape Setting text → text ≢ []
setting_some text is e = let (c, cs, parts, start) = setting_begins text is in cc

-- a text has one shape
same_shape : (a b : Shape) (text : List ℕ) → HasShape a text → HasShape b text → a ≡ b
same_shape Empty Empty text p q = refl
same_shape Note Note text p q = refl
same_shape Setting Setting text p q = refl
same_shape Other Other text p q = refl
same_shape Empty Note text p q = absurd (some_byte 35 text q p)
same_shape Empty Setting text p q = absurd (setting_some text q p)
same_shape Empty Other text p q = absurd (q.some p)
same_shape Note Empty text p q = absurd (some_byte 35 text p q)
same_shape Note Setting text p q = absurd (no_setting text q p)
same_shape Note Other text p q = absurd (q.no_comment p)
same_shape Setting Empty text p q = absurd (setting_some text p q)
same_shape Setting Note text p q = absurd (no_setting text p q)
same_shape Setting Other text (name, value, left, is) q = absurd (q.no_assignment name is.read is.is)
same_shape Other Empty text p q = absurd (p.some q)
same_shape Other Note text p q = absurd (p.no_comment q)
same_shape Other Setting text p (name, value, left, is) = absurd (p.no_assignment name is.read is.is)

abbrev shape_of : AnacronLineBody → Shape
shape_of BlankBody = Empty
shape_of CommentBody = Note
shape_of (AssignBody name value) = Setting
shape_of (JobBody job) = Other

says_shape : (settings : Settings) (text : List ℕ) (body : AnacronLineBody) → AnacronSays settings text body → HasShape (shape_of body) text
says_shape settings text BlankBody says = says
says_shape settings text CommentBody says = says
says_shape settings text (AssignBody name value) says = (name, value, says.left, says.setting)
says_shape settings text (JobBody job) says = says.0

-- a text says one thing
same_says : (settings : Settings) (text : List ℕ) (a b : AnacronLineBody) → AnacronSays settings text a → AnacronSays settings text b → a ≡ b
same_says settings text a b p q = by_shape a b (same_shape (shape_of a) (shape_of b) text (says_shape settings text a p) (says_shape settings text b q)) p q
  where
    by_shape : (a b : AnacronLineBody) → shape_of a ≡ shape_of b → AnacronSays settings text a → AnacronSays settings text b → a ≡ b
    by_shape BlankBody BlankBody same p q = refl
    by_shape CommentBody CommentBody same p q = refl
    by_shape (AssignBody n v) (AssignBody m w) same p q =
        let one = same_setting text n m v w p.left q.left p.setting q.setting in
        let name = one.0 in
        let value = one.1 in
        cc
    by_shape (JobBody j) (JobBody k) same p q = ap JobBody (same_job settings text j k p.1 q.1)
    by_shape BlankBody CommentBody same p q = cc
    by_shape BlankBody (AssignBody m w) same p q = cc
    by_shape BlankBody (JobBody k) same p q = cc
    by_shape CommentBody BlankBody same p q = cc
    by_shape CommentBody (AssignBody m w) same p q = cc
    by_shape CommentBody (JobBody k) same p q = cc
    by_shape (AssignBody n v) BlankBody same p q = cc
    by_shape (AssignBody n v) CommentBody same p q = cc
    by_shape (AssignBody n v) (JobBody k) same p q = cc
    by_shape (JobBody j) BlankBody same p q = cc
    by_shape (JobBody j) CommentBody same p q = cc
    by_shape (JobBody j) (AssignBody m w) same p q = cc

bad_shape : (text : List ℕ) (cause left : ℕ) → IsBadSetting text cause left → HasShape Setting text
bad_shape text cause left bad = (bad.name, bad.value, left, bad.setting)

-- or breaks a rule
says_or_breaks : (settings : Settings) (text : List ℕ) (body : AnacronLineBody) (c l : ℕ) → AnacronSays settings text body → AnacronBreaks text c l → ⊥
says_or_breaks settings text BlankBody c l says (inl bad) = setting_some text (bad_shape text c l bad) says
says_or_breaks settings text BlankBody c l says (inr fault) = fault.0.some says
says_or_breaks settings text CommentBody c l says (inl bad) = no_setting text (bad_shape text c l bad) says
says_or_breaks settings text CommentBody c l says (inr fault) = fault.0.no_comment says
says_or_breaks settings text (AssignBody name value) c l says (inl bad) =
    let same = same_setting text name bad.name value bad.value says.left l says.setting bad.setting in
    says.good c (subst (λ n. IsBadValue n value c) (sym same.0) (subst (λ v. IsBadValue bad.name v c) (sym same.1) bad.bad))
says_or_breaks settings text (AssignBody name value) c l says (inr fault) = fault.0.no_assignment name says.setting.read says.setting.is
says_or_breaks settings text (JobBody job) c l says (inl bad) = says.0.no_assignment bad.name bad.setting.read bad.setting.is
says_or_breaks settings text (JobBody job) c l says (inr fault) = job_or_fault settings text job c l says.1 fault.1

-- a text breaks one rule, at one place
same_breaks : (text : List ℕ) (c d l m : ℕ) → AnacronBreaks text c l → AnacronBreaks text d m → SameFault c d l m
same_breaks text c d l m (inl p) (inl q) =
    let same = same_setting text p.name q.name p.value q.value l m p.setting q.setting in
    (same_bad_value q.name q.value c d (subst (λ n. IsBadValue n q.value c) same.0 (subst (λ v. IsBadValue p.name v c) same.1 p.bad)) q.bad, same.2)
same_breaks text c d l m (inl p) (inr q) = absurd (q.0.no_assignment p.name p.setting.read p.setting.is)
same_breaks text c d l m (inr p) (inl q) = absurd (p.0.no_assignment q.name q.setting.read q.setting.is)
same_breaks text c d l m (inr p) (inr q) = same_job_fault text c d l m p.1 q.1

-- a text stands behind the blanks of a line in one way
same_behind_blanks : (line x y : List ℕ) → IsBehindBlanks line x → IsBehindBlanks line y → x ≡ y
same_behind_blanks line x y first second =
    same_read_behind line x y first.stands second.stands (same_skip (spaced line) (spaced x) (spaced y) first.skips second.skips)

some_behind_blanks : (line : List ℕ) → (text : List ℕ) × IsBehindBlanks line text
some_behind_blanks line =
    let (read, skips) = some_skip (spaced line) in
    let (text, is, stands) = written_at_end line read skips.blanks skips.parts in
    (text, record { skips = subst (SkipsBlanks (spaced line)) (sym is) skips; stands = stands })

-- each line has one answer
pub same_answer : (settings : Settings) (line : List ℕ) (a b : AnacronLineAnswer) → IsAnacronAnswer settings line a → IsAnacronAnswer settings line b → a ≡ b
same_answer settings line (Said a) (Said b) p q =
    let text = same_behind_blanks line p.text q.text p.behind q.behind in
    ap Said (same_says settings q.text a b (subst (λ t. AnacronSays settings t a) text p.says) q.says)
same_answer settings line (Said a) (Broken d y) p q =
    let text = same_behind_blanks line p.text q.is.text p.behind q.is.behind in
    absurd (says_or_breaks settings q.is.text a d q.left (subst (λ t. AnacronSays settings t a) text p.says) q.is.breaks)
same_answer settings line (Broken c x) (Said b) p q =
    let text = same_behind_blanks line q.text p.is.text q.behind p.is.behind in
    absurd (says_or_breaks settings p.is.text b c p.left (subst (λ t. AnacronSays settings t b) text q.says) p.is.breaks)
same_answer settings line (Broken c x) (Broken d y) p q =
    let text = same_behind_blanks line p.is.text q.is.text p.is.behind q.is.behind in
    let same = same_breaks q.is.text c d p.left q.left (subst (λ t. AnacronBreaks t c p.left) text p.is.breaks) q.is.breaks in
    let cause = same.0 in
    let left = same.1 in
    let first = p.place_is in
    let second = q.place_is in
    let place : x ≡ y = omega arith in
    cc

breaks_within : (text : List ℕ) (cause left : ℕ) → AnacronBreaks text cause left → left ≤ length text
breaks_within text cause left (inl bad) = setting_within text bad.name bad.value left bad.setting
breaks_within text cause left (inr fault) = job_fault_within text cause left fault.1

-- a fault stands within its line
pub line_break_within : (line : List ℕ) (cause left : ℕ) → IsAnacronLineBreak line cause left → left ≤ length line
line_break_within line cause left is =
    let within = breaks_within is.text cause left is.breaks in
    let size = ap length is.behind.stands.parts ∙ length-append is.behind.stands.before (is.text ++ is.behind.stands.after) in
    let tail = length-append is.text is.behind.stands.after in omega arith

-- what a text says or breaks
says_some : (settings : Settings) (text : List ℕ) → ((body : AnacronLineBody) × AnacronSays settings text body) ⊎ ((cause : ℕ) × (left : ℕ) × AnacronBreaks text cause left)
says_some settings [] = inl (BlankBody, refl)
says_some settings (c ∷ cs) = elim (cases_eq c 35) [
  | inl is ↦ inl (CommentBody, is)
  | inr no_comment ↦ elim (setting_or_not (c ∷ cs)) [
    | inl (name, value, left, setting) ↦ elim (sets_or_bad settings name value) [
      | inl (new, sets, good) ↦ inl (AssignBody name value, record { left = left; setting = setting; good = good })
      | inr (cause, bad) ↦ inr (cause, left, inl (record { name = name; value = value; setting = setting; bad = bad }))
    ]
    | inr none ↦
        let other : IsAnacronOther (c ∷ cs) = record { some = λ e. cc; no_comment = no_comment; no_assignment = none } in
        elim (some_job settings (c ∷ cs)) [
          | inl (job, is) ↦ inl (JobBody job, (other, is))
          | inr (cause, left, fault) ↦ inr (cause, left, inr (other, fault))
        ]
  ]
]

pub some_answer : (settings : Settings) (line : List ℕ) → (answer : AnacronLineAnswer) × IsAnacronAnswer settings line answer
some_answer settings line =
    let (text, behind) = some_behind_blanks line in
    elim (says_some settings text) [
      | inl (body, says) ↦ (Said body, record { text = text; behind = behind; says = says })
      | inr (cause, left, breaks) ↦
          let is : IsAnacronLineBreak line cause left = record { text = text; behind = behind; breaks = breaks } in
          let within = line_break_within line cause left is in
          (Broken cause (length line - left), record { left = left; is = is; place_is = omega arith })
    ]

-- what an answer sets
same_sets : (old a b : Settings) (name value : List ℕ) → SetsVariable old name value a → SetsVariable old name value b → a ≡ b
same_sets old a b name value (inl p) (inl q) =
    let number = same_number 0 9999 value p.number q.number (omega arith) p.is_number q.is_number in
    let first = p.new_is in
    let second = q.new_is in cc
same_sets old a b name value (inl p) (inr (inl q)) = absurd (two_names name p.name_is q.name_is)
same_sets old a b name value (inl p) (inr (inr q)) = absurd (q.no_delay p.name_is)
same_sets old a b name value (inr (inl p)) (inl q) = absurd (two_names name q.name_is p.name_is)
same_sets old a b name value (inr (inl p)) (inr (inl q)) =
    let hours = same_hours value p.first q.first p.last q.last p.are_hours q.are_hours in
    let from = hours.0 in
    let until = hours.1 in
    let first = p.new_is in
    let second = q.new_is in cc
same_sets old a b name value (inr (inl p)) (inr (inr q)) = absurd (q.no_hours p.name_is)
same_sets old a b name value (inr (inr p)) (inl q) = absurd (p.no_delay q.name_is)
same_sets old a b name value (inr (inr p)) (inr (inl q)) = absurd (p.no_hours q.name_is)
same_sets old a b name value (inr (inr p)) (inr (inr q)) = p.new_is ∙ sym q.new_is

pub same_sets_by : (answer : AnacronLineAnswer) (old a b : Settings) → SetsByAnswer answer old a → SetsByAnswer answer old b → a ≡ b
same_sets_by (Said (AssignBody name value)) old a b p q = same_sets old a b name value p q
same_sets_by (Said BlankBody) old a b p q = p ∙ sym q
same_sets_by (Said CommentBody) old a b p q = p ∙ sym q
same_sets_by (Said (JobBody job)) old a b p q = p ∙ sym q
same_sets_by (Broken cause place) old a b p q = p ∙ sym q

pub some_sets_by : (settings : Settings) (line : List ℕ) (answer : AnacronLineAnswer) → IsAnacronAnswer settings line answer → (next : Settings) × SetsByAnswer answer settings next
some_sets_by settings line (Said (AssignBody name value)) is = elim (sets_or_bad settings name value) [
  | inl (new, sets, good) ↦ (new, sets)
  | inr (cause, bad) ↦ absurd (is.says.good cause bad)
]
some_sets_by settings line (Said BlankBody) is = (settings, refl)
some_sets_by settings line (Said CommentBody) is = (settings, refl)
some_sets_by settings line (Said (JobBody job)) is = (settings, refl)
some_sets_by settings line (Broken cause place) is = (settings, refl)

-- each list of lines has one list of answers
pub same_answers_below : (lines : List (List ℕ)) (settings : Settings) (a b : List AnacronLineAnswer) → AreAnswersBelow lines settings a → AreAnswersBelow lines settings b → a ≡ b
same_answers_below [] settings [] [] p q = refl
same_answers_below [] settings [] (b ∷ bs) p q = absurd q
same_answers_below [] settings (a ∷ as') b p q = absurd p
same_answers_below (line ∷ lines) settings [] b p q = absurd p
same_answers_below (line ∷ lines) settings (a ∷ as') [] p q = absurd q
same_answers_below (line ∷ lines) settings (a ∷ as') (b ∷ bs) (s, is, sets, rest) (t, was, puts, more) =
    let answer = same_answer settings line a b is was in
    let next = same_sets_by b settings s t (subst (λ x. SetsByAnswer x settings s) answer sets) puts in
    let tail = same_answers_below lines t as' bs (subst (λ x. AreAnswersBelow lines x as') next rest) more in
    cc

pub some_answers_below : (lines : List (List ℕ)) (settings : Settings) → (answers : List AnacronLineAnswer) × AreAnswersBelow lines settings answers
some_answers_below [] settings = ([], tt)
some_answers_below (line ∷ lines) settings =
    let (answer, is) = some_answer settings line in
    let (next, sets) = some_sets_by settings line answer is in
    let (answers, are) = some_answers_below lines next in
    (answer ∷ answers, (next, is, sets, are))

pub same_answers : (text : List ℕ) (a b : List AnacronLineAnswer) → AreAnacronAnswers text a → AreAnacronAnswers text b → a ≡ b
same_answers text a b p q = same_answers_below (logical_lines text) no_settings a b p q

pub some_answers : (text : List ℕ) → (answers : List AnacronLineAnswer) × AreAnacronAnswers text answers
some_answers text = some_answers_below (logical_lines text) no_settings

-- a line that sets a variable
pub line_sets : (old new : Settings) (line text name value : List ℕ) (left : ℕ) → IsBehindBlanks line text → IsSetting text name value left → SetsVariable old name value new → IsAnacronLineOf old line (AssignBody name value)
line_sets old new line text name value left behind setting sets =
    record { text = text; behind = behind; says = record { left = left; setting = setting; good = sets_good old new name value sets } }

-- a line whose job is at fault
pub line_breaks_job : (line text : List ℕ) (cause left : ℕ) → IsBehindBlanks line text → IsAnacronOther text → IsJobFault text cause left → IsAnacronLineBreak line cause left
line_breaks_job line text cause left behind other fault = record { text = text; behind = behind; breaks = inr (other, fault) }
