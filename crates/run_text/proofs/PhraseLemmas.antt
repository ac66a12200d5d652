-- The lines of a run file that hold a phrase.
use Rattle.std.proofs.Common.{◌≡◌, ◌≢◌, ℕ, ◌<◌, ◌≤◌, List, [], ◌∷◌, ◌++◌, length, get_or, refl, ap, ◌∙◌, sym, arith, rules, codes, decimal}
use Rattle.std.specs.List.{AllByRecursion}
use Rattle.std.proofs.lemmas.List.{append_cancel_left}
use Rattle.std.proofs.lemmas.Fmt.{decimal_injective}
use Rattle.run_text.specs.Grammar.{IsLabelStart, IsLabelByte, IsLabel, IsZoneByte, IsZoneName, replicas_line, IsReplicasLine, IsGraceLine, section_word, IsSectionLine, HasSectionWord}
use Rattle.run_text.specs.declared.run.SectionKind.{SectionKind}
use Rattle.run_text.specs.declared.run.SectionKind.TheVariants.{User, System, Anacron}
use Rattle.run_text.proofs.ListLemmas.{Lacks, same_cut}
use Rattle.script_text.proofs.CutLemmas.{Lacks-from_get_or, IsCutAtSpace}

-- what the parts of `split_once` at a space lack
pub lacks_space : (text : List ℕ) → ((i : ℕ) → i < length text → get_or text i 0 ≢ 32) → Lacks 32 text
lacks_space text none = Lacks-from_get_or 32 text none

pub same_space : (text a b x y : List ℕ) → IsCutAtSpace text a x → text ≡ b ++ 32 ∷ y → Lacks 32 b → (a ≡ b) × (x ≡ y)
same_space text a b x y cut is lacks =
    let same = same_cut (λ c. c ≡ 32) a b (32 ∷ x) (32 ∷ y) cut.lacks lacks refl refl (sym cut.parts ∙ is) in
    let tails = same.1 in
    (same.0, cc)

-- neither a label, nor a zone's name, nor the word of a section has a space
label_start_no_space : (c : ℕ) → IsLabelStart c → c ≡ 32 → ⊥
label_start_no_space c start is = grind arith

label_byte_no_space : (c : ℕ) → IsLabelByte c → c ≡ 32 → ⊥
label_byte_no_space c byte is = grind arith

zone_byte_no_space : (c : ℕ) → IsZoneByte c → c ≡ 32 → ⊥
zone_byte_no_space c byte is = grind arith

bytes_no_space : (text : List ℕ) → AllByRecursion IsLabelByte text → Lacks 32 text
bytes_no_space [] all = tt
bytes_no_space (c ∷ cs) all = (label_byte_no_space c all.0, bytes_no_space cs all.1)

zone_bytes_no_space : (text : List ℕ) → AllByRecursion IsZoneByte text → Lacks 32 text
zone_bytes_no_space [] all = tt
zone_bytes_no_space (c ∷ cs) all = (zone_byte_no_space c all.0, zone_bytes_no_space cs all.1)

pub label_no_space : (label : List ℕ) → IsLabel label → Lacks 32 label
label_no_space [] is = absurd is
label_no_space (c ∷ cs) is = (label_start_no_space c is.0, bytes_no_space cs is.1)

pub zone_no_space : (zone : List ℕ) → IsZoneName zone → Lacks 32 zone
zone_no_space zone is = zone_bytes_no_space zone is.2

word_no_space : (kind : SectionKind) → Lacks 32 (section_word kind)
word_no_space User = search rules
word_no_space System = search rules
word_no_space Anacron = search rules

module _ (line : List ℕ) (kind : SectionKind) (label zone : List ℕ) (count : ℕ) (is : IsSectionLine line kind label zone count) where
  -- what is behind the word
  pub behind_word : (word rest : List ℕ) → IsCutAtSpace line word rest → (word ≡ section_word kind) × (rest ≡ label ++ (32 ∷ zone ++ (32 ∷ decimal count)))
  behind_word word rest cut = same_space line word (section_word kind) rest (label ++ (32 ∷ zone ++ (32 ∷ decimal count))) cut is.is (word_no_space kind)

  pub behind_label : (word rest front last : List ℕ) → IsCutAtSpace line word rest → IsCutAtSpace rest front last → (front ≡ label) × (last ≡ zone ++ (32 ∷ decimal count))
  behind_label word rest front last cut next =
      same_space rest front label last (zone ++ (32 ∷ decimal count)) next (behind_word word rest cut).1 (label_no_space label is.is_label)

  pub behind_zone : (word rest front last back number : List ℕ) → IsCutAtSpace line word rest → IsCutAtSpace rest front last → IsCutAtSpace last back number → (back ≡ zone) × (number ≡ decimal count)
  behind_zone word rest front last back number cut next third =
      same_space last back zone number (decimal count) third (behind_label word rest front last cut next).1 (zone_no_space zone is.is_zone)

-- the line of such parts
pub section_from_parts : (line : List ℕ) (kind : SectionKind) (label zone : List ℕ) (count : ℕ) (word rest last number : List ℕ)
    → IsCutAtSpace line word rest → IsCutAtSpace rest label last → IsCutAtSpace last zone number
    → word ≡ section_word kind → number ≡ decimal count → IsLabel label → IsZoneName zone → count ≤ 65_535
    → IsSectionLine line kind label zone count
section_from_parts line kind label zone count word rest last number first second third word_is number_is is_label is_zone short = record {
  is = first.parts ∙ ap (λ w. w ++ 32 ∷ rest) word_is ∙ ap (λ t. section_word kind ++ 32 ∷ t) (second.parts ∙ ap (λ t. label ++ 32 ∷ t) (third.parts ∙ ap (λ t. zone ++ 32 ∷ t) number_is));
  is_label = is_label;
  is_zone = is_zone;
  short = short;
}

-- one number of replicas stands in a line
pub one_replicas_line : (a b : ℕ) → a ≤ 7 → b ≤ 7 → replicas_line a ≡ replicas_line b → a ≡ b
one_replicas_line a b small short same = decimal_injective a b (omega arith) (omega arith) (append_cancel_left (codes "replicas ") (decimal a) (decimal b) same)

pub one_members : (line : List ℕ) (a b : ℕ) → IsReplicasLine line a → IsReplicasLine line b → a ≡ b
one_members line a b first second = one_replicas_line a b first.few second.few (sym first.is ∙ second.is)

-- one number of minutes stands in a grace line
pub one_grace_line : (line : List ℕ) (a b : ℕ) → IsGraceLine line a → IsGraceLine line b → a ≡ b
one_grace_line line a b first second =
    decimal_injective a b (omega (arith, first.short)) (omega (arith, second.short))
    (append_cancel_left (codes "grace ") (decimal a) (decimal b) (sym first.is ∙ second.is))

-- what a line that opens a section says, it says alone
pub record SameOpening (k l : SectionKind) (a b x y : List ℕ) (m n : ℕ) : Type 0 where
  pub kind : k ≡ l
  pub label : a ≡ b
  pub zone : x ≡ y
  pub count : m ≡ n

same_kind : (k l : SectionKind) → section_word k ≡ section_word l → k ≡ l
same_kind User User is = refl
same_kind System System is = refl
same_kind Anacron Anacron is = refl
same_kind User System is = absurd (omega (arith, ap length is))
same_kind User Anacron is = absurd (omega (arith, ap length is))
same_kind System User is = absurd (omega (arith, ap length is))
same_kind System Anacron is = absurd (omega (arith, ap length is))
same_kind Anacron User is = absurd (omega (arith, ap length is))
same_kind Anacron System is = absurd (omega (arith, ap length is))

pub one_opening : (line : List ℕ) (k l : SectionKind) (a b x y : List ℕ) (m n : ℕ) → IsSectionLine line k a x m → IsSectionLine line l b y n → SameOpening k l a b x y m n
one_opening line k l a b x y m n first second =
    let cut : IsCutAtSpace line (section_word k) (a ++ (32 ∷ x ++ (32 ∷ decimal m))) = record { parts = first.is; lacks = word_no_space k } in
    let next : IsCutAtSpace (a ++ (32 ∷ x ++ (32 ∷ decimal m))) a (x ++ (32 ∷ decimal m)) = record { parts = refl; lacks = label_no_space a first.is_label } in
    let third : IsCutAtSpace (x ++ (32 ∷ decimal m)) x (decimal m) = record { parts = refl; lacks = zone_no_space x first.is_zone } in
    let zones = behind_zone line l b y n second _ _ _ _ _ _ cut next third in
    record {
      kind = same_kind k l (behind_word line l b y n second _ _ cut).0;
      label = (behind_label line l b y n second _ _ _ _ cut next).0;
      zone = zones.0;
      count = decimal_injective m n (omega (arith, first.short)) (omega (arith, second.short)) zones.1;
    }

-- the first word of a line that opens a section
pub opening_word : (line : List ℕ) (kind : SectionKind) (label zone : List ℕ) (count : ℕ) → IsSectionLine line kind label zone count → HasSectionWord line
opening_word line User label zone count is = (User, rw is.is refl)
opening_word line System label zone count is = (System, rw is.is refl)
opening_word line Anacron label zone count is = (Anacron, rw is.is refl)
