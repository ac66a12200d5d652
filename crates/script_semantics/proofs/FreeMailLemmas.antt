-- The letters that join a mail turn by turn are those that were posted meanwhile.
use Rattle.std.proofs.Common.{◌≡◌, ℕ, zero, suc, ◌+◌, ◌-◌, ◌<◌, ◌≤◌, ◌==◌, ◌&&◌, not, Bool, true, false, List, [], ◌∷◌, ◌++◌, Some, None, Option, length, filter, refl, sym, ap, ◌∙◌, subst, arith, append_assoc, inl, inr}
use Rattle.std.specs.List.{range_with_len, slice_get}
use Rattle.std.proofs.lemmas.Bool.{cases_Bool}
use Rattle.std.proofs.lemmas.List.{append-nil, length-append}
use Rattle.std.proofs.lemmas.List.Elements.{filter-append}
use Rattle.history.specs.Book.{PostedLetter, Row}
use Rattle.script_semantics.specs.Situation.{Situation, after_turn, is_cut, letters_for, reaches}
use Rattle.script_semantics.specs.Free.{after_all_posted, after_posted, is_turn_of}
use Rattle.script_semantics.proofs.StopLemmas.{other_arms, other_bases}
use Rattle.script_semantics.specs.Others.{AreOthers}
use Rattle.script_semantics.proofs.OtherLemmas.{fate_stays, mail_stays, posts, replica_stays, runs_stay, waits_stay}

-- ---- numbers in a row

pub split_range : (first one more : ℕ) → range_with_len first (one + more) ≡ range_with_len first one ++ range_with_len (first + one) more
split_range first zero more = (let same : first + zero ≡ first = omega arith in let all : zero + more ≡ more = omega arith in rw (same, all) refl)
split_range first (suc one) more =
    let long : suc one + more ≡ suc (one + more) = omega arith in
    let next : first + 1 + one ≡ first + suc one = omega arith in
    ap (range_with_len first) long ∙ ap (λ l. first ∷ l) (split_range (first + 1) one more)
    ∙ ap (λ n. (first ∷ range_with_len (first + 1) one) ++ range_with_len n more) next

-- tests that agree on the numbers of a row pass the same of them
pub same_passes : (p q : ℕ → Bool) (first count : ℕ) → ((n : ℕ) → n < first + count → p n ≡ q n)
    → filter p (range_with_len first count) ≡ filter q (range_with_len first count)
same_passes p q first zero same = refl
same_passes p q first (suc count) same =
    let rest = same_passes p q (first + 1) count (λ n below. same n (omega arith)) in
    let here : p first ≡ q first = same first (omega arith) in
    elim (cases_Bool (p first)) [
      | inl is ↦ (let other : q first ≡ true = sym here ∙ is in rw (is, other) (ap (λ l. first ∷ l) rest))
      | inr isnt ↦ (let other : q first ≡ false = sym here ∙ isnt in rw (isnt, other) rest)
    ]

pub found_still : {X : Type 0} (xs ys : List X) (n : ℕ) → n < length xs → slice_get (xs ++ ys) n ≡ slice_get xs n
found_still [] ys n below = absurd (omega arith)
found_still (x ∷ xs) ys zero below = refl
found_still (x ∷ xs) ys (suc n) below = found_still xs ys n (omega arith)

-- ---- what reaches a replica

-- by whether it runs, and what is lost
abbrev arrives : Bool → List (ℕ × ℕ) → ℕ → Option PostedLetter → Bool
arrives runs cuts who None = false
arrives runs cuts who (Some letter) = (letter.to == who) && (runs && not (is_cut letter.from letter.to cuts))

is_arrival : (situation : Situation) (who : ℕ) (letter : Option PostedLetter)
    → reaches situation who letter ≡ arrives (situation.standing.runs who) situation.cuts who letter
is_arrival situation who None = refl
is_arrival situation who (Some letter) = refl

abbrev arrivals : Bool → List (ℕ × ℕ) → ℕ → List PostedLetter → ℕ → List ℕ
arrivals runs cuts who posted first = filter (λ n. arrives runs cuts who (slice_get posted n)) (range_with_len first (length posted - first))

letters_are : (situation : Situation) (who first : ℕ)
    → letters_for situation first who ≡ arrivals (situation.standing.runs who) situation.cuts who situation.standing.posted first
letters_are situation who first =
    let posted = situation.standing.posted in
    same_passes (λ n. reaches situation who (slice_get posted n)) (λ n. arrives (situation.standing.runs who) situation.cuts who (slice_get posted n)) first
    (length posted - first) (λ n below. is_arrival situation who (slice_get posted n))

-- those of the first letters, and then those of the letters behind them
in_two : (runs : Bool) (cuts : List (ℕ × ℕ)) (who : ℕ) (posted new : List PostedLetter) (first : ℕ) → first ≤ length posted
    → arrivals runs cuts who (posted ++ new) first ≡ arrivals runs cuts who posted first ++ arrivals runs cuts who (posted ++ new) (length posted)
in_two runs cuts who posted new first within =
    let test : ℕ → Bool = λ n. arrives runs cuts who (slice_get (posted ++ new) n) in
    let old : ℕ → Bool = λ n. arrives runs cuts who (slice_get posted n) in
    let front : ℕ = length posted - first in
    let back : ℕ = length (posted ++ new) - length posted in
    let all : length (posted ++ new) - first ≡ front + back = (let long = length-append posted new in omega arith) in
    let seam : first + front ≡ length posted = omega arith in
    ap (λ n. filter test (range_with_len first n)) all ∙ ap (filter test) (split_range first front back)
    ∙ filter-append test (range_with_len first front) (range_with_len (first + front) back)
    ∙ ap (λ n. filter test (range_with_len first front) ++ filter test (range_with_len n back)) seam
    ∙ ap (λ l. l ++ filter test (range_with_len (length posted) back))
    (same_passes test old first front (λ n below. ap (arrives runs cuts who) (found_still posted new n (omega arith))))

no_letters : (runs : Bool) (cuts : List (ℕ × ℕ)) (who : ℕ) (posted : List PostedLetter) → arrivals runs cuts who posted (length posted) ≡ []
no_letters runs cuts who posted = let none : length posted - length posted ≡ 0 = omega arith in rw none refl

-- ---- turn by turn

-- what the turns of others leave of a replica, and what they post
pub record Passes (who : ℕ) (old new : Situation) : Type 0 where
  pub replica : new.standing.replicas who ≡ old.standing.replicas who
  pub runs : new.standing.runs who ≡ old.standing.runs who
  pub waits : new.standing.waits who ≡ old.standing.waits who
  pub fate : new.fates who ≡ old.fates who
  pub arm : new.arms who ≡ old.arms who
  pub bases : new.bases who ≡ old.bases who
  pub cuts : new.cuts ≡ old.cuts
  pub skews : new.skews ≡ old.skews
  pub posted : List PostedLetter
  pub posted_is : new.standing.posted ≡ old.standing.posted ++ posted
  pub mail : new.mails who ≡ old.mails who ++ letters_for new (length old.standing.posted) who

pub passes_none : (who : ℕ) (situation : Situation) → Passes who situation situation
passes_none who situation = record {
  replica = refl;
  runs = refl;
  waits = refl;
  fate = refl;
  arm = refl;
  bases = refl;
  cuts = refl;
  skews = refl;
  posted = [];
  posted_is = sym (append-nil situation.standing.posted);
  mail =
      sym (ap (λ l. situation.mails who ++ l)
      (letters_are situation who (length situation.standing.posted) ∙ no_letters (situation.standing.runs who) situation.cuts who situation.standing.posted)
      ∙ append-nil (situation.mails who));
}

pub passes_one : (members who : ℕ) (situation : Situation) (row : Row) → is_turn_of who row.turn ≡ false
    → Passes who situation (after_posted members situation row)
passes_one members who situation row other =
    let new = posts members situation.standing row.turn row.event row.letters in
    record {
      replica = replica_stays members situation.standing row.turn row.event row.letters who other;
      runs = runs_stay members situation.standing row.turn row.event row.letters who other;
      waits = waits_stay members situation.standing row.turn row.event row.letters who other;
      fate = fate_stays row.turn situation.fates who other;
      arm = other_arms members situation row who other;
      bases = other_bases members situation row who other;
      cuts = refl;
      skews = refl;
      posted = new.0;
      posted_is = new.1;
      mail =
          ap (λ l. l ++ letters_for (after_turn members situation row) (length situation.standing.posted) who)
          (mail_stays row.turn situation.mails who other);
    }

pub passes_on : (who : ℕ) (one two three : Situation) → Passes who one two → Passes who two three → Passes who one three
passes_on who one two three first second =
    let runs = one.standing.runs who in
    let first_posted = one.standing.posted in
    let between : two.standing.posted ≡ first_posted ++ first.posted = first.posted_is in
    let last : three.standing.posted ≡ two.standing.posted ++ second.posted = second.posted_is in
    let front : letters_for two (length first_posted) who ≡ arrivals runs one.cuts who two.standing.posted (length first_posted) =
    letters_are two who (length first_posted) ∙ ap (λ r. arrivals r two.cuts who two.standing.posted (length first_posted)) first.runs
    ∙ ap (λ c. arrivals runs c who two.standing.posted (length first_posted)) first.cuts in
    let lettered : (from : ℕ) → letters_for three from who ≡ arrivals runs one.cuts who three.standing.posted from =
    λ from. letters_are three who from ∙ ap (λ r. arrivals r three.cuts who three.standing.posted from) (second.runs ∙ first.runs)
    ∙ ap (λ c. arrivals runs c who three.standing.posted from) (second.cuts ∙ first.cuts) in
    let long = ap length between in
    let sum = length-append first_posted first.posted in
    let within : length first_posted ≤ length two.standing.posted = omega (arith, long, sum) in
    let whole : arrivals runs one.cuts who three.standing.posted (length first_posted)
    ≡ arrivals runs one.cuts who two.standing.posted (length first_posted) ++ arrivals runs one.cuts who three.standing.posted (length two.standing.posted) =
    subst
    (λ posted. arrivals runs one.cuts who posted (length first_posted)
    ≡ arrivals runs one.cuts who two.standing.posted (length first_posted) ++ arrivals runs one.cuts who posted (length two.standing.posted))
    (sym last) (in_two runs one.cuts who two.standing.posted second.posted (length first_posted) within) in
    record {
      replica = second.replica ∙ first.replica;
      runs = second.runs ∙ first.runs;
      waits = second.waits ∙ first.waits;
      fate = second.fate ∙ first.fate;
      arm = second.arm ∙ first.arm;
      bases = second.bases ∙ first.bases;
      cuts = second.cuts ∙ first.cuts;
      skews = second.skews ∙ first.skews;
      posted = first.posted ++ second.posted;
      posted_is = last ∙ ap (λ l. l ++ second.posted) between ∙ append_assoc first_posted first.posted second.posted;
      mail =
          second.mail ∙ ap (λ l. l ++ letters_for three (length two.standing.posted) who) first.mail
          ∙ append_assoc (one.mails who) (letters_for two (length first_posted) who) (letters_for three (length two.standing.posted) who)
          ∙ ap (λ l. one.mails who ++ l)
          (ap (λ l. l ++ letters_for three (length two.standing.posted) who) front
          ∙ ap (λ l. arrivals runs one.cuts who two.standing.posted (length first_posted) ++ l) (lettered (length two.standing.posted))
          ∙ sym whole ∙ sym (lettered (length first_posted)));
    }

pub others_pass : (members who : ℕ) (situation : Situation) (rows : List Row) → AreOthers who rows
    → Passes who situation (after_all_posted members situation rows)
others_pass members who situation [] others = passes_none who situation
others_pass members who situation (row ∷ rows) others =
    let next = after_posted members situation row in
    passes_on who situation next (after_all_posted members next rows) (passes_one members who situation row others.0)
    (others_pass members who next rows others.1)
