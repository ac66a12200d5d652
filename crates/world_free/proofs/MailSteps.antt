-- The loops that look at letters.
use Rattle.std.proofs.Common.{◌≡◌, ℕ, zero, suc, ◌+◌, ◌-◌, ◌≤◌, List, [], ◌∷◌, ◌++◌, Some, length, map, refl, sym, ap, ◌∙◌, arith, append_assoc}
use Rattle.std.specs.List.{slice_get}
use Rattle.std.proofs.lemmas.List.{append-nil, length-append, length-map}
use Rattle.history.specs.Book.{PostedLetter, post}
use Rattle.step_spec.specs.declared.out.OutLetter.{OutLetter}
use Rattle.world_law.specs.Book.{posted_as}
use Rattle.world_law.specs.declared.letter.LetterRow.{LetterRow}
use Rattle.script_semantics.specs.Others.{mail_behind}
use Rattle.world_steps.specs.declared.mail.MemberMail.{MemberMail}
use Rattle.world_steps.specs.declared.steps.Taken.{Taken}
use Rattle.world_free.specs.Mails.{HasFirstBytes, HasLooked, KeepsSet, coming, posted_with}
use Rattle.world_free.specs.declared.job.FreeMail.{FreeMail}
use Rattle.world_free.proofs.Letters.{coming_in_two, coming_next, one_coming}

-- so many letters have been looked at
pub record Looking (cuts : List (ℕ × ℕ)) (who : ℕ) (posted : List PostedLetter) (first number : ℕ) (old now : FreeMail) : Type 0 where
  pub set : KeepsSet old now
  pub looked : now.looked ≡ old.looked
  pub letters_are : now.mail.letters.items ≡ old.mail.letters.items ++ coming cuts who posted first (number - first)

pub set_none : (mail : FreeMail) → KeepsSet mail mail
set_none mail = record { runs = refl; skew = refl; fate = refl; waits = refl; arm = refl }

pub set_on : (one two three : FreeMail) → KeepsSet one two → KeepsSet two three → KeepsSet one three
set_on one two three first second = record {
  runs = second.runs ∙ first.runs;
  skew = second.skew ∙ first.skew;
  fate = second.fate ∙ first.fate;
  waits = second.waits ∙ first.waits;
  arm = second.arm ∙ first.arm;
}

pub looking_none : (cuts : List (ℕ × ℕ)) (who : ℕ) (posted : List PostedLetter) (first : ℕ) (mail : FreeMail) → Looking cuts who posted first first mail mail
looking_none cuts who posted first mail = record {
  set = set_none mail;
  looked = refl;
  letters_are =
      let none : first - first ≡ 0 = omega arith in
      sym (ap (λ n. mail.mail.letters.items ++ coming cuts who posted first n) none ∙ append-nil mail.mail.letters.items);
}

pub looking_next : (cuts : List (ℕ × ℕ)) (who : ℕ) (posted : List PostedLetter) (first number : ℕ) (letter : PostedLetter) (old now new : FreeMail) → first ≤ number → Looking cuts who posted first number old now
    → slice_get posted number ≡ Some letter → KeepsSet now new → new.looked ≡ now.looked → new.mail.letters.items ≡ now.mail.letters.items ++ one_coming cuts who (Some letter) number
    → Looking cuts who posted first (number + 1) old new
looking_next cuts who posted first number letter old now new from so_far there set looked letters = record {
  set = set_on old now new so_far.set set;
  looked = looked ∙ so_far.looked;
  letters_are =
      let at : first + (number - first) ≡ number = omega (arith, from) in
      let one : number + 1 - first ≡ number - first + 1 = omega (arith, from) in
      letters ∙ ap (λ l. l ++ one_coming cuts who (Some letter) number) so_far.letters_are
      ∙ append_assoc old.mail.letters.items (coming cuts who posted first (number - first)) (one_coming cuts who (Some letter) number)
      ∙ ap (λ l. old.mail.letters.items ++ (coming cuts who posted first (number - first) ++ l))
      (ap (λ found. one_coming cuts who found number) (sym there) ∙ ap (λ n. one_coming cuts who (slice_get posted n) n) (sym at))
      ∙ ap (λ l. old.mail.letters.items ++ l) (sym (coming_next cuts who posted first (number - first)) ∙ ap (coming cuts who posted first) (sym one));
}

-- ---- where a letter stands

pub posted_there : (letters : List LetterRow) (number : ℕ) (letter : LetterRow) → slice_get letters number ≡ Some letter → slice_get (map posted_as letters) number ≡ Some (posted_as letter)
posted_there [] number letter is = absurd cc
posted_there (first ∷ letters) zero letter is = ap (λ (l : LetterRow). Some (posted_as l)) (let same : first ≡ letter = cc in same)
posted_there (first ∷ letters) (suc number) letter is = posted_there letters number letter is

abbrev pub as_posted : ℕ → OutLetter → PostedLetter
as_posted who letter = record { from = who; to = letter.to; bytes = letter.bytes }

out_there : (who : ℕ) (letters : List OutLetter) (place : ℕ) (letter : OutLetter) → slice_get letters place ≡ Some letter → slice_get (post who letters) place ≡ Some (as_posted who letter)
out_there who [] place letter is = absurd cc
out_there who (first ∷ letters) zero letter is = ap (λ (l : OutLetter). Some (as_posted who l)) (let same : first ≡ letter = cc in same)
out_there who (first ∷ letters) (suc place) letter is = out_there who letters place letter is

behind_there : {X : Type 0} (before xs : List X) (place : ℕ) → slice_get (before ++ xs) (length before + place) ≡ slice_get xs place
behind_there [] xs place = (let same : 0 + place ≡ place = omega arith in ap (slice_get xs) same)
behind_there (x ∷ before) xs place =
    let next : suc (length before) + place ≡ suc (length before + place) = omega arith in
    ap (slice_get (x ∷ (before ++ xs))) next ∙ behind_there before xs place

pub step_there : (who : ℕ) (before : List PostedLetter) (letters : List OutLetter) (place : ℕ) (letter : OutLetter) → slice_get letters place ≡ Some letter
    → slice_get (before ++ post who letters) (length before + place) ≡ Some (as_posted who letter)
step_there who before letters place letter is = behind_there before (post who letters) place ∙ out_there who letters place letter is

-- ---- a whole look

pub looked_all : (cuts : List (ℕ × ℕ)) (letters : List LetterRow) (who : ℕ) (taken : Taken) (old heard book step new : FreeMail) (first : ℕ) → first ≡ length letters → old.looked ≤ length letters
    → heard.mail.letters.items ≡ mail_behind taken.cause old.mail.letters.items → KeepsSet old heard → heard.looked ≡ old.looked
    → book.mail.letters.items ≡ heard.mail.letters.items ++ coming cuts who (map posted_as letters) heard.looked (length letters - heard.looked) → KeepsSet heard book
    → ((before : List PostedLetter) → length before ≡ first → step.mail.letters.items ≡ book.mail.letters.items ++ coming cuts who (before ++ post who taken.out.letters) first (length taken.out.letters))
    → KeepsSet book step → new.mail ≡ step.mail → new.looked ≡ first + length taken.out.letters → HasFirstBytes (map posted_as letters ++ post who taken.out.letters) new
    → HasLooked cuts letters who taken old new
looked_all cuts letters who taken old heard book step new first count within hears set_heard looked_heard from_book set_book from_step set_step mail looked bytes = record {
  set = set_on old step new (set_on old book step (set_on old heard book set_heard set_book) set_step) same_set;
  letters_are =
      ap (λ (m : MemberMail). m.letters.items) mail ∙ from_step (map posted_as letters) (long ∙ sym count)
      ∙ ap (λ l. l ++ coming cuts who (posted_with letters who taken) first (length taken.out.letters)) (from_book ∙ ap (λ l. l ++ coming cuts who (map posted_as letters) heard.looked (length letters - heard.looked)) hears)
      ∙ append_assoc (mail_behind taken.cause old.mail.letters.items) (coming cuts who (map posted_as letters) heard.looked (length letters - heard.looked)) (coming cuts who (posted_with letters who taken) first (length taken.out.letters))
      ∙ ap (λ l. mail_behind taken.cause old.mail.letters.items ++ l) (both ∙ sym (coming_in_two cuts who (map posted_as letters) (post who taken.out.letters) old.looked (rw long within)));
  looked = looked ∙ (let sum = length-append (map posted_as letters) (post who taken.out.letters) in omega (arith, sum, long, count, posted));
  bytes = bytes;
}
  where
    long : length (map posted_as letters) ≡ length letters
    long = length-map letters posted_as

    posted : length (post who taken.out.letters) ≡ length taken.out.letters
    posted = length-map taken.out.letters (as_posted who)

    same_set : KeepsSet step new
    same_set = record {
      runs = ap (λ (m : MemberMail). m.runs) mail;
      skew = ap (λ (m : MemberMail). m.skew) mail;
      fate = ap (λ (m : MemberMail). m.fate) mail;
      waits = ap (λ (m : MemberMail). m.waits) mail;
      arm = ap (λ (m : MemberMail). m.arm) mail;
    }

    both : coming cuts who (map posted_as letters) heard.looked (length letters - heard.looked) ++ coming cuts who (posted_with letters who taken) first (length taken.out.letters)
        ≡ coming cuts who (map posted_as letters) old.looked (length (map posted_as letters) - old.looked)
        ++ coming cuts who (posted_with letters who taken) (length (map posted_as letters)) (length (post who taken.out.letters))
    both = rw (looked_heard, count, long, posted) refl
