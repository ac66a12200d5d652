-- What commands do to the letters that wait.
use Rattle.std.proofs.Common.{◌≡◌, ℕ, true, false, if◌then◌else◌, List, [], ◌∷◌, ◌++◌, map, reverse, None, Some, refl, sym, ap, ◌∙◌, subst, inl, inr}
use Rattle.std.specs.List.{Contains, slice_get}
use Rattle.std.specs.Option.{option_map}
use Rattle.std.proofs.Math.ListN.{set}
use Rattle.std.proofs.lemmas.List.{reverse-append}
use Rattle.std.proofs.lemmas.List.Elements.{Contains-append_cases}
use Rattle.std.proofs.lemmas.Option.{slice_get-map}
use Rattle.disk_model.specs.View.{DiskView}
use Rattle.due_set.specs.Table.{Table}
use Rattle.history.specs.Book.{PostedLetter, Row, Standing}
use Rattle.script_semantics.specs.Commands.{set_by, with_letter, with_mail}
use Rattle.script_semantics.specs.Situation.{Situation}
use Rattle.script_text.specs.declared.command.Command.TheVariants as command
use Rattle.step_spec.proofs.Lists.{nothing_in}
use Rattle.world_law.specs.Book.{posted_as}
use Rattle.world_law.specs.declared.letter.LetterRow.{LetterRow}
use Rattle.world_rounds.proofs.Setting.{member_set}
use Rattle.world_rounds.specs.Mails.{Changes}
use Rattle.world_steps.specs.Parts.{IsSentTo, armed_in}
use Rattle.world_rounds.specs.World.{IsWorldAt}
use Rattle.world_rounds.specs.declared.member.Member.{Member}
use Rattle.world_rounds.specs.declared.world.World.{World}
use Rattle.due_set.proofs.Rising.{Contains-head as in_first, Contains-tail as in_rest, Contains-cases as cons_cases}
use Rattle.history.proofs.Standings.{fact_here, fact_there}

-- ---- what lists have

pub in_reverse : (xs : List ℕ) (x : ℕ) → Contains (reverse xs) x → Contains xs x
in_reverse [] x has = has
in_reverse (y ∷ xs) x has = elim (Contains-append_cases (reverse xs) (y ∷ []) x (subst (λ ys. Contains ys x) (reverse-append (y ∷ []) xs) has)) [
  | inl more ↦ in_rest y xs x (in_reverse xs x more)
  | inr last ↦ elim (cons_cases y [] x last) [ inl same ↦ subst (Contains (y ∷ xs)) same (in_first y xs) | inr none ↦ nothing_in none ]
]

module _ {D : Type 0} (view : DiskView D) where
  pub posted_are : (table : Table) (rows : List Row) (world : World D) (situation : Situation) → IsWorldAt view table rows world situation
      → situation.standing.posted ≡ map posted_as world.book.letters
  posted_are table rows world situation is = ap (λ (s : Standing). s.posted) is.ahead.at.standing ∙ sym is.ahead.at.behind.letters

  -- another mail of one replica
  pub mail_put : (old new : World D) (who : ℕ) (change : List PostedLetter → List ℕ → List ℕ) (member next : Member D) → new.book ≡ old.book → new.latest ≡ old.latest → new.cuts ≡ old.cuts
      → slice_get old.members.items who ≡ Some member → new.members.items ≡ set old.members.items who next → next.node ≡ member.node → next.steps ≡ member.steps
      → next.mail.runs ≡ member.mail.runs → next.mail.skew ≡ member.mail.skew → next.mail.fate ≡ member.mail.fate → next.mail.waits ≡ member.mail.waits → next.mail.arm ≡ member.mail.arm
      → next.mail.letters.items ≡ change (map posted_as old.book.letters) member.mail.letters.items
      → (((number : ℕ) → Contains member.mail.letters.items number → IsSentTo old.book.letters who number) → (number : ℕ) → Contains next.mail.letters.items number → IsSentTo old.book.letters who number)
      → Changes view (λ situation. with_mail who (change situation.standing.posted (situation.mails who)) situation) old new
  mail_put old new who change member next book latest cuts there members node steps runs skew fate waits arm letters sent =
      member_set view old new who member next (λ situation. with_mail who (change situation.standing.posted (situation.mails who)) situation) book latest cuts there members node steps
      (λ s. refl) (λ s. refl) (λ s. refl) (λ s. refl) (λ s other differs. fact_there who (change s.standing.posted (s.mails who)) s.mails other differs) (λ s other differs. refl) (λ s other differs. refl)
      (λ s other differs. refl)
      (λ table rows s at is. record {
        runs = runs ∙ is.runs;
        letters_are =
            fact_here who (change s.standing.posted (s.mails who)) s.mails ∙ ap (λ posted. change posted (s.mails who)) (posted_are table rows old s at)
            ∙ ap (change (map posted_as old.book.letters)) is.letters_are ∙ sym letters;
        skew = skew ∙ is.skew;
        small = rw skew is.small;
        fate = fate ∙ is.fate;
        waits = waits ∙ is.waits;
        arm = ap armed_in arm ∙ is.arm;
        sent = sent is.sent;
      })

  -- ---- a letter again

  pub again_none : (world : World D) (number : ℕ) → slice_get world.book.letters number ≡ None → Changes view (set_by (command.Again number)) world world
  again_none world number none = λ table rows situation is.
      let found : slice_get situation.standing.posted number ≡ None =
      ap (λ posted. slice_get posted number) (posted_are table rows world situation is) ∙ slice_get-map posted_as world.book.letters number ∙ ap (option_map posted_as) none in
      subst (λ found. IsWorldAt view table rows world (with_letter number found situation)) (sym found) is

  found_letter : (table : Table) (rows : List Row) (world : World D) (situation : Situation) (number : ℕ) (letter : LetterRow) → IsWorldAt view table rows world situation
      → slice_get world.book.letters number ≡ Some letter → slice_get situation.standing.posted number ≡ Some (posted_as letter)
  found_letter table rows world situation number letter is there =
      ap (λ posted. slice_get posted number) (posted_are table rows world situation is) ∙ slice_get-map posted_as world.book.letters number ∙ ap (option_map posted_as) there

  pub again_stopped : (world : World D) (number : ℕ) (letter : LetterRow) (member : Member D) → slice_get world.book.letters number ≡ Some letter
      → slice_get world.members.items letter.to ≡ Some member → member.mail.runs ≡ false → Changes view (set_by (command.Again number)) world world
  again_stopped world number letter member there mine stopped = λ table rows situation is.
      let runs : situation.standing.runs letter.to ≡ false = sym (is.ahead.each letter.to member mine).mail.runs ∙ stopped in
      subst (λ found. IsWorldAt view table rows world (with_letter number found situation)) (sym (found_letter table rows world situation number letter is there))
      (subst (λ runs. IsWorldAt view table rows world (if runs then with_mail letter.to (situation.mails letter.to ++ number ∷ []) situation else situation)) (sym runs) is)

  pub again_moved : (world new : World D) (number : ℕ) (letter : LetterRow) (member next : Member D) → slice_get world.book.letters number ≡ Some letter
      → slice_get world.members.items letter.to ≡ Some member → member.mail.runs ≡ true → new.book ≡ world.book → new.latest ≡ world.latest → new.cuts ≡ world.cuts
      → new.members.items ≡ set world.members.items letter.to next → next.node ≡ member.node → next.steps ≡ member.steps
      → next.mail.runs ≡ member.mail.runs → next.mail.skew ≡ member.mail.skew → next.mail.fate ≡ member.mail.fate → next.mail.waits ≡ member.mail.waits → next.mail.arm ≡ member.mail.arm
      → next.mail.letters.items ≡ member.mail.letters.items ++ number ∷ [] → Changes view (set_by (command.Again number)) world new
  again_moved world new number letter member next there mine running book latest cuts members node steps runs skew fate waits arm letters = λ table rows situation is.
      let running_there : situation.standing.runs letter.to ≡ true = sym (is.ahead.each letter.to member mine).mail.runs ∙ running in
      subst (λ found. IsWorldAt view table rows new (with_letter number found situation)) (sym (found_letter table rows world situation number letter is there))
      (subst (λ runs. IsWorldAt view table rows new (if runs then with_mail letter.to (situation.mails letter.to ++ number ∷ []) situation else situation)) (sym running_there)
      (mail_put world new letter.to (λ posted mail. mail ++ number ∷ []) member next book latest cuts mine members node steps runs skew fate waits arm letters
      (λ sent k has. elim (Contains-append_cases member.mail.letters.items (number ∷ []) k (subst (λ items. Contains items k) letters has)) [
        | inl old ↦ sent k old
        | inr last ↦ elim (cons_cases number [] k last) [
          | inl same ↦ subst (λ k. IsSentTo world.book.letters letter.to k) same (record { letter = letter; there = there; to = refl })
          | inr none ↦ nothing_in none
        ]
      ]) table rows situation is))
