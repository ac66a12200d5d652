-- A node that hears one letter after another beside a book.
use Rattle.std.proofs.Common.{◌≡◌, ℕ, ◌+◌, ◌<◌, List, [], ◌∷◌, ◌++◌, length, take, get_or, Option, Some, refl, sym, ap, ◌∙◌, subst, append_assoc, add-one}
use Rattle.std.specs.List.{slice_get, Contains}
use Rattle.std.specs.Option.{IsSome}
use Rattle.std.proofs.Math.Seq.{take-suc}
use Rattle.std.proofs.lemmas.List.Elements.{Contains-get_or}
use Rattle.std.proofs.lemmas.List.{map-append}
use Rattle.disk_model.specs.View.{DiskView}
use Rattle.replica_core.specs.Step.{IsInputInside}
use Rattle.replica_core.specs.declared.input.Input.{Input}
use Rattle.world_law.specs.Replicas.{IsLetterInput}
use Rattle.world_law.specs.declared.letter.LetterRow.{LetterRow}
use Rattle.due_set.specs.Table.{Table}
use Rattle.history.specs.Book.{Row}
use Rattle.history.specs.declared.turn.Cause.TheVariants.{Hear}
use Rattle.replica_node.specs.declared.node.Node.{Node}
use Rattle.world_law.specs.Book.{BookState}
use Rattle.world_steps.specs.Parts.{IsSentTo}
use Rattle.world_steps.specs.Steps.{IsBeside, WasToldOf, causes_of}
use Rattle.world_steps.specs.declared.steps.Taken.{Taken}
use Rattle.world_rounds.specs.Hearing.{MayHear, hear_causes}

-- so many of the letters are heard
pub record HasHeard {D : Type 0} (view : DiskView D) (table : Table) (book : BookState) (letters : List ℕ) (count : ℕ)
    (before : List Taken) (first : Node D) (steps : List Taken) (node : Node D) : Type 0 where
  pub causes : causes_of steps ≡ causes_of before ++ hear_causes (take count letters)
  pub beside : (rows : List Row) (who : ℕ) → MayHear view table rows book who before first letters → IsBeside view table rows book who steps node

-- a letter of the list goes to the replica
pub sent_at : (letters : List LetterRow) (who : ℕ) (numbers : List ℕ) (place : ℕ) → ((number : ℕ) → Contains numbers number → IsSentTo letters who number) → place < length numbers
    → IsSentTo letters who (get_or numbers place 0)
sent_at letters who numbers place sent below = sent (get_or numbers place 0) (Contains-get_or numbers place 0 below)

is_there : (letters : List LetterRow) (who number : ℕ) → IsSentTo letters who number → IsSome (slice_get letters number)
is_there letters who number sent = rw sent.there refl

same_letter : (one other : LetterRow) (found : Option LetterRow) → found ≡ Some one → found ≡ Some other → one ≡ other
same_letter one other found a b = cc

module _ {D : Type 0} (view : DiskView D) (table : Table) (book : BookState) where
  pub letter_there : (rows : List Row) (who : ℕ) (steps : List Taken) (node : Node D) (numbers : List ℕ) (place : ℕ) → MayHear view table rows book who steps node numbers
      → place < length numbers → IsSome (slice_get book.letters (get_or numbers place 0))
  letter_there rows who steps node numbers place may below = is_there book.letters who _ (sent_at book.letters who numbers place may.sent below)

  -- the node is told of the next letter
  pub told_letter : (rows : List Row) (who : ℕ) (steps now : List Taken) (old : Node D) (numbers : List ℕ) (place : ℕ) (letter : LetterRow) (input : Input)
      → MayHear view table rows book who steps old numbers → place < length numbers
      → slice_get book.letters (get_or numbers place 0) ≡ Some letter → IsLetterInput input letter.bytes → IsInputInside table input
      → WasToldOf table rows book who now (Hear (get_or numbers place 0)) input
  told_letter rows who steps now old numbers place letter input may below there is inside =
      let sent = sent_at book.letters who numbers place may.sent below in
      record {
        is_told =
            record {
              sent = sent;
              is = subst (λ (l : LetterRow). IsLetterInput input l.bytes) (same_letter letter sent.letter (slice_get book.letters (get_or numbers place 0)) there sent.there) is;
            };
        inside = inside;
      }

  heard_next : (numbers : List ℕ) (place : ℕ) (before steps new : List Taken) → place < length numbers → causes_of steps ≡ causes_of before ++ hear_causes (take place numbers)
      → causes_of new ≡ causes_of steps ++ Hear (get_or numbers place 0) ∷ [] → causes_of new ≡ causes_of before ++ hear_causes (take (place + 1) numbers)
  heard_next numbers place before steps new below had is =
      is ∙ ap (λ causes. causes ++ Hear (get_or numbers place 0) ∷ []) had ∙ append_assoc (causes_of before) (hear_causes (take place numbers)) (Hear (get_or numbers place 0) ∷ [])
      ∙ ap (λ more. causes_of before ++ more) (sym (map-append Hear (take place numbers) (get_or numbers place 0 ∷ [])))
      ∙ ap (λ front. causes_of before ++ hear_causes front) (sym (take-suc numbers place 0 below) ∙ ap (λ n. take n numbers) (sym (add-one place)))

  pub heard_more : (numbers : List ℕ) (place : ℕ) (before steps new : List Taken) (first old node : Node D) → place < length numbers
      → HasHeard view table book numbers place before first steps old → causes_of new ≡ causes_of steps ++ Hear (get_or numbers place 0) ∷ []
      → ((rows : List Row) (who : ℕ) → MayHear view table rows book who before first numbers → IsBeside view table rows book who new node)
      → HasHeard view table book numbers (place + 1) before first new node
  heard_more numbers place before steps new first old node below heard causes beside =
      record { causes = heard_next numbers place before steps new below heard.causes causes; beside = beside }
