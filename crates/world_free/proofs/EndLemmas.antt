-- The mails of replicas whose threads have ended, and the latest clock reading.
use Rattle.std.proofs.Common.{◌≡◌, ◌⊎◌, ℕ, zero, suc, ◌+◌, ◌≤◌, List, [], ◌∷◌, ◌++◌, length, drop, map, Some, None, ℤ, ◌≤ℤ◌, refl, sym, ap, ◌∙◌, subst, inl, inr, arith, length-append}
use Rattle.std.specs.List.{slice_get}
use Rattle.std.proofs.lemmas.Int.{clamps, ints}
use Rattle.std.proofs.lemmas.Option.{slice_get_within}
use Rattle.history.specs.Book.{Row}
use Rattle.history.specs.declared.turn.Cause.TheVariants.{Campaign, Tick, Hear, Answer}
use Rattle.history.specs.declared.turn.Turn.{Turn}
use Rattle.history.specs.declared.turn.Turn.TheVariants.{Did, Stopped, Restarted, Arrived}
use Rattle.script_semantics.specs.Free.{after_all_posted, after_posted}
use Rattle.script_semantics.specs.Situation.{Situation, latest_after}
use Rattle.world_law.specs.declared.letter.LetterRow.{LetterRow}
use Rattle.world_steps.specs.declared.mail.MemberMail.{MemberMail}
use Rattle.world_free.specs.Ends.{HasEnded, HaveEnded, latest_by}
use Rattle.world_free.specs.declared.job.FreeMail.{FreeMail}
use Rattle.world_free.proofs.JobLemmas.{found_last}

-- ---- mails

pub ended_none : (cuts : List (ℕ × ℕ)) (letters : List LetterRow) (ended : List MemberMail) → ended ≡ [] → HaveEnded cuts letters [] ended
ended_none cuts letters ended none = record { count = ap length none; each = λ who mail end is there. absurd cc }

pub ended_next : (cuts : List (ℕ × ℕ)) (letters : List LetterRow) (mails : List FreeMail) (ended after : List MemberMail) (mail : FreeMail) (end : MemberMail)
    → HaveEnded cuts letters mails ended
    → HasEnded cuts letters (length ended) mail end → after ≡ ended ++ end ∷ [] → HaveEnded cuts letters (mails ++ mail ∷ []) after
ended_next cuts letters mails ended after mail end so_far has is = subst (λ l. HaveEnded cuts letters (mails ++ mail ∷ []) l) (sym is) (record {
  count = omega (arith, so_far.count, length-append ended (end ∷ []), length-append mails (mail ∷ []));
  each = each;
})
  where
    each : (who : ℕ) (one : FreeMail) (last : MemberMail) → slice_get (mails ++ mail ∷ []) who ≡ Some one → slice_get (ended ++ end ∷ []) who ≡ Some last
        → HasEnded cuts letters who one last
    each who one last there found = go (found_last mails mail who one there) (found_last ended end who last found)
      where
        go : (slice_get mails who ≡ Some one) ⊎ ((who ≡ length mails) × (one ≡ mail))
            → (slice_get ended who ≡ Some last) ⊎ ((who ≡ length ended) × (last ≡ end)) → HasEnded cuts letters who one last
        go (inl old) (inl before) = so_far.each who one last old before
        go (inl old) (inr new) = absurd (omega (arith, slice_get_within mails who one old, new.0, so_far.count))
        go (inr new) (inl before) = absurd (omega (arith, slice_get_within ended who last before, new.0, so_far.count))
        go (inr new) (inr behind) = rw (new.1, behind.0, behind.1) has

-- ---- the latest clock reading

pub drop_next : {X : Type 0} (xs : List X) (place : ℕ) (x : X) → slice_get xs place ≡ Some x → drop place xs ≡ x ∷ drop (suc place) xs
drop_next [] place x is = absurd cc
drop_next (y ∷ ys) zero x is = ap (λ z. z ∷ ys) (let same : y ≡ x = cc in same)
drop_next (y ∷ ys) (suc place) x is = drop_next ys place x is

pub drop_all : {X : Type 0} (xs : List X) (place : ℕ) → length xs ≤ place → drop place xs ≡ []
drop_all [] zero all = refl
drop_all [] (suc place) all = refl
drop_all (x ∷ xs) zero all = absurd (omega (arith, all))
drop_all (x ∷ xs) (suc place) all = drop_all xs place (omega (arith, all))

pub drop_front : {X : Type 0} (front back : List X) (place : ℕ) → place ≡ length front → drop place (front ++ back) ≡ back
drop_front [] back zero is = refl
drop_front [] back (suc place) is = absurd (omega (arith, is))
drop_front (x ∷ front) back zero is = absurd (omega (arith, is))
drop_front (x ∷ front) back (suc place) is = drop_front front back place (omega (arith, is))

pub latest_next : (turns : List Turn) (number : ℕ) (turn : Turn) (reading next all : ℤ) → slice_get turns number ≡ Some turn → next ≡ latest_after turn reading
    → latest_by reading (drop number turns) ≡ all
    → latest_by next (drop (number + 1) turns) ≡ all
latest_next turns number turn reading next all there is so_far =
    let one : number + 1 ≡ suc number = omega arith in
    ap (λ (r : ℤ). latest_by r (drop (number + 1) turns)) is ∙ ap (λ n. latest_by (latest_after turn reading) (drop n turns)) one
    ∙ ap (latest_by reading) (sym (drop_next turns number turn there)) ∙ so_far

pub latest_end : (turns : List Turn) (number : ℕ) (reading all : ℤ) → length turns ≤ number → latest_by reading (drop number turns) ≡ all → reading ≡ all
latest_end turns number reading all ended so_far = ap (latest_by reading) (sym (drop_all turns number ended)) ∙ so_far

no_earlier : (turn : Turn) (latest : ℤ) → latest ≤ℤ latest_after turn latest
no_earlier (Did who Campaign made) latest = omega (arith, ints)
no_earlier (Did who (Tick now) made) latest = omega (arith, ints, clamps)
no_earlier (Did who (Hear number) made) latest = omega (arith, ints)
no_earlier (Did who Answer made) latest = omega (arith, ints)
no_earlier (Stopped who None kept) latest = omega (arith, ints)
no_earlier (Stopped who (Some Campaign) kept) latest = omega (arith, ints)
no_earlier (Stopped who (Some (Tick now)) kept) latest = omega (arith, ints, clamps)
no_earlier (Stopped who (Some (Hear number)) kept) latest = omega (arith, ints)
no_earlier (Stopped who (Some Answer) kept) latest = omega (arith, ints)
no_earlier (Restarted who) latest = omega (arith, ints)
no_earlier (Arrived number) latest = omega (arith, ints)

pub none_earlier : (turns : List Turn) (latest : ℤ) → latest ≤ℤ latest_by latest turns
none_earlier [] latest = omega (arith, ints)
none_earlier (turn ∷ turns) latest =
    let one = no_earlier turn latest in
    let rest = none_earlier turns (latest_after turn latest) in
    omega (arith, ints, one, rest)

pub latest_of : (members : ℕ) (situation : Situation) (rows : List Row)
    → (after_all_posted members situation rows).latest ≡ latest_by situation.latest (map (λ (row : Row). row.turn) rows)
latest_of members situation [] = refl
latest_of members situation (row ∷ rows) = latest_of members (after_posted members situation row) rows
