-- The step that adds a state keeps the book's rule.
use Rattle.std.proofs.Common.{◌≡◌, ℕ, ◌<◌, ◌==◌, Bool, true, false, List, [], ◌∷◌, ◌++◌, length, refl, ap, sym, subst, arith, inl, None}
use Rattle.std.proofs.lemmas.List.{append-nil}
use Rattle.std.proofs.lemmas.Bool.Decides.{nat_tests}
use mathlib.Core.List.{IsPrefix}
use prog.Atomic.{either}
use Rattle.logbook.specs.Pages.{Cell, cell, keeps, no_nib, step, Moves, Goes}
use Rattle.paxos_base.specs.declared.rows.JobRow.{JobRow}
use Rattle.paxos_base.specs.Rows.{AreNumbered}
use Rattle.status_board.specs.declared.shown.Shown.{Shown}
use Rattle.status_board.specs.History.{AddsState, IsKept}
use Rattle.status_board.specs.Shown.{IsHistory, IsLast}
use Rattle.status_board.proofs.StateLemmas.{front_is_whole, history_more}

abbrev pub shown_none : List Shown → List Shown
shown_none states = []

abbrev pub moved_any : List Shown → List Shown → ℕ → Type 0
moved_any xs ys n = Unit {0}

module _ (total before : ℕ) (front : List Shown) (rows : List JobRow) (next : Shown) (history : IsHistory total front) (last : IsLast front before rows)
    (above : before < next.prefix) (stand : AreNumbered next.rows total) where
  abbrev GoesOn : List Cell → List Shown → Type 0
  GoesOn cells states = Goes IsKept shown_none moved_any 0 (front, (no_nib, None)) (λ n. either (n == before) next.prefix n)
      (AddsState (step 0 before next.prefix next) (front, (no_nib, None))) cells states

  goes_on : (states : List Shown) (prefix : ℕ) (others : List JobRow) (count : ℕ) → IsLast states prefix others → IsHistory count states → IsPrefix front states
      → (b : Bool) → (prefix == before) ≡ b → GoesOn ((prefix, true) ∷ []) states
  goes_on states prefix others count ends all begins true is =
      let here : prefix ≡ before = grind (arith, nat_tests) in
      let same : front ≡ states = front_is_whole front states before rows others begins all.rise last (subst (λ p. IsLast states p others) here ends) in
      let more : IsHistory total (states ++ next ∷ []) =
      subst (λ s. IsHistory total (s ++ next ∷ [])) same (history_more total front before rows next history last above stand) in (
        keeps,
        next ∷ [],
        None,
        tt,
        record {
          total = total;
          prefix = next.prefix;
          rows = next.rows;
          word = ap (λ (k : ℕ). (k, true) ∷ []) (rw is refl);
          last = (states, refl);
          history = more;
        },
        inl (refl, refl),
        ((total, more), rw is (ap (λ s. s ++ next ∷ []) (sym same))),
      )
  goes_on states prefix others count ends all begins false is =
      let whole : states ++ [] ≡ states = append-nil states in (
        keeps,
        [],
        None,
        tt,
        record {
          total = count;
          prefix = prefix;
          rows = others;
          word = ap (λ (k : ℕ). (k, true) ∷ []) (rw is refl);
          last = subst (λ s. IsLast s prefix others) (sym whole) ends;
          history = subst (λ s. IsHistory count s) (sym whole) all;
        },
        inl (refl, refl),
        ((count, subst (λ s. IsHistory count s) (sym whole) all), rw is tt),
      )

  -- whatever the book is, the exchange adds the state after all that was seen, or finds another word
  pub adds_moves : Moves IsKept shown_none moved_any 0 (front, (no_nib, None)) (λ n. either (n == before) next.prefix n)
      (AddsState (step 0 before next.prefix next) (front, (no_nib, None)))
  adds_moves cells states kept begins away =
      let P : List Cell → Type 0 = λ c. (0 < length c) × ((cell c 0).1 ≡ true) × GoesOn c states in
      subst P (sym kept.word) (omega arith, refl, goes_on states kept.prefix kept.rows kept.total kept.last kept.history begins (kept.prefix == before) refl)
