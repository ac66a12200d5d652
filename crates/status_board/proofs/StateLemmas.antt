-- The states of a board: what one more leaves, and what a beginning has.
use Rattle.std.proofs.Common.{◌≡◌, ℕ, ◌+◌, ◌<◌, ◌≤◌, inl, inr, List, [], ◌∷◌, ◌++◌, length, Some, slice_get, refl, ap, sym, ◌∙◌, subst, arith, length-append}
use Rattle.std.proofs.lemmas.Bool.{cases_lt}
use mathlib.Core.List.{IsPrefix}
use Rattle.paxos_base.specs.declared.rows.JobRow.{JobRow}
use Rattle.paxos_base.specs.Rows.{AreNumbered, fresh_rows}
use Rattle.status_board.specs.declared.shown.Shown.{Shown}
use Rattle.status_board.specs.Shown.{HaveRowsOf, IsHistory, IsLast, PrefixesRise, shown_state_of}
use Rattle.status_board.proofs.Beginnings.{get_first, get_last, get_snoc, get_within, prefix_get, prefix_shorter, prefix_whole}

-- where the last state stands
pub last_stands : (states : List Shown) (prefix : ℕ) (rows : List JobRow) (last : IsLast states prefix rows)
    → (slice_get states (length last.0) ≡ Some (shown_state_of prefix rows)) × (length states ≡ length last.0 + 1)
last_stands states prefix rows last = (
  subst (λ (s : List Shown). slice_get s (length last.0) ≡ Some (shown_state_of prefix rows)) (sym last.1) (get_last last.0 (shown_state_of prefix rows)),
  ap length last.1 ∙ length-append last.0 (shown_state_of prefix rows ∷ []),
)

-- no state has a prefix above the last one's
pub at_most_last : (states : List Shown) (prefix : ℕ) (rows : List JobRow) (k : ℕ) (state : Shown) → PrefixesRise states → IsLast states prefix rows
    → slice_get states k ≡ Some state → state.prefix ≤ prefix
at_most_last states prefix rows k state rise last at =
    let stands = last_stands states prefix rows last in
    elim (cases_lt k (length last.0)) [
      | inl before ↦ (let less : state.prefix < prefix = rise k (length last.0) state (shown_state_of prefix rows) before at stands.0 in omega arith)
      | inr after ↦
          let within : k < length states = get_within states k state at in
          let here : k ≡ length last.0 = omega (arith, stands.1) in
          let same : state ≡ shown_state_of prefix rows = cc (at, stands.0, here) in
          omega (arith, ap (λ (s : Shown). s.prefix) same)
    ]

-- one more state, with a higher prefix than the last
pub rise_more : (states : List Shown) (prefix : ℕ) (rows : List JobRow) (next : Shown) → PrefixesRise states → IsLast states prefix rows
    → prefix < next.prefix → PrefixesRise (states ++ next ∷ [])
rise_more states prefix rows next rise last above j k earlier later order at_j at_k =
    elim (get_snoc states next k later at_k) [
      | inl in_k ↦ elim (get_snoc states next j earlier at_j) [
        | inl in_j ↦ rise j k earlier later order in_j in_k
        | inr is_j ↦ (let within = get_within states k later in_k in absurd (omega (arith, is_j.0)))
      ]
      | inr is_k ↦ elim (get_snoc states next j earlier at_j) [
        | inl in_j ↦
            let low = at_most_last states prefix rows j earlier rise last in_j in
            omega (arith, ap (λ (s : Shown). s.prefix) is_k.1)
        | inr is_j ↦ absurd (omega (arith, is_j.0, is_k.0))
      ]
    ]

pub rows_more : (total : ℕ) (states : List Shown) (next : Shown) → HaveRowsOf total states → AreNumbered next.rows total → HaveRowsOf total (states ++ next ∷ [])
rows_more total states next have stand k state at = elim (get_snoc states next k state at) [
  | inl inside ↦ have k state inside
  | inr is ↦ subst (λ (s : Shown). AreNumbered s.rows total) is.1 stand
]

pub history_more : (total : ℕ) (states : List Shown) (prefix : ℕ) (rows : List JobRow) (next : Shown) → IsHistory total states → IsLast states prefix rows
    → prefix < next.prefix → AreNumbered next.rows total → IsHistory total (states ++ next ∷ [])
history_more total states prefix rows next history last above stand = record {
  begins = prefix_get states (states ++ next ∷ []) 0 (shown_state_of 0 (fresh_rows total)) (next ∷ [], refl) history.begins;
  rise = rise_more states prefix rows next history.rise last above;
  rows = rows_more total states next history.rows stand;
}

-- a beginning with a state is the states of a board too
pub history_front : (total : ℕ) (front states : List Shown) → IsHistory total states → IsPrefix front states → 0 < length front → IsHistory total front
history_front total front states history begins some =
    let first = get_first front some in
    let same : first.0 ≡ shown_state_of 0 (fresh_rows total) = cc (prefix_get front states 0 first.0 begins first.1, history.begins) in record {
      begins = first.1 ∙ ap Some same;
      rise = λ j k earlier later order at_j at_k. history.rise j k earlier later order (prefix_get front states j earlier begins at_j) (prefix_get front states k later begins at_k);
      rows = λ k state at. history.rows k state (prefix_get front states k state begins at);
    }

-- a beginning says how many jobs there are
pub same_jobs : (total others : ℕ) (front states : List Shown) → IsHistory total front → IsHistory others states → IsPrefix front states → others ≡ total
same_jobs total others front states one other begins =
    let here = prefix_get front states 0 (shown_state_of 0 (fresh_rows total)) begins one.begins in
    let same : shown_state_of 0 (fresh_rows others) ≡ shown_state_of 0 (fresh_rows total) = cc (other.begins, here) in
    let mine = (one.rows 0 (shown_state_of 0 (fresh_rows total)) one.begins).count in
    let theirs = (other.rows 0 (shown_state_of 0 (fresh_rows others)) other.begins).count in
    sym theirs ∙ (ap (λ (s : Shown). length s.rows) same ∙ mine)

-- of two beginnings the one whose last prefix is not higher begins the other
pub begins_later : (xs ys zs : List Shown) (low high : ℕ) (low_rows high_rows : List JobRow) → IsPrefix xs zs → IsPrefix ys zs → PrefixesRise zs
    → IsLast xs low low_rows → IsLast ys high high_rows → low ≤ high → IsPrefix xs ys
begins_later xs ys zs low high low_rows high_rows in_x in_y rise last_x last_y order =
    let x = last_stands xs low low_rows last_x in
    let y = last_stands ys high high_rows last_y in
    elim (cases_lt (length ys) (length xs)) [
      | inl shorter ↦
          let at_x = prefix_get xs zs (length last_x.0) (shown_state_of low low_rows) in_x x.0 in
          let at_y = prefix_get ys zs (length last_y.0) (shown_state_of high high_rows) in_y y.0 in
          let less : high < low = rise (length last_y.0) (length last_x.0) (shown_state_of high high_rows) (shown_state_of low low_rows) (omega (arith, x.1, y.1)) at_y at_x in
          absurd (omega arith)
      | inr longer ↦ prefix_shorter xs ys zs in_x in_y longer
    ]

-- a beginning with the last prefix of the whole is the whole
pub front_is_whole : (front states : List Shown) (prefix : ℕ) (rows others : List JobRow) → IsPrefix front states → PrefixesRise states
    → IsLast front prefix rows → IsLast states prefix others → front ≡ states
front_is_whole front states prefix rows others begins rise last_front last =
    let x = last_stands front prefix rows last_front in
    let y = last_stands states prefix others last in
    elim (cases_lt (length front) (length states)) [
      | inl shorter ↦
          let at_x = prefix_get front states (length last_front.0) (shown_state_of prefix rows) begins x.0 in
          let less : prefix < prefix = rise (length last_front.0) (length last.0) (shown_state_of prefix rows) (shown_state_of prefix others) (omega (arith, x.1, y.1)) at_x y.0 in
          absurd (omega arith)
      | inr longer ↦ prefix_whole front states begins longer
    ]

-- the states of a board before the log
pub history_first : (total : ℕ) → AreNumbered (fresh_rows total) total → IsHistory total (shown_state_of 0 (fresh_rows total) ∷ [])
history_first total stand = record {
  begins = refl;
  rise = λ j k earlier later order at_j at_k. (let one = get_within (shown_state_of 0 (fresh_rows total) ∷ []) k later at_k in absurd (omega arith));
  rows = λ k state at. elim (get_snoc [] (shown_state_of 0 (fresh_rows total)) k state at) [
    | inl inside ↦ absurd (cc inside)
    | inr is ↦ subst (λ (s : Shown). AreNumbered s.rows total) is.1 stand
  ];
}
