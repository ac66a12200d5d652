-- Rows of distinct names have one order.
use Rattle.std.proofs.Common.{◌≡◌, ◌≢◌, inl, inr, ℕ, suc, ◌<◌, List, [], ◌∷◌, length, map, refl, sym, ap, ◌∙◌, subst, arith, pos}
use Rattle.std.specs.Prelude.{All, AllPairs, Contains}
use Rattle.std.specs.List.Sorted.{IsPermutation}
use Rattle.std.proofs.Math.ListN.{get_or-map}
use Rattle.std.proofs.lemmas.Bool.Decides.{Decides-like, same_from_decides}
use Rattle.std.proofs.lemmas.Int.{ints}
use Rattle.std.proofs.lemmas.List.{length-map}
use Rattle.std.proofs.lemmas.List.Elements.{All-contains}
use Rattle.std.proofs.lemmas.List.Sorted.{IsPermutation-map, IsPermutation-sym, Contains-permutation}
use Rattle.std.proofs.lemmas.Map.Keys.{IsDistinct-IsPermutation}
use Rattle.std.proofs.lemmas.Map.Made.{AllPairs-from_IsDistinct, IsDistinct-from_AllPairs}
use Rattle.due_set.proofs.Rising.{Contains-head, Contains-tail, Contains-cases, Contains-none}
use Rattle.due_set.specs.Table.{Table}
use Rattle.paxos_base.specs.declared.entry.Kind.TheVariants.{Launch}
use Rattle.cluster_sched.specs.Held.{AreNamedOnce}
use Rattle.cluster_sched.specs.declared.row.Name.{Name}
use Rattle.cluster_sched.specs.declared.row.SchedRow.{SchedRow}
use Rattle.cron_io.specs.Lines.{text_of_lines}
use Rattle.report_text.specs.Report.{IsInOrder, IsNotAfter, IsReport, report_lines}
use Rattle.report_text.proofs.OrderLemmas.{AreInOrder, first_of_order, rest_of_order}
use Rattle.launch_safety.proofs.FitLemmas.{name_is as same_name}
use Rattle.cluster_sched.proofs.HeldLemmas.{once_behind}
use Rattle.cluster_sched.proofs.LedgerLemmas.{name_eq, Decides-name_eq}

-- two names of which neither is after the other are one
IsNotAfter-both : (a b : Name) → IsNotAfter a b → IsNotAfter b a → a ≡ b
IsNotAfter-both a b (inl x) (inl y) = absurd (omega arith)
IsNotAfter-both a b (inl x) (inr y) = absurd (let e = y.0 in omega arith)
IsNotAfter-both a b (inr x) (inl y) = absurd (let e = x.0 in omega arith)
IsNotAfter-both a b (inr x) (inr y) = let f = x.1 in let g = y.1 in same_name a b x.0 (omega (arith, ints))

name_eq-flips : (a b : Name) → name_eq a b ≡ name_eq b a
name_eq-flips a b = same_from_decides (name_eq a b) (name_eq b a) (Decides-name_eq a b) (Decides-like (name_eq b a) (λ e. sym e) (λ e. sym e) (Decides-name_eq b a))

abbrev name_of : SchedRow → Name
name_of row = row.name

abbrev row_named : Name → SchedRow
row_named name = record { name = name; kind = Launch; now = record { 0 = pos 0 }; by = 0 }

names_differ : (rows : List SchedRow) → AreNamedOnce rows → AllPairs (λ (a b : Name). a ≢ b) (map name_of rows)
names_differ rows once i j d before within same =
    let inside : j < length rows = subst (λ (n : ℕ). j < n) (length-map _ _) within in
    once i j (row_named d) before inside (sym (get_or-map name_of rows i (row_named d)) ∙ same ∙ get_or-map name_of rows j (row_named d))

rows_differ : (rows : List SchedRow) → AllPairs (λ (a b : Name). a ≢ b) (map name_of rows) → AreNamedOnce rows
rows_differ rows once i j d before within same =
    let inside : j < length (map name_of rows) = subst (λ (n : ℕ). j < n) (sym (length-map _ _)) within in
    once i j d.name before inside (get_or-map name_of rows i d ∙ same ∙ sym (get_or-map name_of rows j d))

pub AreNamedOnce-permutation : (held rows : List SchedRow) → IsPermutation held rows → AreNamedOnce held → AreNamedOnce rows
AreNamedOnce-permutation held rows moved once =
    rows_differ rows (AllPairs-from_IsDistinct Decides-name_eq (map name_of rows)
    (IsDistinct-IsPermutation name_eq name_eq-flips (map name_of held) (map name_of rows) (IsPermutation-map name_of held rows moved)
    (IsDistinct-from_AllPairs Decides-name_eq (map name_of held) (names_differ held once))))

first_is_named_once : (row : SchedRow) (rows : List SchedRow) → AreNamedOnce (row ∷ rows) → All (λ other. row.name ≢ other.name) rows
first_is_named_once row rows once k d within = once 0 (suc k) d (omega arith) (omega arith)

same_first : (x y : SchedRow) (xs ys : List SchedRow) → AreInOrder (x ∷ xs) → AreInOrder (y ∷ ys) → AreNamedOnce (y ∷ ys)
    → Contains (y ∷ ys) x → Contains (x ∷ xs) y → x ≡ y
same_first x y xs ys in_order in_order' once in_ys in_xs =
    elim (Contains-cases y ys x in_ys) [
      | inl e ↦ sym e
      | inr behind_y ↦ elim (Contains-cases x xs y in_xs) [
        | inl e ↦ e
        | inr behind_x ↦ absurd (All-contains (λ (row : SchedRow). y.name ≢ row.name) ys x (first_is_named_once y ys once) behind_y
            (IsNotAfter-both y.name x.name
            (All-contains (λ (row : SchedRow). IsNotAfter y.name row.name) ys x (first_of_order y ys in_order') behind_y)
            (All-contains (λ (row : SchedRow). IsNotAfter x.name row.name) xs y (first_of_order x xs in_order) behind_x)))
      ]
    ]

-- a row behind the one is behind the other
same_tail : (x y : SchedRow) (xs ys : List SchedRow) → x ≡ y → AreNamedOnce (x ∷ xs) → ((row : SchedRow) → Contains (x ∷ xs) row → Contains (y ∷ ys) row)
    → (row : SchedRow) → Contains xs row → Contains ys row
same_tail x y xs ys e once all row h =
    elim (Contains-cases y ys row (all row (Contains-tail x xs row h))) [
      | inl first ↦ absurd (All-contains (λ (other : SchedRow). x.name ≢ other.name) xs row (first_is_named_once x xs once) h (ap name_of (e ∙ first)))
      | inr more ↦ more
    ]

same_rows : (xs ys : List SchedRow) → AreInOrder xs → AreInOrder ys → AreNamedOnce xs → AreNamedOnce ys
    → ((row : SchedRow) → Contains xs row → Contains ys row) → ((row : SchedRow) → Contains ys row → Contains xs row) → xs ≡ ys
same_rows [] [] a b once once' there back = refl
same_rows [] (y ∷ ys) a b once once' there back = absurd (Contains-none y (back y (Contains-head y ys)))
same_rows (x ∷ xs) [] a b once once' there back = absurd (Contains-none x (there x (Contains-head x xs)))
same_rows (x ∷ xs) (y ∷ ys) a b once once' there back =
    let e : x ≡ y = same_first x y xs ys a b once' (there x (Contains-head x xs)) (back y (Contains-head y ys)) in
    let tails : xs ≡ ys = same_rows xs ys (rest_of_order x xs a) (rest_of_order y ys b) (once_behind x xs once) (once_behind y ys once')
    (same_tail x y xs ys e once there) (same_tail y x ys xs (sym e) once' back) in
    cc

-- the rows in order are given by what is held
one_order : (held a b : List SchedRow) → AreNamedOnce held → IsInOrder held a → IsInOrder held b → a ≡ b
one_order held a b once x y =
    let back_a = IsPermutation-sym held a x.same in
    let back_b = IsPermutation-sym held b y.same in
    same_rows a b x.sorted y.sorted (AreNamedOnce-permutation held a x.same once) (AreNamedOnce-permutation held b y.same once)
    (λ row h. Contains-permutation held b row y.same (Contains-permutation a held row back_a h))
    (λ row h. Contains-permutation held a row x.same (Contains-permutation b held row back_b h))

pub one_text : (table : Table) (members : ℕ) (held : List SchedRow) (a b : List ℕ) → IsReport table members held a → IsReport table members held b → AreNamedOnce held → a ≡ b
one_text table members held a b x y once =
    x.text_is ∙ ap (λ (rows : List SchedRow). text_of_lines (report_lines table members held rows)) (one_order held x.rows y.rows once x.in_order y.in_order) ∙ sym y.text_is
