-- Each legal book agrees.
use Rattle.std.proofs.Common.{◌≡◌, ℕ, zero, suc, ◌≤◌, Some, List, [], ◌∷◌, take, refl, sym, ap, subst}
use Rattle.std.specs.List.{slice_get}
use Rattle.paxos_base.specs.declared.entry.Entry.{Entry}
use Rattle.due_set.specs.Table.{Table}
use Rattle.launch_machine.specs.Clerk.{first_rows}
use Rattle.launch_machine.proofs.ExistLemmas.{all_applied}
use Rattle.agreement.specs.Agree.{IsChosen}
use Rattle.agreement.specs.Log.{FollowsLog, IsLog}
use Rattle.agreement.proofs.LogLemmas.{one_log, some_log}
use Rattle.agreement.proofs.Tables.{follows, short_of}
use Rattle.agreement.proofs.Whole.{IsWhole, whole_one}
use Rattle.history.specs.Agrees.{Agrees}
use Rattle.history.specs.Book.{Row, standing_after, votes_in}
use Rattle.history.specs.Legal.{IsLegal, MayFollow}
use Rattle.history.proofs.BookLemmas.{Stands, stands}

-- ---- cuts

-- a number below a cut finds what it found, and the cut up to it is the same
cut_finds : {X : Type 0} (xs : List X) (k i : ℕ) (x : X) → slice_get (take k xs) i ≡ Some x → (slice_get xs i ≡ Some x) × (take i (take k xs) ≡ take i xs)
cut_finds [] zero i x is = absurd cc
cut_finds [] (suc k) i x is = absurd cc
cut_finds (y ∷ xs) zero i x is = absurd cc
cut_finds (y ∷ xs) (suc k) zero x is = (is, refl)
cut_finds (y ∷ xs) (suc k) (suc i) x is = let rest = cut_finds xs k i x is in (rest.0, ap (λ zs. y ∷ zs) rest.1)

pub cut_is_legal : (n : ℕ) (table : Table) (book : List Row) (k : ℕ) → IsLegal n table book → IsLegal n table (take k book)
cut_is_legal n table book k legal i row is =
    let found = cut_finds book k i row is in
    subst (λ rows. MayFollow n table (standing_after n (first_rows table) rows) row.turn row) (sym found.1) (legal i row found.0)

-- ---- agreement

pub agrees : (n : ℕ) (table : Table) (book : List Row) → n ≤ 7 → IsLegal n table book → Agrees n table book
agrees n table book few legal = record {
  chosen = λ x has. subst (λ cast. IsChosen n cast x.slot x.entry) there.matches.cast (whole.known.rows x (there.matches.learned_of x has));
  one = λ a b has_a has_b slots.
      whole_one n there.w a.slot a.entry b.entry whole (whole.known.rows a (there.matches.learned_of a has_a)) (rw slots (whole.known.rows b (there.matches.learned_of b has_b)));
  follow = λ log is_log who runs. follow log (subst (λ cast. IsLog n cast log) (sym there.matches.cast) is_log) who;
  has_table = λ sound who runs.
      let state = (standing_after n (first_rows table) book).replicas who in
      all_applied table sound state.kept.rows state.learned;
}
  where
    there : Stands n table book
    there = stands n table book few legal

    whole : IsWhole n there.w
    whole = there.followed.whole

    follow : (log : List Entry) → IsLog n there.w.cast log → (who : ℕ) → FollowsLog table log ((standing_after n (first_rows table) book).replicas who)
    follow log is_log who =
        subst (λ s. FollowsLog table log s) (there.matches.replicas who) (record {
          short = short_of n table (first_rows table) there.w log who whole there.followed.tables is_log;
          table_is = λ rows is_table. (follows n table (first_rows table) there.w log who rows whole there.followed.tables is_log is_table).1;
        })

pub book_log : (n : ℕ) (table : Table) (book : List Row) → n ≤ 7 → IsLegal n table book → (log : List Entry) × IsLog n (votes_in book) log
book_log n table book few legal =
    let there = stands n table book few legal in
    subst (λ cast. (log : List Entry) × IsLog n cast log) there.matches.cast (some_log n there.w there.followed.whole.kept few)

pub book_one_log : (n : ℕ) (table : Table) (book : List Row) (log other : List Entry) → n ≤ 7 → IsLegal n table book → IsLog n (votes_in book) log → IsLog n (votes_in book) other → log ≡ other
book_one_log n table book log other few legal is_log is_other =
    let there = stands n table book few legal in
    one_log n there.w log other there.followed.whole.kept there.followed.whole.safe
    (subst (λ cast. IsLog n cast log) (sym there.matches.cast) is_log) (subst (λ cast. IsLog n cast other) (sym there.matches.cast) is_other)

pub book_one_value : (n : ℕ) (table : Table) (book : List Row) (slot : ℕ) (one other : Entry) → n ≤ 7 → IsLegal n table book → IsChosen n (votes_in book) slot one → IsChosen n (votes_in book) slot other → one ≡ other
book_one_value n table book slot one other few legal chosen rival =
    let there = stands n table book few legal in
    whole_one n there.w slot one other there.followed.whole
    (subst (λ cast. IsChosen n cast slot one) (sym there.matches.cast) chosen) (subst (λ cast. IsChosen n cast slot other) (sym there.matches.cast) rival)
