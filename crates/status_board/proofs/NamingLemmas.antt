-- The steps of readers and of the writer keep the rule of names.
use Rattle.std.proofs.Common.{◌≡◌, ◌≢◌, ℕ, List, [], ◌∷◌, ◌++◌, Option, None, Some, slice_set, refl, ap, sym, subst, ⊎_elim}
use mathlib.Core.Option.{some}
use lib.ListN.{get_elem?}
use Rattle.atomic_table.proofs.Lists.{at_set, at_snoc, set_again}
use Rattle.crossbeam_utils.specs.Register.{Admits, Forks, Merges, Turns, TurnsAt}
use Rattle.logbook.specs.Pages.{Book}
use Rattle.status_board.specs.declared.name.Name.{Name}
use Rattle.status_board.specs.Posted.{Posted}
use Rattle.status_board.specs.Naming.{AllName, IsShown, Keeps, Names, Sees, ShowsIt, board_name_of, told_name}

-- a board's name says which it is
pub same_board : (one other : Book) → board_name_of one ≡ board_name_of other → one ≡ other
same_board one other same = ap (λ (n : Name). record { number = n.number; log_name = n.log; cells_name = n.cells }) same

-- the board of who has its name
pub named_board : (name : Option Name) (mine shown : Book) → name ≡ Some (board_name_of mine) → Names name shown → shown ≡ mine
named_board name mine shown is names =
    let same : board_name_of mine ≡ board_name_of shown = subst (λ (n : Option Name). Names n shown) is names in
    sym (same_board mine shown same)

-- one name is another
names_set : (board : Book) (names : List (Option Name)) (seat : ℕ) (name : Option Name) → AllName board names → Names name board → AllName board (slice_set names seat name)
names_set board names seat name all is j other at = ⊎_elim
    (λ (t : (j ≡ seat) × (name ≡ other)). subst (λ (n : Option Name). Names n board) t.1 is)
    (λ (t : (j ≢ seat) × (get_elem? names j ≡ some other)). all j other t.1)
    (at_set names seat j name other at)

names_more : (board : Book) (names : List (Option Name)) (name : Option Name) → AllName board names → Names name board → AllName board (names ++ name ∷ [])
names_more board names name all is j other at = ⊎_elim
    (λ (e : get_elem? names j ≡ some other). all j other e)
    (λ (e : name ≡ other). subst (λ (n : Option Name). Names n board) e is)
    (at_snoc names name other j at)

pub admits : Admits Keeps None
admits posted names keeps = record { shown = keeps.shown; named = names_more posted.board names None keeps.named tt }

pub lets_in : (seat : ℕ) (name : Option Name) → Turns Keeps seat name (λ x. x) Sees
lets_in seat name posted names keeps at = (
  name,
  subst (λ (l : List (Option Name)). Keeps posted l) (sym (set_again names seat name at)) keeps,
  (refl, keeps.shown, keeps.named seat name at),
)

pub shows : (seat : ℕ) (name : Option Name) (before after : Posted) → after.board ≡ before.board → IsShown after → TurnsAt Keeps seat name before after ShowsIt
shows seat name before after same shown names keeps at = (
  Some (board_name_of after.board),
  record {
    shown = shown;
    named = names_set after.board names seat (Some (board_name_of after.board)) (subst (λ (b : Book). AllName b names) (sym same) keeps.named) refl;
  },
  refl,
)

pub forks : (seat : ℕ) (name : Option Name) → Forks Keeps seat name name name
forks seat name posted names keeps at = record {
  shown = keeps.shown;
  named = names_more posted.board (slice_set names seat name) name (names_set posted.board names seat name keeps.named (keeps.named seat name at)) (keeps.named seat name at);
}

pub merges : (seat : ℕ) (name : Option Name) (other : ℕ) (given : Option Name) → Merges Keeps seat name other given (told_name name given) None
merges seat name other given posted names keeps at apart there =
    let here : Names given posted.board = ⊎_elim
    (λ (t : (other ≡ seat) × (given ≡ given)). absurd (apart t.0))
    (λ (t : (other ≢ seat) × (get_elem? names other ≡ some given)). keeps.named other given t.1)
    (at_set names seat other given given there) in record {
      shown = keeps.shown;
      named = names_set posted.board (slice_set names seat given) other None (names_set posted.board names seat given keeps.named here) tt;
    }
