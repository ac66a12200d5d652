use Rattle.std.proofs.Common.{◌≡◌, List, [], ◌∷◌, ◌++◌, length, get_or, refl, ap, subst, arith, length-append, ◌∙◌}
use Rattle.std.specs.Prelude.{All}
use Rattle.status_board.specs.Sight.{Sight}
use Rattle.status_board.specs.Writing.{AreReadersOf, sight_of}
use Rattle.script_play.proofs.watch.Watch.start.Goals as goal

-- what holds of all members holds of the last
last_of : {X : Type 0} (P : X → Type 0) (xs : List X) (x : X) → All P (xs ++ x ∷ []) → P x
last_of {X} P xs x all = subst P (there xs) (all (length xs) x (omega (arith, length-append xs (x ∷ []))))
  where
    there : (ys : List X) → get_or (ys ++ x ∷ []) (length ys) x ≡ x
    there [] = refl
    there (y ∷ ys) = there ys

pub returns-in-Some-clause-ready : goal.returns-in-Some-clause-ready
returns-in-Some-clause-ready g c =
    let readers = subst (AreReadersOf c.in_ok-writer.writer) c.in-Some.ensures.items c.in_ok-writer.ensures.readers in
    let same : c.in-Some.reader ≡ sight_of c.in_ok-writer.writer = last_of (λ reader. reader ≡ sight_of c.in_ok-writer.writer) c.pop.new.self.items c.in-Some.reader readers in
    let starts = c.in_ok-writer.ensures.writer in
    record {
      may = record { stands = starts.stands; ready = starts.ready; published = starts.published };
      board = ap (λ (reader : Sight). reader.board) same;
      total = ap (λ (reader : Sight). reader.total) same ∙ starts.stands.rows.numbered.count;
    }
