-- Steps from a place between two lines to the next, and refusals there.
use Rattle.std.proofs.Common.{◌≡◌, ℕ, ◌+◌, List, [], ◌∷◌, length, refl, sym, subst, inl, inr}
use Rattle.crontab_text.specs.Lines.{lines_of}
use Rattle.run_text.specs.Follow.{Above, End, MayStandBelow, Refuses, Misses}
use Rattle.run_text.specs.Reading.{ReadsFrom}
use Rattle.run_text.specs.Run.{Run}
use Rattle.run_text.specs.Steps.{Place, place_of, RefusedFrom, CarriesBack}
use Rattle.run_text.specs.declared.reader.Reader.{Reader}
use Rattle.run_text.specs.declared.refusal.Refusal.{Refusal}
use Rattle.run_text.specs.declared.table.Tables.{Tables}

-- a place before the same lines
pub stays : {tables : Tables} (number : ℕ) (above : Above) (text rest : List ℕ) → lines_of text ≡ lines_of rest
    → CarriesBack tables (record { number = number; above = above; rest = text }) (record { number = number; above = above; rest = rest })
stays number above text rest is = record { reads = λ run reads. rw is reads; refuses = λ refusal refused. rw is refused }

-- one way behind another
pub goes_on : {tables : Tables} (a b c : Place) → CarriesBack tables a b → CarriesBack tables b c → CarriesBack tables a c
goes_on a b c first second = record {
  reads = λ run reads. first.reads run (second.reads run reads);
  refuses = λ refusal refused. first.refuses refusal (second.refuses refusal refused);
}

-- a line that may stand there
pub one_line : {tables : Tables} (number : ℕ) (above next : Above) (text line rest : List ℕ) → lines_of text ≡ line ∷ lines_of rest
    → MayStandBelow tables number (length (lines_of rest)) above line next
    → CarriesBack tables (record { number = number; above = above; rest = text }) (record { number = number + 1; above = next; rest = rest })
one_line number above next text line rest is may = record {
  reads = λ run reads. rw is (next, may, reads);
  refuses = λ refusal refused. rw is (inr (next, may, refused));
}

-- a line that may not stand there
pub wrong_line : (tables : Tables) (number : ℕ) (above : Above) (text line rest : List ℕ) (refusal : Refusal) → lines_of text ≡ line ∷ lines_of rest
    → Refuses tables number (length (lines_of rest)) above line refusal
    → RefusedFrom tables (record { number = number; above = above; rest = text }) refusal
wrong_line tables number above text line rest refusal is refuses = rw is (inl refuses)

-- no line where one is missing
pub missing_line : (tables : Tables) (number : ℕ) (above : Above) (text : List ℕ) (refusal : Refusal) → text ≡ [] → Misses above refusal.cause → refusal.line ≡ number → refusal.place ≡ 0
    → RefusedFrom tables (record { number = number; above = above; rest = text }) refusal
unfolding lines_of
missing_line tables number above text refusal is misses line_is place_is = rw is (misses, (line_is, place_is))

-- the reader passes a line that may stand there
pub one_line_at : {tables : Tables} (old new : Reader) (above next : Above) (line : List ℕ) → new.number ≡ old.number + 1 → lines_of old.rest.now ≡ line ∷ lines_of new.rest.now
    → MayStandBelow tables (old.number + 1) (length (lines_of new.rest.now)) above line next
    → CarriesBack tables (place_of old above) (place_of new next)
one_line_at {tables = tables} old new above next line number_is is may =
    subst (λ n. CarriesBack tables (place_of old above) (record { number = n + 1; above = next; rest = new.rest.now })) (sym number_is)
    (one_line (old.number + 1) above next old.rest.now line new.rest.now is may)

-- the end of a whole run file
pub ends : (tables : Tables) (number : ℕ) (text : List ℕ) (run : Run) → text ≡ [] → ReadsFrom tables number (End run) (lines_of text) run
unfolding lines_of
ends tables number text run is = rw is refl
