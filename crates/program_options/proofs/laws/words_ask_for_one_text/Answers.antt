use Rattle.std.proofs.Common.{refl, [], ◌∷◌}
use Rattle.std.specs.Prelude.{codes}
use Rattle.program_options.specs.declared.words.Choice.TheVariants as choice
use Rattle.program_options.proofs.WordLemmas.{asks_alone, asks_both, asks_clash, asks_lanes, asks_none, asks_one, asks_unknown, same_asked}
use Rattle.program_options.proofs.laws.words_ask_for_one_text.Goals as goal

pub returns : goal.returns
returns c = record {
  one = asks_one;
  none = λ words asked asks nothing. nothing asks.0 asks.1;
  lanes = asks_lanes;
  report = λ asked request lanes. asks_none [] asked refl request lanes;
  list = λ asked request lanes. asks_alone choice.List _ asked refl request lanes;
  check = λ asked request lanes. asks_alone choice.Check _ asked refl request lanes;
  audit = λ asked request lanes. asks_alone choice.Audit _ asked refl request lanes;
  journal = λ asked request lanes. asks_alone choice.Journal _ asked refl request lanes;
  watch = λ asked request lanes. asks_alone choice.Watch _ asked refl request lanes;
  both = λ asked request lanes. (
    asks_both choice.Watch choice.Journal (codes "--watch" ∷ []) (codes "--journal" ∷ []) asked refl refl tt (same_asked _ _ request lanes),
    asks_both choice.Journal choice.Watch (codes "--journal" ∷ []) (codes "--watch" ∷ []) asked refl refl tt (same_asked _ _ request lanes),
  );
  make = λ asked seed own most spelled request lanes. asks_alone (choice.Make seed) own asked (most, spelled) request lanes;
  on_lanes = λ asked own some most spelled request. asks_alone (choice.Lanes asked.lanes) own asked (some, most, spelled) request refl;
  list_on_lanes = λ asked own some most spelled request. (
    asks_both choice.List (choice.Lanes asked.lanes) (codes "--list" ∷ []) own asked refl (some, most, spelled) tt (same_asked _ _ request refl),
    asks_both (choice.Lanes asked.lanes) choice.List own (codes "--list" ∷ []) asked (some, most, spelled) refl tt (same_asked _ _ request refl),
  );
  check_on_lanes = λ asked own some most spelled request. (
    asks_both choice.Check (choice.Lanes asked.lanes) (codes "--check" ∷ []) own asked refl (some, most, spelled) tt (same_asked _ _ request refl),
    asks_both (choice.Lanes asked.lanes) choice.Check own (codes "--check" ∷ []) asked (some, most, spelled) refl tt (same_asked _ _ request refl),
  );
  audit_on_lanes = λ asked own some most spelled request. (
    asks_both choice.Audit (choice.Lanes asked.lanes) (codes "--audit" ∷ []) own asked refl (some, most, spelled) tt (same_asked _ _ request refl),
    asks_both (choice.Lanes asked.lanes) choice.Audit own (codes "--audit" ∷ []) asked (some, most, spelled) refl tt (same_asked _ _ request refl),
  );
  journal_on_lanes = λ asked own some most spelled request. (
    asks_both choice.Journal (choice.Lanes asked.lanes) (codes "--journal" ∷ []) own asked refl (some, most, spelled) tt (same_asked _ _ request refl),
    asks_both (choice.Lanes asked.lanes) choice.Journal own (codes "--journal" ∷ []) asked (some, most, spelled) refl tt (same_asked _ _ request refl),
  );
  watch_on_lanes = λ asked own some most spelled request. (
    asks_both choice.Watch (choice.Lanes asked.lanes) (codes "--watch" ∷ []) own asked refl (some, most, spelled) tt (same_asked _ _ request refl),
    asks_both (choice.Lanes asked.lanes) choice.Watch own (codes "--watch" ∷ []) asked (some, most, spelled) refl tt (same_asked _ _ request refl),
  );
  make_on_lanes = λ asked seed own other some most spelled below made request. (
    asks_both (choice.Make seed) (choice.Lanes asked.lanes) other own asked (below, made) (some, most, spelled) tt (same_asked _ _ request refl),
    asks_both (choice.Lanes asked.lanes) (choice.Make seed) own other asked (some, most, spelled) (below, made) tt (same_asked _ _ request refl),
  );
  apart = asks_clash;
  others = λ word words list check audit journal watch lanes with_lanes make with_seed.
      asks_unknown word words (record {
        list = list;
        check = check;
        audit = audit;
        journal = journal;
        watch = watch;
        lanes = lanes;
        make = make;
        with_lanes = with_lanes;
        with_seed = with_seed;
      });
}
