-- What a stop may leave of a file, before and after each call.
use Rattle.std.proofs.Common.{◌≡◌, ◌⊎◌, inl, inr, ⊎_elim, ℕ, zero, suc, ◌+◌, ◌-◌, ◌<◌, ◌≤◌, min, max, nat_le, nat_lt, if◌then◌else◌, ◌||◌, Bool, false, take, drop, List, [], ◌∷◌, ◌++◌, length, get_or, refl, sym, ap, ◌∙◌, subst, arith, length-append}
use Rattle.std.proofs.lemmas.Bool.{cases_Bool, cases_lt, or_from, and_left, and_right, cond-true, cond-false, lt-leb, lt-ltb, le-ltb}
use Rattle.std.proofs.lemmas.List.{get_or-take, get_or-drop, get_or_append_left, get_or-append_right, length-take, length-drop, ext_get_or, take_at, drop_all}
use Rattle.disk_model.specs.Images.{Torn, Cut}
use Rattle.disk_model.specs.Told.{is_within}
use Rattle.disk_model.specs.Touched.{IsBetween, IsLeft, Agree, is_touched}
use Rattle.disk_model.specs.declared.span.Span.{Span}

-- the values of a function from a number on
abbrev tabulate : (ℕ → ℕ) → ℕ → ℕ → List ℕ
tabulate f from zero = []
tabulate f from (suc count) = f from ∷ tabulate f (from + 1) count

length-tabulate : (f : ℕ → ℕ) (from count : ℕ) → length (tabulate f from count) ≡ count
length-tabulate f from zero = refl
length-tabulate f from (suc count) = ap suc (length-tabulate f (from + 1) count)

get_or-tabulate : (f : ℕ → ℕ) (from count place : ℕ) → place < count → get_or (tabulate f from count) place 0 ≡ f (from + place)
get_or-tabulate f from zero place lt = absurd (omega arith)
get_or-tabulate f from (suc count) zero lt = ap f (omega arith)
get_or-tabulate f from (suc count) (suc place) lt = get_or-tabulate f (from + 1) count place (omega arith) ∙ ap f (omega arith)

outside_write : (at count place : ℕ) → (place < at) ⊎ (at + count ≤ place) → is_within at count place ≡ false
outside_write at count place (inl below) = and_left (nat_le at place) (nat_lt place (at + count)) (lt-leb at place below)
outside_write at count place (inr past) = and_right (nat_le at place) (nat_lt place (at + count)) (le-ltb place (at + count) past)

-- ---- a write

module _ (synced image : List ℕ) (size at count : ℕ) (touched after : ℕ → Bool) (within : at ≤ size) (grows : (place : ℕ) → after place ≡ (touched place || is_within at count place)) (left : IsLeft synced (max size (at + count)) after image) where
  -- what it was before: as now where it was touched, else as it was synced
  abbrev was : ℕ → ℕ
  was place = if touched place then get_or image place 0 else if nat_lt place (length synced) then get_or synced place 0 else get_or image place 0

  abbrev size_earlier : ℕ
  size_earlier = min (length image) (max (length synced) size)

  abbrev earlier : List ℕ
  earlier = tabulate was 0 size_earlier

  length-earlier : length earlier ≡ size_earlier
  length-earlier = length-tabulate was 0 size_earlier

  get_or-earlier : (place : ℕ) → place < size_earlier → get_or earlier place 0 ≡ was place
  get_or-earlier place lt = get_or-tabulate was 0 size_earlier place lt ∙ ap was (omega arith)

  was_synced : (place : ℕ) → place < length synced → touched place ≡ false → was place ≡ get_or synced place 0
  was_synced place lt not_touched =
      cond-false (touched place) (get_or image place 0) (if nat_lt place (length synced) then get_or synced place 0 else get_or image place 0) not_touched
      ∙ cond-true (nat_lt place (length synced)) (get_or synced place 0) (get_or image place 0) (lt-ltb place (length synced) lt)

  -- outside what was written it was as it is
  was_same : (place : ℕ) → place < length image → is_within at count place ≡ false → was place ≡ get_or image place 0
  was_same place lt outside = elim (cases_Bool (touched place)) [
    | inl marked ↦ cond-true (touched place) (get_or image place 0) (if nat_lt place (length synced) then get_or synced place 0 else get_or image place 0) marked
    | inr unmarked ↦
        elim (cases_lt place (length synced)) [
          | inl in_synced ↦ was_synced place in_synced unmarked ∙ sym (left.others place lt in_synced (grows place ∙ or_from (touched place) (is_within at count place) unmarked outside))
          | inr past ↦
              cond-false (touched place) (get_or image place 0) (if nat_lt place (length synced) then get_or synced place 0 else get_or image place 0) unmarked
              ∙ cond-false (nat_lt place (length synced)) (get_or synced place 0) (get_or image place 0) (le-ltb place (length synced) past)
        ]
  ]

  size_between : IsBetween (length synced) size size_earlier
  size_between = ⊎_elim
      (λ (up : (length synced ≤ length image) × (length image ≤ max size (at + count))). if_more up)
      (λ (down : (max size (at + count) ≤ length image) × (length image ≤ length synced)). inr (omega (arith, down), omega (arith, down)))
      left.size
    where
      if_more : (length synced ≤ length image) × (length image ≤ max size (at + count)) → IsBetween (length synced) size size_earlier
      if_more up = elim (cases_lt size (length synced)) [
        | inl less ↦ inr (omega (arith, up), omega (arith, up))
        | inr more ↦ inl (omega (arith, up), omega (arith, up))
      ]

  left_earlier : IsLeft synced size touched earlier
  left_earlier =
      record {
        size = subst (IsBetween (length synced) size) (sym length-earlier) size_between;
        others = λ place lt in_synced not_touched. get_or-earlier place (omega (arith, length-earlier)) ∙ was_synced place in_synced not_touched;
      }

  before_same : take at image ≡ take at earlier
  before_same =
      ext_get_or 0 (take at image) (take at earlier) (omega (arith, length-take at image, length-take at earlier, length-earlier)) (λ place lt.
      get_or-take at image place 0 (omega (arith, length-take at image))
      ∙ sym (was_same place (omega (arith, length-take at image)) (outside_write at count place (inl (omega (arith, length-take at image)))))
      ∙ sym (get_or-earlier place (omega (arith, length-take at image)))
      ∙ sym (get_or-take at earlier place 0 (omega (arith, length-take at image))))

  -- a longer image reaches no further than what was written
  longer : max (length synced) size < length image → length image ≤ at + count
  longer more = ⊎_elim
      (λ (up : (length synced ≤ length image) × (length image ≤ max size (at + count))). omega (arith, up, more))
      (λ (down : (max size (at + count) ≤ length image) × (length image ≤ length synced)). omega (arith, down, more))
      left.size

  after_same : drop (at + count) image ≡ drop (at + count) earlier
  after_same = elim (cases_lt (max (length synced) size) (length image)) [
    | inl more ↦ drop_all (at + count) image (longer more) ∙ sym (drop_all (at + count) earlier (omega (arith, length-earlier, longer more)))
    | inr same ↦
        ext_get_or 0 (drop (at + count) image) (drop (at + count) earlier) (omega (arith, length-drop (at + count) image, length-drop (at + count) earlier, length-earlier)) (λ place lt.
        get_or-drop (at + count) image place 0
        ∙ sym (was_same (at + count + place) (omega (arith, length-drop (at + count) image)) (outside_write at count (at + count + place) (inr (omega arith))))
        ∙ sym (get_or-earlier (at + count + place) (omega (arith, length-drop (at + count) image)))
        ∙ sym (get_or-drop (at + count) earlier place 0))
  ]

  pub torn : (before : List ℕ) × IsLeft synced size touched before × Torn at count before image
  torn = (
    earlier,
    left_earlier,
    record {
      before = before_same;
      after = after_same;
      no_shorter = omega (arith, length-earlier);
      no_longer = elim (cases_lt (max (length synced) size) (length image)) [
        | inl more ↦ omega (arith, length-earlier, longer more)
        | inr same ↦ omega (arith, length-earlier)
      ];
    },
  )

-- ---- a cut

module _ (synced image : List ℕ) (size cut_to : ℕ) (touched : ℕ → Bool) (within : cut_to ≤ size) (left : IsLeft synced cut_to touched image) where
  -- the rest of what was synced
  abbrev back : List ℕ
  back = drop (length image) (take size synced)

  abbrev uncut : List ℕ
  uncut = image ++ back

  length-uncut : length uncut ≡ length image + (min size (length synced) - length image)
  length-uncut = omega (arith, length-append image back, length-drop (length image) (take size synced), length-take size synced)

  between : IsBetween (length synced) cut_to (length image) → IsBetween (length synced) size (length uncut)
  between (inl up) = inl (omega (arith, up, length-uncut), omega (arith, up, length-uncut))
  between (inr down) = elim (cases_lt size (length synced)) [
    | inl less ↦ inr (omega (arith, down, length-uncut), omega (arith, down, length-uncut))
    | inr more ↦ inl (omega (arith, down, length-uncut), omega (arith, down, length-uncut))
  ]

  least : IsBetween (length synced) cut_to (length image) → min cut_to (length uncut) ≤ length image
  least (inl up) = omega (arith, up, length-uncut)
  least (inr down) = omega (arith, down)

  rest_synced : (place : ℕ) → place < length uncut → place < length synced → touched place ≡ false → get_or uncut place 0 ≡ get_or synced place 0
  rest_synced place lt in_synced not_touched = elim (cases_lt place (length image)) [
    | inl here ↦ get_or_append_left image back 0 place here ∙ left.others place here in_synced not_touched
    | inr past ↦
        get_or-append_right image back (length image) place 0 refl past
        ∙ get_or-drop (length image) (take size synced) (place - length image) 0
        ∙ ap (λ (n : ℕ). get_or (take size synced) n 0) (omega arith)
        ∙ get_or-take size synced place 0 (omega (arith, lt, length-uncut))
  ]

  pub cut_short : (before : List ℕ) × IsLeft synced size touched before × Cut cut_to before image
  cut_short = (uncut, record { size = between left.size; others = rest_synced }, record { no_shorter = least left.size; front = take_at image back (length image) refl })

-- ---- a sync, and what is there

-- what is there is one of the images
pub seen_left : (synced bytes : List ℕ) (spans : List Span) → Agree synced bytes spans → IsLeft synced (length bytes) (is_touched spans) bytes
seen_left synced bytes spans agrees =
    record {
      size = elim (cases_lt (length bytes) (length synced)) [
        | inl less ↦ inr (omega arith, omega arith)
        | inr more ↦ inl (more, omega arith)
      ];
      others = λ place in_bytes in_synced not_touched. agrees place in_synced in_bytes not_touched;
    }

-- a file that was synced has no other image
pub synced_alone : (bytes image : List ℕ) → IsLeft bytes (length bytes) (is_touched []) image → image ≡ bytes
synced_alone bytes image left =
    let size : length image ≡ length bytes = ⊎_elim (λ up. omega (arith, up)) (λ down. omega (arith, down)) left.size in
    ext_get_or 0 image bytes size (λ place lt. left.others place lt (omega (arith, size)) refl)
