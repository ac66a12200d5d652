-- Gates and bodies in the bytes of a file: gate k is the byte at 57k, and body k the 56 bytes after it.
-- Source: docs/WIRE.md; a file with an append cut short is this project's.
use Rattle.std.specs.Prelude.{◌≡◌, ◌≢◌, ◌⊎◌, ℕ, ◌+◌, ◌*◌, ◌<◌, ◌≤◌, List, [], ◌∷◌, ◌++◌, length, take, drop, get_or, Option, IsSomeAnd}
use Rattle.std.specs.List.{flat_map}

-- the body of a number
abbrev pub body_in : List ℕ → ℕ → List ℕ
body_in file number = take 56 (drop (57 * number + 1) file)

-- a gate is open where its byte is 1 and its body and the next gate's byte lie within the file
pub record IsOpen (file : List ℕ) (number : ℕ) : Type 0 where
  pub within : 57 * number + 57 < length file
  pub byte : get_or file (57 * number) 0 ≡ 1

-- the first gates are open, and these are their bodies
abbrev pub AreOpen : List ℕ → List (List ℕ) → Type 0
AreOpen file bodies =
    (number : ℕ) → number < length bodies → IsOpen file number × (body_in file number ≡ get_or bodies number [])

-- a byte 0 stands at a place
pub record IsClosedAt (file : List ℕ) (place : ℕ) : Type 0 where
  pub within : place < length file
  pub byte : get_or file place 0 ≡ 0

-- another byte stands at a place, or the file ends before it
abbrev pub IsNotClosedAt : List ℕ → ℕ → Type 0
IsNotClosedAt file place = (get_or file place 0 ≢ 0) ⊎ (length file ≤ place)

-- the file has these bodies: they are those before its first gate that isn't open
pub record HasBodies (file : List ℕ) (bodies : List (List ℕ)) : Type 0 where
  pub gates_open : AreOpen file bodies
  pub tail : IsOpen file (length bodies) → ⊥

-- it has them, and the byte of the gate after them is there and is 0
pub record HasRestingGate (file : List ℕ) (bodies : List (List ℕ)) : Type 0 where
  pub gates_open : AreOpen file bodies
  pub tail_within : 57 * length bodies < length file
  pub tail_closed : get_or file (57 * length bodies) 0 ≡ 0

-- A body stands behind the gate after these, and the gate after it is closed.
pub record HasBodyBehind (file : List ℕ) (number : ℕ) (body : List ℕ) : Type 0 where
  pub within : 57 * number + 57 < length file
  pub is : body_in file number ≡ body
  pub next_closed : get_or file (57 * number + 57) 0 ≡ 0

-- Whatever the byte of the gate after these bodies becomes, the file has them, with a pending body, where there is one, or
-- without: the gate is closed, or the file ends before the gate after it, or the pending body stands behind it.
pub record IsStaged (bodies : List (List ℕ)) (pending : Option (List ℕ)) (file : List ℕ) : Type 0 where
  pub gates_open : AreOpen file bodies
  pub behind : (get_or file (57 * length bodies) 0 ≡ 0) ⊎ ((length file ≤ 57 * length bodies + 57) ⊎ IsSomeAnd pending (HasBodyBehind file (length bodies)))

-- the file has the bodies, with a pending one, where there is one, or without
abbrev pub HasEither : List (List ℕ) → Option (List ℕ) → List ℕ → Type 0
HasEither bodies pending file = HasBodies file bodies ⊎ IsSomeAnd pending (λ body. HasBodies file (bodies ++ body ∷ []))

-- each body has 56 bytes
abbrev pub AreWhole : List (List ℕ) → Type 0
AreWhole bodies = (number : ℕ) → number < length bodies → length (get_or bodies number []) ≡ 56

-- the bytes of a file that has these bodies and nothing else
abbrev pub gated : List (List ℕ) → List ℕ
gated bodies = flat_map (λ body. 1 ∷ body) bodies ++ 0 ∷ []
