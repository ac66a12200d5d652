-- What is left of a world that is in parts.
use Rattle.std.specs.Prelude.{ℕ, ◌≤◌, vec_capacity}
use Rattle.world_rounds.specs.declared.rooms.MemberRoom.{MemberRoom}

-- the room takes so many replicas
abbrev pub IsRoomFor : {D : Type 0} → ℕ → MemberRoom D → Type 0
IsRoomFor count room = count ≤ vec_capacity room.members
