-- Numbers of 128 bits as two halves.
use Rattle.std.specs.Prelude.{ℤ, pos, ◌^◌, ◌+◌, ◌*◌, ◌+ℤ◌, ◌*ℤ◌}
use Rattle.jadvolni.specs.declared.halves.Unsigned128.{Unsigned128}
use Rattle.jadvolni.specs.declared.halves.Signed128.{Signed128}

-- the number of two halves
abbrev pub unsigned_number : Unsigned128 → ℤ
unsigned_number halves = pos (halves.high * 2 ^ 64 + halves.low)

-- the number of two halves, of which the high one has the sign
abbrev pub signed_number : Signed128 → ℤ
signed_number halves = (halves.high *ℤ pos (2 ^ 64)) +ℤ pos halves.low
