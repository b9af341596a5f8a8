-- Document 01: "for C the check's number, dx and dy come back packed in one number".
use Rattle.std.specs.Prelude.{ℕ, suc, ◌+◌, ◌-◌, ◌*◌, ◌^◌, ℤ, pos, negsuc}
use Rattle.answer.specs.declared.Told.{Told}

-- a coordinate mod 256, of those that a byte of an answer can hold: -128 to 127
abbrev pub mod_byte : ℤ → ℕ
mod_byte (pos n) = n
mod_byte (negsuc n) = 2 ^ 8 - suc n

-- number + 256·(dx mod 256) + 65536·(dy mod 256): a plain number stays itself
unfoldable pub packed : Told → ℕ
packed t = t.number + mod_byte t.dx * 2 ^ 8 + mod_byte t.dy * 2 ^ 16
