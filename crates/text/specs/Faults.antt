-- The fault of a text key, by its number and its place.
use Rattle.std.specs.Prelude.{ℕ}
use Rattle.text.specs.declared.fault.TextFault.{TextFault}
use Rattle.text.specs.declared.fault.TextFault.TheVariants.{Length, NotAllowed}

-- TEXT is 14; its place is 0 for a length, else that of the byte
abbrev pub told : TextFault → ℕ × ℕ
told Length = (14, 0)
told (NotAllowed place) = (14, place)
