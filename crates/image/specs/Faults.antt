-- The number of each fault and the place that it names: the innermost ones, so those of the store's fault where one is carried.
use Rattle.std.specs.Prelude.{ℕ}
use Rattle.image.specs.declared.fault.ImageFault.{ImageFault}
use Rattle.image.specs.declared.fault.ImageFault.TheVariants.{Store, Header, Bits, Record, Layout, Tail}

abbrev pub fault_number : {F : Type 0} → (F → ℕ) → ImageFault F → ℕ
fault_number number (Store f) = number f
fault_number number (Header i) = 4
fault_number number Bits = 5
fault_number number (Record i) = 6
fault_number number (Layout i) = 7
fault_number number (Tail i) = 8

abbrev pub fault_place : {F : Type 0} → (F → ℕ) → ImageFault F → ℕ
fault_place block (Store f) = block f
fault_place block (Header i) = i
fault_place block Bits = 32
fault_place block (Record i) = i
fault_place block (Layout i) = i
fault_place block (Tail i) = i
