-- The number of each fault, and the block that it names.
use Rattle.std.specs.Prelude.{ℕ}
use Rattle.store.specs.declared.fault.StoreFault.{StoreFault}
use Rattle.store.specs.declared.fault.StoreFault.TheVariants.{Range, Unreadable, Protected}

abbrev pub fault_number : StoreFault → ℕ
fault_number (Range i) = 13
fault_number (Unreadable i) = 3
fault_number (Protected i) = 12

-- the block that was asked of the store that answers
abbrev pub fault_block : StoreFault → ℕ
fault_block (Range i) = i
fault_block (Unreadable i) = i
fault_block (Protected i) = i
