-- What a refusal tells, and the number and the place of each.
use Rattle.std.specs.Prelude.{ℕ}

pub record Fault : Type 0 where
  pub number : ℕ
  pub place : ℕ

abbrev pub fault_at : ℕ → ℕ → Fault
fault_at n p = record { number = n; place = p }

-- SIZE: the store has no block, or more than 2048
abbrev pub size_fault : Fault
size_fault = fault_at 1 0

-- LENT: a lent piece that the call takes has a wrong length
abbrev pub lent_fault : Fault
lent_fault = fault_at 2 0

-- UNREADABLE, with the block
abbrev pub unreadable_fault : ℕ → Fault
unreadable_fault block = fault_at 3 block

-- HEADER, with the byte that breaks its rule
abbrev pub header_fault : ℕ → Fault
header_fault byte = fault_at 4 byte

-- BITS, always with the first byte of the bit map
abbrev pub bits_fault : Fault
bits_fault = fault_at 5 32

-- RECORD, with the first byte of the record
abbrev pub record_fault : ℕ → Fault
record_fault byte = fault_at 6 byte

-- LAYOUT, with the cell not in place
abbrev pub layout_fault : ℕ → Fault
layout_fault cell = fault_at 7 cell

-- TAIL, with the byte that is not zero
abbrev pub tail_fault : ℕ → Fault
tail_fault byte = fault_at 8 byte

-- KIND: other kinds than the batch's, or a row that is no key's
abbrev pub kind_fault : Fault
kind_fault = fault_at 9 0

-- CELLS: the cells are no layout of the batch's count, capacity and seed
abbrev pub cells_fault : Fault
cells_fault = fault_at 10 0

-- SHORT: the image is longer than the store
abbrev pub short_fault : Fault
short_fault = fault_at 11 0

abbrev pub protected_fault : Fault
protected_fault = fault_at 12 0
