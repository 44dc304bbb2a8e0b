-- The number and the place of each refusal: the innermost ones, where a fault of the image or of the store is carried.
use Rattle.std.specs.Prelude.{Some, None, Ok, Err, Option, Result}
use Rattle.image.specs.Faults.{fault_number, fault_place}
use Rattle.model.specs.Faults.{Fault, fault_at, size_fault, lent_fault, kind_fault, cells_fault, short_fault, protected_fault}
use Rattle.sheets.specs.declared.sheet.SheetFault.{SheetFault}
use Rattle.sheets.specs.declared.sheet.SheetFault.TheVariants as Why
use Rattle.store.specs.declared.fault.BlockFault.{Ghosts as FaultWords}
use Rattle.contents.specs.declared.fault.RegisterFault.{RegisterFault}
use Rattle.contents.specs.declared.fault.RegisterFault.TheVariants.{Size, Lent, Kind, Cells, Short, Protected, Image}

-- by what is known of the store's fault
abbrev pub told : {F : Type 0} → FaultWords F → RegisterFault F → Fault
told w Size = size_fault
told w Lent = lent_fault
told w Kind = kind_fault
told w Cells = cells_fault
told w Short = short_fault
told w Protected = protected_fault
told w (Image f) = fault_at (fault_number w.number f) (fault_place w.block f)

-- the refusal of a check, if it refuses
abbrev pub told_if : {F : Type 0} → FaultWords F → Result Unit (RegisterFault F) → Option Fault
told_if w (Ok u) = None
told_if w (Err f) = Some (told w f)

-- what a sheet is refused with, the register refuses with
abbrev pub of_sheet : {F : Type 0} → SheetFault → RegisterFault F
of_sheet Why.Kind = Kind
of_sheet Why.Lent = Lent
of_sheet Why.Cells = Cells
