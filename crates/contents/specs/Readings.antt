-- What is read of a store's image.
use Rattle.std.specs.Prelude.{◌≡◌, ℕ, List, replicate, None, Ok, Err, Option, Result}
use Rattle.image_store.specs.Loads.{store_opened, ReadsStore}
use Rattle.kinds.specs.declared.record.Record.{Record}
use Rattle.maps.specs.Maps.{Kinds}
use Rattle.store.specs.Answers.{refused}
use Rattle.store.specs.Places.{Place}
use Rattle.store.specs.declared.fault.BlockFault.{Ghosts as FaultWords}
use Rattle.contents.specs.Faults.{told}
use Rattle.contents.specs.declared.fault.RegisterFault.{RegisterFault}

-- accepted, the store shows the image; refused, the fault's number and place are those of what is wrong, and all n cells are empty
abbrev pub FoundIn : {F K Row V : Type 0} → Kinds K Row V → FaultWords F → List Place → ℕ → Result (ℕ × ℕ) (RegisterFault F) → List (Option (Record Row V)) → Type 0
FoundIn {F} x w shown n (Ok p) cells = ReadsStore x {E = RegisterFault F} shown (Ok p) cells
FoundIn {F} x w shown n (Err f) cells =
    (store_opened x {F = F} w.number w.block shown ≡ refused (told w f).number (told w f).place) × (cells ≡ replicate n None)
