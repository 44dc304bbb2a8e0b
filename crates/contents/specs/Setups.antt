-- The image of two kinds, in the words of the plain machine, and a store's meaning as one value.
use Rattle.image.specs.Faults.{fault_number, fault_place}
use Rattle.image.specs.Image.{image, image_length}
use Rattle.image.specs.Opened.{opened}
use Rattle.image.specs.declared.fault.ImageFault.{ImageFault}
use Rattle.kinds.specs.Kinds.{KeyKind, ValueKind}
use Rattle.maps.specs.Maps.{Kinds, kinds_of}
use Rattle.model.specs.Blocks.{Bytes, setup_of}
use Rattle.model.specs.Faults.{fault_at}
use Rattle.model.specs.Setups.{Setup}
use Rattle.model.specs.Worlds.{Store}
use Rattle.store.specs.declared.store.Store.{Ghosts as StoreWords}

-- the image in bytes; a fault in bytes carries none of a store
abbrev pub image_bytes : {K Row V : Type 0} → Kinds K Row V → Bytes K V (ImageFault ⊥)
image_bytes x = record {
  image_length = image_length x;
  image = image x;
  opened = opened x;
  fault = λ f. fault_at (fault_number (λ none. absurd none) f) (fault_place (λ none. absurd none) f);
}

-- the two kinds, and their image
abbrev pub setup : {K Row V : Type 0} → KeyKind K Row → ValueKind V → Setup K Row V
setup k v = setup_of (kinds_of k v) (image_bytes (kinds_of k v))

abbrev pub meaning : {S F : Type 0} → StoreWords S F → S → Store
meaning w s = record { count = w.count s; protected = w.protected s; shown = w.shown s; kept = w.kept s }
