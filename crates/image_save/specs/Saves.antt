-- What a store shows once an image is written into it.
use Rattle.std.specs.Prelude.{◌≡◌, ℕ, ◌*◌, List, Option}
use Rattle.image.specs.Image.{image}
use Rattle.image_writer.specs.Writes.{Holds}
use Rattle.kinds.specs.declared.record.Record.{Record}
use Rattle.maps.specs.Maps.{Kinds, contents}
use Rattle.model.specs.Blocks.{blocks_of}
use Rattle.model.specs.Setups.{Place}
use Rattle.store.specs.declared.store.Store.{Ghosts as StoreWords}

-- written anew and flushed: of as many blocks, protected or not as it was, and what it shows is kept
pub record Rewritten {S F : Type 0} (w : StoreWords S F) (was becomes : S) : Type 0 where
  pub count : w.count becomes ≡ w.count was
  pub protect : w.protected becomes ≡ w.protected was
  pub keeps : w.kept becomes ≡ w.shown becomes

-- the blocks are the image of the map that the cells hold, in so many of them
abbrev pub ShowsImage : {K Row V : Type 0} → Kinds K Row V → ℕ → ℕ → List (Option (Record Row V)) → ℕ → List Place → Type 0
ShowsImage {K} {Row} {V} x seed count cells blocks shown =
    (m : List (Record K V)) → Holds x seed count cells m → shown ≡ blocks_of blocks (image x (32 * blocks) (contents seed m))
