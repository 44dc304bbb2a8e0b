-- Under what a register runs: the two kinds, and how a seed and a map are written on a store. The image is known here by its laws alone.
use Rattle.std.specs.Prelude.{◌≡◌, ℕ, ◌*◌, ◌<◌, ◌≤◌, List, length, Some, None, Option, slice_index}
use Rattle.layout.specs.Orders.{All}
use Rattle.maps.specs.Maps.{Kinds, KindsLaws, Contents, Lawful}
use Rattle.model.specs.Faults.{Fault}

-- what a store shows or keeps at a place: a block, or None for 'unreadable'
abbrev pub Place : Type 0
Place = Option (List ℕ)

-- how contents, a seed and a map, are written on a store; the laws are `Written`
pub record Codec (K V : Type 0) : Type 0 where
  -- how many bytes the image has, before the zeros behind it
  pub image_length : Contents K V → ℕ
  -- the image as the blocks of a store of so many
  pub image : ℕ → Contents K V → List Place
  -- what is wrong with what a store shows, if it is no image: the refusals of begin from UNREADABLE on
  pub wrong : List Place → Option Fault

pub record Setup (K Row V : Type 0) : Type 0 where
  pub kinds : Kinds K Row V
  pub codec : Codec K V

-- the image is not longer than a store of so many blocks
abbrev pub Fits : {K Row V : Type 0} → Setup K Row V → ℕ → Contents K V → Type 0
Fits x count h = x.codec.image_length h ≤ 32 * count

-- a store of so many blocks shows the image of the contents
pub record Shows {K Row V : Type 0} (x : Setup K Row V) (count : ℕ) (shown : List Place) (h : Contents K V) : Type 0 where
  pub lawful : Lawful x.kinds h
  pub fits : Fits x count h
  pub image : shown ≡ x.codec.image count h

-- what a store shows is the image of these contents, or of none
abbrev pub Found : {K Row V : Type 0} → Setup K Row V → ℕ → List Place → Option (Contents K V) → Type 0
Found {K} {Row} {V} x count shown None = (h : Contents K V) → Shows x count shown h → ⊥
Found x count shown (Some h) = Shows x count shown h

-- a place that is unreadable, or a block of 32 bytes
abbrev pub Whole : Place → Type 0
Whole None = Unit {0}
Whole (Some b) = (length b ≡ 32) × ((i : ℕ) → slice_index b i < 256)

-- what a store of so many blocks shows: a place for each
pub record Proper (count : ℕ) (shown : List Place) : Type 0 where
  pub size : length shown ≡ count
  pub blocks : All Whole shown

-- the laws of the image
pub record Written {K Row V : Type 0} (x : Setup K Row V) : Type 0 where
  -- an image is of one seed and one map
  pub apart : (count : ℕ) (g h : Contents K V) → Lawful x.kinds g → Lawful x.kinds h → Fits x count g → Fits x count h
      → x.codec.image count g ≡ x.codec.image count h → g ≡ h
  -- nothing is wrong with an image, and only with an image
  pub sound : (count : ℕ) (shown : List Place) (h : Contents K V) → Shows x count shown h → x.codec.wrong shown ≡ None
  pub complete : (count : ℕ) (shown : List Place) → Proper count shown → x.codec.wrong shown ≡ None → (h : Contents K V) × Shows x count shown h
  -- it can be told what places are the image of, whatever they hold
  pub told : (count : ℕ) (shown : List Place) → (o : Option (Contents K V)) × Found x count shown o

pub record SetupLaws {K Row V : Type 0} (x : Setup K Row V) : Type 0 where
  pub kinds : KindsLaws x.kinds
  pub written : Written x
