-- An image given in bytes makes an image in blocks. To be supplied are `Bytes`, the image's own definitions, and `ByteLaws`, its laws;
-- `codec_of` then is a codec of which `Written` holds.
use Rattle.std.specs.Prelude.{◌≡◌, ℕ, zero, suc, ◌*◌, ◌<◌, ◌≤◌, List, [], ◌∷◌, ◌++◌, length, take, drop, Some, None, Ok, Err, Option, Result, slice_index}
use Rattle.layout.specs.Orders.{All}
use Rattle.maps.specs.Maps.{Kinds, Contents, Lawful}
use Rattle.model.specs.Faults.{Fault, unreadable_fault}
use Rattle.model.specs.Setups.{Place, Codec, Setup, Written}

-- the first n blocks of 32 bytes
abbrev pub blocks_of : ℕ → List ℕ → List Place
blocks_of zero bs = []
blocks_of (suc n) bs = Some (take 32 bs) ∷ blocks_of n (drop 32 bs)

-- the bytes of the blocks that can be read
abbrev pub bytes_of : List Place → List ℕ
bytes_of [] = []
bytes_of (None ∷ ps) = bytes_of ps
bytes_of (Some b ∷ ps) = b ++ bytes_of ps

-- the lowest unreadable block, counted from i
abbrev pub unreadable : ℕ → List Place → Option ℕ
unreadable i [] = None
unreadable i (None ∷ ps) = Some i
unreadable i (Some b ∷ ps) = unreadable (suc i) ps

-- the image in so many bytes, its length before the zeros, and what some bytes are the image of, or the first fault in them
pub record Bytes (K V E : Type 0) : Type 0 where
  pub image_length : Contents K V → ℕ
  pub image : ℕ → Contents K V → List ℕ
  pub opened : List ℕ → Result (Contents K V) E
  -- the number and the place of a fault
  pub fault : E → Fault

pub record ByteLaws {K Row V E : Type 0} (x : Kinds K Row V) (b : Bytes K V E) : Type 0 where
  -- an image that fits fills the store, with bytes
  pub size : (n : ℕ) (h : Contents K V) → Lawful x h → b.image_length h ≤ n → length (b.image n h) ≡ n
  pub bytes : (n : ℕ) (h : Contents K V) → Lawful x h → (i : ℕ) → slice_index (b.image n h) i < 256
  -- it is opened, to the contents that it is of
  pub opens : (n : ℕ) (h : Contents K V) → Lawful x h → b.image_length h ≤ n → b.opened (b.image n h) ≡ Ok h
  -- bytes that are opened are the image of what they are opened to
  pub only : (bs : List ℕ) → ((i : ℕ) → slice_index bs i < 256) → (h : Contents K V) → b.opened bs ≡ Ok h
      → Lawful x h × (b.image_length h ≤ length bs) × (bs ≡ b.image (length bs) h)

abbrev pub fault_of : {A E : Type 0} → (E → Fault) → Result A E → Option Fault
fault_of fault (Ok a) = None
fault_of fault (Err e) = Some (fault e)

-- UNREADABLE with the lowest such block comes before what is wrong with the bytes
abbrev pub unless_unreadable : Option ℕ → Option Fault → Option Fault
unless_unreadable (Some i) f = Some (unreadable_fault i)
unless_unreadable None f = f

abbrev pub codec_of : {K V E : Type 0} → Bytes K V E → Codec K V
codec_of b = record {
  image_length = b.image_length;
  image = λ count h. blocks_of count (b.image (32 * count) h);
  wrong = λ shown. unless_unreadable (unreadable 0 shown) (fault_of b.fault (b.opened (bytes_of shown)));
}

abbrev pub setup_of : {K Row V E : Type 0} → Kinds K Row V → Bytes K V E → Setup K Row V
setup_of x b = record { kinds = x; codec = codec_of b }

-- a block of so many bytes
abbrev pub HasBytes : ℕ → Place → Type 0
HasBytes n None = ⊥
HasBytes n (Some b) = length b ≡ n

-- bytes that fill blocks of n are cut into such, and are the bytes of these
abbrev pub Cuts : ℕ → Type 0
Cuts n = (count : ℕ) (bs : List ℕ) → length bs ≡ n * count → All (HasBytes n) (blocks_of count bs) × (bytes_of (blocks_of count bs) ≡ bs)

-- for all kinds, and faults of any type
abbrev pub BlocksWritten : Type 0 → Type 0 → Type 0 → Type 0 → Type 0
BlocksWritten K Row V E = (x : Kinds K Row V) (b : Bytes K V E) → ByteLaws x b → Written (setup_of x b)
