-- The laws of images: bytes are opened exactly where they are an image, and an image is of one seed and one map.
use Rattle.std.specs.Prelude.{◌≡◌, ℕ, ◌+◌, ◌/◌, ◌<◌, ◌≤◌, List, length, Ok, slice_index}
use Rattle.layout.specs.Capacity.{capacity}
use Rattle.maps.specs.Maps.{Kinds, Contents, Lawful, cells_of}
use Rattle.image.specs.Image.{codes, code_of, image, image_length}
use Rattle.image.specs.Opened.{opened}

-- for faults of a store of any type F
pub record ImageLaws {K Row V : Type 0} (F : Type 0) (x : Kinds K Row V) : Type 0 where
  -- an image that fits fills the store, with bytes
  pub size : (n : ℕ) (h : Contents K V) → Lawful x h → image_length x h ≤ n → length (image x n h) ≡ n
  pub bytes : (n : ℕ) (h : Contents K V) → Lawful x h → (i : ℕ) → slice_index (image x n h) i < 256
  -- it is opened, to the seed and the map that it is of
  pub opens : (n : ℕ) (h : Contents K V) → Lawful x h → image_length x h ≤ n → opened {F = F} x (image x n h) ≡ Ok h
  -- bytes that are opened are the image of what they are opened to
  pub only : (bs : List ℕ) → ((i : ℕ) → slice_index bs i < 256) → (h : Contents K V) → opened {F = F} x bs ≡ Ok h
      → Lawful x h × (image_length x h ≤ length bs) × (bs ≡ image x (length bs) h)
  -- equal images are of one seed and one map
  pub one : (n : ℕ) (g h : Contents K V) → Lawful x g → Lawful x h → image_length x g ≤ n → image_length x h ≤ n → image x n g ≡ image x n h → g ≡ h
  -- its length: block 0, the bit map and the codes
  pub long : (h : Contents K V) → image_length x h ≡ 32 + capacity (length h.records) / 8 + length (codes (code_of x) (cells_of x h))
  -- and none is longer than this
  pub longest : (h : Contents K V) → Lawful x h → image_length x h ≤ 27040
