-- from lent cells that are a layout to the image of the map
use Rattle.std.proofs.Common.{◌≡◌, ℕ, arith, zero, suc, ◌+◌, ◌-◌, ◌*◌, ◌/◌, ◌≤◌, List, [], ◌∷◌, ◌++◌, map, length, take, replicate, None, Option, sym, refl, ap, ◌∙◌, ap₂}
use Rattle.std.proofs.lemmas.List.FromFn.{length-map-range_with_len}
use Rattle.std.proofs.lemmas.List.{take_at, length-map, map-append, append-nil}
use Rattle.kinds.specs.Records.{written}
use Rattle.kinds.specs.declared.record.Record.{Record}
use Rattle.layout.specs.Capacity.{power, capacity}
use Rattle.layout.specs.Views.{seen}
use Rattle.maps.specs.Maps.{Kinds, KindsLaws, contents, lent, cells_of, laid}
use Rattle.image.specs.Bits.{packed, bit_map}
use Rattle.image.specs.Image.{header, held, codes, code_of, body, image, image_length}
use Rattle.image.specs.Rows.{keyed, keyed_cells}
use Rattle.image.proofs.Bodies.{stands, body_length}
use Rattle.image.proofs.Rows.{held_lent, keyed_back}
use Rattle.image_writer.specs.Writes.{Holds}
use Rattle.image_writer.proofs.Puts.{codes_append, written_all}

no_codes : {R : Type 0} (code : R → List ℕ) (n : ℕ) → codes code (replicate n None) ≡ []
no_codes code zero = refl
no_codes code (suc n) = no_codes code n

module _ {K Row V : Type 0} (x : Kinds K Row V) (laws : KindsLaws x) (seed count : ℕ) (rows : List (Option (Record Row V))) (m : List (Record K V)) (w : Holds x seed count rows m) where
  abbrev cells : List (Option (Record K V))
  cells = cells_of x (contents seed m)

  abbrev seen_cells : List (Option (Record Row V))
  seen_cells = map (seen (lent x)) cells

  abbrev nones : ℕ
  nones = 1024 - capacity (length m)

  is : rows ≡ seen_cells ++ replicate nones None
  unfolding laid
  is = w.laid.is

  cells_length : length cells ≡ capacity count
  cells_length = (stands x laws (contents seed m) w.laid.lawful).size ∙ ap capacity (sym w.counts)

  seen_length : length seen_cells ≡ capacity count
  seen_length = length-map cells (seen (lent x)) ∙ cells_length

  -- the first cells are those of the layout
  pub first_rows : (k : ℕ) → k ≡ capacity count → take k rows ≡ seen_cells
  first_rows k ek = ap (take k) is ∙ take_at seen_cells (replicate nones None) k (seen_length ∙ sym ek)

  pub first_length : (k : ℕ) → k ≡ capacity count → length (take k rows) ≡ capacity count
  first_length k ek = ap length (first_rows k ek) ∙ seen_length

  pub first_keyed : (k : ℕ) → k ≡ capacity count → keyed_cells x (take k rows) ≡ cells
  first_keyed k ek = ap (keyed_cells x) (first_rows k ek) ∙ keyed_back x laws cells

  keyed_nones : (n : ℕ) → map (keyed x) (replicate n None) ≡ replicate n None
  keyed_nones zero = refl
  keyed_nones (suc n) = ap (λ (c : List (Option (Record K V))). None ∷ c) (keyed_nones n)

  pub all_codes : codes (code_of x) (keyed_cells x rows) ≡ codes (code_of x) cells
  all_codes =
      ap (λ c. codes (code_of x) (keyed_cells x c)) is ∙ ap (codes (code_of x)) (map-append (keyed x) seen_cells (replicate nones None))
      ∙ codes_append (code_of x) (keyed_cells x seen_cells) (map (keyed x) (replicate nones None))
      ∙ ap₂ ◌++◌ (ap (codes (code_of x)) (keyed_back x laws cells)) (ap (codes (code_of x)) (keyed_nones nones) ∙ no_codes (code_of x) nones) ∙ append-nil (codes (code_of x) cells)

  pub length_is : image_length x (contents seed m) ≡ 32 + capacity count / 8 + length (codes (code_of x) cells)
  length_is = body_length x laws (contents seed m) ∙ ap (λ n. 32 + capacity n / 8 + length (codes (code_of x) cells)) (sym w.counts)

  -- what an image that has room takes of its store
  pub takes : (k n : ℕ) → k ≡ capacity count → image_length x (contents seed m) ≤ n → 32 + k / 8 + length (codes (code_of x) (keyed_cells x (take k rows))) ≤ n
  takes k n ek room = omega (arith, room, length_is, ap (λ y. y / 8) ek, ap (λ y. length (codes (code_of x) y)) (first_keyed k ek))

  -- header, bit map and codes, written one behind the other
  pub all_written : (n k p : ℕ) → k ≡ capacity count → p ≡ power count → image_length x (contents seed m) ≤ n
      → written (written (written (replicate n 0) 0 (header x.key.number x.value.number p count seed)) 32 (bit_map (held (take k rows)) (length (take k rows) / 8)))
      (32 + k / 8) (codes (code_of x) (keyed_cells x (take k rows)))
      ≡ image x n (contents seed m)
  unfolding image body
  all_written n k p ek ep room =
      let H : ℕ → ℕ → List ℕ = λ q c. header x.key.number x.value.number q c seed in
      let B : List ℕ = bit_map (held cells) (capacity (length m) / 8) in
      let C : List ℕ = codes (code_of x) cells in
      let ec : capacity count ≡ capacity (length m) = ap capacity w.counts in
      let eh : H p count ≡ H (power (length m)) (length m) = ap₂ H (ep ∙ ap power w.counts) w.counts in
      let eb : bit_map (held (take k rows)) (length (take k rows) / 8) ≡ B =
      ap₂ bit_map (ap held (first_rows k ek) ∙ held_lent x cells) (ap (λ y. y / 8) (first_length k ek ∙ ec)) in
      let lb : length B ≡ capacity (length m) / 8 = length-map-range_with_len (λ j. packed (held cells) (8 * j) 8) 0 (capacity (length m) / 8) in
      let el : 32 + k / 8 ≡ 32 + length B = ap (λ y. 32 + y / 8) (ek ∙ ec) ∙ ap (λ y. 32 + y) (sym lb) in
      ap₂ (λ h b. written (written (written (replicate n 0) 0 h) 32 b) (32 + k / 8) (codes (code_of x) (keyed_cells x (take k rows)))) eh eb
      ∙ ap (λ c. written (written (written (replicate n 0) 0 (H (power (length m)) (length m))) 32 B) (32 + k / 8) (codes (code_of x) c)) (first_keyed k ek)
      ∙ written_all n (H (power (length m)) (length m)) B C (32 + k / 8) refl el room

-- maps that the same cells hold have images of one length
pub same_length : {K Row V : Type 0} (x : Kinds K Row V) (laws : KindsLaws x) (seed count : ℕ) (rows : List (Option (Record Row V)))
    (l : List (Record K V)) → Holds x seed count rows l → (m : List (Record K V)) → Holds x seed count rows m
    → image_length x (contents seed l) ≡ image_length x (contents seed m)
same_length x laws seed count rows l u m w =
    length_is x laws seed count rows l u
    ∙ ap (λ c. 32 + capacity count / 8 + length c) (sym (all_codes x laws seed count rows l u) ∙ all_codes x laws seed count rows m w)
    ∙ sym (length_is x laws seed count rows m w)
