-- the body of an image: what its cells are, its length, and that all of it are bytes
use Rattle.std.proofs.Common.{◌≡◌, ℕ, zero, suc, ◌+◌, ◌-◌, ◌*◌, ◌/◌, ◌^◌, ◌<◌, ◌≤◌, List, [], ◌∷◌, ◌++◌, map, length, get_or, replicate, Some, None, Option, sym, ap, ◌∙◌, subst, mul-suc, arith, length-append}
use Rattle.std.proofs.lemmas.Nat.{pow-add}
use Rattle.std.proofs.lemmas.List.FromFn.{length-map-range_with_len}
use Rattle.std.specs.List.{range_with_len}
use Rattle.kinds.specs.Codes.{CodeLaws}
use Rattle.kinds.specs.declared.record.Record.{Record}
use Rattle.kinds.proofs.Fronts.{record_laws}
use Rattle.layout.specs.Capacity.{power, capacity}
use Rattle.layout.specs.Cells.{records_of, filled}
use Rattle.layout.specs.Orders.{In}
use Rattle.layout.specs.Places.{first_out}
use Rattle.layout.proofs.Capacities.{power_law, capacity_range}
use Rattle.layout.proofs.Laid.{Stands}
use Rattle.layout.proofs.Layouts.{map_layout_good, map_layout_records}
use Rattle.layout.proofs.Places.{first_out_none}
use Rattle.maps.specs.Maps.{Kinds, KindsLaws, Contents, Lawful, record_order, rule, cells_of}
use Rattle.image.specs.Bits.{packed, bit_map}
use Rattle.image.specs.Image.{header, held, codes, code_of, body, image_length}
use Rattle.image.specs.Opened.{front_of}
use Rattle.cells.proofs.Rules.{ordered}
use Rattle.image.proofs.Packs.{packed_lt}

pub eights : (p : ℕ) → 3 ≤ p → 8 * (2 ^ p / 8) ≡ 2 ^ p
eights p l =
    let q : p - 3 + 3 ≡ p = omega arith in
    let e : 2 ^ p ≡ 2 ^ (p - 3) * 8 = ap (λ y. 2 ^ y) (sym q) ∙ pow-add 2 (p - 3) 3 in
    omega arith

-- the capacity of a count is a whole number of bytes of bits
pub whole_bytes : (count : ℕ) → 8 * (capacity count / 8) ≡ capacity count
unfolding capacity
whole_bytes count = eights (power count) (power_law count).0

abbrev pub AreBytes : List ℕ → Type 0
AreBytes bs = (i : ℕ) → get_or bs i 0 < 256

pub bytes_append : (xs ys : List ℕ) → AreBytes xs → AreBytes ys → AreBytes (xs ++ ys)
bytes_append [] ys f g i = g i
bytes_append (x ∷ xs) ys f g zero = f 0
bytes_append (x ∷ xs) ys f g (suc i) = bytes_append xs ys (λ j. f (suc j)) g i

pub bytes_zero : (n : ℕ) → AreBytes (replicate n 0)
bytes_zero zero i = omega arith
bytes_zero (suc n) zero = omega arith
bytes_zero (suc n) (suc i) = bytes_zero n i

bytes_map : {A : Type 0} (f : A → ℕ) → ((a : A) → f a < 256) → (xs : List A) → AreBytes (map f xs)
bytes_map f small [] i = omega arith
bytes_map f small (x ∷ xs) zero = small x
bytes_map f small (x ∷ xs) (suc i) = bytes_map f small xs i

bytes_header : (keys values p count seed : ℕ) → keys < 256 → values < 256 → p < 256 → count < 65536 → seed < 2 ^ 32 → AreBytes (header keys values p count seed)
bytes_header keys values p count seed a b c d e zero = omega arith
bytes_header keys values p count seed a b c d e (suc zero) = a
bytes_header keys values p count seed a b c d e (suc (suc zero)) = b
bytes_header keys values p count seed a b c d e (suc (suc (suc zero))) = c
bytes_header keys values p count seed a b c d e (suc (suc (suc (suc zero)))) = omega arith
bytes_header keys values p count seed a b c d e (suc (suc (suc (suc (suc zero))))) = omega arith
bytes_header keys values p count seed a b c d e (suc (suc (suc (suc (suc (suc zero)))))) = omega arith
bytes_header keys values p count seed a b c d e (suc (suc (suc (suc (suc (suc (suc zero))))))) = omega arith
bytes_header keys values p count seed a b c d e (suc (suc (suc (suc (suc (suc (suc (suc zero)))))))) = omega arith
bytes_header keys values p count seed a b c d e (suc (suc (suc (suc (suc (suc (suc (suc (suc zero))))))))) = omega arith
bytes_header keys values p count seed a b c d e (suc (suc (suc (suc (suc (suc (suc (suc (suc (suc zero)))))))))) = omega arith
bytes_header keys values p count seed a b c d e (suc (suc (suc (suc (suc (suc (suc (suc (suc (suc (suc zero))))))))))) = omega arith
bytes_header keys values p count seed a b c d e (suc (suc (suc (suc (suc (suc (suc (suc (suc (suc (suc (suc i)))))))))))) = bytes_zero 20 i

module _ {R : Type 0} (most : ℕ) (code : R → List ℕ) (front : List ℕ → Option (R × ℕ)) (laws : CodeLaws most code front) where
  bytes_codes : (cells : List (Option R)) → AreBytes (codes code cells)
  bytes_codes [] i = omega arith
  bytes_codes (None ∷ cells) i = bytes_codes cells i
  bytes_codes (Some r ∷ cells) i = bytes_append (code r) (codes code cells) (laws.bytes r) (bytes_codes cells) i

  pub codes_short : (cells : List (Option R)) (k : ℕ) → filled cells ≤ k → length (codes code cells) ≤ most * k
  codes_short [] k l = omega arith
  codes_short (None ∷ cells) k l = codes_short cells k l
  codes_short (Some r ∷ cells) zero l = absurd (omega arith)
  codes_short (Some r ∷ cells) (suc k) l =
      omega (arith, length-append (code r) (codes code cells), laws.short r, codes_short cells k (omega arith), mul-suc most k)

module _ {K Row V : Type 0} (x : Kinds K Row V) (laws : KindsLaws x) where
  pub code_laws : CodeLaws 35 (code_of x) (front_of x)
  code_laws = record_laws x.key x.value laws.key laws.value

  module _ (h : Contents K V) (w : Lawful x h) where
    abbrev cells : List (Option (Record K V))
    cells = cells_of x h

    abbrev count : ℕ
    count = length h.records

    pub stands : Stands (rule x h.seed (capacity count)) cells (λ r. In r h.records) count
    stands = map_layout_good (record_order x) (ordered x laws.key) (x.key.hash h.seed) (laws.key.hash h.seed) h.records w.ascending w.few

    pub records_back : records_of (record_order x) cells ≡ h.records
    records_back = map_layout_records (record_order x) (ordered x laws.key) (x.key.hash h.seed) (laws.key.hash h.seed) h.records w.ascending w.few

    pub none_out : first_out (rule x h.seed (length cells)) cells ≡ None
    none_out = subst (λ n. first_out (rule x h.seed n) cells ≡ None) (sym stands.size) ((first_out_none (rule x h.seed (capacity count)) cells).1 stands.all)

    pub bytes_body : AreBytes (body x h)
    unfolding body
    bytes_body =
        bytes_append (header x.key.number x.value.number (power count) count h.seed) (bit_map (held cells) (capacity count / 8) ++ codes (code_of x) cells)
        (bytes_header _ _ _ _ _ laws.key.number laws.value.number (omega (arith, (power_law count).1)) (omega (arith, w.few)) w.seed)
        (bytes_append (bit_map (held cells) (capacity count / 8)) (codes (code_of x) cells)
        (bytes_map (λ j. packed (held cells) (8 * j) 8) (λ j. packed_lt (held cells) (8 * j) 8) (range_with_len 0 (capacity count / 8)))
        (bytes_codes 35 (code_of x) (front_of x) code_laws cells))

  pub body_length : (h : Contents K V) → length (body x h) ≡ 32 + capacity (length h.records) / 8 + length (codes (code_of x) (cells_of x h))
  unfolding body
  body_length h =
      let t = held (cells_of x h) in
      let n = capacity (length h.records) / 8 in
      let H = header x.key.number x.value.number (power (length h.records)) (length h.records) h.seed in
      length-append H (bit_map t n ++ codes (code_of x) (cells_of x h))
      ∙ omega (arith, length-append (bit_map t n) (codes (code_of x) (cells_of x h)), length-map-range_with_len (λ j. packed t (8 * j) 8) 0 n)

  pub longest : (h : Contents K V) → Lawful x h → image_length x h ≤ 27040
  longest h w =
      omega (
        arith,
        body_length h,
        (capacity_range (length h.records)).1,
        codes_short 35 (code_of x) (front_of x) code_laws (cells_of x h) 768 (omega (arith, (stands h w).count, w.few)),
      )
