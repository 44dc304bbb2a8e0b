-- block 0 and the bit map
use Rattle.std.proofs.Common.{◌≡◌, ℕ, zero, suc, ◌+◌, ◌*◌, ◌/◌, ◌%◌, ◌^◌, ◌<◌, ◌≤◌, Bool, true, false, not, ◌&&◌, ◌||◌, eqb, ltb, List, ◌++◌, length, get_or, take, drop, replicate, sym, refl, ap, ◌∙◌, ap₂, arith, length-drop, length-take}
use lib.ListN.{get_or-replicate}
use Rattle.std.proofs.lemmas.Bool.{cond-true, cond-false, not-false, not_from_true, eq-eqb, ne_eqb, eqb-true, ltb-false, le-ltb, or_parts, or_from, and_right}
use Rattle.std.proofs.lemmas.List.{get_or_append_left, get_or-append-add, get_or-take, get_or-drop, ext_get_or}
use Rattle.std.proofs.lemmas.List.FromFn.{length-map-range_with_len, get_or-map-range_with_len}
use Rattle.layout.specs.Capacity.{power}
use Rattle.maps.specs.Maps.{Kinds}
use Rattle.image.specs.Bits.{one, packed, bit_map}
use Rattle.image.specs.Image.{header}
use Rattle.image.specs.Opened.{byte, count_of, seed_of, marked, wrong_count, breaks}
use Rattle.image.proofs.Packs.{one_back, eqb_one, bit_of, unpacked}

module _ {K Row V : Type 0} (x : Kinds K Row V) where
  abbrev head : ℕ → ℕ → ℕ → List ℕ
  head p count seed = header x.key.number x.value.number p count seed

  -- the bytes that may be anything
  abbrev pub free : ℕ → Bool
  free i = eqb i 5 || (ltb 7 i && ltb i 12)

  pub breaks_zero : (bs : List ℕ) (i : ℕ) → 6 ≤ i → free i ≡ false → breaks x bs i ≡ not (eqb (byte bs i) 0)
  unfolding breaks
  breaks_zero bs i l f =
      cond-false (eqb i 0) _ _ (ne_eqb i 0 (λ e. omega arith)) ∙ cond-false (eqb i 1) _ _ (ne_eqb i 1 (λ e. omega arith))
      ∙ cond-false (eqb i 2) _ _ (ne_eqb i 2 (λ e. omega arith)) ∙ cond-false (eqb i 3) _ _ (ne_eqb i 3 (λ e. omega arith))
      ∙ cond-false (eqb i 4) _ _ (ne_eqb i 4 (λ e. omega arith)) ∙ cond-false (free i) _ _ f

  pub breaks_free : (bs : List ℕ) (i : ℕ) → 5 ≤ i → free i ≡ true → breaks x bs i ≡ false
  unfolding breaks
  breaks_free bs i l f =
      cond-false (eqb i 0) _ _ (ne_eqb i 0 (λ e. omega arith)) ∙ cond-false (eqb i 1) _ _ (ne_eqb i 1 (λ e. omega arith))
      ∙ cond-false (eqb i 2) _ _ (ne_eqb i 2 (λ e. omega arith)) ∙ cond-false (eqb i 3) _ _ (ne_eqb i 3 (λ e. omega arith))
      ∙ cond-false (eqb i 4) _ _ (ne_eqb i 4 (λ e. omega arith)) ∙ cond-true (free i) _ _ f

  late : (i : ℕ) → 12 ≤ i → free i ≡ false
  late i l = or_from (eqb i 5) (ltb 7 i && ltb i 12) (ne_eqb i 5 (λ e. omega arith)) (and_right (ltb 7 i) (ltb i 12) (le-ltb i 12 l))

  zero_there : (b : ℕ) → not (eqb b 0) ≡ false → b ≡ 0
  zero_there b e = eqb-true b 0 (not-false (eqb b 0) e)

  module _ (p count seed : ℕ) (rest : List ℕ) where
    right_count : count ≤ 768 → power count ≡ p → wrong_count (count / 256 * 256 + count % 256) p ≡ false
    right_count few d =
        let e : count / 256 * 256 + count % 256 ≡ count = omega arith in
        ap (λ n. wrong_count n p) e ∙ or_from (ltb 768 count) (not (eqb (power count) p)) (le-ltb 768 count few) (not_from_true (eqb (power count) p) (eq-eqb (power count) p d))

    -- no byte of a header breaks its rule
    pub header_holds : count ≤ 768 → power count ≡ p → 3 ≤ p → p ≤ 10 → (i : ℕ) → i < 32 → breaks x (head p count seed ++ rest) i ≡ false
    unfolding breaks
    header_holds few d lo hi zero l = refl
    header_holds few d lo hi (suc zero) l = ap not (eq-eqb x.key.number x.key.number refl)
    header_holds few d lo hi (suc (suc zero)) l = ap not (eq-eqb x.value.number x.value.number refl)
    header_holds few d lo hi (suc (suc (suc zero))) l = or_from (ltb p 3) (ltb 10 p) (le-ltb p 3 lo) (le-ltb 10 p hi)
    header_holds few d lo hi (suc (suc (suc (suc zero)))) l = right_count few d
    header_holds few d lo hi (suc (suc (suc (suc (suc zero))))) l = refl
    header_holds few d lo hi (suc (suc (suc (suc (suc (suc zero)))))) l = refl
    header_holds few d lo hi (suc (suc (suc (suc (suc (suc (suc zero))))))) l = refl
    header_holds few d lo hi (suc (suc (suc (suc (suc (suc (suc (suc zero)))))))) l = refl
    header_holds few d lo hi (suc (suc (suc (suc (suc (suc (suc (suc (suc zero))))))))) l = refl
    header_holds few d lo hi (suc (suc (suc (suc (suc (suc (suc (suc (suc (suc zero)))))))))) l = refl
    header_holds few d lo hi (suc (suc (suc (suc (suc (suc (suc (suc (suc (suc (suc zero))))))))))) l = refl
    header_holds few d lo hi (suc (suc (suc (suc (suc (suc (suc (suc (suc (suc (suc (suc i)))))))))))) l =
        let j = suc (suc (suc (suc (suc (suc (suc (suc (suc (suc (suc (suc i))))))))))) in
        let z : byte (head p count seed ++ rest) j ≡ 0 = get_or_append_left (replicate 20 0) rest 0 i (omega arith) ∙ get_or-replicate 20 i 0 0 (omega arith) in
        breaks_zero (head p count seed ++ rest) j (omega arith) (late j (omega arith)) ∙ ap (λ b. not (eqb b 0)) z

    pub seed_back : seed_of (head p count seed ++ rest) ≡ seed
    seed_back = omega arith

    pub count_back : count_of (head p count seed ++ rest) ≡ count
    count_back = omega arith

  module _ (bs : List ℕ) (small : (i : ℕ) → get_or bs i 0 < 256) (h : (i : ℕ) → i < 32 → breaks x bs i ≡ false) where
    -- what the rules say of the header's bytes
    pub counts : (count_of bs ≤ 768) × (power (count_of bs) ≡ byte bs 3)
    unfolding breaks
    counts =
        let p = or_parts (ltb 768 (count_of bs)) (not (eqb (power (count_of bs)) (byte bs 3))) (h 4 (omega arith)) in
        (ltb-false 768 (count_of bs) p.0, eqb-true (power (count_of bs)) (byte bs 3) (not-false (eqb (power (count_of bs)) (byte bs 3)) p.1))

    header_at : (i : ℕ) → i < 32 → byte bs i ≡ byte (head (byte bs 3) (count_of bs) (seed_of bs)) i
    unfolding breaks
    header_at zero l = eqb-true (byte bs 0) 1 (not-false (eqb (byte bs 0) 1) (h 0 l))
    header_at (suc zero) l = eqb-true (byte bs 1) x.key.number (not-false (eqb (byte bs 1) x.key.number) (h 1 l))
    header_at (suc (suc zero)) l = eqb-true (byte bs 2) x.value.number (not-false (eqb (byte bs 2) x.value.number) (h 2 l))
    header_at (suc (suc (suc zero))) l = refl
    header_at (suc (suc (suc (suc zero)))) l = omega (arith, small 5)
    header_at (suc (suc (suc (suc (suc zero))))) l = omega (arith, small 5)
    header_at (suc (suc (suc (suc (suc (suc zero)))))) l = zero_there (byte bs 6) (h 6 l)
    header_at (suc (suc (suc (suc (suc (suc (suc zero))))))) l = zero_there (byte bs 7) (h 7 l)
    header_at (suc (suc (suc (suc (suc (suc (suc (suc zero)))))))) l = omega (arith, small 9, small 10, small 11)
    header_at (suc (suc (suc (suc (suc (suc (suc (suc (suc zero))))))))) l = omega (arith, small 9, small 10, small 11)
    header_at (suc (suc (suc (suc (suc (suc (suc (suc (suc (suc zero)))))))))) l = omega (arith, small 9, small 10, small 11)
    header_at (suc (suc (suc (suc (suc (suc (suc (suc (suc (suc (suc zero))))))))))) l = omega (arith, small 9, small 10, small 11)
    header_at (suc (suc (suc (suc (suc (suc (suc (suc (suc (suc (suc (suc i)))))))))))) l =
        let j = suc (suc (suc (suc (suc (suc (suc (suc (suc (suc (suc (suc i))))))))))) in
        zero_there (byte bs j) (sym (breaks_zero bs j (omega arith) (late j (omega arith))) ∙ h j l) ∙ sym (get_or-replicate 20 i 0 0 (omega arith))

    pub header_is : 32 ≤ length bs → take 32 bs ≡ head (byte bs 3) (count_of bs) (seed_of bs)
    header_is l =
        let n : length (take 32 bs) ≡ 32 = length-take 32 bs ∙ omega arith in
        ext_get_or 0 (take 32 bs) (head (byte bs 3) (count_of bs) (seed_of bs)) n (λ i k. get_or-take 32 bs i 0 (omega arith) ∙ header_at i (omega arith))

abbrev byte_by : (ℕ → Bool) → ℕ → ℕ
byte_by t j = packed t (8 * j) 8

-- the bits of a bit map that stands from byte 32 on
pub marked_bits : (t : ℕ → Bool) (n : ℕ) (hs rest : List ℕ) → length hs ≡ 32 → (c : ℕ) → c < 8 * n → marked (hs ++ (bit_map t n ++ rest)) c ≡ t c
unfolding marked
marked_bits t n hs rest l c h =
    let j = c / 8 in
    let lj : j < n = omega arith in
    let a : get_or (hs ++ (bit_map t n ++ rest)) (32 + j) 0 ≡ packed t (8 * j) 8 =
    ap (λ y. get_or (hs ++ (bit_map t n ++ rest)) (y + j) 0) (sym l) ∙ get_or-append-add hs (bit_map t n ++ rest) j 0
    ∙ get_or_append_left (bit_map t n) rest 0 j (omega (arith, length-map-range_with_len (byte_by t) 0 n)) ∙ get_or-map-range_with_len (byte_by t) 0 n j j 0 lj (omega arith) in
    let b : 8 * (c / 8) + c % 8 ≡ c = omega arith in
    ap (λ y. eqb (y / 2 ^ (c % 8) % 2) 1) a ∙ ap (λ y. eqb y 1) (bit_of t (8 * j) 8 (c % 8) (omega arith)) ∙ one_back (t (8 * j + c % 8)) ∙ ap t b

-- bytes whose bits are those of the cells are the cells' bit map
pub bits_are_map : (t : ℕ → Bool) (n : ℕ) (bs : List ℕ) → ((i : ℕ) → get_or bs i 0 < 256) → 32 + n ≤ length bs → ((c : ℕ) → c < 8 * n → marked bs c ≡ t c)
    → take n (drop 32 bs) ≡ bit_map t n
unfolding marked
bits_are_map t n bs small l h =
    let ln : length (take n (drop 32 bs)) ≡ n = length-take n (drop 32 bs) ∙ omega (arith, length-drop 32 bs) in
    ext_get_or 0 (take n (drop 32 bs)) (bit_map t n) (ln ∙ sym (length-map-range_with_len (byte_by t) 0 n)) (λ j k.
    let lj : j < n = omega arith in
    get_or-take n (drop 32 bs) j 0 lj ∙ get_or-drop 32 bs j 0
    ∙ unpacked t (8 * j) 8 (get_or bs (32 + j) 0) (small (32 + j)) (λ b g.
    let q : (8 * j + b) / 8 ≡ j = omega arith in
    let r : (8 * j + b) % 8 ≡ b = omega arith in
    let y = get_or bs (32 + j) 0 / 2 ^ b % 2 in
    let m : eqb y 1 ≡ t (8 * j + b) = ap₂ (λ c z. eqb (get_or bs (32 + c) 0 / 2 ^ z % 2) 1) (sym q) (sym r) ∙ h (8 * j + b) (omega arith) in
    sym (eqb_one y (omega arith)) ∙ ap one m)
    ∙ sym (get_or-map-range_with_len (byte_by t) 0 n j j 0 lj (omega arith)))
