-- every image is opened, to what it is of
use Rattle.std.proofs.Common.{◌≡◌, ℕ, ◌+◌, ◌-◌, ◌*◌, ◌/◌, ◌<◌, ◌≤◌, cond, not, eqb, List, ◌++◌, length, replicate, Ok, Err, Option, sym, refl, ap, ◌∙◌, ap₂, append_assoc, arith, length-append}
use lib.ListN.{length-replicate, get_or-replicate}
use Rattle.std.proofs.lemmas.Bool.{and_from, le-leb, eq-eqb}
use Rattle.std.proofs.lemmas.List.{get_or-append_right, drop-drop, drop_at}
use Rattle.std.proofs.lemmas.List.FromFn.{length-map-range_with_len}
use Rattle.kinds.specs.declared.record.Record.{Record as Rec}
use Rattle.layout.specs.Capacity.{power, capacity}
use Rattle.layout.proofs.Capacities.{power_law}
use Rattle.layout.proofs.Tests.{all_lowest}
use Rattle.maps.specs.Maps.{Kinds, KindsLaws, Contents, contents, Lawful, cells_of}
use Rattle.image.specs.declared.fault.ImageFault.TheVariants.{Header, Bits, Layout, Tail}
use Rattle.image.specs.Bits.{ones, packed, bit_map}
use Rattle.image.specs.Image.{header, held, codes, code_of, body, image, image_length}
use Rattle.image.specs.Opened.{byte, count_of, seed_of, capacity_of, marked, unless, breaks, header_check, bits_check, front_of, cells_in, walk, layout_check, not_zero, tail_check, opened}
use Rattle.image.proofs.Chains.{then_at}
use Rattle.image.proofs.Headers.{header_holds, seed_back, count_back, marked_bits}
use Rattle.image.proofs.Walks.{ones_filled, walk_codes}
use Rattle.image.proofs.Bodies.{whole_bytes, code_laws, stands, records_back, none_out, body_length}

pub image_size : {K Row V : Type 0} (x : Kinds K Row V) (n : ℕ) (h : Contents K V) → image_length x h ≤ n → length (image x n h) ≡ n
unfolding image
image_size x n h room =
    length-append (body x h) (replicate (n - image_length x h) 0) ∙ omega (arith, length-replicate {A = ℕ} (n - image_length x h) 0)

module _ (F : Type 0) {K Row V : Type 0} (x : Kinds K Row V) (laws : KindsLaws x) (n : ℕ) (h : Contents K V) (w : Lawful x h) (room : image_length x h ≤ n) where
  abbrev cells : List (Option (Rec K V))
  cells = cells_of x h

  abbrev count : ℕ
  count = length h.records

  abbrev m : ℕ
  m = capacity count / 8

  abbrev H : List ℕ
  H = header x.key.number x.value.number (power count) count h.seed

  abbrev B : List ℕ
  B = bit_map (held cells) m

  abbrev C : List ℕ
  C = codes (code_of x) cells

  abbrev Z : List ℕ
  Z = replicate (n - image_length x h) 0

  abbrev bs : List ℕ
  bs = H ++ (B ++ (C ++ Z))

  bits_length : length B ≡ m
  bits_length = length-map-range_with_len (λ j. packed (held cells) (8 * j) 8) 0 m

  is : image x n h ≡ bs
  unfolding image body
  is = append_assoc H (B ++ C) Z ∙ ap (λ y. H ++ y) (append_assoc B C Z)

  whole : length bs ≡ n
  whole = sym (ap length is) ∙ image_size x n h room

  cap_is : capacity_of bs ≡ capacity count
  unfolding capacity
  cap_is = refl

  bits_are : (c : ℕ) → c < length cells → marked bs c ≡ held cells c
  bits_are c l = marked_bits (held cells) m H (C ++ Z) refl c (omega (arith, whole_bytes count, (stands x laws h w).size))

  header_ok : header_check {F = F} x bs ≡ Ok tt
  unfolding header_check
  header_ok =
      let p = power_law count in
      ap (unless Header) (all_lowest (breaks x bs) 0 32 (λ j a b. header_holds x (power count) count h.seed (B ++ (C ++ Z)) w.few refl p.0 p.1 j (omega arith)))

  bits_ok : bits_check {F = F} bs (capacity count) ≡ Ok tt
  unfolding bits_check
  bits_ok =
      let o : ones (marked bs) 0 (length cells) ≡ count = ones_filled (marked bs) 0 cells (λ k l. ap (marked bs) (omega arith) ∙ bits_are k l) ∙ (stands x laws h w).count in
      let o' : ones (marked bs) 0 (capacity count) ≡ count_of bs = ap (ones (marked bs) 0) (sym (stands x laws h w).size) ∙ o ∙ sym (count_back x (power count) count h.seed (B ++ (C ++ Z))) in
      ap (λ b. cond b (Ok tt) (Err Bits)) (and_from _ _ (le-leb (32 + m) (length bs) (omega (arith, whole, body_length x laws h))) (eq-eqb _ _ o'))

  walk_ok : cells_in x {F = F} bs (capacity count) ≡ Ok (cells, 32 + m + length C)
  walk_ok =
      ap (λ k. walk (front_of x) bs 0 k (32 + m)) (sym (stands x laws h w).size)
      ∙ walk_codes F 35 (code_of x) (front_of x) (code_laws x laws) bs cells 0 (32 + m) Z (λ k l. ap (marked bs) (omega arith) ∙ bits_are k l)
      (sym (drop-drop m 32 bs) ∙ drop_at B (C ++ Z) m bits_length)

  seed_is : seed_of bs ≡ h.seed
  seed_is = seed_back x (power count) count h.seed (B ++ (C ++ Z))

  layout_ok : layout_check x {F = F} (seed_of bs) cells ≡ Ok tt
  unfolding layout_check
  layout_ok = ap (λ s. layout_check x s cells) seed_is ∙ ap (unless Layout) (none_out x laws h w)

  zero_at : (j : ℕ) → 32 + m + length C ≤ j → j < n → byte bs j ≡ 0
  unfolding image
  zero_at j a b =
      let l = body_length x laws h in
      ap (λ y. byte y j) (sym is) ∙ get_or-append_right (body x h) Z (length (body x h)) j 0 refl (omega (arith, l))
      ∙ get_or-replicate (n - image_length x h) (j - image_length x h) 0 0 (omega (arith, l))

  tail_ok : tail_check {F = F} bs (32 + m + length C) ≡ Ok tt
  unfolding tail_check
  tail_ok =
      let l = body_length x laws h in
      ap (unless Tail) (all_lowest (not_zero bs) (32 + m + length C) (length bs - (32 + m + length C)) (λ j a b. ap (λ y. not (eqb y 0)) (zero_at j a (omega (arith, whole, l)))))

  pub opens : opened {F = F} x (image x n h) ≡ Ok h
  unfolding opened
  opens =
      ap (opened x) is
      ∙ then_at (header_check x bs) (Ok tt) _ header_ok
      ∙ then_at (bits_check bs (capacity_of bs)) (Ok tt) _ (ap (bits_check bs) cap_is ∙ bits_ok)
      ∙ then_at (cells_in x bs (capacity_of bs)) (Ok (cells, 32 + m + length C)) _ (ap (cells_in x bs) cap_is ∙ walk_ok)
      ∙ then_at (layout_check x (seed_of bs) cells) (Ok tt) _ layout_ok
      ∙ then_at (tail_check bs (32 + m + length C)) (Ok tt) _ tail_ok
      ∙ ap₂ (λ s r. Ok (contents s r)) seed_is (records_back x laws h w)
