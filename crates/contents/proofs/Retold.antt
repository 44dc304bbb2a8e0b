-- A fault found in bytes is told alike whatever store the bytes came from.
use Rattle.std.proofs.Common.{◌≡◌, ℕ, zero, suc, ◌+◌, ◌-◌, ◌/◌, Bool, true, false, cond, ◌&&◌, eqb, leb, List, [], ◌∷◌, length, drop, Some, None, Ok, Err, Option, Result, refl, ap, ◌∙◌}
use Rattle.image.specs.Faults.{fault_number, fault_place}
use Rattle.image.specs.Bits.{ones}
use Rattle.image.specs.Opened.{count_of, seed_of, capacity_of, marked, unless, then, breaks, header_check, bits_check, Cells, onto, reading, walk, front_of, cells_in, layout_check, not_zero, tail_check, opened}
use Rattle.image.specs.declared.fault.ImageFault.{ImageFault}
use Rattle.image.specs.declared.fault.ImageFault.TheVariants.{Store, Header, Bits, Record, Layout, Tail}
use Rattle.kinds.specs.declared.record.Record.{Record as Rec}
use Rattle.layout.specs.Cells.{records_of}
use Rattle.layout.specs.Places.{first_out}
use Rattle.layout.specs.Tests.{lowest}
use Rattle.maps.specs.Maps.{Kinds, Contents, contents, record_order, rule}

-- a fault that carries none of a store, as one that might
abbrev pub lifted : {F : Type 0} → ImageFault ⊥ → ImageFault F
lifted (Store f) = absurd f
lifted (Header i) = Header i
lifted Bits = Bits
lifted (Record i) = Record i
lifted (Layout i) = Layout i
lifted (Tail i) = Tail i

abbrev pub lift : {F A : Type 0} → Result A (ImageFault ⊥) → Result A (ImageFault F)
lift (Ok a) = Ok a
lift (Err f) = Err (lifted f)

pub same_number : {F : Type 0} (number : F → ℕ) (f : ImageFault ⊥) → fault_number number (lifted f) ≡ fault_number (λ none. absurd none) f
same_number number (Store f) = absurd f
same_number number (Header i) = refl
same_number number Bits = refl
same_number number (Record i) = refl
same_number number (Layout i) = refl
same_number number (Tail i) = refl

pub same_place : {F : Type 0} (block : F → ℕ) (f : ImageFault ⊥) → fault_place block (lifted f) ≡ fault_place (λ none. absurd none) f
same_place block (Store f) = absurd f
same_place block (Header i) = refl
same_place block Bits = refl
same_place block (Record i) = refl
same_place block (Layout i) = refl
same_place block (Tail i) = refl

module _ (F : Type 0) where
  lift_then : {A B : Type 0} (r : Result A (ImageFault ⊥)) (s : Result A (ImageFault F)) (next : A → Result B (ImageFault ⊥)) (nexts : A → Result B (ImageFault F))
      → s ≡ lift r → ((a : A) → nexts a ≡ lift (next a)) → then s nexts ≡ lift (then r next)
  lift_then (Ok a) s next nexts e h = ap (λ q. then q nexts) e ∙ h a
  lift_then (Err f) s next nexts e h = ap (λ q. then q nexts) e

  lift_header : (o : Option ℕ) → unless {F = F} Header o ≡ lift (unless Header o)
  lift_header None = refl
  lift_header (Some i) = refl

  lift_layout : (o : Option ℕ) → unless {F = F} Layout o ≡ lift (unless Layout o)
  lift_layout None = refl
  lift_layout (Some i) = refl

  lift_tail : (o : Option ℕ) → unless {F = F} Tail o ≡ lift (unless Tail o)
  lift_tail None = refl
  lift_tail (Some i) = refl

  lift_bits : (b : Bool) → ◌≡◌ {A = Result Unit (ImageFault F)} (cond b (Ok tt) (Err Bits)) (lift (cond b (Ok tt) (Err Bits)))
  lift_bits true = refl
  lift_bits false = refl

  lift_onto : {R : Type 0} (cells : List (Option R)) (r : Cells ⊥ R) (s : Cells F R) → s ≡ lift r → onto cells s ≡ lift (onto cells r)
  lift_onto cells (Ok p) s e = ap (onto cells) e
  lift_onto cells (Err f) s e = ap (onto cells) e

  lift_reading : {R : Type 0} (at : ℕ) (q : Option (R × ℕ)) (next : ℕ → Cells ⊥ R) (nexts : ℕ → Cells F R) → ((e : ℕ) → nexts e ≡ lift (next e))
      → reading at q nexts ≡ lift (reading at q next)
  lift_reading at None next nexts h = refl
  lift_reading at (Some p) next nexts h = lift_onto (Some p.0 ∷ []) (next (at + p.1)) (nexts (at + p.1)) (h (at + p.1))

  lift_cond : {R : Type 0} (b : Bool) (r r' : Cells ⊥ R) (s s' : Cells F R) → s ≡ lift r → s' ≡ lift r' → cond b s s' ≡ lift (cond b r r')
  lift_cond true r r' s s' p q = p
  lift_cond false r r' s s' p q = q

  lift_walk : {R : Type 0} (front : List ℕ → Option (R × ℕ)) (bs : List ℕ) (c n at : ℕ) → walk {F = F} front bs c n at ≡ lift (walk front bs c n at)
  unfolding walk
  lift_walk front bs c zero at = refl
  lift_walk front bs c (suc n) at =
      lift_cond (marked bs c) (reading at (front (drop at bs)) (λ e. walk front bs (c + 1) n e)) (onto (None ∷ []) (walk front bs (c + 1) n at)) _ _
      (lift_reading at (front (drop at bs)) (λ e. walk front bs (c + 1) n e) (λ e. walk front bs (c + 1) n e) (λ e. lift_walk front bs (c + 1) n e))
      (lift_onto (None ∷ []) (walk front bs (c + 1) n at) (walk front bs (c + 1) n at) (lift_walk front bs (c + 1) n at))

  module _ {K Row V : Type 0} (x : Kinds K Row V) (bs : List ℕ) where
    -- the checks of the bytes, each with what follows it
    abbrev ends : (G : Type 0) → List (Option (Rec K V)) × ℕ → Result (Contents K V) (ImageFault G)
    ends G read = then (tail_check bs read.1) (λ _. Ok (contents (seed_of bs) (records_of (record_order x) read.0)))

    abbrev lies : (G : Type 0) → List (Option (Rec K V)) × ℕ → Result (Contents K V) (ImageFault G)
    lies G read = then (layout_check x (seed_of bs) read.0) (λ _. ends G read)

    abbrev reads : (G : Type 0) → Result (Contents K V) (ImageFault G)
    reads G = then (cells_in x bs (capacity_of bs)) (lies G)

    abbrev marks : (G : Type 0) → Result (Contents K V) (ImageFault G)
    marks G = then (bits_check bs (capacity_of bs)) (λ _. reads G)

    header_lifts : header_check {F = F} x bs ≡ lift (header_check x bs)
    unfolding header_check
    header_lifts = lift_header (lowest (breaks x bs) 0 32)

    bits_lifts : (cap : ℕ) → bits_check {F = F} bs cap ≡ lift (bits_check bs cap)
    unfolding bits_check
    bits_lifts cap = lift_bits (leb (32 + cap / 8) (length bs) && eqb (ones (marked bs) 0 cap) (count_of bs))

    layout_lifts : (seed : ℕ) (cells : List (Option (Rec K V))) → layout_check x {F = F} seed cells ≡ lift (layout_check x seed cells)
    unfolding layout_check
    layout_lifts seed cells = lift_layout (first_out (rule x seed (length cells)) cells)

    tail_lifts : (end : ℕ) → tail_check {F = F} bs end ≡ lift (tail_check bs end)
    unfolding tail_check
    tail_lifts end = lift_tail (lowest (not_zero bs) end (length bs - end))

    ends_lift : (read : List (Option (Rec K V)) × ℕ) → ends F read ≡ lift (ends ⊥ read)
    ends_lift read =
        let h = contents (seed_of bs) (records_of (record_order x) read.0) in
        lift_then (tail_check bs read.1) (tail_check bs read.1) (λ _. Ok h) (λ _. Ok h) (tail_lifts read.1) (λ _. refl)

    lies_lift : (read : List (Option (Rec K V)) × ℕ) → lies F read ≡ lift (lies ⊥ read)
    lies_lift read =
        lift_then (layout_check x (seed_of bs) read.0) (layout_check x (seed_of bs) read.0) (λ _. ends ⊥ read) (λ _. ends F read)
        (layout_lifts (seed_of bs) read.0) (λ _. ends_lift read)

    reads_lift : reads F ≡ lift (reads ⊥)
    reads_lift =
        let cap = capacity_of bs in
        lift_then (cells_in x bs cap) (cells_in x bs cap) (lies ⊥) (lies F) (lift_walk (front_of x) bs 0 cap (32 + cap / 8)) lies_lift

    marks_lift : marks F ≡ lift (marks ⊥)
    marks_lift =
        let cap = capacity_of bs in
        lift_then (bits_check bs cap) (bits_check bs cap) (λ _. reads ⊥) (λ _. reads F) (bits_lifts cap) (λ _. reads_lift)

    pub opened_lifts : opened {F = F} x bs ≡ lift (opened x bs)
    unfolding opened
    opened_lifts = lift_then (header_check x bs) (header_check x bs) (λ _. marks ⊥) (λ _. marks F) header_lifts (λ _. marks_lift)
