-- bytes that are opened are the image of what they are opened to
use Rattle.std.proofs.Common.{◌≡◌, ℕ, ◌+◌, ◌-◌, ◌/◌, ◌^◌, ◌<◌, ◌≤◌, false, List, ◌++◌, length, get_or, take, drop, replicate, None, Ok, Option, sym, ap, ◌∙◌, subst, ap₂, append_assoc, arith, length-append, length-drop, take-append-drop}
use Rattle.std.proofs.lemmas.Bool.{and_parts, leb-true, eqb-true, not-false}
use Rattle.std.proofs.lemmas.List.{drop-drop}
use Rattle.kinds.specs.declared.record.Record.{Record as Rec}
use Rattle.layout.specs.Capacity.{power, capacity}
use Rattle.layout.specs.Cells.{records_of, filled}
use Rattle.layout.specs.Places.{AllInPlace, first_out}
use Rattle.layout.proofs.Capacities.{power_law}
use Rattle.layout.proofs.Layouts.{own_layout, map_layout_good}
use Rattle.layout.proofs.Places.{first_out_none}
use Rattle.layout.proofs.Records.{records_ascending, records_le}
use Rattle.layout.proofs.Tests.{lowest_all}
use Rattle.maps.specs.Maps.{Kinds, KindsLaws, Contents, contents, Lawful, record_order, rule, cells_of}
use Rattle.image.specs.declared.fault.ImageFault.{ImageFault}
use Rattle.image.specs.declared.fault.ImageFault.TheVariants.{Header, Bits, Layout, Tail}
use Rattle.image.specs.Bits.{ones, bit_map}
use Rattle.image.specs.Image.{header, held, codes, code_of, body, image, image_length}
use Rattle.image.specs.Opened.{byte, count_of, seed_of, capacity_of, marked, breaks, header_check, bits_check, front_of, cells_in, layout_check, not_zero, tail_check, opened}
use Rattle.cells.proofs.Rules.{ordered}
use Rattle.image.proofs.Chains.{ok_same, unless_ok, then_ok, cond_ok, zeros_left}
use Rattle.image.proofs.Headers.{counts, header_is, bits_are_map}
use Rattle.image.proofs.Walks.{Read, ones_filled, walk_read}
use Rattle.image.proofs.Bodies.{eights, code_laws, body_length}

module _ {K Row V : Type 0} (x : Kinds K Row V) (laws : KindsLaws x) (bs : List ℕ) (small : (i : ℕ) → get_or bs i 0 < 256) where
  abbrev cap : ℕ
  cap = capacity_of bs

  abbrev k : ℕ
  k = cap / 8

  -- what the checks say of bytes that pass them
  pub record Passed (cells : List (Option (Rec K V))) (e : ℕ) : Type 0 where
    pub rules : (i : ℕ) → i < 32 → breaks x bs i ≡ false
    pub inside : 32 + k ≤ length bs
    pub count : ones (marked bs) 0 cap ≡ count_of bs
    pub read : Read (code_of x) bs 0 cap (32 + k) cells e
    pub out : first_out (rule x (seed_of bs) (length cells)) cells ≡ None
    pub tail : (i : ℕ) → e ≤ i → i < length bs → byte bs i ≡ 0

  module _ (cells : List (Option (Rec K V))) (e : ℕ) (f : Passed cells e) where
    abbrev H : List ℕ
    H = header x.key.number x.value.number (byte bs 3) (count_of bs) (seed_of bs)

    abbrev B : List ℕ
    B = bit_map (held cells) k

    abbrev C : List ℕ
    C = codes (code_of x) cells

    abbrev found : Contents K V
    found = contents (seed_of bs) (records_of (record_order x) cells)

    right : (count_of bs ≤ 768) × (power (count_of bs) ≡ byte bs 3)
    right = counts x bs small f.rules

    full : filled cells ≡ count_of bs
    full = sym (ones_filled (marked bs) 0 cells (λ i l. f.read.bits i (omega (arith, f.read.size)))) ∙ ap (ones (marked bs) 0) f.read.size ∙ f.count

    pub cap_is : cap ≡ capacity (count_of bs)
    unfolding capacity
    cap_is = ap (λ p. 2 ^ p) (sym right.1)

    size : length cells ≡ capacity (filled cells)
    size = f.read.size ∙ cap_is ∙ ap capacity (sym full)

    all : AllInPlace (rule x (seed_of bs) (length cells)) cells
    all = (first_out_none (rule x (seed_of bs) (length cells)) cells).0 f.out

    own : cells ≡ cells_of x found
    own = own_layout (record_order x) (ordered x laws.key) (x.key.hash (seed_of bs)) (laws.key.hash (seed_of bs)) cells (omega (arith, full, right.0)) size all

    pub is_lawful : Lawful x found
    is_lawful = record {
      seed = omega (arith, small 8, small 9, small 10, small 11);
      ascending = records_ascending (record_order x) (ordered x laws.key) cells;
      few = omega (arith, records_le (record_order x) (ordered x laws.key) cells, full, right.0);
    }

    pub found_count : length found.records ≡ count_of bs
    found_count =
        sym (map_layout_good (record_order x) (ordered x laws.key) (x.key.hash (seed_of bs)) (laws.key.hash (seed_of bs)) found.records is_lawful.ascending is_lawful.few).count
        ∙ ap filled (sym own) ∙ full

    pub found_cells : cells_of x found ≡ cells
    found_cells = sym own

    abbrev by_count : ℕ → List (Option (Rec K V)) → List ℕ
    by_count n cs =
        header x.key.number x.value.number (power n) n (seed_of bs) ++ (bit_map (held cs) (capacity n / 8) ++ codes (code_of x) cs)

    abbrev by_power : ℕ → List ℕ
    by_power p =
        header x.key.number x.value.number p (count_of bs) (seed_of bs) ++ (bit_map (held cells) (2 ^ p / 8) ++ C)

    body_is : body x found ≡ H ++ (B ++ C)
    unfolding body capacity
    body_is = ap₂ by_count found_count (sym own) ∙ ap by_power right.1

    bits_stand : take k (drop 32 bs) ≡ B
    bits_stand =
        let p = power_law (count_of bs) in
        bits_are_map (held cells) k bs small f.inside (λ c l. ap (marked bs) (omega arith) ∙ f.read.bits c (omega (arith, eights (byte bs 3) (omega (arith, p.0, right.1)))))

    body_end : length (body x found) ≡ e
    body_end = body_length x laws found ∙ omega (arith, f.read.end, ap (λ n. capacity n / 8) found_count, ap (λ n. n / 8) cap_is, ap (λ cs. length (codes (code_of x) cs)) (sym own))

    pub fits : image_length x found ≤ length bs
    fits =
        omega (arith, body_end, f.inside, f.read.end, length-drop (32 + k) bs, ap length f.read.stand, length-append C (drop e bs), length-drop e bs)

    pub is_image : bs ≡ image x (length bs) found
    unfolding image
    is_image =
        let Z : List ℕ = replicate (length bs - image_length x found) 0 in
        let z : drop e bs ≡ Z =
        zeros_left bs e (length bs - e) (omega (arith, fits, body_end)) (λ j a b. f.tail j a (omega (arith, fits, body_end))) ∙ ap (λ n. replicate (length bs - n) 0) (sym body_end) in
        sym (take-append-drop 32 bs)
        ∙ ap₂ ◌++◌ (header_is x bs small f.rules (omega (arith, f.inside)))
        (sym (take-append-drop k (drop 32 bs)) ∙ ap₂ ◌++◌ bits_stand (drop-drop k 32 bs ∙ f.read.stand ∙ ap (λ y. C ++ y) z))
        ∙ sym (append_assoc H (B ++ C) Z ∙ ap (λ y. H ++ y) (append_assoc B C Z)) ∙ ap (λ y. y ++ Z) (sym body_is)

  -- bytes that pass all the checks
  pub passed : (F : Type 0) (u v l t : Unit {0}) (cells : List (Option (Rec K V))) (e : ℕ) → header_check {F = F} x bs ≡ Ok u → bits_check {F = F} bs cap ≡ Ok v
      → cells_in x {F = F} bs cap ≡ Ok (cells, e) → layout_check x {F = F} (seed_of bs) cells ≡ Ok l → tail_check {F = F} bs e ≡ Ok t → Passed cells e
  unfolding header_check bits_check layout_check tail_check
  passed F u v l t cells e a b w c d =
      let both = and_parts _ _ (cond_ok {E = ImageFault F} _ Bits v b) in
      record {
        rules = λ i q. lowest_all (breaks x bs) 0 32 (unless_ok {F = F} Header _ u a) i (omega arith) (omega arith);
        inside = leb-true _ _ both.0;
        count = eqb-true _ _ both.1;
        read = walk_read F 35 (code_of x) (front_of x) (code_laws x laws) bs cap 0 (32 + k) cells e w;
        out = unless_ok {F = F} Layout _ l c;
        tail = λ i q g. eqb-true _ _ (not-false _ (lowest_all (not_zero bs) e (length bs - e) (unless_ok {F = F} Tail _ t d) i q (omega arith)));
      }

  module _ (F : Type 0) (h : Contents K V) (o : opened {F = F} x bs ≡ Ok h) where
    passes : (cells : List (Option (Rec K V))) × ((e : ℕ) × Passed cells e × (contents (seed_of bs) (records_of (record_order x) cells) ≡ h))
    unfolding opened
    passes =
        let a = then_ok (header_check {F = F} x bs) _ h o in
        let b = then_ok (bits_check {F = F} bs cap) _ h a.2 in
        let w = then_ok (cells_in x {F = F} bs cap) _ h b.2 in
        let cells = w.0.0 in
        let e = w.0.1 in
        let l = then_ok (layout_check x {F = F} (seed_of bs) cells) _ h w.2 in
        let t = then_ok (tail_check {F = F} bs e) _ h l.2 in
        (cells, (e, passed F a.0 b.0 l.0 t.0 cells e a.1 b.1 w.1 l.1 t.1, ok_same _ h t.2))

    pub only : Lawful x h × (image_length x h ≤ length bs) × (bs ≡ image x (length bs) h)
    only =
        let p = passes in
        let cells = p.0 in
        let e = p.1.0 in
        let f = p.1.1 in
        let P : Contents K V → Type 0 = λ g. Lawful x g × (image_length x g ≤ length bs) × (bs ≡ image x (length bs) g) in
        subst P p.1.2 (is_lawful cells e f, fits cells e f, is_image cells e f)
