-- An image in bytes makes an image in blocks.
use Rattle.std.proofs.Common.{◌≡◌, ℕ, zero, suc, ◌*◌, ◌<◌, Bool, true, false, ◌&&◌, eqb, ltb, List, [], ◌∷◌, ◌++◌, length, get_or, take, drop, Some, None, Ok, Err, Option, Result, sym, refl, ap, ◌∙◌, subst, inl, inr, arith, lit<, length-append, length-drop, take-append-drop, length-take}
use Rattle.std.proofs.lemmas.Bool.{and_parts, and_from, eqb-true, eq-eqb, ltb-true, lt-ltb, cases_Bool, both_ways}
use Rattle.layout.specs.Orders.{All}
use Rattle.maps.specs.Maps.{Kinds, Contents}
use Rattle.model.specs.Blocks.{blocks_of, bytes_of, unreadable, Bytes, ByteLaws, fault_of, unless_unreadable, setup_of, HasBytes, Cuts, BlocksWritten}
use Rattle.model.specs.Faults.{Fault}
use Rattle.model.specs.Setups.{Place, Setup, Shows, Found, Whole, Proper, Written}

abbrev are_bytes : List ℕ → Bool
are_bytes [] = true
are_bytes (b ∷ bs) = ltb b 256 && are_bytes bs

-- each place is a block of 32 bytes
abbrev all_whole : List Place → Bool
all_whole [] = true
all_whole (None ∷ ps) = false
all_whole (Some b ∷ ps) = eqb (length b) 32 && (are_bytes b && all_whole ps)

bytes_each : (bs : List ℕ) → are_bytes bs ≡ true → (i : ℕ) → get_or bs i 0 < 256
bytes_each [] e i = lit< tt
bytes_each (b ∷ bs) e zero = ltb-true b 256 (and_parts (ltb b 256) (are_bytes bs) e).0
bytes_each (b ∷ bs) e (suc i) = bytes_each bs (and_parts (ltb b 256) (are_bytes bs) e).1 i

each_bytes : (bs : List ℕ) → ((i : ℕ) → get_or bs i 0 < 256) → are_bytes bs ≡ true
each_bytes [] h = refl
each_bytes (b ∷ bs) h = and_from (ltb b 256) (are_bytes bs) (lt-ltb b 256 (h 0)) (each_bytes bs (λ i. h (suc i)))

bytes_take : (n : ℕ) (bs : List ℕ) → are_bytes bs ≡ true → are_bytes (take n bs) ≡ true
bytes_take zero bs e = refl
bytes_take (suc n) [] e = refl
bytes_take (suc n) (b ∷ bs) e = let t = and_parts (ltb b 256) (are_bytes bs) e in and_from (ltb b 256) (are_bytes (take n bs)) t.0 (bytes_take n bs t.1)

bytes_drop : (n : ℕ) (bs : List ℕ) → are_bytes bs ≡ true → are_bytes (drop n bs) ≡ true
bytes_drop zero bs e = e
bytes_drop (suc n) [] e = refl
bytes_drop (suc n) (b ∷ bs) e = bytes_drop n bs (and_parts (ltb b 256) (are_bytes bs) e).1

bytes_append : (xs bs : List ℕ) → are_bytes xs ≡ true → are_bytes bs ≡ true → are_bytes (xs ++ bs) ≡ true
bytes_append [] bs e f = f
bytes_append (a ∷ xs) bs e f = let t = and_parts (ltb a 256) (are_bytes xs) e in and_from (ltb a 256) (are_bytes (xs ++ bs)) t.0 (bytes_append xs bs t.1 f)

take_front : {A : Type 0} (xs ys : List A) (n : ℕ) → length xs ≡ n → take n (xs ++ ys) ≡ xs
take_front [] ys n e = ap (λ (k : ℕ). take k ys) (sym e)
take_front (x ∷ xs) ys n e = ap (λ (k : ℕ). take k (x ∷ (xs ++ ys))) (sym e) ∙ ap (λ zs. x ∷ zs) (take_front xs ys (length xs) refl)

drop_front : {A : Type 0} (xs ys : List A) (n : ℕ) → length xs ≡ n → drop n (xs ++ ys) ≡ ys
drop_front [] ys n e = ap (λ (k : ℕ). drop k ys) (sym e)
drop_front (x ∷ xs) ys n e = ap (λ (k : ℕ). drop k (x ∷ (xs ++ ys))) (sym e) ∙ drop_front xs ys (length xs) refl

pub length_blocks : (n : ℕ) (bs : List ℕ) → length (blocks_of n bs) ≡ n
length_blocks zero bs = refl
length_blocks (suc n) bs = ap suc (length_blocks n (drop 32 bs))

-- bytes in blocks, and back
pub bytes_blocks : (n : ℕ) (bs : List ℕ) → length bs ≡ 32 * n → bytes_of (blocks_of n bs) ≡ bs
bytes_blocks zero [] e = refl
bytes_blocks zero (b ∷ bs) e = absurd (omega arith)
bytes_blocks (suc n) bs e = ap (λ (r : List ℕ). take 32 bs ++ r) (bytes_blocks n (drop 32 bs) (rw length-drop (omega arith))) ∙ take-append-drop 32 bs

blocks_cut : (n : ℕ) (bs : List ℕ) → length bs ≡ 32 * n → All (HasBytes 32) (blocks_of n bs)
blocks_cut zero bs e = tt
blocks_cut (suc n) bs e = (rw length-take (omega arith), blocks_cut n (drop 32 bs) (rw length-drop (omega arith)))

pub cuts : (n : ℕ) → n ≡ 32 → Cuts n
cuts n e = subst Cuts (sym e) (λ count bs l. (blocks_cut count bs l, bytes_blocks count bs l))

whole_blocks : (n : ℕ) (bs : List ℕ) → length bs ≡ 32 * n → are_bytes bs ≡ true → all_whole (blocks_of n bs) ≡ true
whole_blocks zero bs e f = refl
whole_blocks (suc n) bs e f =
    let l : length (take 32 bs) ≡ 32 = rw length-take (omega arith) in
    let rest = all_whole (blocks_of n (drop 32 bs)) in
    and_from (eqb (length (take 32 bs)) 32) (are_bytes (take 32 bs) && rest) (eq-eqb (length (take 32 bs)) 32 l)
    (and_from (are_bytes (take 32 bs)) rest (bytes_take 32 bs f) (whole_blocks n (drop 32 bs) (rw length-drop (omega arith)) (bytes_drop 32 bs f)))

whole_parts : (b : List ℕ) (ps : List Place) → all_whole (Some b ∷ ps) ≡ true → (length b ≡ 32) × (are_bytes b ≡ true) × (all_whole ps ≡ true)
whole_parts b ps e =
    let t = and_parts (eqb (length b) 32) (are_bytes b && all_whole ps) e in
    let u = and_parts (are_bytes b) (all_whole ps) t.1 in
    (eqb-true (length b) 32 t.0, u.0, u.1)

none_whole : (ps : List Place) → all_whole (None ∷ ps) ≡ true → ⊥
none_whole ps e = let z : ◌≡◌ {A = ℕ} 0 1 = cc in omega arith

blocks_bytes : (ps : List Place) → all_whole ps ≡ true → blocks_of (length ps) (bytes_of ps) ≡ ps
blocks_bytes [] e = refl
blocks_bytes (None ∷ ps) e = absurd (none_whole ps e)
blocks_bytes (Some b ∷ ps) e =
    let t = whole_parts b ps e in
    let p = take_front b (bytes_of ps) 32 t.0 in
    let q = ap (blocks_of (length ps)) (drop_front b (bytes_of ps) 32 t.0) ∙ blocks_bytes ps t.2 in
    λ i. Some (p i) ∷ q i

length_bytes : (ps : List Place) → all_whole ps ≡ true → length (bytes_of ps) ≡ 32 * length ps
length_bytes [] e = refl
length_bytes (None ∷ ps) e = absurd (none_whole ps e)
length_bytes (Some b ∷ ps) e = let t = whole_parts b ps e in let r = length_bytes ps t.2 in length-append b (bytes_of ps) ∙ omega arith

are_bytes_of : (ps : List Place) → all_whole ps ≡ true → are_bytes (bytes_of ps) ≡ true
are_bytes_of [] e = refl
are_bytes_of (None ∷ ps) e = absurd (none_whole ps e)
are_bytes_of (Some b ∷ ps) e = let t = whole_parts b ps e in bytes_append b (bytes_of ps) t.1 (are_bytes_of ps t.2)

-- whole blocks are readable; and where a proper store shows no unreadable block, all are whole
whole_readable : (i : ℕ) (ps : List Place) → all_whole ps ≡ true → unreadable i ps ≡ None
whole_readable i [] e = refl
whole_readable i (None ∷ ps) e = absurd (none_whole ps e)
whole_readable i (Some b ∷ ps) e = whole_readable (suc i) ps (whole_parts b ps e).2

readable_whole : (i : ℕ) (ps : List Place) → All Whole ps → unreadable i ps ≡ None → all_whole ps ≡ true
readable_whole i [] h e = refl
readable_whole i (None ∷ ps) h e = let z : ◌≡◌ {A = ℕ} 0 1 = cc in absurd (omega arith)
readable_whole i (Some b ∷ ps) h e =
    and_from (eqb (length b) 32) (are_bytes b && all_whole ps) (eq-eqb (length b) 32 h.0.0)
    (and_from (are_bytes b) (all_whole ps) (each_bytes b h.0.1) (readable_whole (suc i) ps h.1 e))

no_fault : (o : Option ℕ) (f : Option Fault) → unless_unreadable o f ≡ None → (o ≡ None) × (f ≡ None)
no_fault (Some i) f e = let z : ◌≡◌ {A = ℕ} 0 1 = cc in absurd (omega arith)
no_fault None f e = (refl, e)

opened_ok : {A E : Type 0} (told : E → Fault) (r : Result A E) → fault_of told r ≡ None → (a : A) × (r ≡ Ok a)
opened_ok told (Ok a) e = (a, refl)
opened_ok told (Err f) e = let z : ◌≡◌ {A = ℕ} 0 1 = cc in absurd (omega arith)

module _ {K Row V E : Type 0} (x : Kinds K Row V) (b : Bytes K V E) (l : ByteLaws x b) where
  abbrev S : Setup K Row V
  S = setup_of x b

  -- what a store shows that shows an image
  record Shown (n : ℕ) (ps : List Place) (h : Contents K V) : Type 0 where
    pub size : length ps ≡ n
    pub whole : all_whole ps ≡ true
    pub opened : b.opened (bytes_of ps) ≡ Ok h

  shown : (n : ℕ) (ps : List Place) (h : Contents K V) → Shows S n ps h → Shown n ps h
  shown n ps h s =
      let bs = b.image (32 * n) h in
      let size : length bs ≡ 32 * n = l.size (32 * n) h s.lawful s.fits in
      record {
        size = ap length s.image ∙ length_blocks n bs;
        whole = ap all_whole s.image ∙ whole_blocks n bs size (each_bytes bs (l.bytes (32 * n) h s.lawful));
        opened = ap b.opened (ap bytes_of s.image ∙ bytes_blocks n bs size) ∙ l.opens (32 * n) h s.lawful s.fits;
      }

  shows : (n : ℕ) (ps : List Place) (h : Contents K V) → Shown n ps h → Shows S n ps h
  shows n ps h s =
      let t = l.only (bytes_of ps) (bytes_each (bytes_of ps) (are_bytes_of ps s.whole)) h s.opened in
      let size : length (bytes_of ps) ≡ 32 * n = length_bytes ps s.whole ∙ ap (λ (k : ℕ). 32 * k) s.size in
      record {
        lawful = t.0;
        fits = rw size at t.1;
        image = sym (blocks_bytes ps s.whole) ∙ ap (λ (k : ℕ). blocks_of k (bytes_of ps)) s.size
            ∙ ap (blocks_of n) (t.2 ∙ ap (λ (k : ℕ). b.image k h) size);
      }

  found_of : (n : ℕ) (ps : List Place) (r : Result (Contents K V) E) → length ps ≡ n → all_whole ps ≡ true → b.opened (bytes_of ps) ≡ r → (o : Option (Contents K V)) × Found S n ps o
  found_of n ps (Ok h) q w e = (Some h, shows n ps h (record { size = q; whole = w; opened = e }))
  found_of n ps (Err f) q w e = (None, λ h s. (let t = (shown n ps h s).opened in let z : ◌≡◌ {A = ℕ} 0 1 = cc in omega arith))

  told : (n : ℕ) (ps : List Place) → (o : Option (Contents K V)) × Found S n ps o
  told n ps =
      elim (cases_Bool (eqb (length ps) n && all_whole ps)) [
        | inl t ↦ (let u = and_parts (eqb (length ps) n) (all_whole ps) t in found_of n ps (b.opened (bytes_of ps)) (eqb-true (length ps) n u.0) u.1 refl)
        | inr f ↦ (
          None,
          λ h s. (let t = shown n ps h s in
              both_ways (eqb (length ps) n && all_whole ps) f (and_from (eqb (length ps) n) (all_whole ps) (eq-eqb (length ps) n t.size) t.whole)),
        )
      ]

  complete : (n : ℕ) (ps : List Place) → Proper n ps → S.codec.wrong ps ≡ None → (h : Contents K V) × Shows S n ps h
  complete n ps p e =
      let t = no_fault (unreadable 0 ps) (fault_of b.fault (b.opened (bytes_of ps))) e in
      let u = opened_ok b.fault (b.opened (bytes_of ps)) t.1 in
      (u.0, shows n ps u.0 (record { size = p.size; whole = readable_whole 0 ps p.blocks t.0; opened = u.1 }))

  pub written : Written S
  written = record {
    apart = λ n g h wg wh fg fh e.
        (let ps = S.codec.image n g in
        let s = (shown n ps g (record { lawful = wg; fits = fg; image = refl })).opened in
        let t = (shown n ps h (record { lawful = wh; fits = fh; image = e })).opened in
        cc);
    sound = λ n ps h s.
        (let t = shown n ps h s in
        ap (λ o. unless_unreadable o (fault_of b.fault (b.opened (bytes_of ps)))) (whole_readable 0 ps t.whole) ∙ ap (fault_of b.fault) t.opened);
    complete = complete;
    told = told;
  }

pub blocks_written : (K Row V E : Type 0) → BlocksWritten K Row V E
blocks_written K Row V E x b l = written x b l
