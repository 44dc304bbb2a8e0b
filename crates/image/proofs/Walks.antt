-- the records of cells, read one after the other
use Rattle.std.proofs.Common.{◌≡◌, ℕ, zero, suc, ◌+◌, ◌<◌, Bool, true, false, List, [], ◌∷◌, ◌++◌, length, drop, is_some, Some, None, Ok, Err, Option, sym, refl, ap, ◌∙◌, inl, inr, append_assoc, arith, length-append}
use Rattle.std.proofs.lemmas.Bool.{cases_Bool, cond-true, cond-false}
use Rattle.std.proofs.lemmas.List.{drop-drop, drop_at}
use Rattle.kinds.specs.Codes.{CodeLaws}
use Rattle.layout.specs.Cells.{filled}
use Rattle.image.specs.Bits.{one, ones}
use Rattle.image.specs.Image.{held, codes}
use Rattle.image.specs.Opened.{marked, Cells, onto, reading, walk}
use Rattle.image.proofs.Chains.{ok_same}

-- how many cells are filled
pub ones_filled : {R : Type 0} (t : ℕ → Bool) (i : ℕ) (cs : List (Option R)) → ((k : ℕ) → k < length cs → t (i + k) ≡ held cs k) → ones t i (length cs) ≡ filled cs
ones_filled t i [] h = refl
ones_filled t i (None ∷ cs) h =
    let z : i ≡ i + 0 = omega arith in
    let f : t i ≡ false = ap t z ∙ h 0 (omega arith) in
    let r = ones_filled t (i + 1) cs (λ k l. let z : i + 1 + k ≡ i + suc k = omega arith in ap t z ∙ h (suc k) (omega arith)) in
    ap (λ b. one b + ones t (i + 1) (length cs)) f ∙ omega (arith, r)
ones_filled t i (Some r ∷ cs) h =
    let z : i ≡ i + 0 = omega arith in
    let f : t i ≡ true = ap t z ∙ h 0 (omega arith) in
    let r = ones_filled t (i + 1) cs (λ k l. let z : i + 1 + k ≡ i + suc k = omega arith in ap t z ∙ h (suc k) (omega arith)) in
    ap (λ b. one b + ones t (i + 1) (length cs)) f ∙ omega (arith, r)

module _ {R : Type 0} (code : R → List ℕ) (bs : List ℕ) where
  -- what was read stands there
  pub record Read (c n at : ℕ) (cs : List (Option R)) (e : ℕ) : Type 0 where
    pub size : length cs ≡ n
    pub bits : (k : ℕ) → k < n → marked bs (c + k) ≡ held cs k
    pub stand : drop at bs ≡ codes code cs ++ drop e bs
    pub end : e ≡ at + length (codes code cs)

module _ {R : Type 0} (bs : List ℕ) where
  more_bits : (c : ℕ) (o : Option R) (ds : List (Option R)) (n : ℕ) → marked bs c ≡ is_some o → ((k : ℕ) → k < n → marked bs (c + 1 + k) ≡ held ds k)
      → (k : ℕ) → k < suc n → marked bs (c + k) ≡ held (o ∷ ds) k
  more_bits c o ds n f h zero l = let z : c + 0 ≡ c = omega arith in ap (marked bs) z ∙ f
  more_bits c o ds n f h (suc k) l = let z : c + suc k ≡ c + 1 + k = omega arith in ap (marked bs) z ∙ h k (omega arith)

module _ {F R : Type 0} where
  onto_ok : (o : Option R) (w : Cells F R) (cs : List (Option R)) (e : ℕ) → onto (o ∷ []) w ≡ Ok (cs, e) → (ds : List (Option R)) × (w ≡ Ok (ds, e)) × (cs ≡ o ∷ ds)
  onto_ok o (Ok p) cs e h =
      let q = ok_same (o ∷ p.0, p.1) (cs, e) h in
      (p.0, ap (λ x. Ok (p.0, x)) (ap (λ (x : List (Option R) × ℕ). x.1) q), sym (ap (λ (x : List (Option R) × ℕ). x.0) q))
  onto_ok o (Err f) cs e h = absurd (let z : ◌≡◌ {A = ℕ} 0 1 = cc in omega arith)

  reading_ok : (at : ℕ) (o : Option (R × ℕ)) (f : ℕ → Cells F R) (cs : List (Option R)) (e : ℕ) → reading at o f ≡ Ok (cs, e)
      → (r : R) × ((n : ℕ) × (o ≡ Some (r, n)) × (onto (Some r ∷ []) (f (at + n)) ≡ Ok (cs, e)))
  reading_ok at None f cs e h = absurd (let z : ◌≡◌ {A = ℕ} 0 1 = cc in omega arith)
  reading_ok at (Some p) f cs e h = (p.0, (p.1, refl, h))

module _ (F : Type 0) {R : Type 0} (most : ℕ) (code : R → List ℕ) (front : List ℕ → Option (R × ℕ)) (laws : CodeLaws most code front) (bs : List ℕ) where
  -- the codes of cells that the bits mark are read back as those cells
  pub walk_codes : (cs : List (Option R)) (c at : ℕ) (rest : List ℕ) → ((k : ℕ) → k < length cs → marked bs (c + k) ≡ held cs k) → drop at bs ≡ codes code cs ++ rest
      → walk {F = F} front bs c (length cs) at ≡ Ok (cs, at + length (codes code cs))
  unfolding walk
  walk_codes [] c at rest h e = let z : at ≡ at + 0 = omega arith in ap (λ x. Ok ([], x)) z
  walk_codes (None ∷ cs) c at rest h e =
      let z : c ≡ c + 0 = omega arith in
      let f : marked bs c ≡ false = ap (marked bs) z ∙ h 0 (omega arith) in
      let r = walk_codes cs (c + 1) at rest (λ k l. let z : c + 1 + k ≡ c + suc k = omega arith in ap (marked bs) z ∙ h (suc k) (omega arith)) e in
      cond-false (marked bs c) _ _ f ∙ ap (onto (None ∷ [])) r
  walk_codes (Some r ∷ cs) c at rest h e =
      let z : c ≡ c + 0 = omega arith in
      let f : marked bs c ≡ true = ap (marked bs) z ∙ h 0 (omega arith) in
      let e' : drop at bs ≡ code r ++ (codes code cs ++ rest) = e ∙ append_assoc (code r) (codes code cs) rest in
      let n = length (code r) in
      let s : front (drop at bs) ≡ Some (r, n) = ap front e' ∙ laws.stands r (codes code cs ++ rest) in
      let d : drop (at + n) bs ≡ codes code cs ++ rest = sym (drop-drop n at bs) ∙ ap (drop n) e' ∙ drop_at (code r) (codes code cs ++ rest) n refl in
      let w = walk_codes cs (c + 1) (at + n) rest (λ k l. let z : c + 1 + k ≡ c + suc k = omega arith in ap (marked bs) z ∙ h (suc k) (omega arith)) d in
      let z' : at + n + length (codes code cs) ≡ at + length (code r ++ codes code cs) = omega (arith, length-append (code r) (codes code cs)) in
      cond-true (marked bs c) _ _ f ∙ ap (λ o. reading at o (λ x. walk front bs (c + 1) (length cs) x)) s ∙ ap (onto (Some r ∷ [])) w ∙ ap (λ x. Ok (Some r ∷ cs, x)) z'

  pub walk_read : (n c at : ℕ) (cs : List (Option R)) (e : ℕ) → walk {F = F} front bs c n at ≡ Ok (cs, e) → Read code bs c n at cs e
  unfolding walk
  walk_read zero c at cs e h =
      let q = ok_same ([], at) (cs, e) h in
      let a : [] ≡ cs = ap (λ (x : List (Option R) × ℕ). x.0) q in
      let b : at ≡ e = ap (λ (x : List (Option R) × ℕ). x.1) q in
      rw (← a, ← b) (record { size = refl; bits = λ k l. absurd (omega arith); stand = refl; end = omega arith })
  walk_read (suc n) c at cs e h = elim (cases_Bool (marked bs c)) [
    | inr f ↦
        let o = onto_ok None (walk front bs (c + 1) n at) cs e (sym (cond-false (marked bs c) _ _ f) ∙ h) in
        let r = walk_read n (c + 1) at o.0 e o.1 in
        rw o.2 (record { size = ap suc r.size; bits = more_bits bs c None o.0 n f r.bits; stand = r.stand; end = r.end })
    | inl f ↦
        let s = reading_ok at (front (drop at bs)) (λ x. walk front bs (c + 1) n x) cs e (sym (cond-true (marked bs c) _ _ f) ∙ h) in
        let x = s.0 in
        let m = s.1.0 in
        let o = onto_ok (Some x) (walk front bs (c + 1) n (at + m)) cs e s.1.2 in
        let r = walk_read n (c + 1) (at + m) o.0 e o.1 in
        let l = laws.only (drop at bs) x m s.1.1 in
        rw o.2 (record {
          size = ap suc r.size;
          bits = more_bits bs c (Some x) o.0 n f r.bits;
          stand = l.0 ∙ ap (λ d. code x ++ d) (drop-drop m at bs ∙ r.stand) ∙ sym (append_assoc (code x) (codes code o.0) (drop e bs));
          end = omega (arith, r.end, l.1, length-append (code x) (codes code o.0));
        })
  ]
