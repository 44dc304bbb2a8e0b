-- Which text's code stands at the front of some bytes, whatever bytes a kind of text keeps.
use Rattle.std.specs.Prelude.{◌≡◌, ℕ, zero, suc, ◌+◌, ◌<◌, ◌≤◌, Bool, true, false, cond, ◌&&◌, List, [], ◌∷◌, ◌++◌, length, take, drop, Some, None, Option, nat_le, nat_lt, slice_index, slice_index_or, refl}
use Rattle.std.proofs.Common.{sym, ap, ap₂, ◌∙◌, arith, length-take, length-drop, length-append, take-append-drop}
use Rattle.std.proofs.lemmas.List.{take_at}
use Rattle.std.proofs.lemmas.Bool.{and_parts, and_from, leb-true, ltb-true, le-leb, lt-ltb, cond-true, true≢false}
use Rattle.std.specs.List.{list_all}
use Rattle.kinds.proofs.Checks.{checked_some, checked_none, checked_from}
use Rattle.text.specs.Rows.{right_length, row_text, row_kept, row_code, behind, stands_whole, row_front}
use Rattle.text.specs.Texts.{TextType, TextTypeLaws, key_of, code_stands, sized, text_front}
use Rattle.text.specs.Words.{packed}
use Rattle.text.specs.declared.row.TextRow.{TextRow}
use Rattle.text.specs.Packing.{Kept, kept_parts, text_length, packed_text, repacked}

cond_some : {A : Type 0} (b : Bool) (o : Option A) (x : A) → cond b o None ≡ Some x → (b ≡ true) × (o ≡ Some x)
cond_some true o x e = (refl, e)
cond_some false o x e = absurd (let z : ◌≡◌ {A = ℕ} 0 1 = cc in omega arith)

take_small : (n : ℕ) (xs : List ℕ) → ((i : ℕ) → slice_index xs i < 256) → (i : ℕ) → slice_index (take n xs) i < 256
take_small zero xs h i = omega arith
take_small (suc n) [] h i = omega arith
take_small (suc n) (x ∷ xs) h zero = h 0
take_small (suc n) (x ∷ xs) h (suc i) = take_small n xs (λ j. h (suc j)) i

behind_small : (bs : List ℕ) → ((i : ℕ) → slice_index bs i < 256) → (i : ℕ) → slice_index (behind bs) i < 256
behind_small [] h = take_small 0 [] h
behind_small (b ∷ bs) h = take_small b bs (λ i. h (suc i))

-- bytes that stand whole behind their length byte
module _ (bs : List ℕ) (whole : stands_whole bs ≡ true) where
  lengths : (1 ≤ slice_index bs 0) × (slice_index bs 0 ≤ 24) × (slice_index bs 0 < length bs)
  lengths =
      let p = and_parts (right_length (slice_index bs 0)) (nat_lt (slice_index bs 0) (length bs)) whole in
      let q = and_parts (nat_le 1 (slice_index bs 0)) (nat_le (slice_index bs 0) 24) p.0 in
      (leb-true 1 (slice_index bs 0) q.0, leb-true (slice_index bs 0) 24 q.1, ltb-true (slice_index bs 0) (length bs) p.1)

  behind_length : length (behind bs) ≡ slice_index bs 0
  behind_length = let l = lengths in length-take (slice_index bs 0) (drop 1 bs) ∙ omega (arith, length-drop 1 bs)

-- ---- a code that is read back
module _ {K : Type 0} (t : TextType K) (l : TextTypeLaws t) where
  pub keeps_small : (xs : List ℕ) → list_all t.keeps xs ≡ true → (i : ℕ) → slice_index xs i < 256
  keeps_small [] h i = omega arith
  keeps_small (x ∷ xs) h zero = l.byte x (and_parts (t.keeps x) _ h).0
  keeps_small (x ∷ xs) h (suc i) = keeps_small xs (and_parts (t.keeps x) _ h).1 i

  pub kept : (k : K) → Kept t.keeps (t.row k)
  kept k = kept_parts t.keeps (t.row k) (l.kept k)

  pub text_small : (k : K) (i : ℕ) → slice_index (row_text (t.row k)) i < 256
  text_small k = keeps_small (row_text (t.row k)) (kept k).passes

  -- a key is told by its text
  pub same_text : (j k : K) → row_text (t.row j) ≡ row_text (t.row k) → j ≡ k
  same_text j k e = l.same j k (sym (repacked t.keeps (t.row j) (kept j)) ∙ ap packed e ∙ repacked t.keeps (t.row k) (kept k))

  pub key_back : (k : K) → key_of t (t.row k) ≡ Some k
  key_back k = checked_some (row_kept t.keeps (t.row k)) (t.make (t.row k)) (l.kept k) ∙ ap Some (l.same _ k (l.made (t.row k) (l.kept k)))

  pub key_only : (r : TextRow) (k : K) → key_of t r ≡ Some k → t.row k ≡ r
  key_only r k h = let p = checked_from (row_kept t.keeps r) (t.make r) k h in ap t.row (sym p.1) ∙ l.made r p.0

  pub code_read : (k : K) (rest : List ℕ) → text_front t (row_code (t.row k) ++ rest) ≡ Some (k, length (row_code (t.row k)))
  code_read k rest =
      let r = t.row k in
      let bs = row_code r ++ rest in
      let w = kept k in
      let len : length (row_text r) ≡ r.len = text_length r w.few in
      let b : behind bs ≡ row_text r = take_at (row_text r) rest r.len len in
      let whole : stands_whole bs ≡ true =
      and_from _ _ (and_from _ _ (le-leb 1 r.len w.some) (le-leb r.len 24 w.few)) (lt-ltb r.len (length bs) (omega (arith, length-append (row_text r) rest))) in
      let s : code_stands t bs ≡ true = and_from _ _ whole (ap (list_all t.keeps) b ∙ w.passes) in
      let key : key_of t (packed (behind bs)) ≡ Some k = ap (λ x. key_of t (packed x)) b ∙ ap (key_of t) (repacked t.keeps r w) ∙ key_back k in
      cond-true (code_stands t bs) _ None s ∙ ap₂ (λ n o. sized t n o) (omega arith) key

  sized_some : (n : ℕ) (o : Option K) (k : K) (m : ℕ) → sized t n o ≡ Some (k, m) → (o ≡ Some k) × (n ≡ m)
  sized_some n (Some j) k m e =
      let s : (j, n) ≡ (k, m) = cc in
      (ap (λ (p : K × ℕ). Some p.0) s, ap (λ (p : K × ℕ). p.1) s)
  sized_some n None k m e = absurd (let z : ◌≡◌ {A = ℕ} 0 1 = cc in omega arith)

  split : (bs : List ℕ) → 1 ≤ length bs → bs ≡ slice_index bs 0 ∷ (behind bs ++ drop (slice_index bs 0 + 1) bs)
  split [] h = absurd (omega arith)
  split (b ∷ bs) h =
      let e : suc b ≡ b + 1 = omega arith in
      ap (λ xs. b ∷ xs) (sym (take-append-drop b bs) ∙ ap (λ n. take b bs ++ drop n (b ∷ bs)) e)

  pub code_only : (bs : List ℕ) (k : K) (n : ℕ) → text_front t bs ≡ Some (k, n)
      → (bs ≡ row_code (t.row k) ++ drop n bs) × (n ≡ length (row_code (t.row k)))
  code_only bs k n e =
      let c = cond_some (code_stands t bs) _ (k, n) e in
      let p = and_parts (stands_whole bs) (list_all t.keeps (behind bs)) c.0 in
      let o = sized_some (slice_index bs 0 + 1) (key_of t (packed (behind bs))) k n c.1 in
      let row : t.row k ≡ packed (behind bs) = key_only (packed (behind bs)) k o.0 in
      let ls = lengths bs p.0 in
      let len : length (behind bs) ≡ slice_index_or bs 0 0 = behind_length bs p.0 in
      let text : row_text (packed (behind bs)) ≡ behind bs = packed_text (behind bs) (keeps_small (behind bs) p.1) (omega arith) in
      let code : row_code (t.row k) ≡ slice_index bs 0 ∷ behind bs = ap row_code row ∙ ap₂ (λ x xs. x ∷ xs) len text in
      (split bs (omega arith) ∙ ap₂ (λ x m. x ++ drop m bs) (sym code) o.1, sym o.1 ∙ omega (arith, ap length code))

-- ---- the same by the row that stands there
-- the key of that row, with the length of its code
abbrev pub sized_key : {K : Type 0} → TextType K → Option TextRow → Option (K × ℕ)
sized_key t (Some r) = sized t (r.len + 1) (key_of t r)
sized_key t None = None

module _ {K : Type 0} (t : TextType K) (bs : List ℕ) (small : (i : ℕ) → slice_index bs i < 256) where
  -- where a byte is not kept, the row is no key's
  no_key : stands_whole bs ≡ true → list_all t.keeps (behind bs) ≡ false → (b : Bool) → row_kept t.keeps (packed (behind bs)) ≡ b → key_of t (packed (behind bs)) ≡ None
  no_key ew ep false e = checked_none (row_kept t.keeps (packed (behind bs))) (t.make (packed (behind bs))) e
  no_key ew ep true e =
      let l = lengths bs ew in
      let few : length (behind bs) ≤ 24 = omega (arith, behind_length bs ew) in
      let p = (kept_parts t.keeps (packed (behind bs)) e).passes in
      absurd (true≢false (sym p ∙ ap (list_all t.keeps) (packed_text (behind bs) (behind_small bs small) few) ∙ ep))

  front_cases : (w p : Bool) → stands_whole bs ≡ w → list_all t.keeps (behind bs) ≡ p → text_front t bs ≡ sized_key t (row_front bs)
  front_cases w p ew ep =
      let found = key_of t (packed (behind bs)) in
      ap₂ (λ x y. cond (x && y) (sized t (slice_index bs 0 + 1) found) None) ew ep
      ∙ cases w p ew ep
      ∙ sym (ap (λ x. sized_key t (cond x (Some (packed (behind bs))) None)) ew)
    where
      cases : (w p : Bool) → stands_whole bs ≡ w → list_all t.keeps (behind bs) ≡ p
          → cond (w && p) (sized t (slice_index bs 0 + 1) (key_of t (packed (behind bs)))) None ≡ sized_key t (cond w (Some (packed (behind bs))) None)
      cases false p ew ep = refl
      cases true true ew ep =
          let e : slice_index_or bs 0 0 + 1 ≡ length (behind bs) + 1 = omega (arith, behind_length bs ew) in
          ap (λ n. sized t n (key_of t (packed (behind bs)))) e
      cases true false ew ep = sym (ap (sized t (length (behind bs) + 1)) (no_key ew ep (row_kept t.keeps (packed (behind bs))) refl))

  pub front_by_row : text_front t bs ≡ sized_key t (row_front bs)
  front_by_row = front_cases (stands_whole bs) (list_all t.keeps (behind bs)) refl refl
