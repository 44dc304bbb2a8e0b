-- Rows of places made from a function of the index.
use Rattle.std.proofs.Common.{◌≡◌, ℕ, ◌+◌, ◌-◌, ◌*◌, ◌<◌, ◌≤◌, ◌≢◌, List, ◌++◌, length, get_or, take, drop, set, sym, refl, ap, ◌∙◌, inl, inr, ⊎_elim, mul-le-mul_right, add-mul, arith}
use Rattle.std.proofs.lemmas.List.{length-append, length-take, length-drop, length-take-le, drop_at, take_at, drop-take, take-append-le, take-take, append_assoc, drop-drop, length-set, get_or-set_same, get_or-set_other}
use Rattle.std.proofs.lemmas.List.FromFn.{length-map-range_with_len, get_or-map-range_with_len, fill_by_all}
use Rattle.std.proofs.lemmas.Bool.{cases_eq, cases_lt}
use Rattle.store.specs.Places.{Place, places}
use Rattle.store.specs.Lent.{overwritten}

length_places : (n : ℕ) (f : ℕ → Place) → length (places n f) ≡ n
length_places n f = length-map-range_with_len f 0 n

pub get_or_places : (n : ℕ) (f : ℕ → Place) (i : ℕ) (d : Place) → i < n → get_or (places n f) i d ≡ f i
get_or_places n f i d h = get_or-map-range_with_len f 0 n i i d h (omega arith)

-- a list is the row of f if it has the length and shows f at each place
pub row_is : (xs : List Place) (n : ℕ) (f : ℕ → Place) (d : Place) → length xs ≡ n → ((k : ℕ) → k < n → get_or xs k d ≡ f k) → xs ≡ places n f
row_is xs n f d l at = fill_by_all f xs n d l at

-- a row that differs at i alone
pub set_places : (m n : ℕ) (f g : ℕ → Place) (i : ℕ) (p : Place) → m ≡ n → i < n → g i ≡ p → ((k : ℕ) → k < n → k ≢ i → g k ≡ f k) → places m g ≡ set (places n f) i p
set_places m n f g i p e lt here else =
    sym (row_is (set (places n f) i p) m g p (length-set (places n f) i p ∙ length_places n f ∙ sym e)
    (λ k h. ⊎_elim
    (λ (same : k ≡ i). ap (λ j. get_or (set (places n f) i p) j p) same ∙ get_or-set_same (places n f) i p p (rw length_places lt) ∙ sym here ∙ ap g (sym same))
    (λ (other : k ≢ i). get_or-set_other (places n f) i k p p other ∙ get_or_places n f k p (omega arith) ∙ sym (else k (omega arith) other))
    (cases_eq k i)))

module _ (bytes : List ℕ) (start : ℕ) (b : List ℕ) (fits : start + length b ≤ length bytes) where
  front_length : length (take start bytes) ≡ start
  front_length = length-take-le start bytes (omega arith)

  -- bytes that are written over from `start` on: as many as there were
  pub length_overwritten : length (overwritten bytes start b) ≡ length bytes
  length_overwritten = simp (length-append, length-take, length-drop) (omega arith)

  -- the part that was written over
  pub part_overwritten : take (length b) (drop start (overwritten bytes start b)) ≡ b
  part_overwritten = ap (take (length b)) (drop_at (take start bytes) _ start front_length) ∙ take_at b _ (length b) refl

  -- a part that ends before it
  pub part_before : (w at : ℕ) → at + w ≤ start → take w (drop at (overwritten bytes start b)) ≡ take w (drop at bytes)
  part_before w at h =
      sym (drop-take at w (overwritten bytes start b))
      ∙ ap (drop at) (take-append-le (at + w) (take start bytes) _ (rw front_length h) ∙ take-take (at + w) start bytes h)
      ∙ drop-take at w bytes

  -- what lies behind it
  pub rest_behind : (at : ℕ) → start + length b ≤ at → drop at (overwritten bytes start b) ≡ drop at bytes
  rest_behind at h =
      let n : ℕ = start + length b in
      let split : n + (at - n) ≡ at = omega arith in
      let long : length (take start bytes ++ b) ≡ n = simp (length-append, length-take) (omega arith) in
      let rest : drop n (overwritten bytes start b) ≡ drop n bytes = ap (drop n) (sym (append_assoc (take start bytes) b (drop n bytes))) ∙ drop_at (take start bytes ++ b) (drop n bytes) n long in
      ap (λ k. drop k (overwritten bytes start b)) (sym split) ∙ sym (drop-drop (at - n) n (overwritten bytes start b)) ∙ ap (drop (at - n)) rest ∙ drop-drop (at - n) n bytes ∙ ap (λ k. drop k bytes) split

-- One part of `w` bytes among others that lie one behind the other.
module _ (bytes : List ℕ) (w i : ℕ) (b : List ℕ) (wide : length b ≡ w) (fits : i * w + w ≤ length bytes) where
  within : i * w + length b ≤ length bytes
  within = rw wide fits

  pub own_part : take w (drop (i * w) (overwritten bytes (i * w) b)) ≡ b
  own_part = ap (λ n. take n (drop (i * w) (overwritten bytes (i * w) b))) (sym wide) ∙ part_overwritten bytes (i * w) b within

  pub other_part : (k : ℕ) → k ≢ i → take w (drop (k * w) (overwritten bytes (i * w) b)) ≡ take w (drop (k * w) bytes)
  other_part k ne = ⊎_elim
      (λ (l : k < i). part_before bytes (i * w) b within w (k * w) (omega (arith, mul-le-mul_right w l, add-mul k 1 w)))
      (λ (l : i < k). ap (take w) (rest_behind bytes (i * w) b within (k * w) (omega (arith, mul-le-mul_right w l, add-mul i 1 w))))
      (⊎_elim (λ (l : k < i). inl l) (λ (l : i ≤ k). inr (omega arith)) (cases_lt k i))
