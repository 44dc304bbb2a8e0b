-- Numbers of a fixed width have lawful codes.
use Rattle.std.specs.Prelude.{◌≡◌, ℕ, zero, suc, ◌+◌, ◌*◌, ◌/◌, ◌%◌, ◌^◌, ◌<◌, ◌≤◌, true, ◌&&◌, List, [], ◌∷◌, ◌++◌, length, take, drop, Some, None, nat_le, nat_lt, slice_index, refl}
use Rattle.std.proofs.Common.{sym, ap, ap₂, ◌∙◌, pow-suc, add-one, arith, length-append, take-append-drop}
use Rattle.std.proofs.lemmas.Int.Digits.{number_push}
use Rattle.std.proofs.ByRecursion.{All-push}
use Rattle.std.proofs.lemmas.List.{length_push, length-take-le, take_at}
use Rattle.std.proofs.lemmas.Bool.{and_from, and_parts, lt-ltb, le-leb, lt-leb, leb-true}
use Rattle.std.specs.Int.Digits.{number_from_digits, number_from_digits_after, AllBelowBase}
use Rattle.std.specs.List.{list_all}
use Rattle.kinds.specs.Codes.{CodeLaws}
use Rattle.kinds.proofs.Checks.{checked_some, checked_none, checked_from}
use Rattle.kinds.proofs.Fronts.{apart_by_front}
use Rattle.numbers.specs.Fixed.{bytes_of, spelled, spelled_fits, under_all, fixed_front}

length_bytes_of : (w n : ℕ) → length (bytes_of w n) ≡ w
length_bytes_of zero n = refl
length_bytes_of (suc w) n = length_push (bytes_of w (n / 256)) (n % 256) ∙ ap (λ k. k + 1) (length_bytes_of w (n / 256)) ∙ add-one w

under_bytes_of : (w n : ℕ) → AllBelowBase 256 (bytes_of w n)
under_bytes_of zero n = tt
under_bytes_of (suc w) n = All-push (λ b. b < 256) (bytes_of w (n / 256)) (n % 256) (under_bytes_of w (n / 256)) (omega arith)

under_at : (bs : List ℕ) → AllBelowBase 256 bs → (i : ℕ) → slice_index bs i < 256
under_at [] u i = omega arith
under_at (b ∷ bs) u zero = u.0
under_at (b ∷ bs) u (suc i) = under_at bs u.1 i

all_under : (bs : List ℕ) → AllBelowBase 256 bs → list_all (λ b. nat_lt b 256) bs ≡ true
all_under [] u = refl
all_under (b ∷ bs) u = and_from (nat_lt b 256) (list_all (λ x. nat_lt x 256) bs) (lt-ltb b 256 u.0) (all_under bs u.1)

all_typed : (w : ℕ) (bs : List ℕ) → ((i : ℕ) → slice_index bs i < 256) → list_all (λ b. nat_lt b 256) (take w bs) ≡ true
all_typed zero bs f = refl
all_typed (suc w) [] f = refl
all_typed (suc w) (b ∷ bs) f = and_from (nat_lt b 256) (list_all (λ x. nat_lt x 256) (take w bs)) (lt-ltb b 256 (f 0)) (all_typed w bs (λ i. f (suc i)))

-- the bytes of a number spell it
number_bytes_of : (w n : ℕ) → n < 256 ^ w → number_from_digits 256 (bytes_of w n) ≡ n
number_bytes_of zero n h = omega arith
number_bytes_of (suc w) n h =
    let p : 256 ^ suc w ≡ 256 ^ w * 256 = pow-suc 256 w in
    let high = number_bytes_of w (n / 256) (omega arith) in
    number_push 256 (bytes_of w (n / 256)) (n % 256) ∙ omega (arith, high)

-- and no other bytes of that width do
same_bytes : (a b : ℕ) (xs ys : List ℕ) → length xs ≡ length ys → AllBelowBase 256 xs → AllBelowBase 256 ys → number_from_digits_after 256 a xs ≡ number_from_digits_after 256 b ys → (a ≡ b) × (xs ≡ ys)
same_bytes a b [] [] l u v e = (e, refl)
same_bytes a b [] (y ∷ ys) l u v e = absurd (omega arith)
same_bytes a b (x ∷ xs) [] l u v e = absurd (omega arith)
same_bytes a b (x ∷ xs) (y ∷ ys) l u v e =
    let r = same_bytes (a * 256 + x) (b * 256 + y) xs ys (omega arith) u.1 v.1 e in
    let h : a * 256 + x ≡ b * 256 + y = r.0 in
    let lx : x < 256 = u.0 in
    let ly : y < 256 = v.0 in
    (omega arith, ap₂ (λ z zs. z ∷ zs) (omega arith) r.1)

-- A type whose members are the numbers below 256 ^ w: `value` is a member's number, `make` the member of a number.
pub record Numbered (w : ℕ) {A : Type 0} (value : A → ℕ) (make : (n : ℕ) → n < 256 ^ w → A) : Type 0 where
  pub fits : (x : A) → value x < 256 ^ w
  pub made : (n : ℕ) (h : n < 256 ^ w) → value (make n h) ≡ n
  pub same : (x y : A) → value x ≡ value y → x ≡ y

module _ (w : ℕ) {A : Type 0} (value : A → ℕ) (make : (n : ℕ) → n < 256 ^ w → A) (numbered : Numbered w value make) where
  -- what is made of the bytes at the front
  front_is : (bs : List ℕ) (x : A) → spelled w bs ≡ true → value x ≡ number_from_digits 256 (take w bs) → fixed_front w make bs ≡ Some (x, w)
  front_is bs x e h =
      checked_some (spelled w bs) _ e
      ∙ ap (λ y. Some (y, w)) (numbered.same (make (number_from_digits 256 (take w bs)) (spelled_fits w bs e)) x (numbered.made _ _ ∙ sym h))

  -- bytes of a program, which are below 256
  pub typed_front : (bs : List ℕ) (x : A) → w ≤ length bs → ((i : ℕ) → slice_index bs i < 256) → value x ≡ number_from_digits 256 (take w bs) → fixed_front w make bs ≡ Some (x, w)
  typed_front bs x l f h = front_is bs x (and_from (nat_le w (length bs)) _ (le-leb w (length bs) l) (all_typed w bs f)) h

  stands : (x : A) (rest : List ℕ) → fixed_front w make (bytes_of w (value x) ++ rest) ≡ Some (x, length (bytes_of w (value x)))
  stands x rest =
      let code = bytes_of w (value x) in
      let n = length_bytes_of w (value x) in
      let t : take w (code ++ rest) ≡ code = take_at code rest w n in
      let long : nat_le w (length (code ++ rest)) ≡ true = le-leb w _ (omega (arith, n, length-append code rest)) in
      let all : list_all (λ b. nat_lt b 256) (take w (code ++ rest)) ≡ true = ap (list_all (λ b. nat_lt b 256)) t ∙ all_under code (under_bytes_of w (value x)) in
      front_is (code ++ rest) x (and_from (nat_le w (length (code ++ rest))) _ long all) (sym (ap (number_from_digits 256) t ∙ number_bytes_of w (value x) (numbered.fits x)))
      ∙ ap (λ k. Some (x, k)) (sym n)

  only : (bs : List ℕ) (x : A) (n : ℕ) → fixed_front w make bs ≡ Some (x, n) → (bs ≡ bytes_of w (value x) ++ drop n bs) × (n ≡ length (bytes_of w (value x)))
  only bs x n e =
      let c = checked_from (spelled w bs) _ (x, n) e in
      let p = and_parts (nat_le w (length bs)) (list_all (λ b. nat_lt b 256) (take w bs)) c.0 in
      let m : w ≡ n = ap (λ (q : A × ℕ). q.1) c.1 in
      let v : value x ≡ number_from_digits 256 (take w bs) = ap (λ (q : A × ℕ). value q.0) (sym c.1) ∙ numbered.made _ _ in
      let l : length (take w bs) ≡ w = length-take-le w bs (leb-true w (length bs) p.0) in
      let code : bytes_of w (value x) ≡ take w bs =
      (same_bytes 0 0 (bytes_of w (value x)) (take w bs) (length_bytes_of w (value x) ∙ sym l) (under_bytes_of w (value x)) (under_all (take w bs) p.1)
      (number_bytes_of w (value x) (numbered.fits x) ∙ v)).1 in
      (sym (take-append-drop w bs) ∙ ap₂ (λ a k. a ++ drop k bs) (sym code) m, sym m ∙ sym (length_bytes_of w (value x)))

  pub fixed_laws : (most : ℕ) → 1 ≤ w → w ≤ most → CodeLaws most (λ x. bytes_of w (value x)) (fixed_front w make)
  fixed_laws most some few = record {
    some = λ x. omega (arith, length_bytes_of w (value x));
    short = λ x. omega (arith, length_bytes_of w (value x));
    bytes = λ x. under_at (bytes_of w (value x)) (under_bytes_of w (value x));
    stands = stands;
    only = only;
    apart = apart_by_front (λ x. bytes_of w (value x)) (fixed_front w make) stands;
  }

-- with fewer than w bytes there is no code
pub short_front : {A : Type 0} (w : ℕ) (make : (n : ℕ) → n < 256 ^ w → A) (bs : List ℕ) → length bs < w → fixed_front w make bs ≡ None
short_front w make bs h = checked_none (spelled w bs) _ (ap (λ t. t && list_all (λ b. nat_lt b 256) (take w bs)) (lt-leb w (length bs) h))

-- what the program's readers of two and of four bytes give
pub two_bytes : (bs : List ℕ) → 2 ≤ length bs → number_from_digits 256 (take 2 bs) ≡ slice_index bs 0 * 256 + slice_index bs 1
two_bytes [] l = absurd (omega arith)
two_bytes (a ∷ []) l = absurd (omega arith)
two_bytes (a ∷ b ∷ bs) l = omega arith

pub four_bytes : (bs : List ℕ) → 4 ≤ length bs → number_from_digits 256 (take 4 bs) ≡ slice_index bs 0 * 16777216 + slice_index bs 1 * 65536 + slice_index bs 2 * 256 + slice_index bs 3
four_bytes [] l = absurd (omega arith)
four_bytes (a ∷ []) l = absurd (omega arith)
four_bytes (a ∷ b ∷ []) l = absurd (omega arith)
four_bytes (a ∷ b ∷ c ∷ []) l = absurd (omega arith)
four_bytes (a ∷ b ∷ c ∷ d ∷ bs) l = omega arith
