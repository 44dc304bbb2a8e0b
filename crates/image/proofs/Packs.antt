-- bits and the numbers that hold them
use Rattle.std.proofs.Common.{◌≡◌, ℕ, zero, suc, ◌+◌, ◌*◌, ◌/◌, ◌%◌, ◌^◌, ◌<◌, ◌≤◌, Bool, true, false, eqb, sym, refl, ap, ◌∙◌, arith}
use native.Mathlib.Nat.{pow-succ', div-div-eq-div-mul}
use Rattle.image.specs.Bits.{one, packed}

pub one_le : (b : Bool) → one b ≤ 1
one_le true = omega arith
one_le false = omega arith

pub one_back : (b : Bool) → eqb (one b) 1 ≡ b
one_back true = refl
one_back false = refl

pub eqb_one : (x : ℕ) → x < 2 → one (eqb x 1) ≡ x
eqb_one zero h = refl
eqb_one (suc zero) h = refl
eqb_one (suc (suc x)) h = absurd (omega arith)

pub packed_lt : (t : ℕ → Bool) (i n : ℕ) → packed t i n < 2 ^ n
packed_lt t i zero = omega arith
packed_lt t i (suc n) = omega (arith, one_le (t i), packed_lt t (i + 1) n, pow-succ' 2 n)

-- bit suc k of a number is bit k of its half
half : (b k : ℕ) → b / 2 ^ suc k ≡ b / 2 / 2 ^ k
half b k = ap (λ d. b / d) (pow-succ' 2 k) ∙ sym (div-div-eq-div-mul b 2 (2 ^ k))

pub bit_of : (t : ℕ → Bool) (i n k : ℕ) → k < n → packed t i n / 2 ^ k % 2 ≡ one (t (i + k))
bit_of t i zero k h = absurd (omega arith)
bit_of t i (suc n) zero h =
    let a : i + 0 ≡ i = omega arith in
    let b : packed t i (suc n) / 1 % 2 ≡ one (t i) = omega (arith, one_le (t i)) in
    b ∙ ap (λ x. one (t x)) (sym a)
bit_of t i (suc n) (suc k) h =
    let a : packed t i (suc n) / 2 ≡ packed t (i + 1) n = omega (arith, one_le (t i)) in
    let b : i + 1 + k ≡ i + suc k = omega arith in
    ap (λ x. x % 2) (half (packed t i (suc n)) k ∙ ap (λ x. x / 2 ^ k) a) ∙ bit_of t (i + 1) n k (omega arith) ∙ ap (λ x. one (t x)) b

-- a number with those bits is that number
pub unpacked : (t : ℕ → Bool) (i n b : ℕ) → b < 2 ^ n → ((k : ℕ) → k < n → b / 2 ^ k % 2 ≡ one (t (i + k))) → b ≡ packed t i n
unpacked t i zero b l h = omega arith
unpacked t i (suc n) b l h =
    let s : 2 ^ suc n ≡ 2 * 2 ^ n = pow-succ' 2 n in
    let z : i + 0 ≡ i = omega arith in
    let z' : b / 1 % 2 ≡ one (t (i + 0)) = h 0 (omega arith) in
    let low : b % 2 ≡ one (t i) = omega (arith, z', ap (λ x. one (t x)) z) in
    let rest : b / 2 ≡ packed t (i + 1) n = unpacked t (i + 1) n (b / 2) (omega arith) (λ k g.
    let e : i + suc k ≡ i + 1 + k = omega arith in
    ap (λ x. x % 2) (sym (half b k)) ∙ h (suc k) (omega arith) ∙ ap (λ x. one (t x)) e) in
    omega arith
