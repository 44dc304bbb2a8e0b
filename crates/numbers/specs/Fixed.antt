-- Numbers of a fixed width as codes, the high byte first.
use Rattle.std.specs.Prelude.{◌≡◌, ℕ, zero, suc, ◌/◌, ◌%◌, ◌^◌, ◌<◌, Bool, true, ◌&&◌, List, [], ◌∷◌, ◌++◌, length, take, Option, nat_le, nat_lt}
use Rattle.std.proofs.Common.{subst}
use Rattle.std.proofs.lemmas.Int.Digits.{number_lt}
use Rattle.std.proofs.lemmas.List.{length-take-le}
use Rattle.std.proofs.lemmas.Bool.{and_parts, leb-true, ltb-true}
use Rattle.std.specs.Int.Digits.{number_from_digits, AllBelowBase}
use Rattle.std.specs.List.{list_all}
use Rattle.kinds.specs.Checked.{checked}

-- the w low bytes of a number
abbrev pub bytes_of : ℕ → ℕ → List ℕ
bytes_of zero n = []
bytes_of (suc w) n = bytes_of w (n / 256) ++ n % 256 ∷ []

-- w bytes stand at the front
abbrev pub spelled : ℕ → List ℕ → Bool
spelled w bs = nat_le w (length bs) && list_all (λ b. nat_lt b 256) (take w bs)

pub under_all : (bs : List ℕ) → list_all (λ b. nat_lt b 256) bs ≡ true → AllBelowBase 256 bs
under_all [] h = tt
under_all (b ∷ bs) h = let p = and_parts (nat_lt b 256) (list_all (λ x. nat_lt x 256) bs) h in (ltb-true b 256 p.0, under_all bs p.1)

-- and they spell a number that w bytes can hold
pub spelled_fits : (w : ℕ) (bs : List ℕ) → spelled w bs ≡ true → number_from_digits 256 (take w bs) < 256 ^ w
spelled_fits w bs h =
    let p = and_parts (nat_le w (length bs)) (list_all (λ b. nat_lt b 256) (take w bs)) h in
    let l : length (take w bs) ≡ w = length-take-le w bs (leb-true w (length bs) p.0) in
    subst (λ n. number_from_digits 256 (take w bs) < 256 ^ n) l (number_lt 256 (take w bs) (under_all (take w bs) p.1))

-- what is made of the number that the first w bytes spell
abbrev pub fixed_front : {A : Type 0} (w : ℕ) → ((n : ℕ) → n < 256 ^ w → A) → List ℕ → Option (A × ℕ)
fixed_front w make bs = checked (spelled w bs) (λ e. (make (number_from_digits 256 (take w bs)) (spelled_fits w bs e), w))
