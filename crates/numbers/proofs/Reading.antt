-- What a reader of the first w bytes gives.
use Rattle.std.proofs.Common.{◌≡◌, ℕ, ◌^◌, ◌<◌, ◌≤◌, List, length, take, Some, ap, ◌∙◌, arith, get_or}
use Rattle.std.proofs.lemmas.List.{length-take-le, take_all}
use Rattle.std.specs.Int.Digits.{number_from_digits}
use Rattle.numbers.specs.Fixed.{fixed_front}
use Rattle.numbers.specs.FixedLaws.{Numbered, typed_front}

-- `code` are the first w of the program's bytes, and x is the member of the number that they spell
pub chunk_front : (w : ℕ) {A : Type 0} (value : A → ℕ) (make : (n : ℕ) → n < 256 ^ w → A) → Numbered w value make
    → (bs code : List ℕ) (x : A) → w ≤ length bs → code ≡ take w bs → ((i : ℕ) → get_or bs i 0 < 256) → value x ≡ number_from_digits 256 (take w code) → fixed_front w make bs ≡ Some (x, w)
chunk_front w value make numbered bs code x long is small h =
    let whole = take_all w code (omega (arith, ap length is, length-take-le w bs long)) in
    typed_front w value make numbered bs x long small (h ∙ ap (number_from_digits 256) (whole ∙ is))
