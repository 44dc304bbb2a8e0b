-- What bytes make a text key, and why others make none.
use Rattle.std.specs.Prelude.{◌≡◌, ℕ, ◌+◌, cond, List, [], ◌∷◌, map, length, Some, None, Ok, Err, Option, Result}
use Rattle.std.specs.List.{list_all}
use Rattle.text.specs.Faults.{told}
use Rattle.text.specs.Keys.{text}
use Rattle.text.specs.Letters.{is_allowed, turned}
use Rattle.text.specs.Rows.{right_length}
use Rattle.text.specs.declared.fault.TextFault.{TextFault}
use Rattle.text.specs.declared.fault.TextFault.TheVariants.{Length, NotAllowed}
use Rattle.text.specs.declared.key.TextKey.{TextKey}

-- the first byte that is not allowed, where the bytes begin at the place
abbrev pub first_bad : ℕ → List ℕ → Option TextFault
first_bad place [] = None
first_bad place (b ∷ bs) = cond (is_allowed b) (first_bad (place + 1) bs) (Some (NotAllowed place))

abbrev pub text_fault : List ℕ → Option TextFault
text_fault bs = cond (right_length (length bs)) (first_bad 1 bs) (Some Length)

-- the key of the bytes, turned, where they have no fault, and else that fault
abbrev pub Makes : List ℕ → Result TextKey TextFault → Type 0
Makes bs (Ok k) = (text_fault bs ≡ None) × (text k ≡ map turned bs)
Makes bs (Err e) = text_fault bs ≡ Some e

-- how many bytes stand before the first that is not allowed
abbrev pub allowed_front : List ℕ → ℕ
allowed_front [] = 0
allowed_front (b ∷ bs) = cond (is_allowed b) (allowed_front bs + 1) 0

-- The rule by number and place: 14, with 0 for a length that is not 1 to 24, else the place, from 1, of the first byte that is not allowed.
abbrev pub refusal : List ℕ → Option (ℕ × ℕ)
refusal bs = cond (right_length (length bs)) (cond (list_all is_allowed bs) None (Some (14, allowed_front bs + 1))) (Some (14, 0))

abbrev pub refused : Result TextKey TextFault → Option (ℕ × ℕ)
refused (Ok k) = None
refused (Err e) = Some (told e)

-- bytes that differ in the case of letters alone make one key, or have one fault
abbrev pub CaseBlind : List ℕ → Result TextKey TextFault → Type 0
CaseBlind bs r = (cs : List ℕ) (s : Result TextKey TextFault) → map turned cs ≡ map turned bs → Makes cs s → s ≡ r
