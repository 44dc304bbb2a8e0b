-- The lines that the program reads, byte by byte.
use Rattle.std.specs.Char.{is_ascii_digit}
use Rattle.std.specs.Prelude.{ℕ, ◌+◌, ◌-◌, ◌*◌, ◌^◌, Bool, cond, ◌&&◌, List, [], ◌∷◌, length, take, drop, Some, None, Ok, Err, Option, Result, ◌==◌, nat_le, nat_lt}
use Rattle.std.specs.List.{list_all, position}
use Rattle.lines.specs.declared.input.BadLine.{BadLine}
use Rattle.lines.specs.declared.input.Line.{Line}
use Rattle.lines.specs.declared.input.Line.TheVariants.{Put, Drop, Get, Seal}

-- the place of the first byte b
abbrev pub first_place : ℕ → List ℕ → Option ℕ
first_place b bs = position (λ x. x == b) bs

-- a line up to its byte 10, or up to the end, and what is left behind it
abbrev pub cut_at : List ℕ → Option ℕ → List ℕ × List ℕ
cut_at bs (Some i) = (take i bs, drop (i + 1) bs)
cut_at bs None = (bs, [])

abbrev pub cut : List ℕ → List ℕ × List ℕ
cut bs = cut_at bs (first_place 10 bs)

abbrev pub is_digit : ℕ → Bool
is_digit b = is_ascii_digit b

-- the number that digits write behind those of n; 48 is the digit 0
abbrev pub value_from : ℕ → List ℕ → ℕ
value_from n [] = n
value_from n (d ∷ ds) = value_from (10 * n + (d - 48)) ds

-- 1 to 10 digits, leading zeros too, that write a number below the limit
abbrev pub is_number : ℕ → List ℕ → Bool
is_number limit ds = nat_le 1 (length ds) && (nat_le (length ds) 10 && (list_all is_digit ds && nat_lt (value_from 0 ds) limit))

abbrev pub number_in : ℕ → List ℕ → Option ℕ
number_in limit ds = cond (is_number limit ds) (Some (value_from 0 ds)) None

-- a key has 32 bits, a value 16
abbrev pub key_in : List ℕ → Option ℕ
key_in ds = number_in (2 ^ 32) ds

abbrev pub value_in : List ℕ → Option ℕ
value_in ds = number_in (2 ^ 16) ds

abbrev pub with_key : (ℕ → Line) → Option ℕ → Option Line
with_key make (Some k) = Some (make k)
with_key make None = None

abbrev pub with_both : Option ℕ → Option ℕ → Option Line
with_both (Some k) v = with_key (Put k) v
with_both None v = None

-- a key, one blank (32), and a value
abbrev pub put_at : List ℕ → Option ℕ → Option Line
put_at bs (Some i) = with_both (key_in (take i bs)) (value_in (drop (i + 1) bs))
put_at bs None = None

abbrev pub put_in : List ℕ → Option Line
put_in bs = put_at bs (first_place 32 bs)

-- nothing may stand behind the character of a seal
abbrev pub seal_in : List ℕ → Option Line
seal_in [] = Some Seal
seal_in (b ∷ bs) = None

-- by the first character: + is 43, - is 45, ? is 63, = is 61
abbrev pub line_in : List ℕ → Option Line
line_in [] = None
line_in (c ∷ bs) = cond (c == 43) (put_in bs) (cond (c == 45) (with_key Drop (key_in bs)) (cond (c == 63) (with_key Get (key_in bs)) (cond (c == 61) (seal_in bs) None)))

-- what is no such thing is a bad line
abbrev pub or_bad : {A : Type 0} → Option A → Result A BadLine
or_bad (Some x) = Ok x
or_bad None = Err (record {})
