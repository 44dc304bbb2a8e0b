-- Records, a key with its value, by their codes: the key's, then the value's.
use Rattle.std.specs.Prelude.{ℕ, ◌+◌, Bool, cond, List, ◌++◌, length, take, drop, Some, None, Ok, Err, Option, Result, nat_le}
use Rattle.kinds.specs.Kinds.{KeyKind, ValueKind}
use Rattle.kinds.specs.declared.code.NoCode.{NoCode}
use Rattle.kinds.specs.declared.code.NoRoom.{NoRoom}
use Rattle.kinds.specs.declared.record.Record.{Record}

-- what a reader of codes answers, by what stands at the front
abbrev pub read_answer : {A : Type 0} → Option (A × ℕ) → Result (A × ℕ) NoCode
read_answer (Some p) = Ok p
read_answer None = Err (record {})

abbrev pub record_code : {K Row V : Type 0} → KeyKind K Row → ValueKind V → Record K V → List ℕ
record_code k v r = k.code r.key ++ v.code r.value

-- a key and the length of its code, and a value behind it
abbrev pub with_value : {K V : Type 0} → K × ℕ → Option (V × ℕ) → Option (Record K V × ℕ)
with_value p (Some q) = Some (record { key = p.0; value = q.0 }, p.1 + q.1)
with_value p None = None

abbrev pub behind_key : {V K : Type 0} → ValueKind V → List ℕ → Option (K × ℕ) → Option (Record K V × ℕ)
behind_key v bs (Some p) = with_value p (v.front (drop p.1 bs))
behind_key v bs None = None

-- the record whose code stands at the front of some bytes, with the length of that code
abbrev pub record_front : {K Row V : Type 0} → KeyKind K Row → ValueKind V → List ℕ → Option (Record K V × ℕ)
record_front k v bs = behind_key v bs (k.front bs)

-- bytes with others written over them from a place on
abbrev pub written : List ℕ → ℕ → List ℕ → List ℕ
written out at bs = take at out ++ (bs ++ drop (at + length bs) out)

-- whether so many bytes have room from a place on
abbrev pub has_room : List ℕ → ℕ → List ℕ → Bool
has_room out at bs = nat_le (at + length bs) (length out)

-- a writer answers the place behind what it wrote, or that there is no room
abbrev pub write_answer : List ℕ → ℕ → List ℕ → Result ℕ NoRoom
write_answer out at bs = cond (has_room out at bs) (Ok (at + length bs)) (Err (record {}))

-- and the bytes then hold what was written, or what they held
abbrev pub after_write : List ℕ → ℕ → List ℕ → List ℕ
after_write out at bs = cond (has_room out at bs) (written out at bs) out
