-- What a command does to a map, and what is answered.
use Rattle.std.specs.Prelude.{ℕ, Bool, true, false, List, [], ◌∷◌, length, Some, None, Option, nat_le}
use Rattle.kinds.specs.declared.record.Record.{Record}
use Rattle.layout.specs.Map.{put, without, get}
use Rattle.maps.specs.Maps.{Kinds, record_order}
use Rattle.maps.specs.declared.Answer.{Answer}
use Rattle.maps.specs.declared.Answer.TheVariants.{New, Joined, Full, Dropped, Absent, Found}
use Rattle.maps.specs.declared.Command.{Command}
use Rattle.maps.specs.declared.Command.TheVariants.{Put, Drop, Get}

-- FULL has the number 15; the others have none, since nothing is refused
abbrev pub answer_number : {V : Type 0} → Answer V → Option ℕ
answer_number (New v) = None
answer_number (Joined v) = None
answer_number Full = Some 15
answer_number (Dropped v) = None
answer_number Absent = None
answer_number (Found v) = None

-- the value that an answer gives
abbrev pub answer_value : {V : Type 0} → Answer V → Option V
answer_value (New v) = Some v
answer_value (Joined v) = Some v
answer_value Full = None
answer_value (Dropped v) = Some v
answer_value Absent = None
answer_value (Found v) = Some v

abbrev pub row_of : {Row V : Type 0} → Command Row V → Row
row_of (Put r v) = r
row_of (Drop r) = r
row_of (Get r) = r

module _ {K Row V : Type 0} (x : Kinds K Row V) where
  -- the record of a key
  abbrev pub found : K → List (Record K V) → Option (Record K V)
  found k m = get (record_order x) k m

  -- the old value joined with the given one
  abbrev pub merged : Record K V → Record K V → Record K V
  merged old given = record { key = given.key; value = x.value.join old.value given.value }

  abbrev pub with_pair : K → V → List (Record K V) → List (Record K V)
  with_pair k v m = put (record_order x) merged (record { key = k; value = v }) m

  abbrev pub without_key : K → List (Record K V) → List (Record K V)
  without_key k m = without (record_order x) k m

-- 768 records are there, and no more fit
abbrev pub is_full : {A : Type 0} → List A → Bool
is_full m = nat_le 768 (length m)

-- Put: joined to what stands under the key; else new, unless the map is full
abbrev pub put_answer : {K Row V : Type 0} → Kinds K Row V → V → Option (Record K V) → Bool → Answer V
put_answer x v (Some old) full = Joined (x.value.join old.value v)
put_answer x v None true = Full
put_answer x v None false = New v

abbrev pub drop_answer : {K V : Type 0} → Option (Record K V) → Answer V
drop_answer (Some old) = Dropped old.value
drop_answer None = Absent

abbrev pub get_answer : {K V : Type 0} → Option (Record K V) → Answer V
get_answer (Some old) = Found old.value
get_answer None = Absent

-- a full map takes no new key
abbrev pub put_after : {A : Type 0} → Option A → Bool → List A → List A → List A
put_after (Some old) full m more = more
put_after None true m more = m
put_after None false m more = more

-- the answer to a command on the key of its row
abbrev pub answer_at : {K Row V : Type 0} → Kinds K Row V → K → Command Row V → List (Record K V) → Answer V
answer_at x k (Put r v) m = put_answer x v (found x k m) (is_full m)
answer_at x k (Drop r) m = drop_answer (found x k m)
answer_at x k (Get r) m = get_answer (found x k m)

-- and the map after it
abbrev pub map_after_at : {K Row V : Type 0} → Kinds K Row V → K → Command Row V → List (Record K V) → List (Record K V)
map_after_at x k (Put r v) m = put_after (found x k m) (is_full m) m (with_pair x k v m)
map_after_at x k (Drop r) m = without_key x k m
map_after_at x k (Get r) m = m

-- a row that is no key's, as no sheet that is run has, does nothing
abbrev pub answer_by : {K Row V : Type 0} → Kinds K Row V → Option K → Command Row V → List (Record K V) → Answer V
answer_by x (Some k) c m = answer_at x k c m
answer_by x None c m = Absent

abbrev pub map_after_by : {K Row V : Type 0} → Kinds K Row V → Option K → Command Row V → List (Record K V) → List (Record K V)
map_after_by x (Some k) c m = map_after_at x k c m
map_after_by x None c m = m

abbrev pub answer_to : {K Row V : Type 0} → Kinds K Row V → Command Row V → List (Record K V) → Answer V
answer_to x c m = answer_by x (x.key.key (row_of c)) c m

abbrev pub map_after : {K Row V : Type 0} → Kinds K Row V → Command Row V → List (Record K V) → List (Record K V)
map_after x c m = map_after_by x (x.key.key (row_of c)) c m

-- a sheet: its commands in turn, each on the map that the one before it left
unfoldable pub answers_to : {K Row V : Type 0} → Kinds K Row V → List (Command Row V) → List (Record K V) → List (Answer V)
answers_to x [] m = []
answers_to x (c ∷ cs) m = answer_to x c m ∷ answers_to x cs (map_after x c m)

unfoldable pub map_after_sheet : {K Row V : Type 0} → Kinds K Row V → List (Command Row V) → List (Record K V) → List (Record K V)
map_after_sheet x [] m = m
map_after_sheet x (c ∷ cs) m = map_after_sheet x cs (map_after x c m)
