-- What commands and listings give, in the words of the map: what is found under each key, and how many records there are.
use Rattle.std.specs.Prelude.{◌≡◌, ℕ, ◌+◌, ◌<◌, ◌≤◌, ◌≢◌, ◌↔◌, List, ◌++◌, length, Some, None, Option}
use Rattle.kinds.specs.declared.record.Record.{Record}
use Rattle.layout.specs.Orders.{In, Ascending}
use Rattle.maps.specs.Commands.{found, answer_to, map_after, answers_to, map_after_sheet}
use Rattle.maps.specs.Maps.{Kinds, Contents, contents, Lawful, record_order, lent}
use Rattle.maps.specs.declared.Answer.{Answer}
use Rattle.maps.specs.declared.Answer.TheVariants.{New, Joined, Full, Dropped, Absent, Found}
use Rattle.maps.specs.declared.Command.{Command}
use Rattle.maps.specs.declared.Command.TheVariants.{Put, Drop, Get}
use Rattle.model.specs.Steps.{listing}

abbrev pub pair : {A V : Type 0} → A → V → Record A V
pair a v = record { key = a; value = v }

-- the command, on the key of its row, is answered so; then that is found under the key, every other key has what it had,
-- and so many records are there
pub record Does {K Row V : Type 0} (x : Kinds K Row V) (c : Command Row V) (k : K) (m : List (Record K V))
    (answer : Answer V) (o : Option (Record K V)) (n : ℕ) : Type 0 where
  pub answered : answer_to x c m ≡ answer
  pub here : found x k (map_after x c m) ≡ o
  pub others : (j : K) → j ≢ k → found x j (map_after x c m) ≡ found x j m
  pub count : length (map_after x c m) ≡ n

pub record CommandLaws {K Row V : Type 0} (x : Kinds K Row V) : Type 0 where
  -- a put on a key that is there joins the values
  pub put_there : (r : Row) (k : K) (v : V) (m : List (Record K V)) (old : Record K V) → Ascending (record_order x) m → x.key.key r ≡ Some k
      → found x k m ≡ Some old
      → Does x (Put r v) k m (Joined (x.value.join old.value v)) (Some (pair k (x.value.join old.value v))) (length m)
  -- on another it is new, unless 768 records are there
  pub put_new : (r : Row) (k : K) (v : V) (m : List (Record K V)) → Ascending (record_order x) m → x.key.key r ≡ Some k
      → found x k m ≡ None → length m < 768 → Does x (Put r v) k m (New v) (Some (pair k v)) (length m + 1)
  pub put_full : (r : Row) (k : K) (v : V) (m : List (Record K V)) → Ascending (record_order x) m → x.key.key r ≡ Some k
      → found x k m ≡ None → 768 ≤ length m → Does x (Put r v) k m Full None (length m)
  pub drop_there : (r : Row) (k : K) (m : List (Record K V)) (old : Record K V) (n : ℕ) → Ascending (record_order x) m → x.key.key r ≡ Some k
      → found x k m ≡ Some old → length m ≡ n + 1 → Does x (Drop r) k m (Dropped old.value) None n
  pub drop_absent : (r : Row) (k : K) (m : List (Record K V)) → Ascending (record_order x) m → x.key.key r ≡ Some k
      → found x k m ≡ None → Does x (Drop r) k m Absent None (length m)
  pub get_there : (r : Row) (k : K) (m : List (Record K V)) (old : Record K V) → x.key.key r ≡ Some k
      → found x k m ≡ Some old → Does x (Get r) k m (Found old.value) (Some old) (length m)
  pub get_absent : (r : Row) (k : K) (m : List (Record K V)) → x.key.key r ≡ Some k
      → found x k m ≡ None → Does x (Get r) k m Absent None (length m)

-- A sheet is its commands in turn, with an answer to each; entered in two parts it does the same.
pub record SheetLaws {K Row V : Type 0} (x : Kinds K Row V) : Type 0 where
  pub one_each : (sheet : List (Command Row V)) (m : List (Record K V)) → length (answers_to x sheet m) ≡ length sheet
  pub answers_in_turn : (front rest : List (Command Row V)) (m : List (Record K V))
      → answers_to x (front ++ rest) m ≡ answers_to x front m ++ answers_to x rest (map_after_sheet x front m)
  pub map_in_turn : (front rest : List (Command Row V)) (m : List (Record K V))
      → map_after_sheet x (front ++ rest) m ≡ map_after_sheet x rest (map_after_sheet x front m)
  pub lawful : (seed : ℕ) (sheet : List (Command Row V)) (m : List (Record K V))
      → Lawful x (contents seed m) → Lawful x (contents seed (map_after_sheet x sheet m))

-- A listing has as many records as the map, and just the map's.
pub record ListingLaws {K Row V : Type 0} (x : Kinds K Row V) : Type 0 where
  pub count : (h : Contents K V) → Lawful x h → length (listing x h) ≡ length h.records
  pub records : (h : Contents K V) → Lawful x h → (p : Record Row V)
      → In p (listing x h) ↔ ((r : Record K V) × In r h.records × (lent x r ≡ p))
