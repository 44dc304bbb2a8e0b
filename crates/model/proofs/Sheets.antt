-- What commands do to a map, and that a sheet keeps it lawful.
use Rattle.std.proofs.Common.{◌≡◌, ℕ, suc, Bool, true, false, ◌≢◌, List, [], ◌∷◌, ◌++◌, length, Some, None, Option, refl, ap, ◌∙◌, arith}
use Rattle.std.proofs.lemmas.Bool.{leb-false, le-leb, lt-leb}
use Rattle.kinds.specs.Kinds.{KeyLaws}
use Rattle.kinds.specs.declared.record.Record.{Record}
use Rattle.layout.specs.Orders.{Ascending}
use Rattle.layout.specs.Map.{joined, Keeps}
use Rattle.layout.specs.Theorems.{MapLaws}
use Rattle.layout.proofs.MapLaws.{map_laws}
use Rattle.maps.specs.Commands.{row_of, found, merged, with_pair, without_key, is_full, put_after, answer_at, map_after_at, answer_by, map_after_by, answer_to, map_after, answers_to, map_after_sheet}
use Rattle.maps.specs.Maps.{Kinds, contents, Lawful, record_order}
use Rattle.maps.specs.declared.Answer.{Answer}
use Rattle.maps.specs.declared.Command.{Command}
use Rattle.maps.specs.declared.Command.TheVariants.{Put, Drop, Get}
use Rattle.model.specs.Sheets.{pair, Does, CommandLaws, SheetLaws}
use Rattle.model.proofs.Layouts.{ordered}

module _ {K Row V : Type 0} (x : Kinds K Row V) (l : KeyLaws x.key) where
  laws : MapLaws (record_order x)
  laws = map_laws (record_order x) (ordered x l)

  merged_keeps : Keeps (record_order x) (merged x)
  merged_keeps old new e = refl

  module _ (seed : ℕ) where
    lawful_put : (o : Option (Record K V)) (full : Bool) (k : K) (v : V) (m : List (Record K V)) → found x k m ≡ o → is_full m ≡ full
        → Lawful x (contents seed m) → Lawful x (contents seed (put_after o full m (with_pair x k v m)))
    lawful_put (Some old) full k v m e q w = record {
      seed = w.seed;
      ascending = laws.put_ascends (merged x) merged_keeps (pair k v) m w.ascending;
      few = rw (laws.put_old (merged x) (pair k v) old m w.ascending e) w.few;
    }
    lawful_put None true k v m e q w = w
    lawful_put None false k v m e q w = record {
      seed = w.seed;
      ascending = laws.put_ascends (merged x) merged_keeps (pair k v) m w.ascending;
      few = omega (arith, laws.put_new (merged x) (pair k v) m w.ascending e, leb-false 768 (length m) q);
    }

    lawful_drop : (o : Option (Record K V)) (k : K) (m : List (Record K V)) → found x k m ≡ o → Lawful x (contents seed m) → Lawful x (contents seed (without_key x k m))
    lawful_drop None k m e w = rw (laws.without_none k m w.ascending e) w
    lawful_drop (Some old) k m e w = record {
      seed = w.seed;
      ascending = laws.without_ascends k m w.ascending;
      few = omega (arith, laws.without_old k old m w.ascending e, w.few);
    }

    lawful_at : (k : K) (c : Command Row V) (m : List (Record K V)) → Lawful x (contents seed m) → Lawful x (contents seed (map_after_at x k c m))
    lawful_at k (Put r v) m w = lawful_put (found x k m) (is_full m) k v m refl refl w
    lawful_at k (Drop r) m w = lawful_drop (found x k m) k m refl w
    lawful_at k (Get r) m w = w

    lawful_by : (o : Option K) (c : Command Row V) (m : List (Record K V)) → Lawful x (contents seed m) → Lawful x (contents seed (map_after_by x o c m))
    lawful_by (Some k) c m w = lawful_at k c m w
    lawful_by None c m w = w

    pub lawful_command : (c : Command Row V) (m : List (Record K V)) → Lawful x (contents seed m) → Lawful x (contents seed (map_after x c m))
    lawful_command c m w = lawful_by (x.key.key (row_of c)) c m w

    pub lawful_sheet : (sheet : List (Command Row V)) (m : List (Record K V)) → Lawful x (contents seed m) → Lawful x (contents seed (map_after_sheet x sheet m))
    unfolding map_after_sheet
    lawful_sheet [] m w = w
    lawful_sheet (c ∷ cs) m w = lawful_sheet cs (map_after x c m) (lawful_command c m w)

  -- a command on the key k, by what it answers and the map n that it leaves
  does : (c : Command Row V) (k : K) (m n : List (Record K V)) (a : Answer V) (o : Option (Record K V)) (count : ℕ) → x.key.key (row_of c) ≡ Some k
      → answer_at x k c m ≡ a → map_after_at x k c m ≡ n → found x k n ≡ o → ((j : K) → j ≢ k → found x j n ≡ found x j m) → length n ≡ count
      → Does x c k m a o count
  does c k m n a o count e answer after here others size =
      let q : map_after x c m ≡ n = ap (λ (p : Option K). map_after_by x p c m) e ∙ after in
      record {
        answered = ap (λ (p : Option K). answer_by x p c m) e ∙ answer;
        here = ap (found x k) q ∙ here;
        others = λ j ne. ap (found x j) q ∙ others j ne;
        count = ap length q ∙ size;
      }

  put_others : (k : K) (v : V) (m : List (Record K V)) → Ascending (record_order x) m → (j : K) → j ≢ k → found x j (with_pair x k v m) ≡ found x j m
  put_others k v m up j ne = laws.get_put_other (merged x) merged_keeps (pair k v) m up j ne

  put_here : (k : K) (v : V) (m : List (Record K V)) → Ascending (record_order x) m → (o : Option (Record K V)) → found x k m ≡ o
      → found x k (with_pair x k v m) ≡ Some (joined (merged x) o (pair k v))
  put_here k v m up o e = laws.get_put (merged x) merged_keeps (pair k v) m up ∙ ap (λ (p : Option (Record K V)). Some (joined (merged x) p (pair k v))) e

  pub command_laws : CommandLaws x
  command_laws = record {
    put_there = λ r k v m old up e f. does (Put r v) k m (with_pair x k v m) _ _ _ e (rw f) (rw f)
        (put_here k v m up (Some old) f) (put_others k v m up) (laws.put_old (merged x) (pair k v) old m up f);
    put_new = λ r k v m up e f less. let q = lt-leb 768 (length m) less in does (Put r v) k m (with_pair x k v m) _ _ _ e (rw (f, q)) (rw (f, q))
        (put_here k v m up None f) (put_others k v m up) (laws.put_new (merged x) (pair k v) m up f);
    put_full = λ r k v m up e f full. let q = le-leb 768 (length m) full in does (Put r v) k m m _ _ _ e (rw (f, q)) (rw (f, q)) f (λ j ne. refl) refl;
    drop_there = λ r k m old n up e f size. does (Drop r) k m (without_key x k m) _ _ _ e (rw f) refl
        (laws.get_without k m up) (λ j ne. laws.get_without_other k m up j ne) (omega (arith, laws.without_old k old m up f));
    drop_absent = λ r k m up e f. does (Drop r) k m m _ _ _ e (rw f) (laws.without_none k m up f) f (λ j ne. refl) refl;
    get_there = λ r k m old e f. does (Get r) k m m _ _ _ e (rw f) refl f (λ j ne. refl) refl;
    get_absent = λ r k m e f. does (Get r) k m m _ _ _ e (rw f) refl f (λ j ne. refl) refl;
  }

pub answers_length : {K Row V : Type 0} (x : Kinds K Row V) (sheet : List (Command Row V)) (m : List (Record K V)) → length (answers_to x sheet m) ≡ length sheet
unfolding answers_to
answers_length x [] m = refl
answers_length x (c ∷ cs) m = ap suc (answers_length x cs (map_after x c m))

pub answers_in_turn : {K Row V : Type 0} (x : Kinds K Row V) (front rest : List (Command Row V)) (m : List (Record K V))
    → answers_to x (front ++ rest) m ≡ answers_to x front m ++ answers_to x rest (map_after_sheet x front m)
unfolding answers_to map_after_sheet
answers_in_turn x [] rest m = refl
answers_in_turn x (c ∷ front) rest m = ap (λ zs. answer_to x c m ∷ zs) (answers_in_turn x front rest (map_after x c m))

pub map_in_turn : {K Row V : Type 0} (x : Kinds K Row V) (front rest : List (Command Row V)) (m : List (Record K V))
    → map_after_sheet x (front ++ rest) m ≡ map_after_sheet x rest (map_after_sheet x front m)
unfolding map_after_sheet
map_in_turn x [] rest m = refl
map_in_turn x (c ∷ front) rest m = map_in_turn x front rest (map_after x c m)

pub sheet_laws : {K Row V : Type 0} (x : Kinds K Row V) → KeyLaws x.key → SheetLaws x
sheet_laws x l = record {
  one_each = answers_length x;
  answers_in_turn = answers_in_turn x;
  map_in_turn = map_in_turn x;
  lawful = lawful_sheet x l;
}
