-- a command on the key of its row
use Rattle.std.proofs.Common.{◌≡◌, ℕ, List, Some, None, Option, sym, refl, subst}
use Rattle.kinds.specs.declared.record.Record.{Record}
use Rattle.maps.specs.Commands.{row_of, answer_at, map_after_at, answer_by, map_after_by, answer_to, map_after}
use Rattle.maps.specs.Maps.{Kinds}
use Rattle.maps.specs.declared.Answer.{Answer}
use Rattle.maps.specs.declared.Answer.TheVariants.{Absent}
use Rattle.maps.specs.declared.Command.{Command}
use Rattle.table.specs.Runs.{Does}

module _ {K Row V : Type 0} (x : Kinds K Row V) where
  module _ (seed count : ℕ) (cells : List (Option (Record Row V))) where
    pub by_none : (command : Command Row V) → x.key.key (row_of command) ≡ None
        → Does x seed count (λ m. map_after x command m) (λ m. answer_to x command m) cells cells (Absent, count)
    by_none command none =
        subst (λ (o : Option K). Does x seed count (λ m. map_after_by x o command m) (λ m. answer_by x o command m) cells cells (Absent, count)) (sym none) (λ m h n. (h, refl, n))

    pub by_key : (cells' : List (Option (Record Row V))) (r : Answer V × ℕ) (command is : Command Row V) (k : K) → command ≡ is → x.key.key (row_of command) ≡ Some k
        → Does x seed count (λ m. map_after_at x k is m) (λ m. answer_at x k is m) cells cells' r
        → Does x seed count (λ m. map_after x command m) (λ m. answer_to x command m) cells cells' r
    by_key cells' r command is k e key h =
        subst (λ (o : Option K). Does x seed count (λ m. map_after_by x o command m) (λ m. answer_by x o command m) cells cells' r) (sym key)
        (subst (λ (t : Command Row V). Does x seed count (λ m. map_after_at x k t m) (λ m. answer_at x k t m) cells cells' r) (sym e) h)
