-- the theorems together, for counts up to 768 and hashes of 32 bits
use Rattle.std.proofs.Common.{ℕ, ◌^◌, ◌≤◌, arith}
use Rattle.layout.specs.Theorems.{CapacityLaws, MapLayoutLaws, Theorems}
use Rattle.layout.proofs.Round.{round_law}
use Rattle.layout.proofs.MapLaws.{map_laws}
use Rattle.layout.proofs.Capacities.{capacity_range, capacity_demanded, demanded_only, capacity_room, home_below}
use Rattle.layout.proofs.Layouts.{layout_laws, map_layout_laws}

pub theorems : (R Key : Type 0) (most bound : ℕ) → most ≤ 768 → bound ≤ 2 ^ 32 → Theorems R Key most bound
theorems R Key most bound few small = record {
  maps = map_laws;
  capacities = record {
    demanded = λ count l. capacity_demanded count (omega arith);
    only = demanded_only;
    room = λ count l. capacity_room count (omega arith);
  };
  homes = λ cap hash pos l. home_below cap hash pos (omega arith);
  round = round_law;
  layouts = layout_laws;
  map_layouts = λ O ordered hash below.
      let w : MapLayoutLaws O hash 768 = map_layout_laws O ordered hash (λ k. omega (arith, below k)) in
      record {
        exactly = λ m up l. w.exactly m up (omega arith);
        read_back = λ m up l. w.read_back m up (omega arith);
        count = λ m up l. w.count m up (omega arith);
        one_map = λ a b ua ub la lb. w.one_map a b ua ub (omega arith) (omega arith);
        own = λ c l. w.own c (omega arith);
      };
}

-- 1024 cells, the most there are, are enough for 768 records and no more
pub at_most : (n : ℕ) → CapacityLaws n → n ≤ 768
at_most n w = omega (arith, (w.demanded n (omega arith)).suffices, (capacity_range n).1)
