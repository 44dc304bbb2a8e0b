use Rattle.std.proofs.Common.{◌≡◌, ◌^◌, ◌≤◌, ap, arith}
use native.Mathlib.Nat.{pow-le-pow_right}
use Rattle.layout.specs.Capacity.{power, capacity}
use Rattle.layout.proofs.Capacities.{power_law}
use Rattle.cells.proofs.ring.capacity_of.Goals as goal

pub overflow_shl-result : goal.overflow_shl-result
overflow_shl-result c = omega (arith, c.power_of.ensures, (power_law c.args.count).1)

pub returns : goal.returns
unfolding capacity
returns c =
    let p = power_law c.args.count in
    let h : 2 ^ power c.args.count ≤ 2 ^ 10 = pow-le-pow_right {n = 2} (omega arith) {i = power c.args.count} {j = 10} p.1 in
    let e : 2 ^ c.power_of.result ≡ 2 ^ power c.args.count = ap (λ y. 2 ^ y) c.power_of.ensures in
    omega arith
