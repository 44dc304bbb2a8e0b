use Rattle.std.proofs.Common.{◌≡◌, ◌≤◌, length, take, sym, ap, arith, rules}
use Rattle.kinds.specs.Records.{read_answer}
use Rattle.kinds.proofs.Fronts.{reads_exactly}
use Rattle.numbers.specs.Hours.{hours, hours_kind}
use Rattle.numbers.specs.FixedLaws.{four_bytes}
use Rattle.numbers.specs.HoursLaws.{stamp, hours_numbered, hours_laws}
use Rattle.numbers.proofs.Reading.{chunk_front}
use Rattle.numbers.proofs.hours_kind.HoursValue.read.Goals as goal

pub returns : goal.returns
returns c =
    let bs = c.args.bytes.now in
    let code = c.in_ok-a.field-0.now in
    let long : 4 ≤ length bs = search rules in
    let is : code ≡ take 4 bs = search rules in
    let whole : 4 ≤ length code = search rules in
    let f = chunk_front 4 stamp hours hours_numbered bs code c.new.result long is (λ i. omega (arith, c.type_inv.bytes i))
    (omega (arith, c.new.ensures.week, c.new.ensures.quarters, c.from_be_bytes-week.ensures, c.from_be_bytes-quarters.ensures, four_bytes code whole)) in
    let e = ap read_answer (sym f) in
    record { answer = e; exact = reads_exactly hours_kind.code hours_kind.front 10 hours_laws.codes bs _ e }
