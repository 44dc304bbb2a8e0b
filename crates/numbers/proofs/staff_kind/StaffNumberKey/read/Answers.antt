use Rattle.std.proofs.Common.{◌≡◌, ◌≤◌, length, take, sym, ap, ◌∙◌, arith, rules}
use Rattle.kinds.specs.Records.{read_answer}
use Rattle.kinds.proofs.Fronts.{reads_exactly}
use Rattle.numbers.specs.Staff.{staff, staff_kind}
use Rattle.numbers.specs.FixedLaws.{four_bytes}
use Rattle.numbers.specs.StaffLaws.{staff_numbered, staff_laws}
use Rattle.numbers.proofs.Reading.{chunk_front}
use Rattle.numbers.proofs.staff_kind.StaffNumberKey.read.Goals as goal

pub returns : goal.returns
returns c =
    let bs = c.args.bytes.now in
    let code = c.in_ok-code.field-0.now in
    let long : 4 ≤ length bs = search rules in
    let is : code ≡ take 4 bs = search rules in
    let f = chunk_front 4 (λ k. k.number) staff staff_numbered bs code c.new.result long is (λ i. omega (arith, c.type_inv.bytes i))
    (c.new.ensures ∙ c.from_be_bytes.ensures ∙ sym (four_bytes code (search rules))) in
    let e = ap read_answer (sym f) in
    record { answer = e; exact = reads_exactly staff_kind.code staff_kind.front 25 staff_laws.codes bs _ e }
