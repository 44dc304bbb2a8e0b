use Rattle.std.proofs.Common.{◌≡◌, ◌≤◌, length, take, sym, ap, ◌∙◌, arith, rules}
use Rattle.kinds.specs.Records.{read_answer}
use Rattle.kinds.proofs.Fronts.{reads_exactly}
use Rattle.numbers.specs.Papers.{papers, papers_kind}
use Rattle.numbers.specs.FixedLaws.{two_bytes}
use Rattle.numbers.specs.PapersLaws.{papers_numbered, papers_laws}
use Rattle.numbers.proofs.Reading.{chunk_front}
use Rattle.numbers.proofs.papers_kind.PapersValue.read.Goals as goal

pub returns : goal.returns
returns c =
    let bs = c.args.bytes.now in
    let code = c.in_ok-code.field-0.now in
    let long : 2 ≤ length bs = search rules in
    let is : code ≡ take 2 bs = search rules in
    let f = chunk_front 2 (λ p. p.bits) papers papers_numbered bs code c.new.result long is (λ i. omega (arith, c.type_inv.bytes i))
    (c.new.ensures ∙ c.from_be_bytes.ensures ∙ sym (two_bytes code (search rules))) in
    let e = ap read_answer (sym f) in
    record { answer = e; exact = reads_exactly papers_kind.code papers_kind.front 10 papers_laws.codes bs _ e }
