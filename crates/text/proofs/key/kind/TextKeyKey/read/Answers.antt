use Rattle.std.proofs.Common.{◌≡◌, ◌+◌, Some, None, Ok, sym, ap, ◌∙◌, arith, rules}
use Rattle.std.proofs.lemmas.Result.{err_from_is_err_and}
use Rattle.kinds.specs.Records.{read_answer}
use Rattle.kinds.proofs.Fronts.{reads_exactly}
use Rattle.text.specs.Keys.{text_type, text_kind}
use Rattle.text.specs.Rows.{row_front}
use Rattle.text.specs.Texts.{sized, text_front, key_of}
use Rattle.text.specs.Fronts.{key_only, sized_key, front_by_row}
use Rattle.text.specs.declared.row.TextRow.{TextRow}
use Rattle.text.specs.KeysLemmas.{key_length, text_laws, text_type_laws}
use Rattle.text.proofs.key.kind.TextKeyKey.read.Goals as goal

pub returns-in_err-row : goal.returns-in_err-row
returns-in_err-row c =
    let bs = c.args.bytes.now in
    let none : row_front bs ≡ None = search rules in
    let front : text_front text_type bs ≡ None = front_by_row text_type bs (λ i. omega (arith, c.type_inv.bytes i)) ∙ ap (sized_key text_type) none in
    let e = (err_from_is_err_and c.from_residual.result c.from_residual.ensures.1).1 ∙ ap read_answer (sym front) in
    record { answer = e; exact = reads_exactly text_kind.code text_kind.front 25 text_laws.codes bs _ e }

pub returns-in_err-key : goal.returns-in_err-key
returns-in_err-key c =
    let bs = c.args.bytes.now in
    let r = c.in_ok-row.row in
    let row : row_front bs ≡ Some r = search rules in
    let none : key_of text_type r ≡ None = search rules in
    let front : text_front text_type bs ≡ None =
    front_by_row text_type bs (λ i. omega (arith, c.type_inv.bytes i)) ∙ ap (sized_key text_type) row ∙ ap (sized text_type (r.len + 1)) none in
    let e = (err_from_is_err_and c.from_residual-in_err-key.result c.from_residual-in_err-key.ensures.1).1 ∙ ap read_answer (sym front) in
    record { answer = e; exact = reads_exactly text_kind.code text_kind.front 25 text_laws.codes bs _ e }

pub returns : goal.returns
returns c =
    let bs = c.args.bytes.now in
    let r = c.in_ok-row.row in
    let k = c.in_ok-key.key in
    let row : row_front bs ≡ Some r = search rules in
    let key : key_of text_type r ≡ Some k = search rules in
    let front : text_front text_type bs ≡ Some (k, r.len + 1) =
    front_by_row text_type bs (λ i. omega (arith, c.type_inv.bytes i)) ∙ ap (sized_key text_type) row ∙ ap (sized text_type (r.len + 1)) key in
    let size : c.code_len.result ≡ r.len + 1 =
    omega (arith, c.code_len.ensures, key_length k, ap (λ (x : TextRow). x.len) (key_only text_type text_type_laws r k key)) in
    let e = ap (λ n. Ok (k, n)) size ∙ ap read_answer (sym front) in
    record { answer = e; exact = reads_exactly text_kind.code text_kind.front 25 text_laws.codes bs _ e }
