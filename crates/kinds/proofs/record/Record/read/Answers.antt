use Rattle.std.proofs.Common.{◌≡◌, drop, Some, None, sym, ap, ◌∙◌, arith, length-drop}
use Rattle.std.proofs.lemmas.List.{take_rest}
use Rattle.std.proofs.lemmas.Result.{err_from_is_err_and}
use Rattle.kinds.specs.Records.{read_answer, record_code, record_front, with_value, behind_key}
use Rattle.kinds.proofs.Fronts.{front_from_ok, front_from_err, front_within, reads_exactly, record_laws}
use Rattle.kinds.proofs.record.Record.read.Goals as goal

pub returns-in_err-key : goal.returns-in_err-key
returns-in_err-key g c =
    let k = g.K.Key.kind in
    let v = g.V.Value.kind in
    let bs = c.args.bytes.now in
    let laws = record_laws k v g.met.K.Key.lawful g.met.V.Value.lawful in
    let p = err_from_is_err_and c.from_residual.result c.from_residual.ensures.1 in
    let none : k.front bs ≡ None = front_from_err (k.front bs) _ c.in_err-key.ensures.answer in
    let e : c.from_residual.result ≡ read_answer (record_front k v bs) = p.1 ∙ ap (λ o. read_answer (behind_key v bs o)) (sym none) in
    record { answer = e; exact = reads_exactly (record_code k v) (record_front k v) 35 laws bs _ e; lawful = laws }

pub slice_bounds-read-count : goal.slice_bounds-read-count
slice_bounds-read-count g c =
    let k = g.K.Key.kind in
    let bs = c.args.bytes.now in
    front_within k.code k.front 25 g.met.K.Key.lawful.codes bs _ _ (front_from_ok (k.front bs) _ c.in_ok-key.ensures.answer)

pub slice_bounds-read-start : goal.slice_bounds-read-start
slice_bounds-read-start g c =
    let k = g.K.Key.kind in
    let bs = c.args.bytes.now in
    front_within k.code k.front 25 g.met.K.Key.lawful.codes bs _ _ (front_from_ok (k.front bs) _ c.in_ok-key.ensures.answer)

pub returns-in_err-value : goal.returns-in_err-value
returns-in_err-value g c =
    let k = g.K.Key.kind in
    let v = g.V.Value.kind in
    let bs = c.args.bytes.now in
    let n = c.in_ok-key.n in
    let laws = record_laws k v g.met.K.Key.lawful g.met.V.Value.lawful in
    let p = err_from_is_err_and c.from_residual-in_err-value.result c.from_residual-in_err-value.ensures.1 in
    let key : k.front bs ≡ Some (c.in_ok-key.key, n) = front_from_ok (k.front bs) _ c.in_ok-key.ensures.answer in
    let none : v.front (drop n bs) ≡ None = ap v.front (sym (take_rest bs n)) ∙ front_from_err _ _ c.in_err-value.ensures.answer in
    let f : record_front k v bs ≡ None = ap (behind_key v bs) key ∙ ap (with_value (c.in_ok-key.key, n)) none in
    let e : c.from_residual-in_err-value.result ≡ read_answer (record_front k v bs) = p.1 ∙ ap read_answer (sym f) in
    record { answer = e; exact = reads_exactly (record_code k v) (record_front k v) 35 laws bs _ e; lawful = laws }

pub overflow_add-result : goal.overflow_add-result
overflow_add-result g c =
    let k = g.K.Key.kind in
    let v = g.V.Value.kind in
    let bs = c.args.bytes.now in
    let n = c.in_ok-key.n in
    let key : k.front bs ≡ Some (c.in_ok-key.key, n) = front_from_ok (k.front bs) _ c.in_ok-key.ensures.answer in
    let value : v.front (drop n bs) ≡ Some (c.in_ok-value.value, c.in_ok-value.m) =
    ap v.front (sym (take_rest bs n)) ∙ front_from_ok _ _ c.in_ok-value.ensures.answer in
    omega (
      arith,
      front_within k.code k.front 25 g.met.K.Key.lawful.codes bs _ _ key,
      front_within v.code v.front 10 g.met.V.Value.lawful.codes (drop n bs) _ _ value,
      length-drop n bs,
    )

pub returns : goal.returns
returns g c =
    let k = g.K.Key.kind in
    let v = g.V.Value.kind in
    let bs = c.args.bytes.now in
    let n = c.in_ok-key.n in
    let laws = record_laws k v g.met.K.Key.lawful g.met.V.Value.lawful in
    let key : k.front bs ≡ Some (c.in_ok-key.key, n) = front_from_ok (k.front bs) _ c.in_ok-key.ensures.answer in
    let value : v.front (drop n bs) ≡ Some (c.in_ok-value.value, c.in_ok-value.m) =
    ap v.front (sym (take_rest bs n)) ∙ front_from_ok _ _ c.in_ok-value.ensures.answer in
    let f = ap (behind_key v bs) key ∙ ap (with_value (c.in_ok-key.key, n)) value in
    let e = ap read_answer (sym f) in
    record { answer = e; exact = reads_exactly (record_code k v) (record_front k v) 35 laws bs _ e; lawful = laws }
