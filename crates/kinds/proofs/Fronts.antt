-- What the laws of codes give, and the laws of a record's code from those of its key's and its value's.
use Rattle.std.proofs.Common.{◌≡◌, ℕ, zero, suc, ◌+◌, ◌<◌, ◌≤◌, List, [], ◌∷◌, ◌++◌, length, get_or, drop, Some, None, Ok, Err, Option, Result, sym, refl, ap, ◌∙◌, subst, append_assoc, arith, length-append, length-drop}
use Rattle.std.proofs.lemmas.List.{drop_at, drop-drop}
use Rattle.kinds.specs.Codes.{CodeLaws, Reads}
use Rattle.kinds.specs.Kinds.{KeyKind, ValueKind, KeyLaws, ValueLaws}
use Rattle.kinds.specs.Records.{read_answer, record_code, with_value, behind_key, record_front}
use Rattle.kinds.specs.declared.code.NoCode.{NoCode}
use Rattle.kinds.specs.declared.record.Record.{Record}

-- what a reader's answer says of the front
pub front_from_ok : {A : Type 0} (o : Option (A × ℕ)) (p : A × ℕ) → Ok p ≡ read_answer o → o ≡ Some p
front_from_ok (Some q) p e = cc
front_from_ok None p e = absurd (let z : ◌≡◌ {A = ℕ} 0 1 = cc in omega arith)

pub front_from_err : {A : Type 0} (o : Option (A × ℕ)) (e : NoCode) → Err e ≡ read_answer o → o ≡ None
front_from_err (Some q) e h = absurd (let z : ◌≡◌ {A = ℕ} 0 1 = cc in omega arith)
front_from_err None e h = refl

module _ {A : Type 0} (code : A → List ℕ) (front : List ℕ → Option (A × ℕ)) where
  -- no code is the beginning of another's, since each is read back
  pub apart_by_front : ((x : A) (rest : List ℕ) → front (code x ++ rest) ≡ Some (x, length (code x)))
      → (x y : A) (s t : List ℕ) → code x ++ s ≡ code y ++ t → x ≡ y
  apart_by_front stands x y s t e =
      let h : ◌≡◌ {A = Option (A × ℕ)} (Some (x, length (code x))) (Some (y, length (code y))) = sym (stands x s) ∙ ap front e ∙ stands y t in
      let same : (x, length (code x)) ≡ (y, length (code y)) = cc in
      ap (λ (p : A × ℕ). p.0) same

  module _ (most : ℕ) (laws : CodeLaws most code front) where
    pub front_within : (bs : List ℕ) (x : A) (n : ℕ) → front bs ≡ Some (x, n) → n ≤ length bs
    front_within bs x n e =
        let o = laws.only bs x n e in
        omega (arith, o.1, ap length o.0, length-append (code x) (drop n bs), length-drop n bs)

    reads_by : (bs : List ℕ) (o : Option (A × ℕ)) → front bs ≡ o → Reads code bs (read_answer o)
    reads_by bs (Some p) e = let o = laws.only bs p.0 p.1 e in ((drop p.1 bs, o.0), o.1)
    reads_by bs None e =
        λ x b.
        let h : ◌≡◌ {A = Option (A × ℕ)} (Some (x, length (code x))) None = sym (laws.stands x b.0) ∙ sym (ap front b.1) ∙ e in
        let z : ◌≡◌ {A = ℕ} 0 1 = cc in
        omega arith

    -- a reader that answers what stands at the front refuses exactly where no code stands there
    pub reads_exactly : (bs : List ℕ) (r : Result (A × ℕ) NoCode) → r ≡ read_answer (front bs) → Reads code bs r
    reads_exactly bs r e = subst (λ (x : Result (A × ℕ) NoCode). Reads code bs x) (sym e) (reads_by bs (front bs) refl)

get_or_both : (xs ys : List ℕ) → ((i : ℕ) → get_or xs i 0 < 256) → ((i : ℕ) → get_or ys i 0 < 256) → (i : ℕ) → get_or (xs ++ ys) i 0 < 256
get_or_both [] ys f h i = h i
get_or_both (x ∷ xs) ys f h zero = f 0
get_or_both (x ∷ xs) ys f h (suc i) = get_or_both xs ys (λ j. f (suc j)) h i

module _ {K Row V : Type 0} (key : KeyKind K Row) (value : ValueKind V) where
  abbrev of : K → V → Record K V
  of k v = record { key = k; value = v }

  with_some : (p : K × ℕ) (o : Option (V × ℕ)) (r : Record K V) (n : ℕ) → with_value p o ≡ Some (r, n)
      → (q : V × ℕ) × (o ≡ Some q) × (of p.0 q.0 ≡ r) × (p.1 + q.1 ≡ n)
  with_some p None r n e = absurd (let z : ◌≡◌ {A = ℕ} 0 1 = cc in omega arith)
  with_some p (Some q) r n e =
      let s : (of p.0 q.0, p.1 + q.1) ≡ (r, n) = cc in
      (q, refl, ap (λ (x : Record K V × ℕ). x.0) s, ap (λ (x : Record K V × ℕ). x.1) s)

  behind_some : (bs : List ℕ) (o : Option (K × ℕ)) (r : Record K V) (n : ℕ) → behind_key value bs o ≡ Some (r, n)
      → (p : K × ℕ) × ((o ≡ Some p) × ((q : V × ℕ) × (value.front (drop p.1 bs) ≡ Some q) × (of p.0 q.0 ≡ r) × (p.1 + q.1 ≡ n)))
  behind_some bs None r n e = absurd (let z : ◌≡◌ {A = ℕ} 0 1 = cc in omega arith)
  behind_some bs (Some p) r n e = (p, (refl, with_some p (value.front (drop p.1 bs)) r n e))

  module _ (kl : KeyLaws key) (vl : ValueLaws value) where
    record_stands : (r : Record K V) (rest : List ℕ) → record_front key value (record_code key value r ++ rest) ≡ Some (r, length (record_code key value r))
    record_stands r rest =
        let bs = record_code key value r ++ rest in
        let n = length (key.code r.key) in
        let tail = value.code r.value ++ rest in
        let a : bs ≡ key.code r.key ++ tail = append_assoc (key.code r.key) (value.code r.value) rest in
        let k : key.front bs ≡ Some (r.key, n) = ap key.front a ∙ kl.codes.stands r.key tail in
        let d : drop n bs ≡ tail = ap (drop n) a ∙ drop_at (key.code r.key) tail n refl in
        let v : value.front (drop n bs) ≡ Some (r.value, length (value.code r.value)) = ap value.front d ∙ vl.codes.stands r.value rest in
        ap (behind_key value bs) k ∙ ap (with_value (r.key, n)) v ∙ ap (λ x. Some (r, x)) (sym (length-append (key.code r.key) (value.code r.value)))

    record_only : (bs : List ℕ) (r : Record K V) (n : ℕ) → record_front key value bs ≡ Some (r, n)
        → (bs ≡ record_code key value r ++ drop n bs) × (n ≡ length (record_code key value r))
    record_only bs r n e =
        let s = behind_some bs (key.front bs) r n e in
        let p = s.0 in
        let q = s.1.1.0 in
        let a = kl.codes.only bs p.0 p.1 s.1.0 in
        let b = vl.codes.only (drop p.1 bs) q.0 q.1 s.1.1.1 in
        let P : Record K V → ℕ → Type 0 = λ x m. (bs ≡ record_code key value x ++ drop m bs) × (m ≡ length (record_code key value x)) in
        let kc = key.code p.0 in
        let vc = value.code q.0 in
        let h : P (of p.0 q.0) (p.1 + q.1) = (
          a.0 ∙ ap (λ x. kc ++ x) (b.0 ∙ ap (λ x. vc ++ x) (drop-drop q.1 p.1 bs)) ∙ sym (append_assoc kc vc (drop (p.1 + q.1) bs)),
          omega (arith, a.1, b.1, length-append kc vc),
        ) in
        subst (λ m. P r m) s.1.1.3 (subst (λ x. P x (p.1 + q.1)) s.1.1.2 h)

    pub record_laws : CodeLaws 35 (record_code key value) (record_front key value)
    record_laws = record {
      some = λ r. omega (arith, length-append (key.code r.key) (value.code r.value), kl.codes.some r.key);
      short = λ r. omega (arith, length-append (key.code r.key) (value.code r.value), kl.codes.short r.key, vl.codes.short r.value);
      bytes = λ r. get_or_both (key.code r.key) (value.code r.value) (kl.codes.bytes r.key) (vl.codes.bytes r.value);
      stands = record_stands;
      only = record_only;
      apart = apart_by_front (record_code key value) (record_front key value) record_stands;
    }
