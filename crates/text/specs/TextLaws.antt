-- Every type of text keys is a lawful kind of key.
use Rattle.std.specs.Prelude.{ℕ, zero, suc, ◌<◌, ◌≤◌, List, [], ◌∷◌, length, bit_xor, slice_index}
use Rattle.std.proofs.Common.{arith}
use Rattle.kinds.specs.Kinds.{KeyLaws}
use Rattle.kinds.proofs.Fronts.{apart_by_front}
use Rattle.text.specs.Fnv.{mixed, fnv_from}
use Rattle.text.specs.Rows.{row_text, row_code}
use Rattle.text.specs.Texts.{TextType, TextTypeLaws, text_front, kind_of}
use Rattle.text.specs.Fronts.{kept, text_small, same_text, key_back, key_only, code_read, code_only}
use Rattle.text.specs.LexicalLemmas.{lex_same, lex_equal, lex_turned, lex_chain}
use Rattle.text.specs.Packing.{text_length}

sum_small : (bs : List ℕ) (sum : ℕ) → sum < 4294967296 → fnv_from sum bs < 4294967296
sum_small [] sum h = h
sum_small (b ∷ bs) sum h = sum_small bs (mixed sum b) (omega arith)

fnv_small : (bs : List ℕ) (sum : ℕ) → 1 ≤ length bs → fnv_from sum bs < 4294967296
fnv_small [] sum h = absurd (omega arith)
fnv_small (b ∷ bs) sum h = sum_small bs (mixed sum b) (omega arith)

module _ {K : Type 0} (t : TextType K) (l : TextTypeLaws t) where
  code_small : (k : K) (i : ℕ) → slice_index (row_code (t.row k)) i < 256
  code_small k zero = omega (arith, (kept t l k).few)
  code_small k (suc i) = text_small t l k i

  pub kind_laws : KeyLaws (kind_of t)
  kind_laws = record {
    number = l.number;
    codes = record {
      some = λ k. omega arith;
      short = λ k. omega (arith, text_length (t.row k) (kept t l k).few, (kept t l k).few);
      bytes = code_small;
      stands = code_read t l;
      only = code_only t l;
      apart = apart_by_front (λ k. row_code (t.row k)) (text_front t) (code_read t l);
    };
    orders = record {
      same = λ k. lex_same (row_text (t.row k));
      equal = λ j k h. same_text t l j k (lex_equal (row_text (t.row j)) (row_text (t.row k)) h);
      turned = λ j k. lex_turned (row_text (t.row j)) (row_text (t.row k));
      chain = λ i j k. lex_chain (row_text (t.row i)) (row_text (t.row j)) (row_text (t.row k));
    };
    hash = λ seed k. fnv_small (row_text (t.row k)) (bit_xor 2166136261 seed) (omega (arith, text_length (t.row k) (kept t l k).few, (kept t l k).some));
    rows = record { back = key_back t l; only = key_only t l };
  }
