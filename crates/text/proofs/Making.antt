-- Making text keys from bytes.
use Rattle.std.proofs.Common.{◌≡◌, ℕ, ◌+◌, ◌≤◌, Bool, true, false, not, cond, ◌&&◌, List, [], ◌∷◌, ◌++◌, map, length, take, Some, None, Ok, Err, Option, Result, option_map, sym, refl, ap, ◌∙◌, ap₂, arith}
use Rattle.std.proofs.lemmas.List.{length-map}
use Rattle.std.proofs.lemmas.Iterator.Adapters.{position_from-zero}
use Rattle.std.proofs.lemmas.Bool.{and_from, le-leb, cond-true, cond-false}
use Rattle.std.proofs.lemmas.Bool.Decides.{nat_tests}
use Rattle.std.specs.Char.{to_ascii_uppercase}
use Rattle.std.specs.List.{list_all, position, position_from}
use Rattle.text.specs.Faults.{told}
use Rattle.text.specs.Keys.{text_type}
use Rattle.text.specs.Letters.{is_allowed, turned, keeps}
use Rattle.text.specs.Making.{first_bad, text_fault, Makes, allowed_front, refusal, refused, CaseBlind}
use Rattle.text.specs.Rows.{right_length, row_text, row_kept}
use Rattle.text.specs.Words.{packed}
use Rattle.text.specs.declared.fault.TextFault.{TextFault}
use Rattle.text.specs.declared.fault.TextFault.TheVariants.{Length, NotAllowed}
use Rattle.text.specs.declared.key.TextKey.{TextKey}
use Rattle.text.specs.declared.row.TextRow.{TextRow}
use Rattle.text.specs.Fronts.{keeps_small, same_text}
use Rattle.text.specs.KeysLemmas.{text_type_laws}
use Rattle.text.specs.Packing.{not_right, packed_text, packed_kept}

-- ---- the first byte that is not allowed, and the bytes turned
bad_from : (bs : List ℕ) (p : ℕ) → first_bad (p + 1) bs ≡ option_map (λ i. NotAllowed (i + 1)) (position_from (λ b. not (is_allowed b)) p bs)
bad_from [] p = refl
bad_from (b ∷ bs) p = here (is_allowed b) (bad_from bs (p + 1))
  where
    here : (t : Bool) → first_bad (p + 1 + 1) bs ≡ option_map (λ i. NotAllowed (i + 1)) (position_from (λ x. not (is_allowed x)) (p + 1) bs)
        → cond t (first_bad (p + 1 + 1) bs) (Some (NotAllowed (p + 1))) ≡ option_map (λ i. NotAllowed (i + 1)) (cond (not t) (Some p) (position_from (λ x. not (is_allowed x)) (p + 1) bs))
    here true h = h
    here false h = refl

pub bad_at : (bs : List ℕ) (o : Option ℕ) → o ≡ position (λ b. not (is_allowed b)) bs → first_bad 1 bs ≡ option_map (λ i. NotAllowed (i + 1)) o
bad_at bs o h = bad_from bs 0 ∙ ap (option_map (λ i. NotAllowed (i + 1))) (sym (h ∙ position_from-zero (λ b. not (is_allowed b)) bs))

upper_turned : (b : ℕ) → to_ascii_uppercase b ≡ turned b
upper_turned b = grind (arith, nat_tests)

upper_all : (bs zs : List ℕ) → take (length bs) (map to_ascii_uppercase (bs ++ zs)) ≡ map turned bs
upper_all [] zs = refl
upper_all (b ∷ bs) zs = ap₂ (λ x xs. x ∷ xs) (upper_turned b) (upper_all bs zs)

pub upper_front : (bs ys zs xs : List ℕ) → ys ≡ bs → xs ≡ map to_ascii_uppercase (ys ++ zs) → take (length bs) xs ≡ map turned bs
upper_front bs ys zs xs e h = ap (take (length bs)) (h ∙ ap (λ l. map to_ascii_uppercase (l ++ zs)) e) ∙ upper_all bs zs

pub in_range : (bs : List ℕ) → 1 ≤ length bs → length bs ≤ 24 → text_fault bs ≡ first_bad 1 bs
in_range bs l h = cond-true (right_length (length bs)) _ _ (and_from _ _ (le-leb 1 (length bs) l) (le-leb (length bs) 24 h))

pub out_of_range : (bs : List ℕ) → (1 ≤ length bs → length bs ≤ 24 → ⊥) → text_fault bs ≡ Some Length
out_of_range bs h = cond-false (right_length (length bs)) _ _ (not_right (length bs) h)

-- ---- the row of bytes without a fault
turned_kept : (b : ℕ) → is_allowed b ≡ true → keeps (turned b) ≡ true
turned_kept b h = grind (arith, nat_tests)

all_kept : (bs : List ℕ) (p : ℕ) → first_bad p bs ≡ None → list_all keeps (map turned bs) ≡ true
all_kept [] p h = refl
all_kept (b ∷ bs) p h = here (is_allowed b) refl (all_kept bs (p + 1))
  where
    here : (t : Bool) → is_allowed b ≡ t → (first_bad (p + 1) bs ≡ None → list_all keeps (map turned bs) ≡ true) → list_all keeps (map turned (b ∷ bs)) ≡ true
    here true e rest = and_from (keeps (turned b)) _ (turned_kept b e) (rest (sym (cond-true (is_allowed b) _ _ e) ∙ h))
    here false e rest =
        let k : ◌≡◌ {A = Option TextFault} (Some (NotAllowed p)) None = sym (cond-false (is_allowed b) _ _ e) ∙ h in
        let z : ◌≡◌ {A = ℕ} 0 1 = cc in
        absurd (omega arith)

module _ (bs xs : List ℕ) (r : TextRow) (is : r ≡ packed xs) (turns : xs ≡ map turned bs) (some : 1 ≤ length bs) (few : length bs ≤ 24) (none : first_bad 1 bs ≡ None) where
  few_turned : length (map turned bs) ≤ 24
  few_turned = omega (arith, length-map bs turned)

  pub made_text : row_text r ≡ map turned bs
  made_text = ap row_text (is ∙ ap packed turns) ∙ packed_text (map turned bs) (keeps_small text_type text_type_laws (map turned bs) (all_kept bs 1 none)) few_turned

  pub made_kept : row_kept keeps r ≡ true
  made_kept =
      let pass = all_kept bs 1 none in
      ap (row_kept keeps) (is ∙ ap packed turns)
      ∙ packed_kept (map turned bs) (keeps_small text_type text_type_laws (map turned bs) pass) few_turned keeps (omega (arith, length-map bs turned)) pass

-- ---- number and place
abbrev told_of : Option TextFault → Option (ℕ × ℕ)
told_of (Some e) = Some (told e)
told_of None = None

told_bad : (bs : List ℕ) (p : ℕ) → told_of (first_bad p bs) ≡ cond (list_all is_allowed bs) None (Some (14, allowed_front bs + p))
told_bad [] p = refl
told_bad (b ∷ bs) p =
    ap (λ x. told_of (cond x (first_bad (p + 1) bs) (Some (NotAllowed p)))) refl ∙ here (is_allowed b) (told_bad bs (p + 1))
  where
    here : (t : Bool) → told_of (first_bad (p + 1) bs) ≡ cond (list_all is_allowed bs) None (Some (14, allowed_front bs + (p + 1)))
        → told_of (cond t (first_bad (p + 1) bs) (Some (NotAllowed p))) ≡ cond (t && list_all is_allowed bs) None (Some (14, cond t (allowed_front bs + 1) 0 + p))
    here true ih =
        let e : allowed_front bs + (p + 1) ≡ allowed_front bs + 1 + p = omega arith in
        ih ∙ ap (λ n. cond (list_all is_allowed bs) None (Some (14, n))) e
    here false ih = let e : p ≡ 0 + p = omega arith in ap (λ n. Some (14, n)) e

told_fault : (bs : List ℕ) → told_of (text_fault bs) ≡ refusal bs
told_fault bs = here (right_length (length bs))
  where
    here : (t : Bool) → told_of (cond t (first_bad 1 bs) (Some Length)) ≡ cond t (cond (list_all is_allowed bs) None (Some (14, allowed_front bs + 1))) (Some (14, 0))
    here true = told_bad bs 1
    here false = refl

pub told_by : (bs : List ℕ) (r : Result TextKey TextFault) → Makes bs r → refused r ≡ refusal bs
told_by bs (Ok k) m = sym (ap told_of m.0) ∙ told_fault bs
told_by bs (Err e) m = sym (ap told_of m) ∙ told_fault bs

-- ---- letters that differ in case alone
allowed_turned : (b : ℕ) → is_allowed (turned b) ≡ is_allowed b
allowed_turned b = grind (arith, nat_tests)

bad_turned : (bs : List ℕ) (p : ℕ) → first_bad p (map turned bs) ≡ first_bad p bs
bad_turned [] p = refl
bad_turned (b ∷ bs) p = ap₂ (λ t o. cond t o (Some (NotAllowed p))) (allowed_turned b) (bad_turned bs (p + 1))

fault_turned : (bs : List ℕ) → text_fault (map turned bs) ≡ text_fault bs
fault_turned bs = ap₂ (λ n o. cond (right_length n) o (Some Length)) (length-map bs turned) (bad_turned bs 1)

-- what bytes make is told by the bytes turned
made_once : (bs cs : List ℕ) (r s : Result TextKey TextFault) → text_fault cs ≡ text_fault bs → map turned cs ≡ map turned bs → Makes bs r → Makes cs s → s ≡ r
made_once bs cs (Ok k) (Ok j) f e m n = ap Ok (same_text text_type text_type_laws j k (n.1 ∙ e ∙ sym m.1))
made_once bs cs (Ok k) (Err d) f e m n = absurd (let h = m.0 in let z : ◌≡◌ {A = ℕ} 0 1 = cc in omega arith)
made_once bs cs (Err d) (Ok j) f e m n = absurd (let h = n.0 in let z : ◌≡◌ {A = ℕ} 0 1 = cc in omega arith)
made_once bs cs (Err d) (Err c) f e m n = cc

pub blind_by : (bs : List ℕ) (r : Result TextKey TextFault) → Makes bs r → CaseBlind bs r
blind_by bs r m = λ cs s e n. made_once bs cs r s (sym (fault_turned cs) ∙ ap text_fault e ∙ fault_turned bs) e m n
